use Rattle.dg_values.proofs.PrintedForms.{printed_reads}
use Rattle.dg_values.proofs.laws.value_reads_back.Goals as goal

pub returns : goal.returns
returns c = printed_reads
