use Rattle.dg_zero.proofs.DeclaredTablets.{alters_are_exact}
use Rattle.dg_zero.proofs.ExactRecords.{entries_keep_exact}
use Rattle.dg_zero.proofs.OneParts.{parts_are_one}
use Rattle.dg_zero.proofs.laws.exact_records.Goals as goal

pub returns : goal.returns
returns c = record { entries = entries_keep_exact; alters = alters_are_exact; parts = parts_are_one }
