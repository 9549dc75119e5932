use Rattle.dg_print.proofs.TextAgain.{query_back}
use Rattle.dg_print.proofs.laws.queries_read_back.Goals as goal

pub returns : goal.returns
returns c = query_back
