use Rattle.dg_print.proofs.NestedUpsert.{upsert_back}
use Rattle.dg_print.proofs.laws.upserts_read_back.Goals as goal

pub returns : goal.returns
returns c = upsert_back
