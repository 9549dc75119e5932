use Rattle.dg_keys.proofs.ByteOrder.{one_key}
use Rattle.dg_keys.proofs.laws.bytes_are_of_one_key.Goals as goal

pub returns : goal.returns
returns c = one_key
