use Rattle.dg_keys.proofs.ByteOrder.{key_bytes_order}
use Rattle.dg_keys.proofs.laws.bytes_order_as_keys.Goals as goal

pub returns : goal.returns
returns c = key_bytes_order
