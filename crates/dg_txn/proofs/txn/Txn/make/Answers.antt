use Rattle.dg_txn.proofs.PinLaws.{own_none}
use Rattle.dg_txn.proofs.txn.Txn.make.Goals as goal

pub invariant_of-result : goal.invariant_of-result
invariant_of-result c = rw (c.new.ensures.items, c.in-Ok.ensures) (own_none c.of.result.schema c.of.result.graph c.of.ensures.lawful)
