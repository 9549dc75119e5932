use Rattle.std.proofs.Common.{◌≡◌, ◌++◌, take}
use Rattle.dg_txn.proofs.composing.push_copies.Given as goal

abbrev pub invariant-loop-op : goal.invariant-loop-op
invariant-loop-op l = l.out.items ≡ l.initial.out.items ++ take l.op-index l.ops
