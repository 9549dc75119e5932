use Rattle.std.proofs.Common.{◌≡◌, ◌++◌, take}
use Rattle.dg_list.proofs.gathered.push_each.Given as goal

abbrev pub invariant-loop-op : goal.invariant-loop-op
invariant-loop-op l = l.ops.items ≡ l.initial.ops.items ++ take l.op-index l.more
