use Rattle.std.proofs.Common.{◌≡◌, ◌++◌, take}
use Rattle.dg_delta.specs.Effects.{put_by_all}
use Rattle.dg_list.proofs.applying.put_rest.Given as goal

abbrev pub invariant-loop-op : goal.invariant-loop-op
invariant-loop-op l = l.list.items ≡ l.initial.list.items ++ put_by_all (take l.op-index l.ops)
