use Rattle.std.proofs.Common.{◌≡◌, ◌++◌, take, map}
use Rattle.dg_delta.specs.Effects.{put_by_all}
use Rattle.dg_delta.proofs.owned.put_rest.Given as goal

abbrev pub invariant-loop-op : goal.invariant-loop-op
invariant-loop-op l = l.list.items ≡ l.initial.list.items ++ put_by_all (map (λ op. op.now) (take l.op-index l.ops))
