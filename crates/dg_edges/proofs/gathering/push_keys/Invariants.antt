use Rattle.std.proofs.Common.{◌≡◌, ◌++◌, map, take}
use Rattle.dg_edges.proofs.gathering.push_keys.Given as goal

abbrev pub invariant-loop-one : goal.invariant-loop-one
invariant-loop-one l = l.keys.items ≡ l.fn.keys.items ++ map (λ f. f.key) (take l.one-index l.filed)
