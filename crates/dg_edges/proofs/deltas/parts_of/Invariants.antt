use Rattle.std.proofs.Common.{◌≡◌, map, take}
use Rattle.dg_delta.specs.Ops.{changes_between}
use Rattle.dg_keys.specs.declared.key.Key.{Key}
use Rattle.dg_edges.specs.Deltas.{parts_at}
use Rattle.dg_edges.specs.Lists.{Lists}
use Rattle.dg_edges.proofs.deltas.parts_of.Given as goal

abbrev pub invariant-loop-place : goal.invariant-loop-place
invariant-loop-place l = (f : Key → Lists) → l.lists ≡ map f l.keys → l.parts.items ≡ parts_at (λ k. changes_between (f k).before (f k).after) (take l.place l.keys)
