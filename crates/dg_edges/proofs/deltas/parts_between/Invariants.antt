use Rattle.std.proofs.Common.{◌≡◌, List, map, take}
use Rattle.dg_delta.specs.Ops.{changes_between}
use Rattle.dg_values.specs.declared.value.Posting.{Posting}
use Rattle.dg_keys.specs.declared.key.Key.{Key}
use Rattle.dg_edges.specs.Deltas.{parts_at}
use Rattle.dg_edges.proofs.deltas.parts_between.Given as goal

abbrev pub invariant-loop-place : goal.invariant-loop-place
invariant-loop-place l = (f g : Key → List Posting) → l.before ≡ map f l.keys → l.after ≡ map g l.keys → l.parts.items ≡ parts_at (λ k. changes_between (f k) (g k)) (take l.place l.keys)
