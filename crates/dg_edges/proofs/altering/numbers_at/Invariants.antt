use Rattle.std.proofs.Common.{◌≡◌, List, flat_map, map, take}
use Rattle.dg_values.specs.declared.value.Posting.{Posting}
use Rattle.dg_keys.specs.declared.key.Key.{Key}
use Rattle.dg_edges.specs.Altering.{filed_long}
use Rattle.dg_edges.proofs.altering.numbers_at.Given as goal

abbrev pub invariant-loop-place : goal.invariant-loop-place
invariant-loop-place l = (f : Key → List Posting) → l.lists ≡ map f l.keys → l.filed.items ≡ flat_map (λ k. filed_long l.schema k (f k)) (take l.place l.keys)
