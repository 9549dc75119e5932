use Rattle.std.proofs.Common.{◌≡◌, take}
use Rattle.std.specs.Prelude.{map}
use Rattle.dg_shape.specs.Normalize.{joined}
use Rattle.dg_shape.proofs.flats.joined_pairs.Given as goal

abbrev pub invariant-loop-i : goal.invariant-loop-i
invariant-loop-i l = map (λ p. p.now) l.out.items ≡ joined (map (λ p. p.now) l.pairs) (map (λ p. p.now) (take l.i l.more))
