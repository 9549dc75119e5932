use Rattle.std.proofs.Common.{◌≡◌, ◌++◌, take}
use Rattle.std.specs.Prelude.{map}
use Rattle.dg_zero.specs.Places.{fresh, fresh_place, tally}
use Rattle.dg_zero.proofs.fresh.fresh_tablets.Given as goal

abbrev pub invariant-loop-definition : goal.invariant-loop-definition
invariant-loop-definition l = record {
  tablets : l.made.tablets.items ≡ fresh l.count l.places (take l.definition-index l.newer);
  counts : l.made.counts.items ≡ tally l.count (l.places ++ map fresh_place l.made.tablets.items);
}
