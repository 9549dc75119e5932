use Rattle.std.proofs.Common.{◌≡◌, ◌≤◌, List}
use Rattle.dg_zero.specs.declared.tablets.Place.{Place}
use Rattle.dg_zero.specs.Places.{fewest, groups, tally}
use Rattle.dg_zero.proofs.fresh.fewest.Given as goal

abbrev pub invariant-loop-index : goal.invariant-loop-index
invariant-loop-index l = record {
  least : 1 ≤ l.best;
  most : l.best ≤ l.count;
  so_far : (places : List Place) → l.counts ≡ tally l.count places → l.best ≡ fewest places (groups l.index);
}
