use Rattle.std.proofs.Common.{◌≡◌, ◌++◌, map}
use Rattle.std.specs.Prelude.{nat_lt, filter}
use Rattle.std.specs.Arc.{arc_value}
use Rattle.dg_list.specs.Lists.{IsSound}
use Rattle.dg_list.proofs.plist.PList.layers_above.Given as goal

abbrev pub invariant-loop-list : goal.invariant-loop-list
invariant-loop-list l = record {
  sound : IsSound l.list → IsSound l.self;
  so_far : filter (λ k. nat_lt l.ts k.ts) l.self.layers ≡ map arc_value l.layers.items ++ filter (λ k. nat_lt l.ts k.ts) l.list.layers;
}
