use Rattle.std.proofs.Common.{◌≡◌, ◌++◌, map, length}
use Rattle.std.specs.Prelude.{nat_lt, filter}
use Rattle.std.specs.Arc.{arc_value}
use Rattle.dg_list.proofs.plist.PList.with_base.Given as goal

abbrev pub invariant-loop-layer : goal.invariant-loop-layer
invariant-loop-layer l = record {
  list : l.list ≡ record { base_ts = l.upto; base = l.initial.list.base; layers = l.list.layers };
  layers : map arc_value l.layers.items ++ l.list.layers ≡ filter (λ k. nat_lt l.upto k.ts) l.self.layers;
}

abbrev pub decreases-loop-layer : goal.decreases-loop-layer
decreases-loop-layer l = length l.layers.items
