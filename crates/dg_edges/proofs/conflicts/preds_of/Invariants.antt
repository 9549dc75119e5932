use Rattle.std.proofs.Common.{◌≡◌, take}
use Rattle.dg_values.specs.Ascending.{Ascends}
use Rattle.dg_values.specs.Order.{text_cmp}
use Rattle.dg_edges.specs.Deltas as definitions
use Rattle.dg_edges.proofs.conflicts.preds_of.Given as goal

abbrev pub invariant-loop-change : goal.invariant-loop-change
invariant-loop-change l = record {
  items : l.found.items ≡ definitions.preds_of (take l.change-index l.changes);
  ascend : Ascends text_cmp l.found.items;
}
