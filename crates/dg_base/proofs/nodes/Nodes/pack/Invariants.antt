use Rattle.std.proofs.Common.{◌≡◌, ◌<◌, ◌^◌, length, take, drop}
use Rattle.std.specs.List.{AllByRecursion}
use Rattle.dg_base.specs.Packed.{uids_of}
use Rattle.dg_base.specs.Cursors.{IsPackedBut}
use Rattle.dg_base.proofs.nodes.Nodes.pack.Given as goal

abbrev pub invariant-loop-item : goal.invariant-loop-item
invariant-loop-item l = record {
  left : l.left ≡ length (uids_of (drop l.item-index l.items));
  written : IsPackedBut l.packing (uids_of l.items) (uids_of (drop l.item-index l.items));
  fit : AllByRecursion (λ x. x < 2 ^ 64) (uids_of (take l.item-index l.items));
}
