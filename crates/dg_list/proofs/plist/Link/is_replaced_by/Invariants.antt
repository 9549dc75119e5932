use Rattle.std.proofs.Common.{◌≡◌, ◌≤◌, ◌+◌, ◌-◌, length, true}
use Rattle.dg_list.specs.Lists.{newest_ts}
use Rattle.dg_list.specs.Links.{list_of, is_lowest, IsTop}
use Rattle.dg_list.proofs.ListLemmas.{IsCoveredFrom}
use Rattle.dg_list.proofs.plist.Link.is_replaced_by.Given as goal

abbrev pub invariant-loop-depth : goal.invariant-loop-depth
invariant-loop-depth l = record {
  top : IsTop l.link;
  upto : newest_ts (list_of l.link) ≤ newest_ts (list_of l.self);
  covered : IsCoveredFrom l.ops (newest_ts (list_of l.self)) (list_of l.link) → IsCoveredFrom l.ops (newest_ts (list_of l.self)) (list_of l.self);
  at_once : is_lowest l.self ≡ true → (l.link ≡ l.self) × (l.depth ≡ 0);
}

abbrev pub decreases-loop-depth : goal.decreases-loop-depth
decreases-loop-depth l = (length l.ops + 1) - l.depth
