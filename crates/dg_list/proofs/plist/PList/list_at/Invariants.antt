use Rattle.std.proofs.Common.{◌≡◌}
use Rattle.dg_values.specs.Ascending.{has}
use Rattle.dg_values.specs.Order.{posting_cmp}
use Rattle.dg_values.specs.declared.value.Posting.{Posting}
use Rattle.dg_list.specs.Lists.{reading, IsSound}
use Rattle.dg_list.specs.Gathered.{there_by}
use Rattle.dg_list.proofs.plist.PList.list_at.Given as goal

abbrev pub invariant-loop-list : goal.invariant-loop-list
invariant-loop-list l = record {
  sound : IsSound l.list → IsSound l.self;
  so_far : (posting : Posting) → has posting_cmp (reading l.self l.ts) posting ≡ there_by l.ops.items posting (has posting_cmp (reading l.list l.ts) posting);
}
