use Rattle.std.proofs.Common.{◌≡◌}
use Rattle.dg_values.specs.Order.{posting_cmp}
use Rattle.dg_values.specs.Ascending.{has}
use Rattle.dg_list.specs.Lists.{reading}
use Rattle.dg_list.proofs.plist.PList.has_at.Given as goal

abbrev pub invariant-loop-list : goal.invariant-loop-list
invariant-loop-list g l = has posting_cmp (reading l.self l.ts) l.item ≡ has posting_cmp (reading l.list l.ts) l.item
