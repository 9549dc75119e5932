use Rattle.std.proofs.Common.{◌≡◌, List, ℕ, subst}
use Rattle.std.specs.Prelude.{IfOk}
use Rattle.std.specs.Ordering.{nat_cmp}
use Rattle.dg_sets.proofs.MadeOrders.{nat_order}
use Rattle.dg_uids.proofs.Filters.{common_turned}
use Rattle.dg_uids.proofs.intersections.intersection.Goals as goal

pub returns-else-uids-others : goal.returns-else-uids-others
returns-else-uids-others c =
    subst (λ (uids : List ℕ). IfOk c.found-else-uids-others.result (λ list. list.items ≡ uids)) (common_turned nat_cmp nat_order c.args.others.now c.args.uids.now c.requires.others c.requires.uids) c.found-else-uids-others.ensures
