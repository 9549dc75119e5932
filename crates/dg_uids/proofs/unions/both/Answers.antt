use Rattle.std.proofs.Common.{◌≡◌, List, ℕ, subst}
use Rattle.std.specs.Prelude.{IfOk}
use Rattle.std.specs.Ordering.{nat_cmp}
use Rattle.dg_sets.proofs.MadeOrders.{nat_order}
use Rattle.dg_uids.proofs.Runs.{joined_turned}
use Rattle.dg_uids.proofs.unions.both.Goals as goal

pub returns-then-is_much_shorter : goal.returns-then-is_much_shorter
returns-then-is_much_shorter c =
    subst (λ (uids : List ℕ). IfOk c.spliced.result (λ list. list.items ≡ uids)) (joined_turned nat_cmp nat_order c.args.uids.now c.args.others.now c.requires.uids c.requires.others) c.spliced.ensures
