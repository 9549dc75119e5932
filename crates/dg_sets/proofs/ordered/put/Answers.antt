use Rattle.std.proofs.Common.{◌≡◌, List, rules, subst}
use Rattle.dg_values.specs.Ascending.{Ascends, with_one}
use Rattle.dg_sets.proofs.Sets.{ascends_with}
use Rattle.dg_sets.proofs.ordered.put.Goals as goal

pub returns-in_ok-insert-in-Err-clause-ascends : goal.returns-in_ok-insert-in-Err-clause-ascends
returns-in_ok-insert-in-Err-clause-ascends g c =
    let put : with_one g.T.InOrder.order c.args.items.now.items c.args.item ≡ c.insert.new.self.items = search rules in
    subst (λ (items : List g.row.T.Denot). Ascends g.T.InOrder.order items) put (ascends_with g.T.InOrder.order g.met.T.InOrder.total c.args.items.now.items c.args.item c.requires.ascend)
