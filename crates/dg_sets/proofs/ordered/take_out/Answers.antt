use Rattle.std.proofs.Common.{◌≡◌, List, rules, subst}
use Rattle.std.specs.Prelude.{not}
use Rattle.std.specs.Ordering.{is_eq}
use Rattle.dg_values.specs.Ascending.{Ascends, without_one}
use Rattle.dg_sets.proofs.Sets.{ascends_passed}
use Rattle.dg_sets.proofs.ordered.take_out.Goals as goal

pub returns-in-Ok-clause-ascends : goal.returns-in-Ok-clause-ascends
returns-in-Ok-clause-ascends g c =
    let taken : without_one g.T.InOrder.order c.args.items.now.items c.args.item.now ≡ c.remove.new.self.items = search rules in
    subst (λ (items : List g.row.T.Denot). Ascends g.T.InOrder.order items) taken (ascends_passed g.T.InOrder.order g.met.T.InOrder.total (λ y. not (is_eq (g.T.InOrder.order y c.args.item.now))) c.args.items.now.items c.requires.ascend)
