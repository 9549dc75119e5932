use Rattle.std.proofs.Common.{◌≡◌, rules}
use Rattle.std.specs.Ordering.{is_lt}
use Rattle.std.proofs.lemmas.List.Sorted.{answers_always}
use Rattle.dg_sets.proofs.MadeOrders.{total_from}
use Rattle.dg_sets.proofs.Merges.{ascends_decided}
use Rattle.dg_sets.proofs.ordered.ascend.Goals as goal

pub returns : goal.returns
returns g c =
    let order = g.T.InOrder.order in
    ascends_decided order (total_from order g.met.T.InOrder.total) c.args.items.now c.is_sorted_by.result
    (c.is_sorted_by.ensures.cases (λ a b. is_lt (order a b)) (answers_always _ (λ a r. r ≡ is_lt (order a.0.now a.1.0.now)) _ (λ f a r q k. search rules)))
