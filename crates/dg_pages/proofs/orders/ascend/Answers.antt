use Rattle.std.proofs.Common.{rules, ◌≡◌}
use Rattle.std.specs.Cmp.{on_total}
use Rattle.std.specs.Ordering.{is_lt}
use Rattle.std.proofs.lemmas.List.Sorted.{answers_always}
use Rattle.dg_sets.proofs.Merges.{ascends_decided}
use Rattle.std.specs.Ordering.{on}
use Rattle.dg_pages.proofs.RunLemmas.{key_of, run_raw, run_made}
use Rattle.dg_pages.proofs.orders.ascend.Goals as goal

pub returns : goal.returns
returns g c =
    let test = ascends_decided (on key_of g.K.Ord.cmp) (on_total key_of g.met.K.Ord.total) c.args.changes.now c.is_sorted_by.result
    (c.is_sorted_by.ensures.cases (λ a b. is_lt (g.K.Ord.cmp (key_of a) (key_of b))) (answers_always _ (λ a r. r ≡ is_lt (g.K.Ord.cmp (key_of a.0.now) (key_of a.1.0.now))) _ (λ f a r q k. search rules))) in
    ((λ t. run_made g.K.Ord.cmp c.args.changes.now (test.0 t)), (λ s. test.1 (run_raw g.K.Ord.cmp c.args.changes.now s)))
