use Rattle.std.proofs.Common.{rules, ◌≡◌}
use Rattle.std.specs.Cmp.{on_total}
use Rattle.std.specs.Ordering.{is_lt, on}
use Rattle.std.proofs.lemmas.List.Sorted.{answers_always}
use Rattle.dg_sets.proofs.Merges.{ascends_decided}
use Rattle.dg_keys.specs.Keys.{key_cmp}
use Rattle.dg_keys.specs.KeyOrder.{key_total}
use Rattle.table_lists.proofs.Within.{base_key, keys_ascend, pointers_ascend}
use Rattle.table_lists.proofs.kept_store.ascend.Goals as goal

pub returns : goal.returns
returns c =
    let test = ascends_decided (on base_key key_cmp) (on_total base_key key_total) c.args.bases.now c.is_sorted_by.result
    (c.is_sorted_by.ensures.cases (λ a b. is_lt (key_cmp (base_key a) (base_key b))) (answers_always _ (λ a r. r ≡ is_lt (key_cmp (base_key a.0.now) (base_key a.1.0.now))) _ (λ f a r q k. search rules))) in
    ((λ t. keys_ascend c.args.bases.now (test.0 t)), (λ s. test.1 (pointers_ascend c.args.bases.now s)))
