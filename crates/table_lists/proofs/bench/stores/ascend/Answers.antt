use Rattle.std.proofs.Common.{◌≡◌, rules}
use Rattle.std.specs.Cmp.{on_total}
use Rattle.std.specs.Ordering.{is_lt}
use Rattle.std.proofs.lemmas.List.Sorted.{answers_always}
use Rattle.dg_sets.proofs.Merges.{ascends_decided}
use Rattle.dg_keys.specs.Keys.{part_cmp}
use Rattle.dg_keys.specs.KeyOrder.{key_total}
use Rattle.dg_keys.specs.declared.record.Part.{Part}
use Rattle.table_lists.proofs.bench.stores.ascend.Goals as goal

pub returns : goal.returns
returns c =
    ascends_decided part_cmp (on_total (λ (part : Part). part.key) key_total) c.args.parts.now c.is_sorted_by.result
    (c.is_sorted_by.ensures.cases (λ a b. is_lt (part_cmp a b)) (answers_always _ (λ a r. r ≡ is_lt (part_cmp a.0.now a.1.0.now)) _ (λ f a r q k. search rules)))
