use Rattle.std.proofs.Common.{◌≡◌, rules}
use Rattle.std.specs.Ordering.{is_lt}
use Rattle.std.proofs.lemmas.List.Sorted.{answers_always}
use Rattle.dg_sets.proofs.Merges.{ascends_decided}
use Rattle.dg_delta.specs.Ops.{op_cmp}
use Rattle.dg_delta.proofs.OpLaws.{op_total}
use Rattle.dg_delta.proofs.layer.ascend.Goals as goal

pub returns : goal.returns
returns c =
    ascends_decided op_cmp op_total c.args.ops.now c.is_sorted_by.result
    (c.is_sorted_by.ensures.cases (λ a b. is_lt (op_cmp a b)) (answers_always _ (λ a r. r ≡ is_lt (op_cmp a.0.now a.1.0.now)) _ (λ f a r q k. search rules)))
