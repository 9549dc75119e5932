use Rattle.std.proofs.Common.{◌≡◌, ap, ◌∙◌}
use Rattle.std.proofs.lemmas.Result.{IfOk-weaker}
use Rattle.dg_values.specs.Ascending.{has}
use Rattle.dg_values.specs.Order.{posting_cmp}
use Rattle.dg_values.specs.declared.value.Posting.{Posting}
use Rattle.dg_delta.specs.Ops.{after_ops}
use Rattle.dg_delta.proofs.OpLaws.{has_after}
use Rattle.dg_list.specs.Gathered.{there_by}
use Rattle.dg_list.proofs.OpLemmas.{said_in_turn}
use Rattle.dg_list.proofs.gathered.after_gathered.Goals as goal

pub returns-clause-after : goal.returns-clause-after
returns-clause-after c =
    let postings = c.args.postings.items in
    let newest = c.in_ok-newest.newest.items in
    IfOk-weaker c.apply_ranked.result (λ list. list.items ≡ after_ops postings c.as_slice.result.now) (λ list. (q : Posting) → has posting_cmp list.items q ≡ there_by c.args.ops.items q (has posting_cmp postings q))
    (λ list is q.
    ap (λ xs. has posting_cmp xs q) (is ∙ ap (after_ops postings) c.as_slice.ensures.value)
    ∙ has_after newest postings q
    ∙ said_in_turn newest q (has posting_cmp postings q) c.in_ok-newest.ensures.ascend
    ∙ c.in_ok-newest.ensures.alike q (has posting_cmp postings q))
    c.apply_ranked.ensures.after
