use Rattle.std.proofs.Common.{◌≡◌, ◌++◌, [], ap, sym, ◌∙◌, false, rules}
use Rattle.std.proofs.lemmas.List.{nil_from_length}
use Rattle.std.proofs.lemmas.Result.{IfOk-weaker}
use Rattle.dg_values.specs.Ascending.{has}
use Rattle.dg_values.specs.Order.{posting_cmp}
use Rattle.dg_values.specs.declared.value.Posting.{Posting}
use Rattle.dg_delta.specs.Ops.{after_ops}
use Rattle.dg_delta.proofs.OpLaws.{has_after}
use Rattle.dg_list.specs.Gathered.{there_by}
use Rattle.dg_list.proofs.OpLemmas.{said_in_turn}
use Rattle.dg_list.proofs.gathered.after_alone.Goals as goal

pub returns-then-is_empty-clause-after : goal.returns-then-is_empty-clause-after
returns-then-is_empty-clause-after c =
    let ops = c.args.layer.now.ops in
    let none : c.args.ops.items ≡ [] = nil_from_length c.args.ops.items (search rules) in
    IfOk-weaker c.put_in.result (λ list. list.items ≡ after_ops [] c.ops.result.now) (λ list. (q : Posting) → has posting_cmp list.items q ≡ there_by (c.args.ops.items ++ ops) q false)
    (λ list is q.
    ap (λ xs. has posting_cmp xs q) (is ∙ ap (after_ops []) c.ops.ensures.ops)
    ∙ has_after ops [] q
    ∙ said_in_turn ops q false c.ops.ensures.ascend
    ∙ sym (ap (λ xs. there_by (xs ++ ops) q false) none))
    c.put_in.ensures.after

pub returns-clause-after : goal.returns-clause-after
returns-clause-after c =
    let pushed = c.push_each.new.ops.items in
    IfOk-weaker c.after_gathered.result (λ list. (q : Posting) → has posting_cmp list.items q ≡ there_by pushed q (has posting_cmp c.new.result.items q)) (λ list. (q : Posting) → has posting_cmp list.items q ≡ there_by (c.args.ops.items ++ c.args.layer.now.ops) q false)
    (λ list is q.
    is q
    ∙ ap (λ xs. there_by pushed q (has posting_cmp xs q)) c.new.ensures.items
    ∙ ap (λ ops. there_by ops q false) (c.in_ok-push_each.ensures ∙ ap (λ ops. c.args.ops.items ++ ops) c.ops-2.ensures.ops))
    c.after_gathered.ensures.after
