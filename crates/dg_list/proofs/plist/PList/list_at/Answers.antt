use Rattle.std.proofs.Common.{◌≡◌, ◌≤◌, ◌∙◌, sym, ap, subst, refl, length, false, ◌++◌}
use Rattle.std.specs.Arc.{arc_value}
use Rattle.dg_values.specs.Ascending.{Ascends, has}
use Rattle.dg_values.specs.Order.{posting_cmp}
use Rattle.dg_values.specs.declared.value.Posting.{Posting}
use Rattle.dg_delta.specs.Layers.{Changes}
use Rattle.dg_list.specs.Lists.{IsSound, reading}
use Rattle.dg_list.specs.Gathered.{there_by}
use Rattle.dg_list.specs.Links.{list_of, IsTrueOfLink}
use Rattle.dg_list.proofs.ListLemmas.{gathered_down, gathered_alone, read_gathered, if_ok_both, whole_walk}
use Rattle.dg_list.proofs.plist.PList.list_at.Goals as goal

pub loop-list-init : goal.loop-list-init
loop-list-init c = record {
  sound = λ s. s;
  so_far = λ q. rw c.new-ops.ensures.items refl;
}

pub returns-in-Rolled-clause-list : goal.returns-in-Rolled-clause-list
returns-in-Rolled-clause-list c =
    let self = c.args.self.now in
    let ts = c.args.ts in
    let ops = c.loop-list.ops.items in
    let is = ap list_of (sym c.in-Rolled.is) ∙ c.list.view_is in
    let sound = c.loop-list.invariant.sound (subst IsSound c.list.view_is c.list.invariant.sound) in
    let len : c.len.result ≡ length c.deref.result.now = c.len.ensures.len ∙ ap length (c.deref-in-Rolled.ensures ∙ sym c.deref.ensures) in
    let base : c.in_ok-items-in-Rolled.items.items ≡ arc_value c.in-Rolled.base = whole_walk c.len.result c.deref.result.now c.in_ok-items-in-Rolled.items.items len c.in_ok-items-in-Rolled.ensures ∙ c.deref.ensures in
    if_ok_both c.after_gathered.result
    (λ list. (q : Posting) → has posting_cmp list.items q ≡ there_by ops q (has posting_cmp c.in_ok-items-in-Rolled.items.items q))
    (λ list. Ascends posting_cmp list.items)
    (λ list. list.items ≡ reading self ts)
    (λ list after ascend. read_gathered self ts list.items sound ascend (λ q.
    after q
    ∙ ap (λ xs. there_by ops q (has posting_cmp xs q)) base
    ∙ ap (λ v. there_by ops q (has posting_cmp (reading v ts) q)) is
    ∙ sym (c.loop-list.invariant.so_far q)))
    c.after_gathered.ensures.after
    c.after_gathered.ensures.ascend

pub returns-then-ts-clause-list : goal.returns-then-ts-clause-list
returns-then-ts-clause-list c =
    let self = c.args.self.now in
    let ts = c.args.ts in
    let w = arc_value c.in-Over.older in
    let l = arc_value c.in-Over.layer in
    let is = ap list_of (sym c.in-Over.is) ∙ c.list.view_is in
    let sound = subst IsSound c.list.view_is c.list.invariant.sound in
    let alone = subst IsTrueOfLink c.in-Over.is c.list.invariant.alone c.if-alone.true in
    let within : l.ts ≤ ts = rw (c.ts.ensures, c.deref-then-alone.ensures) at c.if-ts.true in
    if_ok_both c.after_alone.result
    (λ list. (q : Posting) → has posting_cmp list.items q ≡ there_by (c.loop-list.ops.items ++ c.deref-then-ts.result.now.ops) q false)
    (λ list. Ascends posting_cmp list.items)
    (λ list. list.items ≡ reading self ts)
    (λ list after ascend. read_gathered self ts list.items (c.loop-list.invariant.sound sound) ascend (λ q.
    after q
    ∙ ap (λ (x : Changes). there_by (c.loop-list.ops.items ++ x.ops) q false) c.deref-then-ts.ensures
    ∙ sym (gathered_alone c.loop-list.list.now w l is sound ts c.loop-list.ops.items (rw c.deref-then-ts.ensures at c.after_alone.ensures.layer) within alone q)
    ∙ sym (c.loop-list.invariant.so_far q)))
    c.after_alone.ensures.after
    c.after_alone.ensures.ascend

pub loop-list-preserved : goal.loop-list-preserved
loop-list-preserved c =
    let w = arc_value c.in-Over.older in
    let l = arc_value c.in-Over.layer in
    let is = ap list_of (sym c.in-Over.is) ∙ c.list.view_is in
    let sound = subst IsSound c.list.view_is c.list.invariant.sound in
    rw c.deref-list.ensures record {
      sound = λ s. c.loop-list.invariant.sound sound;
      so_far = λ q.
          c.loop-list.invariant.so_far q
          ∙ gathered_down c.loop-list.list.now w l is sound c.args.ts c.loop-list.ops.items (rw c.deref-in-Over.ensures at c.in_ok-gather-in-Over.ensures.ascend) q
          ∙ ap (λ xs. there_by xs q (has posting_cmp (reading w c.args.ts) q)) (sym (rw c.deref-in-Over.ensures at c.in_ok-gather-in-Over.ensures.gathered));
    }
