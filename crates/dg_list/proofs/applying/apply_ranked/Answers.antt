use Rattle.std.proofs.Common.{rules, ◌≡◌, ◌++◌, ◌∷◌, [], length, sym, ap, subst, ◌∙◌, append_assoc, arith}
use Rattle.std.proofs.lemmas.List.{append-nil, map-id}
use Rattle.std.proofs.lemmas.Iterator.Adapters.{YieldsList-from_vec}
use Rattle.std.proofs.lemmas.Iterator.Consumers.{YieldsList-end}
use Rattle.std.proofs.lemmas.Slice.{between_to_end}
use Rattle.dg_values.specs.Ascending.{Ascends}
use Rattle.dg_values.specs.Order.{posting_cmp}
use Rattle.dg_delta.specs.Ops.{after_ops}
use Rattle.dg_delta.specs.Effects.{put_by_all}
use Rattle.dg_delta.proofs.OpLaws.{ascends_after}
use Rattle.dg_delta.proofs.Passes.{ascends_behind}
use Rattle.dg_list.proofs.Passing.{on_end}
use Rattle.dg_list.proofs.applying.apply_ranked.Goals as goal
use Rattle.dg_list.proofs.applying.apply_ranked.Goals.{In_ok-put_rest}

pub loop-posting-preserved : goal.loop-posting-preserved
loop-posting-preserved c = record {
  within = c.in_ok-done.ensures.within;
  so_far = λ rest e.
      let whole : c.loop-posting.yielded ++ c.in-Some.posting ∷ rest ≡ c.args.postings.items = sym (append_assoc c.loop-posting.yielded (c.in-Some.posting ∷ []) rest) ∙ e in
      c.in_ok-done.ensures.on rest (ascends_behind c.loop-posting.yielded (c.in-Some.posting ∷ rest) (subst (Ascends posting_cmp) (sym whole) c.requires.postings))
      ∙ c.loop-posting.invariant.so_far (c.in-Some.posting ∷ rest) whole;
}

is_after : (c : In_ok-put_rest) → c.put_rest.new.list.items ≡ after_ops c.args.postings.items c.args.ops.now
is_after c =
    let road = YieldsList-from_vec {s = c.into_iter-posting-iterator.result} c.args.postings.items (search rules) (search rules) in
    let all : c.loop-posting.yielded ≡ c.args.postings.items = sym (map-id c.loop-posting.yielded) ∙ (YieldsList-end road c.loop-posting.yielded _ c.loop-posting.yielded_by _ c.next.new.self c.in-None.is c.next.ensures.steps).0 in
    c.in_ok-put_rest.ensures
    ∙ ap (λ os. c.loop-posting.list.items ++ put_by_all os) (between_to_end c.args.ops.now c.loop-posting.done (length c.args.ops.now) (omega arith))
    ∙ on_end c.args.ops.now c.loop-posting.list.items (after_ops c.args.postings.items c.args.ops.now) c.loop-posting.done c.requires.ops (c.loop-posting.invariant.so_far [] (append-nil c.loop-posting.yielded ∙ all))

pub returns-clause-after : goal.returns-clause-after
returns-clause-after c = is_after c

pub returns-clause-ascend : goal.returns-clause-ascend
returns-clause-ascend c = subst (Ascends posting_cmp) (sym (is_after c)) (ascends_after c.args.ops.now c.args.postings.items c.requires.postings)
