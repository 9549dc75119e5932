use Rattle.std.proofs.Common.{◌≡◌, ◌<◌, ◌∙◌, ◌++◌, sym, ap, subst, Bool, cond, arith, ℕ, List, []}
use Rattle.std.specs.Prelude.{option_copied}
use Rattle.std.specs.declared.cmp.Ordering.TheVariants.{Greater}
use Rattle.dg_txn.specs.Own.{seen}
use Rattle.dg_txn.specs.Spans.{place}
use Rattle.dg_txn.specs.Walks.{part_keys, shown_at, changed_lists}
use Rattle.dg_txn.proofs.Walking.{Walked, gone_on, past, left_from, fewer_left, from_gt}
use Rattle.dg_txn.proofs.walk.own_shown.Goals as goal

pub returns-then-is_gt-clause-shown : goal.returns-then-is_gt-clause-shown
returns-then-is_gt-clause-shown g c =
    let span = c.args.span.now in
    let lists = changed_lists (seen c.args.base.now.schema c.args.base.now.graph c.args.gains.now) c.args.gains.now in
    let keys = part_keys c.args.gains.now in
    let here = subst (λ o. Walked span lists keys (option_copied o) c.loop-next.found.items) c.in-Some.is c.loop-next.invariant.0 in
    let over : place span c.in-Some.key.now ≡ Greater = sym c.place-place.ensures ∙ from_gt c.place-place.result (sym c.is_gt.ensures ∙ c.if-is_gt.true) in
    past span lists keys c.in-Some.key.now c.loop-next.found.items here over

pub loop-next-smaller : goal.loop-next-smaller
loop-next-smaller g c =
    let span = c.args.span.now in
    let lists = changed_lists (seen c.args.base.now.schema c.args.base.now.graph c.args.gains.now) c.args.gains.now in
    let keys = part_keys c.args.gains.now in
    let here = subst (λ o. Walked span lists keys (option_copied o) c.loop-next.found.items) c.in-Some.is c.loop-next.invariant.0 in
    let fewer = fewer_left keys c.in-Some.key.now (option_copied c.key_above-next.result) here.one c.key_above-next.ensures in
    subst (λ o. left_from keys (option_copied c.key_above-next.result) < left_from keys (option_copied o)) (sym c.in-Some.is) fewer

pub loop-next-preserved : goal.loop-next-preserved
loop-next-preserved g c =
    let span = c.args.span.now in
    let lists = changed_lists (seen c.args.base.now.schema c.args.base.now.graph c.args.gains.now) c.args.gains.now in
    let keys = part_keys c.args.gains.now in
    let here = subst (λ o. Walked span lists keys (option_copied o) c.loop-next.found.items) c.in-Some.is c.loop-next.invariant.0 in
    let list = seen c.args.base.now.schema c.args.base.now.graph c.args.gains.now c.in-Some.key.now in
    let changed : shown_at c.place-place.result c.in-Some.key.now list ≡ shown_at c.place-place.result c.in-Some.key.now (lists c.in-Some.key.now) = ap (λ (b : Bool). shown_at c.place-place.result c.in-Some.key.now (cond b list [])) (sym here.one) in (
      subst (λ (found : List ℕ). Walked span lists keys (option_copied c.key_above-next.result) found) (sym (c.in_ok-visit.ensures.found ∙ ap (λ (l : List ℕ). c.loop-next.found.items ++ l) changed))
          (gone_on span lists keys c.in-Some.key.now (option_copied c.key_above-next.result) c.loop-next.found.items c.place-place.result (sym c.place-place.ensures) here c.key_above-next.ensures),
      omega (arith, c.loop-next.invariant.1, c.visit.ensures.more_reads),
    )
