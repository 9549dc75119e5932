use Rattle.std.proofs.Common.{◌≡◌, ◌∙◌, sym, ap, subst, arith, ℕ, List, length}
use Rattle.std.specs.Arc.{arc_value}
use Rattle.std.specs.declared.cmp.Ordering.TheVariants.{Greater}
use Rattle.dg_keys.specs.declared.key.Key.{Key}
use Rattle.dg_keys.specs.Keys.{key_cmp}
use Rattle.dg_pages.specs.Entries.{entry, entries_of, entries_above}
use Rattle.dg_txn.specs.Spans.{place}
use Rattle.dg_txn.proofs.Walking.{from_gt}
use Rattle.dg_txn.proofs.StoredWalk.{IsOnWay, run_of, run_based, gone_on, past_it}
use Rattle.dg_txn.proofs.walk.visit_above.Goals as goal

pub visit_run-requires : goal.visit_run-requires
visit_run-requires g c = record { based = run_based c.args.at c.loop-last.after.now c.args.store.now (entries_of c.run_above-run.result.now) c.requires.based c.run_above-run.ensures.run }

pub returns-then-is_gt-clause-found : goal.returns-then-is_gt-clause-found
returns-then-is_gt-clause-found g c =
    let p = c.in-Some.last.now in
    let r = run_of c.loop-last.after.now c.args.store.now c.run_above-run.result.now p c.run_above-run.ensures.ascend c.run_above-run.ensures.run c.in-Some.ensures.value in
    let over : place c.args.span.now (arc_value p.0) ≡ Greater = ap (place c.args.span.now) (sym c.deref.ensures) ∙ (sym c.place.ensures ∙ from_gt c.place.result (sym c.is_gt.ensures ∙ c.if-is_gt.true)) in
    c.in_ok-visit_run.ensures.found
    ∙ past_it c.args.span.now c.args.at c.args.gains.now c.args.store.now c.args.found.now.items c.args.start.now c.loop-last.after.now c.loop-last.found.items (entries_of c.run_above-run.result.now) (entry p) c.run_above-run.ensures.run.front.0 r over c.loop-last.invariant.0

pub loop-last-smaller : goal.loop-last-smaller
loop-last-smaller g c =
    let p = c.in-Some.last.now in
    let r = run_of c.loop-last.after.now c.args.store.now c.run_above-run.result.now p c.run_above-run.ensures.ascend c.run_above-run.ensures.run c.in-Some.ensures.value in
    let behind = ap (λ (k : Key). length (entries_above key_cmp k c.args.store.now)) c.deref-after.ensures ∙ ap (λ es. length es) r.next in
    omega (arith, behind, r.fewer)

pub loop-last-preserved : goal.loop-last-preserved
loop-last-preserved g c =
    let p = c.in-Some.last.now in
    let r = run_of c.loop-last.after.now c.args.store.now c.run_above-run.result.now p c.run_above-run.ensures.ascend c.run_above-run.ensures.run c.in-Some.ensures.value in
    let on = gone_on c.args.span.now c.args.at c.args.gains.now c.args.store.now c.args.found.now.items c.args.start.now c.loop-last.after.now c.loop-last.found.items (entries_of c.run_above-run.result.now) (entry p) c.run_above-run.ensures.run.front.0 r c.loop-last.invariant.0 in (
      subst (λ (k : Key). IsOnWay c.args.span.now c.args.at c.args.gains.now c.args.store.now c.args.found.now.items c.args.start.now k c.visit_run.new.found.items) (sym c.deref-after.ensures)
          (subst (λ (found : List ℕ). IsOnWay c.args.span.now c.args.at c.args.gains.now c.args.store.now c.args.found.now.items c.args.start.now (arc_value p.0) found) (sym c.in_ok-visit_run.ensures.found) on),
      omega (arith, c.loop-last.invariant.1, c.visit_run.ensures.more_reads),
    )
