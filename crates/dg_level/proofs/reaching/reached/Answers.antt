use Rattle.std.proofs.Common.{◌≡◌, ◌≤◌, ℕ, suc, ◌+◌, true, List, [], ◌∷◌, ◌++◌, sym, ap, ◌∙◌, arith, subst}
use Rattle.std.specs.Prelude.{◌&&◌, ◌||◌, not}
use Rattle.std.specs.Ordering.{nat_cmp}
use Rattle.dg_values.specs.Ascending.{has}
use Rattle.dg_level.specs.declared.reaching.Step.{Step}
use Rattle.dg_level.specs.Looping.{planned_pieces, pieces_by}
use Rattle.dg_level.specs.Reaching.{one_step, is_near, AreSteps}
use Rattle.dg_level.proofs.ReachLaws.{Spread, spread_first, spread_on, Nearer, nearer_first, nearer_on, all_reached, near_more, steps_more}
use Rattle.dg_level.proofs.reaching.reached.Goals as goal

pub loop-round-init : goal.loop-round-init
loop-round-init g c =
    let graph = g.S.Snapshot.graph c.args.snap.now in
    let vars = c.args.vars.now.variables in
    let pieces = planned_pieces true (g.S.Snapshot.declared c.args.snap.now) graph vars c.args.fields.now c.args.kept.now in
    let roots = c.args.roots.now in
    let set = c.in_ok-set.set in
    let fresh = c.in_ok-fresh.fresh in (
      spread_first (pieces_by pieces) roots set fresh c.in_ok-set.ensures c.in_ok-fresh.ensures,
      nearer_first (pieces_by pieces) roots set fresh (is_near c.new-steps.result.items) c.in_ok-set.ensures c.in_ok-fresh.ensures,
      subst (λ (ss : List Step). AreSteps graph vars pieces ss) (sym c.new-steps.ensures.items) tt,
    )

pub loop-round-preserved : goal.loop-round-preserved
loop-round-preserved g c =
    let graph = g.S.Snapshot.graph c.args.snap.now in
    let vars = c.args.vars.now.variables in
    let pieces = planned_pieces true (g.S.Snapshot.declared c.args.snap.now) graph vars c.args.fields.now c.args.kept.now in
    let roots = c.args.roots.now in
    let l = c.loop-round in
    let step = c.in_ok-step.step in
    let more = c.in_ok-fresh-2.fresh in
    let all = c.in_ok-set-2.set in
    let next : suc l._round ≡ l._round + 1 = omega arith in
    let same : step.nodes ≡ l.fresh = c.in_ok-step.ensures.nodes in
    let new : (u : ℕ) → has nat_cmp more u ≡ (not (has nat_cmp l.set u) && has nat_cmp (one_step (pieces_by pieces) l.fresh) u) =
    λ u. c.in_ok-fresh-2.ensures graph vars pieces c.in_ok-step.ensures.fetched u ∙ ap (λ (ns : List ℕ). not (has nat_cmp l.set u) && has nat_cmp (one_step (pieces_by pieces) ns) u) same in
    let near : (u : ℕ) → is_near (l.steps.items ++ step ∷ []) u ≡ (is_near l.steps.items u || has nat_cmp l.fresh u) =
    λ u. near_more l.steps.items step u ∙ ap (λ (ns : List ℕ). is_near l.steps.items u || has nat_cmp ns u) same in
    let on = nearer_on (pieces_by pieces) roots l._round l.set l.fresh more all (is_near l.steps.items) (is_near (l.steps.items ++ step ∷ [])) l.invariant.0 l.invariant.1 near c.in_ok-set-2.ensures in (
      subst (λ (rounds : ℕ). Spread (pieces_by pieces) roots rounds all more) next (spread_on (pieces_by pieces) roots l._round l.set l.fresh more new l.invariant.0 all c.in_ok-set-2.ensures),
      subst (λ (ss : List Step). Nearer (pieces_by pieces) roots (l._round + 1) all more (is_near ss)) (sym c.in_ok-add.ensures)
          (subst (λ (rounds : ℕ). Nearer (pieces_by pieces) roots rounds all more (is_near (l.steps.items ++ step ∷ []))) next on),
      subst (λ (ss : List Step). AreSteps graph vars pieces ss) (sym c.in_ok-add.ensures) (steps_more graph vars pieces l.steps.items step l.invariant.2 c.in_ok-step.ensures.fetched),
    )

pub returns-clause-reaches : goal.returns-clause-reaches
returns-clause-reaches g c =
    let pieces = planned_pieces true (g.S.Snapshot.declared c.args.snap.now) (g.S.Snapshot.graph c.args.snap.now) c.args.vars.now.variables c.args.fields.now c.args.kept.now in
    let l = c.loop-round in
    let past : c.args.edges ≤ l._round = omega (arith, c.loop-round-test.false) in
    all_reached (pieces_by pieces) c.args.roots.now c.args.edges l._round l.set l.fresh (is_near l.steps.items) past l.invariant.0 l.invariant.1
