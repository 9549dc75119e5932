use Rattle.std.proofs.Common.{◌≡◌, ◌<◌, ℕ, List, map, sym, subst}
use Rattle.std.specs.Prelude.{IfOk}
use Rattle.dg_level.specs.Left.{AreLeft}
use Rattle.dg_level.specs.Rows.{total, row_text}
use Rattle.dg_level.specs.Shown.{fields_at}
use Rattle.dg_level.specs.Planned.{planned_at}
use Rattle.dg_level.proofs.MeaningLaws.{planned_means}
use Rattle.dg_level.proofs.levels.known_rows.Goals as goal

pub returns-clause-rows : goal.returns-clause-rows
returns-clause-rows g c = λ ds lawful of_kind are known.
    let schema = g.S.Snapshot.declared c.args.snap.now in
    let graph = g.S.Snapshot.graph c.args.snap.now in
    let vars = c.args.vars.now.variables in
    let fields = c.args.fields.now in
    let kept = c.args.kept.now in
    let e : map (λ n. row_text (planned_at schema graph vars c.args.cascade fields kept n)) c.as_slice.result.now ≡ map (λ n. row_text (fields_at schema graph ds vars c.args.cascade fields n)) c.args.nodes.now =
    λ i. map (λ n. row_text (planned_means schema ds graph vars lawful of_kind c.meanings.ensures.filters c.args.cascade fields kept are n i)) (c.as_slice.ensures.items i) in
    let seen : AreLeft schema graph vars fields kept c.as_slice.result.now c.args.left =
    subst (λ (ns : List ℕ). AreLeft schema graph vars fields kept ns c.args.left) (sym c.as_slice.ensures.items) known in
    subst (λ (xs : List (List ℕ)). IfOk c.level_rows.result (λ rows. rows.rows ≡ xs)) e (c.level_rows.ensures.rows seen)

pub returns-clause-too_large : goal.returns-clause-too_large
returns-clause-too_large g c = λ ds lawful of_kind are known err.
    let schema = g.S.Snapshot.declared c.args.snap.now in
    let graph = g.S.Snapshot.graph c.args.snap.now in
    let vars = c.args.vars.now.variables in
    let fields = c.args.fields.now in
    let kept = c.args.kept.now in
    let e : map (λ n. row_text (planned_at schema graph vars c.args.cascade fields kept n)) c.as_slice.result.now ≡ map (λ n. row_text (fields_at schema graph ds vars c.args.cascade fields n)) c.args.nodes.now =
    λ i. map (λ n. row_text (planned_means schema ds graph vars lawful of_kind c.meanings.ensures.filters c.args.cascade fields kept are n i)) (c.as_slice.ensures.items i) in
    let seen : AreLeft schema graph vars fields kept c.as_slice.result.now c.args.left =
    subst (λ (ns : List ℕ). AreLeft schema graph vars fields kept ns c.args.left) (sym c.as_slice.ensures.items) known in
    subst (λ (xs : List (List ℕ)). c.args.limit < total xs) e (c.level_rows.ensures.too_large seen err)
