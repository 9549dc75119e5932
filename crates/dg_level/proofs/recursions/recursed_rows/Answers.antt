use Rattle.std.proofs.Common.{◌≡◌, ◌-◌, ◌<◌, ℕ, true, false, List, [], ◌∷◌, map, sym, ap, subst, ◌∙◌, rules}
use Rattle.std.specs.Prelude.{IfOk}
use Rattle.dg_level.specs.Rows.{total, row_text}
use Rattle.dg_level.specs.Recursions.{recursed_at}
use Rattle.dg_level.specs.Looping.{planned_pieces, pieces_by}
use Rattle.dg_level.specs.Unfolding.{unfolded}
use Rattle.dg_level.proofs.LoopMeans.{loops_mean, walks_mean}
use Rattle.dg_level.proofs.recursions.recursed_rows.Goals as goal

pub returns-then-recursion-clause-rows : goal.returns-then-recursion-clause-rows
returns-then-recursion-clause-rows g c = λ ds lawful of_kind are.
    let schema = g.S.Snapshot.declared c.args.snap.now in
    let graph = g.S.Snapshot.graph c.args.snap.now in
    let vars = c.args.vars.now.variables in
    let fields = c.args.fields.now in
    let kept = c.args.kept.now in
    let depth = c.args.recursion.depth in
    let again = c.args.recursion.again in
    let on : again ≡ true = search rules in
    let e : map (λ (n : ℕ). row_text (unfolded (pieces_by (planned_pieces true schema graph vars fields kept)) true (depth - 1) [] n)) c.as_slice-nodes.result.now ≡ map (λ (n : ℕ). row_text (recursed_at schema graph ds vars again depth fields n)) c.args.nodes.now =
    (λ i. map (λ (n : ℕ). row_text (loops_mean schema ds graph vars lawful of_kind c.meanings.ensures.filters depth fields kept are n i)) (c.as_slice-nodes.ensures.items i)) ∙ ap (λ b. map (λ (n : ℕ). row_text (recursed_at schema graph ds vars b depth fields n)) c.args.nodes.now) (sym on) in
    subst (λ (xs : List (List ℕ)). IfOk c.looped_rows.result (λ rows. rows.rows ≡ xs)) e c.looped_rows.ensures.rows

pub returns-then-recursion-clause-too_large : goal.returns-then-recursion-clause-too_large
returns-then-recursion-clause-too_large g c = λ ds lawful of_kind are err.
    let schema = g.S.Snapshot.declared c.args.snap.now in
    let graph = g.S.Snapshot.graph c.args.snap.now in
    let vars = c.args.vars.now.variables in
    let fields = c.args.fields.now in
    let kept = c.args.kept.now in
    let depth = c.args.recursion.depth in
    let again = c.args.recursion.again in
    let on : again ≡ true = search rules in
    let e : map (λ (n : ℕ). row_text (unfolded (pieces_by (planned_pieces true schema graph vars fields kept)) true (depth - 1) [] n)) c.as_slice-nodes.result.now ≡ map (λ (n : ℕ). row_text (recursed_at schema graph ds vars again depth fields n)) c.args.nodes.now =
    (λ i. map (λ (n : ℕ). row_text (loops_mean schema ds graph vars lawful of_kind c.meanings.ensures.filters depth fields kept are n i)) (c.as_slice-nodes.ensures.items i)) ∙ ap (λ b. map (λ (n : ℕ). row_text (recursed_at schema graph ds vars b depth fields n)) c.args.nodes.now) (sym on) in
    subst (λ (xs : List (List ℕ)). c.args.limit < total xs) e (c.looped_rows.ensures.too_large err)

pub returns-clause-rows : goal.returns-clause-rows
returns-clause-rows g c = λ ds lawful of_kind are.
    let schema = g.S.Snapshot.declared c.args.snap.now in
    let graph = g.S.Snapshot.graph c.args.snap.now in
    let vars = c.args.vars.now.variables in
    let fields = c.args.fields.now in
    let kept = c.args.kept.now in
    let depth = c.args.recursion.depth in
    let again = c.args.recursion.again in
    let off : again ≡ false = search rules in
    let e : map (λ (n : ℕ). row_text (unfolded (pieces_by (planned_pieces true schema graph vars fields kept)) false (depth - 1) (n ∷ []) n)) c.args.nodes.now ≡ map (λ (n : ℕ). row_text (recursed_at schema graph ds vars again depth fields n)) c.args.nodes.now =
    (λ i. map (λ (n : ℕ). row_text (walks_mean schema ds graph vars lawful of_kind c.meanings.ensures.filters depth fields kept are n i)) c.args.nodes.now) ∙ ap (λ b. map (λ (n : ℕ). row_text (recursed_at schema graph ds vars b depth fields n)) c.args.nodes.now) (sym off) in
    subst (λ (xs : List (List ℕ)). IfOk c.walked_rows.result (λ rows. rows.rows ≡ xs)) e c.walked_rows.ensures.rows

pub returns-clause-too_large : goal.returns-clause-too_large
returns-clause-too_large g c = λ ds lawful of_kind are err.
    let schema = g.S.Snapshot.declared c.args.snap.now in
    let graph = g.S.Snapshot.graph c.args.snap.now in
    let vars = c.args.vars.now.variables in
    let fields = c.args.fields.now in
    let kept = c.args.kept.now in
    let depth = c.args.recursion.depth in
    let again = c.args.recursion.again in
    let off : again ≡ false = search rules in
    let e : map (λ (n : ℕ). row_text (unfolded (pieces_by (planned_pieces true schema graph vars fields kept)) false (depth - 1) (n ∷ []) n)) c.args.nodes.now ≡ map (λ (n : ℕ). row_text (recursed_at schema graph ds vars again depth fields n)) c.args.nodes.now =
    (λ i. map (λ (n : ℕ). row_text (walks_mean schema ds graph vars lawful of_kind c.meanings.ensures.filters depth fields kept are n i)) c.args.nodes.now) ∙ ap (λ b. map (λ (n : ℕ). row_text (recursed_at schema graph ds vars b depth fields n)) c.args.nodes.now) (sym off) in
    subst (λ (xs : List (List ℕ)). c.args.limit < total xs) e (c.walked_rows.ensures.too_large err)
