use Rattle.std.proofs.Common.{◌≡◌, ℕ, ◌-◌, ◌<◌, ltb, Bool, true, false, List, [], map, sym, ap, subst, ◌∙◌, arith, rules}
use Rattle.std.specs.Prelude.{IfOk}
use Rattle.std.specs.Ordering.{nat_cmp}
use Rattle.std.proofs.lemmas.Bool.{lt-ltb}
use Rattle.dg_values.specs.Ascending.{ascending}
use Rattle.dg_level.specs.declared.looped.Fetched.{Fetched}
use Rattle.dg_level.specs.Rows.{Written, total, row_text}
use Rattle.dg_level.specs.Looping.{planned_pieces, pieces_by, level_fields, nodes_fetched, AreFetched}
use Rattle.dg_level.specs.Unfolding.{unfolded}
use Rattle.dg_level.proofs.LoopRows.{level_held}
use Rattle.dg_level.proofs.LoopUnfold.{below, step, last_level, none_fetched}
use Rattle.dg_level.proofs.looped.+looped_rows.Goals as goal

pub returns-then-left-eq0-clause-rows : goal.returns-then-left-eq0-clause-rows
returns-then-left-eq0-clause-rows g t c =
    let schema = g.S.Snapshot.declared c.args.snap.now in
    let graph = g.S.Snapshot.graph c.args.snap.now in
    let vars = c.args.vars.now.variables in
    let fields = c.args.fields.now in
    let kept = c.args.kept.now in
    let nodes = c.args.nodes.now in
    let left = c.args.left in
    let none : left ≡ 0 = omega (arith, c.if-left-eq0.true) in
    let last = planned_pieces false schema graph vars fields kept in
    let first : AreFetched graph vars nodes c.in_ok-all.all.items last = subst (λ (b : Bool). AreFetched graph vars nodes c.in_ok-all.all.items (planned_pieces b schema graph vars fields kept)) (ap (ltb 0) none) c.in_ok-all.ensures in
    let are : AreFetched graph vars nodes c.as_slice-then-left-eq0.result.now last = subst (λ (fs : List Fetched). AreFetched graph vars nodes fs last) (sym c.as_slice-then-left-eq0.ensures.value) first in
    let is : c.in_ok-level.level ≡ ascending nat_cmp (nodes_fetched c.as_slice-then-left-eq0.result.now) = c.in_ok-level.ensures ∙ ap (λ (fs : List Fetched). ascending nat_cmp (nodes_fetched fs)) (c.as_slice.ensures.value ∙ sym c.as_slice-then-left-eq0.ensures.value) in
    let empty : c.in_ok-level.level ≡ [] = is ∙ ap (ascending nat_cmp) (none_fetched schema graph vars nodes c.as_slice-then-left-eq0.result.now fields kept are) in
    let rows : c.within-none.result.rows ≡ map (λ (n : ℕ). row_text []) c.in_ok-level.level = ap (λ (w : Written). w.rows) c.within-none.ensures ∙ sym (ap (map (λ (n : ℕ). row_text [])) empty) in
    let e : map (λ (n : ℕ). row_text (level_fields last (λ m. []) n)) nodes ≡ map (λ (n : ℕ). row_text (unfolded (pieces_by (planned_pieces true schema graph vars fields kept)) true left [] n)) nodes =
    λ j. map (λ (n : ℕ). row_text (sym (last_level schema graph vars fields kept left n none) j)) nodes in
    subst (λ (xs : List (List ℕ)). IfOk c.rows_above.result (λ rows. rows.rows ≡ xs)) e (c.rows_above.ensures.rows last (λ m. []) are is rows)

pub returns-then-left-eq0-clause-too_large : goal.returns-then-left-eq0-clause-too_large
returns-then-left-eq0-clause-too_large g t c = λ err.
    let schema = g.S.Snapshot.declared c.args.snap.now in
    let graph = g.S.Snapshot.graph c.args.snap.now in
    let vars = c.args.vars.now.variables in
    let fields = c.args.fields.now in
    let kept = c.args.kept.now in
    let nodes = c.args.nodes.now in
    let left = c.args.left in
    let none : left ≡ 0 = omega (arith, c.if-left-eq0.true) in
    let last = planned_pieces false schema graph vars fields kept in
    let first : AreFetched graph vars nodes c.in_ok-all.all.items last = subst (λ (b : Bool). AreFetched graph vars nodes c.in_ok-all.all.items (planned_pieces b schema graph vars fields kept)) (ap (ltb 0) none) c.in_ok-all.ensures in
    let are : AreFetched graph vars nodes c.as_slice-then-left-eq0.result.now last = subst (λ (fs : List Fetched). AreFetched graph vars nodes fs last) (sym c.as_slice-then-left-eq0.ensures.value) first in
    let is : c.in_ok-level.level ≡ ascending nat_cmp (nodes_fetched c.as_slice-then-left-eq0.result.now) = c.in_ok-level.ensures ∙ ap (λ (fs : List Fetched). ascending nat_cmp (nodes_fetched fs)) (c.as_slice.ensures.value ∙ sym c.as_slice-then-left-eq0.ensures.value) in
    let empty : c.in_ok-level.level ≡ [] = is ∙ ap (ascending nat_cmp) (none_fetched schema graph vars nodes c.as_slice-then-left-eq0.result.now fields kept are) in
    let rows : c.within-none.result.rows ≡ map (λ (n : ℕ). row_text []) c.in_ok-level.level = ap (λ (w : Written). w.rows) c.within-none.ensures ∙ sym (ap (map (λ (n : ℕ). row_text [])) empty) in
    let e : map (λ (n : ℕ). row_text (level_fields last (λ m. []) n)) nodes ≡ map (λ (n : ℕ). row_text (unfolded (pieces_by (planned_pieces true schema graph vars fields kept)) true left [] n)) nodes =
    λ j. map (λ (n : ℕ). row_text (sym (last_level schema graph vars fields kept left n none) j)) nodes in
    subst (λ (xs : List (List ℕ)). c.args.limit < total xs) e (c.rows_above.ensures.too_large last (λ m. []) are is rows err)

pub returns-in_err-below-clause-too_large : goal.returns-in_err-below-clause-too_large
returns-in_err-below-clause-too_large g t c = λ err.
    let schema = g.S.Snapshot.declared c.args.snap.now in
    let graph = g.S.Snapshot.graph c.args.snap.now in
    let vars = c.args.vars.now.variables in
    let fields = c.args.fields.now in
    let kept = c.args.kept.now in
    let nodes = c.args.nodes.now in
    let left = c.args.left in
    let above : 0 < left = omega (arith, c.if-left-eq0.false) in
    let all = planned_pieces true schema graph vars fields kept in
    let first : AreFetched graph vars nodes c.in_ok-all.all.items all = subst (λ (b : Bool). AreFetched graph vars nodes c.in_ok-all.all.items (planned_pieces b schema graph vars fields kept)) (lt-ltb 0 left above) c.in_ok-all.ensures in
    let level : c.as_slice-2.result.now ≡ ascending nat_cmp (nodes_fetched c.in_ok-all.all.items) = c.as_slice-2.ensures.items ∙ (c.in_ok-level.ensures ∙ ap (λ (fs : List Fetched). ascending nat_cmp (nodes_fetched fs)) c.as_slice.ensures.value) in
    let over : c.args.limit < total (map (λ (n : ℕ). row_text (below all (left - 1) n)) c.as_slice-2.result.now) = c.looped_rows.ensures.too_large (search rules) in
    let e : map (λ (n : ℕ). row_text (level_fields all (below all (left - 1)) n)) nodes ≡ map (λ (n : ℕ). row_text (unfolded (pieces_by all) true left [] n)) nodes =
    λ j. map (λ (n : ℕ). row_text (sym (step all left n above) j)) nodes in
    omega (
      arith,
      over,
      ap (λ (l : List ℕ). total (map (λ (n : ℕ). row_text (below all (left - 1) n)) l)) level,
      level_held graph vars nodes (below all (left - 1)) c.in_ok-all.all.items all first,
      ap total e,
    )

pub returns-clause-rows : goal.returns-clause-rows
returns-clause-rows g t c =
    let schema = g.S.Snapshot.declared c.args.snap.now in
    let graph = g.S.Snapshot.graph c.args.snap.now in
    let vars = c.args.vars.now.variables in
    let fields = c.args.fields.now in
    let kept = c.args.kept.now in
    let nodes = c.args.nodes.now in
    let left = c.args.left in
    let above : 0 < left = omega (arith, c.if-left-eq0.false) in
    let all = planned_pieces true schema graph vars fields kept in
    let first : AreFetched graph vars nodes c.in_ok-all.all.items all = subst (λ (b : Bool). AreFetched graph vars nodes c.in_ok-all.all.items (planned_pieces b schema graph vars fields kept)) (lt-ltb 0 left above) c.in_ok-all.ensures in
    let are : AreFetched graph vars nodes c.as_slice-3.result.now all = subst (λ (fs : List Fetched). AreFetched graph vars nodes fs all) (sym c.as_slice-3.ensures.value) first in
    let is : c.in_ok-level.level ≡ ascending nat_cmp (nodes_fetched c.as_slice-3.result.now) = c.in_ok-level.ensures ∙ ap (λ (fs : List Fetched). ascending nat_cmp (nodes_fetched fs)) (c.as_slice.ensures.value ∙ sym c.as_slice-3.ensures.value) in
    let rows : c.in_ok-below.below.rows ≡ map (λ (n : ℕ). row_text (below all (left - 1) n)) c.in_ok-level.level = c.in_ok-below.ensures.rows ∙ ap (map (λ (n : ℕ). row_text (below all (left - 1) n))) c.as_slice-2.ensures.items in
    let e : map (λ (n : ℕ). row_text (level_fields all (below all (left - 1)) n)) nodes ≡ map (λ (n : ℕ). row_text (unfolded (pieces_by all) true left [] n)) nodes =
    λ j. map (λ (n : ℕ). row_text (sym (step all left n above) j)) nodes in
    subst (λ (xs : List (List ℕ)). IfOk c.rows_above-2.result (λ rows. rows.rows ≡ xs)) e (c.rows_above-2.ensures.rows all (below all (left - 1)) are is rows)

pub returns-clause-too_large : goal.returns-clause-too_large
returns-clause-too_large g t c = λ err.
    let schema = g.S.Snapshot.declared c.args.snap.now in
    let graph = g.S.Snapshot.graph c.args.snap.now in
    let vars = c.args.vars.now.variables in
    let fields = c.args.fields.now in
    let kept = c.args.kept.now in
    let nodes = c.args.nodes.now in
    let left = c.args.left in
    let above : 0 < left = omega (arith, c.if-left-eq0.false) in
    let all = planned_pieces true schema graph vars fields kept in
    let first : AreFetched graph vars nodes c.in_ok-all.all.items all = subst (λ (b : Bool). AreFetched graph vars nodes c.in_ok-all.all.items (planned_pieces b schema graph vars fields kept)) (lt-ltb 0 left above) c.in_ok-all.ensures in
    let are : AreFetched graph vars nodes c.as_slice-3.result.now all = subst (λ (fs : List Fetched). AreFetched graph vars nodes fs all) (sym c.as_slice-3.ensures.value) first in
    let is : c.in_ok-level.level ≡ ascending nat_cmp (nodes_fetched c.as_slice-3.result.now) = c.in_ok-level.ensures ∙ ap (λ (fs : List Fetched). ascending nat_cmp (nodes_fetched fs)) (c.as_slice.ensures.value ∙ sym c.as_slice-3.ensures.value) in
    let rows : c.in_ok-below.below.rows ≡ map (λ (n : ℕ). row_text (below all (left - 1) n)) c.in_ok-level.level = c.in_ok-below.ensures.rows ∙ ap (map (λ (n : ℕ). row_text (below all (left - 1) n))) c.as_slice-2.ensures.items in
    let e : map (λ (n : ℕ). row_text (level_fields all (below all (left - 1)) n)) nodes ≡ map (λ (n : ℕ). row_text (unfolded (pieces_by all) true left [] n)) nodes =
    λ j. map (λ (n : ℕ). row_text (sym (step all left n above) j)) nodes in
    subst (λ (xs : List (List ℕ)). c.args.limit < total xs) e (c.rows_above-2.ensures.too_large all (below all (left - 1)) are is rows err)
