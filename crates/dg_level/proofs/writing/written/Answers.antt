use Rattle.std.proofs.Common.{ℕ, ◌<◌, List, [], ◌∷◌, ◌++◌, length, get_or, sym, ap, ◌∙◌, arith, rules}
use Rattle.std.proofs.lemmas.List.{map_more}
use Rattle.dg_level.specs.Rows.{total, row_text}
use Rattle.dg_level.specs.Columns.{shown_by}
use Rattle.dg_level.proofs.WritingLaws.{node_at, rows_pass}
use Rattle.dg_level.proofs.writing.written.Goals as goal

pub returns-in_err-push_row-clause-too_large : goal.returns-in_err-push_row-clause-too_large
returns-in_err-push_row-clause-too_large g c = λ all are e.
    let nodes = c.args.nodes.now in
    let l = c.loop-place in
    let i = l.place in
    let f = λ (n : ℕ). row_text (shown_by all n) in
    let lt : i < length nodes = omega (arith, c.loop-place-test.true) in
    let above : l.rows.limit < total (l.rows.rows ++ f (get_or nodes i 0) ∷ []) = c.push_row.ensures.too_large nodes all are (node_at nodes i 0 lt) (search rules) in
    rows_pass f nodes i 0 c.args.limit lt (omega (arith, above, l.invariant.2, ap (λ (rs : List (List ℕ)). total (rs ++ f (get_or nodes i 0) ∷ [])) (l.invariant.0 all are)))

pub loop-place-preserved : goal.loop-place-preserved
loop-place-preserved g c = (
  λ all are.
      let nodes = c.args.nodes.now in
      let l = c.loop-place in
      let i = l.place in
      let f = λ (n : ℕ). row_text (shown_by all n) in
      let lt : i < length nodes = omega (arith, c.loop-place-test.true) in
      c.in_ok-push_row.ensures.ok nodes all are (node_at nodes i 0 lt) ∙ ((λ j. l.invariant.0 all are j ++ f (get_or nodes i 0) ∷ []) ∙ sym (map_more f nodes i 0 lt)),
  c.in_ok-push_row.ensures.begun,
  c.push_row.ensures.limit ∙ c.loop-place.invariant.2,
)
