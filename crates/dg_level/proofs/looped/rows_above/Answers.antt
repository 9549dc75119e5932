use Rattle.std.proofs.Common.{ℕ, ◌<◌, List, [], ◌∷◌, ◌++◌, length, get_or, sym, ap, ◌∙◌, arith, rules}
use Rattle.std.proofs.lemmas.List.{map_more}
use Rattle.dg_level.specs.Rows.{total, row_text}
use Rattle.dg_level.specs.Looping.{level_fields}
use Rattle.dg_level.proofs.LoopRows.{below_all}
use Rattle.dg_level.proofs.WritingLaws.{node_at, rows_pass}
use Rattle.dg_level.proofs.looped.rows_above.Goals as goal

pub returns-in_err-push_row-clause-too_large : goal.returns-in_err-push_row-clause-too_large
returns-in_err-push_row-clause-too_large g c = λ pieces at are is rows err.
    let graph = g.S.Snapshot.graph c.args.snap.now in
    let vars = c.args.vars.now.variables in
    let nodes = c.args.nodes.now in
    let l = c.loop-place in
    let i = l.place in
    let f = λ (n : ℕ). row_text (level_fields pieces at n) in
    let lt : i < length nodes = omega (arith, c.loop-place-test.true) in
    let here = node_at nodes i 0 lt in
    let among = below_all graph vars nodes c.args.all.now pieces c.args.level.now i (get_or nodes i 0) are is here in
    let above : l.rows.limit < total (l.rows.rows ++ f (get_or nodes i 0) ∷ []) = c.push_row.ensures.too_large nodes pieces at are here rows among (search rules) in
    rows_pass f nodes i 0 c.args.limit lt (omega (arith, above, l.invariant.2, ap (λ (rs : List (List ℕ)). total (rs ++ f (get_or nodes i 0) ∷ [])) (l.invariant.0 pieces at are is rows)))

pub loop-place-preserved : goal.loop-place-preserved
loop-place-preserved g c = (
  λ pieces at are is rows.
      let graph = g.S.Snapshot.graph c.args.snap.now in
      let vars = c.args.vars.now.variables in
      let nodes = c.args.nodes.now in
      let l = c.loop-place in
      let i = l.place in
      let f = λ (n : ℕ). row_text (level_fields pieces at n) in
      let lt : i < length nodes = omega (arith, c.loop-place-test.true) in
      let here = node_at nodes i 0 lt in
      let among = below_all graph vars nodes c.args.all.now pieces c.args.level.now i (get_or nodes i 0) are is here in
      c.in_ok-push_row.ensures.ok nodes pieces at are here rows among ∙ ((λ j. l.invariant.0 pieces at are is rows j ++ f (get_or nodes i 0) ∷ []) ∙ sym (map_more f nodes i 0 lt)),
  c.in_ok-push_row.ensures.begun,
  c.push_row.ensures.limit ∙ c.loop-place.invariant.2,
)
