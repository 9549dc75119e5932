use Rattle.std.proofs.Common.{ℕ, ◌-◌, ◌<◌, false, List, [], ◌∷◌, ◌++◌, length, get_or, sym, ap, ◌∙◌, arith, rules}
use Rattle.std.proofs.lemmas.List.{map_more}
use Rattle.dg_level.specs.Looping.{pieces_by}
use Rattle.dg_level.specs.Rows.{total, row_text}
use Rattle.dg_level.specs.Unfolding.{unfolded}
use Rattle.dg_level.proofs.WalkedLaws.{has_at}
use Rattle.dg_level.proofs.WritingLaws.{rows_pass}
use Rattle.dg_level.proofs.walked.walked.Goals as goal

pub returns-in_err-push_unfolded-clause-too_large : goal.returns-in_err-push_unfolded-clause-too_large
returns-in_err-push_unfolded-clause-too_large c = λ near pieces are reaches err.
    let nodes = c.args.nodes.now in
    let l = c.loop-node in
    let i = l.node-index in
    let f = λ (n : ℕ). row_text (unfolded (pieces_by pieces) false (c.args.depth - 1) (n ∷ []) n) in
    let lt : i < length nodes = omega (arith, c.loop-node-test.true) in
    let above : l.rows.limit < total (l.rows.rows ++ f (get_or nodes i 0) ∷ []) = c.push_unfolded.ensures.too_large near pieces nodes are reaches (has_at nodes i lt) (search rules) in
    rows_pass f nodes i 0 c.args.limit lt (omega (arith, above, l.invariant.3, ap (λ (rs : List (List ℕ)). total (rs ++ f (get_or nodes i 0) ∷ [])) (l.invariant.0 near pieces are reaches)))

pub loop-node-init : goal.loop-node-init
loop-node-init c = (λ near pieces are reaches. search rules, search rules, c.new-way.ensures c.args.columns.now, search rules)

pub loop-node-preserved : goal.loop-node-preserved
loop-node-preserved c = (
  λ near pieces are reaches.
      let nodes = c.args.nodes.now in
      let l = c.loop-node in
      let i = l.node-index in
      let f = λ (n : ℕ). row_text (unfolded (pieces_by pieces) false (c.args.depth - 1) (n ∷ []) n) in
      let lt : i < length nodes = omega (arith, c.loop-node-test.true) in
      c.in_ok-push_unfolded.ensures.ok near pieces nodes are reaches (has_at nodes i lt) ∙ ((λ j. l.invariant.0 near pieces are reaches j ++ f (get_or nodes i 0) ∷ []) ∙ sym (map_more f nodes i 0 lt)),
  c.in_ok-push_unfolded.ensures.begun,
  c.in_ok-push_unfolded.ensures.way,
  c.push_unfolded.ensures.limit ∙ c.loop-node.invariant.3,
)
