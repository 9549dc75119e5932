use Rattle.std.proofs.Common.{◌≡◌, ℕ, ◌-◌, ◌<◌, false, List, [], ◌∷◌, ◌++◌, length, sym, ap, subst, ◌∙◌, arith, rules, true≢false}
use Rattle.std.specs.Ordering.{nat_cmp}
use Rattle.dg_values.specs.Ascending.{has}
use Rattle.dg_sets.specs.Placing.{StandsAt}
use Rattle.dg_recurse.specs.Columns.{pieces_at}
use Rattle.dg_tree.specs.declared.tree.Field.{Field}
use Rattle.dg_level.specs.Looping.{pieces_by}
use Rattle.dg_level.specs.Rows.{row_text}
use Rattle.dg_level.specs.Unfolding.{unfolded}
use Rattle.dg_level.proofs.RowLaws.{total_first, total_joined}
use Rattle.dg_level.proofs.WalkedLaws.{held, walked_same, roots_there}
use Rattle.dg_level.proofs.walked.push_unfolded.Goals as goal

pub returns-in_default-clause-ok : goal.returns-in_default-clause-ok
returns-in_default-clause-ok c = λ near pieces roots are reaches root.
    let set = c.args.set.now in
    let h = held near set c.args.columns.now pieces are in
    let there = roots_there near set c.as_slice.ensures.ascend c.args.columns.now pieces h (c.args.depth - 1) roots reaches c.args.node root in
    let missing : has nat_cmp set c.args.node ≡ false = ap (λ (l : List ℕ). has nat_cmp l c.args.node) (sym c.as_slice.ensures.items) ∙ c.in_default.ensures.missing.missing in
    absurd (true≢false (sym there ∙ missing))

pub returns-in_err-text-clause-too_large : goal.returns-in_err-text-clause-too_large
returns-in_err-text-clause-too_large c = λ near pieces roots are reaches root err.
    let set = c.args.set.now in
    let node = c.args.node in
    let steps = c.args.depth - 1 in
    let h = held near set c.args.columns.now pieces are in
    let stands : StandsAt nat_cmp set node c.in-Ok.place = subst (λ (l : List ℕ). StandsAt nat_cmp l node c.in-Ok.place) c.as_slice.ensures.items c.in-Ok.ensures.there in
    let same = walked_same near set c.as_slice.ensures.ascend c.args.columns.now pieces h steps roots reaches node c.in-Ok.place root stands in
    let row = row_text (unfolded (pieces_by pieces) false steps (node ∷ []) node) in
    let over : c.room.result < length (row_text (unfolded (pieces_at h.placed) false steps (c.in-Ok.place ∷ []) c.in-Ok.place)) = c.unfold_along.ensures.too_large h.placed h.holds (search rules) in
    omega (
      arith,
      over,
      c.room.ensures,
      ap (λ (fs : List Field). length (row_text fs)) same,
      total_joined c.args.rows.now.rows (row ∷ []),
      total_first row [],
    )

pub returns-clause-ok : goal.returns-clause-ok
returns-clause-ok c = λ near pieces roots are reaches root.
    let set = c.args.set.now in
    let node = c.args.node in
    let steps = c.args.depth - 1 in
    let h = held near set c.args.columns.now pieces are in
    let stands : StandsAt nat_cmp set node c.in-Ok.place = subst (λ (l : List ℕ). StandsAt nat_cmp l node c.in-Ok.place) c.as_slice.ensures.items c.in-Ok.ensures.there in
    let same = walked_same near set c.as_slice.ensures.ascend c.args.columns.now pieces h steps roots reaches node c.in-Ok.place root stands in
    let text : c.as_str.result.now ≡ row_text (unfolded (pieces_by pieces) false steps (node ∷ []) node) = c.as_str.ensures ∙ (c.in_ok-text.ensures.text h.placed h.holds ∙ ap row_text same) in
    let begun : c.mark.new.self.begun ≡ row_text (unfolded (pieces_by pieces) false steps (node ∷ []) node) = c.in_ok-mark.ensures.ok ∙ (ap (λ (b : List ℕ). b ++ c.as_str.result.now) c.requires.begun ∙ text) in
    c.in_ok-close-2.ensures.rows ∙ (λ j. c.mark.ensures.rows j ++ begun j ∷ [])
