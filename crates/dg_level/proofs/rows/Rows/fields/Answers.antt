use Rattle.std.proofs.Common.{◌≡◌, ℕ, ◌+◌, ◌<◌, ◌≤◌, true, false, List, [], ◌∷◌, ◌++◌, map, length, take, drop, refl, sym, ap, ◌∙◌, arith, rules, Global}
use Rattle.std.proofs.lemmas.List.{map-append, take_all}
use Rattle.std.specs.declared.sync.Arc.{Arc}
use Rattle.std.specs.Arc.{arc_value}
use Rattle.dg_tree.specs.declared.tree.Field.{Field}
use Rattle.dg_tree.specs.Texts.{field_text}
use Rattle.dg_level.specs.Parts.{parts_text, has_parts}
use Rattle.dg_level.specs.Rows.{total}
use Rattle.dg_level.proofs.PartLaws.{parts_added, has_added, parts_pass}
use Rattle.dg_level.proofs.FlatTexts.{made_more, all_made, row_is, row_passes}
use Rattle.dg_level.proofs.rows.Rows.fields.Goals as goal

-- the texts of fields
made : List (Arc Field Global) → List (List ℕ)
made pairs = map field_text (map arc_value pairs)

joins : (pairs more : List (Arc Field Global)) → made (pairs ++ more) ≡ made pairs ++ made more
unfolding made
joins pairs more = ap (map field_text) (map-append arc_value pairs more) ∙ map-append field_text (map arc_value pairs) (map arc_value more)

pub returns-in_err-field-clause-too_large : goal.returns-in_err-field-clause-too_large
unfolding made
returns-in_err-field-clause-too_large c = λ e.
    let pairs = c.args.pairs.now in
    let l = c.loop-pair in
    let i = l.pair-index in
    let x = c.pair-item.result in
    let lt : i < length pairs = omega (arith, c.loop-pair-test.true) in
    let above : l.self.limit < total l.self.rows + length (l.self.begun ++ parts_text l.wrote (field_text c.deref.result.now ∷ [])) = c.field.ensures.too_large (search rules) in
    let here : c.args.self.now.limit < total c.args.self.now.rows + length (l.self.begun ++ parts_text l.wrote (made (x ∷ []))) =
    omega (arith, above, ap total l.invariant.2, l.invariant.3, ap (λ field. length (l.self.begun ++ parts_text l.wrote (field_text field ∷ []))) c.deref.ensures) in
    row_passes c.args.self.now.begun (map arc_value pairs) (total c.args.self.now.rows) c.args.self.now.limit
    (parts_pass c.args.self.now.begun l.self.begun false l.wrote (made (take i pairs)) l.invariant.0 l.invariant.1 (made (x ∷ [])) (made (drop (i + 1) pairs)) (made pairs) (total c.args.self.now.rows) c.args.self.now.limit
    (all_made made joins pairs i x lt c.pair-item.is) here)

pub loop-pair-preserved : goal.loop-pair-preserved
unfolding made
loop-pair-preserved c =
    let pairs = c.args.pairs.now in
    let l = c.loop-pair in
    let i = l.pair-index in
    let x = c.pair-item.result in
    let lt : i < length pairs = omega (arith, c.loop-pair-test.true) in
    let more : made (take (i + 1) pairs) ≡ made (take i pairs) ++ made (x ∷ []) = made_more made joins pairs i x lt c.pair-item.is in
    let added : c.field.new.self.begun ≡ l.self.begun ++ parts_text l.wrote (made (x ∷ [])) = c.in_ok-field.ensures.ok ∙ ap (λ field. l.self.begun ++ parts_text l.wrote (field_text field ∷ [])) c.deref.ensures in (
      parts_added c.args.self.now.begun l.self.begun false l.wrote (made (take i pairs)) l.invariant.0 l.invariant.1 (made (x ∷ [])) c.field.new.self.begun added ∙ ap (λ p. c.args.self.now.begun ++ parts_text false p) (sym more),
      has_added c.args.self.now.begun l.self.begun false l.wrote (made (take i pairs)) l.invariant.0 l.invariant.1 (made (x ∷ [])) true refl ∙ ap (has_parts false) (sym more),
      c.field.ensures.rows ∙ l.invariant.2,
      c.field.ensures.limit ∙ l.invariant.3,
    )

pub returns-clause-ok : goal.returns-clause-ok
returns-clause-ok c =
    let l = c.loop-pair in
    let past : length c.args.pairs.now ≤ l.pair-index = omega (arith, c.loop-pair-test.false) in
    row_is c.args.self.now.begun l.self.begun (map arc_value c.args.pairs.now) (l.invariant.0 ∙ ap (λ pairs. c.args.self.now.begun ++ parts_text false (map field_text (map arc_value pairs))) (take_all l.pair-index c.args.pairs.now past))
