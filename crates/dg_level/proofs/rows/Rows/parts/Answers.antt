use Rattle.std.proofs.Common.{◌≡◌, ℕ, ◌+◌, ◌<◌, true, false, List, [], ◌∷◌, ◌++◌, length, take, drop, refl, sym, ap, ◌∙◌, arith, rules}
use Rattle.dg_level.specs.Parts.{parts_text, has_parts}
use Rattle.dg_level.specs.Rows.{total}
use Rattle.dg_level.proofs.PartLaws.{parts_added, has_added, parts_pass, text_more, all_texts}
use Rattle.dg_level.proofs.rows.Rows.parts.Goals as goal

pub returns-in_err-part-clause-too_large : goal.returns-in_err-part-clause-too_large
returns-in_err-part-clause-too_large c = λ e.
    let texts = c.args.texts.now in
    let l = c.loop-text in
    let i = l.text-index in
    let text = c.text-item.result in
    let lt : i < length texts = omega (arith, c.loop-text-test.true) in
    let said : c.as_str.result.now ≡ text = c.as_str.ensures in
    let above : l.self.limit < total l.self.rows + length (l.self.begun ++ parts_text l.wrote (c.as_str.result.now ∷ [])) = c.part.ensures.too_large (search rules) in
    let here : c.args.self.now.limit < total c.args.self.now.rows + length (l.self.begun ++ parts_text l.wrote (text ∷ [])) =
    omega (arith, above, ap total l.invariant.2, l.invariant.3, ap (λ (t : List ℕ). length (l.self.begun ++ parts_text l.wrote (t ∷ []))) said) in
    parts_pass c.args.self.now.begun l.self.begun false l.wrote (take i texts) l.invariant.0 l.invariant.1 (text ∷ []) (drop (i + 1) texts) texts (total c.args.self.now.rows) c.args.self.now.limit
    (all_texts texts i text lt c.text-item.is) here

pub loop-text-preserved : goal.loop-text-preserved
loop-text-preserved c =
    let texts = c.args.texts.now in
    let l = c.loop-text in
    let i = l.text-index in
    let text = c.text-item.result in
    let lt : i < length texts = omega (arith, c.loop-text-test.true) in
    let said : c.as_str.result.now ≡ text = c.as_str.ensures in
    let more : take (i + 1) texts ≡ take i texts ++ text ∷ [] = text_more texts i text lt c.text-item.is in
    let added : c.part.new.self.begun ≡ l.self.begun ++ parts_text l.wrote (text ∷ []) = c.in_ok-part.ensures.ok ∙ ap (λ (t : List ℕ). l.self.begun ++ parts_text l.wrote (t ∷ [])) said in (
      parts_added c.args.self.now.begun l.self.begun false l.wrote (take i texts) l.invariant.0 l.invariant.1 (text ∷ []) c.part.new.self.begun added ∙ ap (λ (p : List (List ℕ)). c.args.self.now.begun ++ parts_text false p) (sym more),
      has_added c.args.self.now.begun l.self.begun false l.wrote (take i texts) l.invariant.0 l.invariant.1 (text ∷ []) true refl ∙ ap (has_parts false) (sym more),
      c.part.ensures.rows ∙ l.invariant.2,
      c.part.ensures.limit ∙ l.invariant.3,
    )
