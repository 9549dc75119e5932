use Rattle.std.proofs.Common.{◌≡◌, ◌+◌, ◌<◌, true, [], ◌∷◌, ◌++◌, length, take, drop, refl, sym, ap, ◌∙◌, arith, rules}
use Rattle.dg_level.specs.Parts.{parts_text, has_parts}
use Rattle.dg_level.specs.Rows.{total}
use Rattle.dg_level.specs.Flats.{flat_texts}
use Rattle.dg_level.proofs.PartLaws.{parts_added, has_added, parts_pass}
use Rattle.dg_level.proofs.FlatTexts.{texts_joined, made_more, all_made}
use Rattle.dg_level.proofs.rows.Rows.flats.Goals as goal

pub returns-in_err-flat-clause-too_large : goal.returns-in_err-flat-clause-too_large
returns-in_err-flat-clause-too_large c = λ e.
    let objects = c.args.objects.now in
    let l = c.loop-object in
    let i = l.object-index in
    let x = c.object-item.result in
    let lt : i < length objects = omega (arith, c.loop-object-test.true) in
    let above : l.self.limit < total l.self.rows + length (l.self.begun ++ parts_text l.wrote (flat_texts (x ∷ []))) = c.flat.ensures.too_large (search rules) in
    let here : c.args.self.now.limit < total c.args.self.now.rows + length (l.self.begun ++ parts_text l.wrote (flat_texts (x ∷ []))) = omega (arith, above, ap total l.invariant.2, l.invariant.3) in
    parts_pass c.args.self.now.begun l.self.begun c.args.before l.wrote (flat_texts (take i objects)) l.invariant.0 l.invariant.1 (flat_texts (x ∷ [])) (flat_texts (drop (i + 1) objects)) (flat_texts objects) (total c.args.self.now.rows) c.args.self.now.limit
    (all_made flat_texts texts_joined objects i x lt c.object-item.is) here

pub loop-object-preserved : goal.loop-object-preserved
loop-object-preserved c =
    let objects = c.args.objects.now in
    let l = c.loop-object in
    let i = l.object-index in
    let x = c.object-item.result in
    let lt : i < length objects = omega (arith, c.loop-object-test.true) in
    let more : flat_texts (take (i + 1) objects) ≡ flat_texts (take i objects) ++ flat_texts (x ∷ []) = made_more flat_texts texts_joined objects i x lt c.object-item.is in (
      parts_added c.args.self.now.begun l.self.begun c.args.before l.wrote (flat_texts (take i objects)) l.invariant.0 l.invariant.1 (flat_texts (x ∷ [])) c.flat.new.self.begun c.in_ok-flat.ensures.ok ∙ ap (λ p. c.args.self.now.begun ++ parts_text c.args.before p) (sym more),
      has_added c.args.self.now.begun l.self.begun c.args.before l.wrote (flat_texts (take i objects)) l.invariant.0 l.invariant.1 (flat_texts (x ∷ [])) true refl ∙ ap (has_parts c.args.before) (sym more),
      c.flat.ensures.rows ∙ l.invariant.2,
      c.flat.ensures.limit ∙ l.invariant.3,
    )
