use Rattle.std.proofs.Common.{◌≡◌, ◌+◌, ◌<◌, false, ◌++◌, flat_map, length, codes, ap, ◌∙◌, arith, rules}
use Rattle.std.proofs.lemmas.Result.{on_ok_weaker}
use Rattle.dg_tree.specs.Texts.{array_text}
use Rattle.dg_level.specs.Parts.{parts_text}
use Rattle.dg_level.specs.Rows.{total}
use Rattle.dg_level.specs.Flats.{flat_texts}
use Rattle.dg_level.proofs.FlatTexts.{array_whole, array_passes}
use Rattle.dg_level.proofs.rows.Rows.flat_array.Goals as goal

pub returns-in_err-flats_of-clause-too_large : goal.returns-in_err-flats_of-clause-too_large
returns-in_err-flats_of-clause-too_large c = λ f level among e.
    let texts = flat_texts (flat_map f c.args.list.now) in
    let above : c.mark.new.self.limit < total c.mark.new.self.rows + length (c.mark.new.self.begun ++ parts_text false texts) = c.flats_of.ensures.too_large f level among (search rules) in
    array_passes c.args.self.now.begun c.mark.new.self.begun texts c.in_ok-mark.ensures.ok (total c.args.self.now.rows) c.args.self.now.limit (omega (arith, above, ap total c.mark.ensures.rows, c.mark.ensures.limit))

pub returns-clause-ok : goal.returns-clause-ok
returns-clause-ok c = λ f level among.
    let texts = flat_texts (flat_map f c.args.list.now) in
    let whole = array_whole c.args.self.now.begun c.mark.new.self.begun texts c.in_ok-mark.ensures.ok c.flats_of.new.self.begun (c.in_ok-flats_of.ensures.ok f level among) in
    on_ok_weaker c.mark-2.result (λ e. e ∙ whole) c.mark-2.ensures.ok

pub returns-clause-too_large : goal.returns-clause-too_large
returns-clause-too_large c = λ f level among e.
    let texts = flat_texts (flat_map f c.args.list.now) in
    let whole : c.flats_of.new.self.begun ++ codes "]" ≡ c.args.self.now.begun ++ array_text texts =
    array_whole c.args.self.now.begun c.mark.new.self.begun texts c.in_ok-mark.ensures.ok c.flats_of.new.self.begun (c.in_ok-flats_of.ensures.ok f level among) in
    let above : c.flats_of.new.self.limit < total c.flats_of.new.self.rows + length (c.flats_of.new.self.begun ++ codes "]") = c.mark-2.ensures.too_large e in
    omega (arith, above, ap length whole, ap total (c.flats_of.ensures.rows ∙ c.mark.ensures.rows), c.flats_of.ensures.limit ∙ c.mark.ensures.limit)
