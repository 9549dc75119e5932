use Rattle.std.proofs.Common.{◌≡◌, ◌+◌, ◌<◌, false, ◌++◌, map, length, codes, ap, ◌∙◌, arith, rules}
use Rattle.std.proofs.lemmas.Result.{on_ok_weaker}
use Rattle.dg_tree.specs.Texts.{array_text}
use Rattle.dg_level.specs.Parts.{parts_text}
use Rattle.dg_level.specs.Rows.{total, objects_of}
use Rattle.dg_level.proofs.PartLaws.{front_passes, objects_pass, array_is}
use Rattle.dg_level.proofs.rows.Rows.array.Goals as goal

pub returns-in_err-wrote-clause-too_large : goal.returns-in_err-wrote-clause-too_large
returns-in_err-wrote-clause-too_large c = λ f rows among e.
    let above : c.mark.new.self.limit < total c.mark.new.self.rows + length (c.mark.new.self.begun ++ parts_text false c.args.front.now) = c.parts.ensures.too_large (search rules) in
    front_passes c.args.self.now.begun c.mark.new.self.begun c.args.front.now (objects_of (map f c.args.list.now)) c.in_ok-mark.ensures.ok (total c.args.self.now.rows) c.args.self.now.limit
    (omega (arith, above, ap total c.mark.ensures.rows, c.mark.ensures.limit))

pub returns-in_err-objects-clause-too_large : goal.returns-in_err-objects-clause-too_large
returns-in_err-objects-clause-too_large c = λ f rows among e.
    let objects = objects_of (map f c.args.list.now) in
    let above : c.parts.new.self.limit < total c.parts.new.self.rows + length (c.parts.new.self.begun ++ parts_text c.in_ok-wrote.wrote objects) = c.objects.ensures.too_large f rows among (search rules) in
    objects_pass c.args.self.now.begun c.mark.new.self.begun c.args.front.now objects c.in_ok-mark.ensures.ok c.parts.new.self.begun c.in_ok-wrote.wrote c.in_ok-wrote.ensures.ok c.in_ok-wrote.ensures.wrote
    (total c.args.self.now.rows) c.args.self.now.limit (omega (arith, above, ap total (c.parts.ensures.rows ∙ c.mark.ensures.rows), c.parts.ensures.limit ∙ c.mark.ensures.limit))

pub returns-clause-ok : goal.returns-clause-ok
returns-clause-ok c = λ f rows among.
    let objects = objects_of (map f c.args.list.now) in
    let whole =
    array_is c.args.self.now.begun c.mark.new.self.begun c.args.front.now objects c.in_ok-mark.ensures.ok c.parts.new.self.begun c.in_ok-wrote.wrote c.in_ok-wrote.ensures.ok c.in_ok-wrote.ensures.wrote c.objects.new.self.begun
    (c.in_ok-objects.ensures.ok f rows among) in
    on_ok_weaker c.mark-2.result (λ e. e ∙ whole) c.mark-2.ensures.ok

pub returns-clause-too_large : goal.returns-clause-too_large
returns-clause-too_large c = λ f rows among e.
    let objects = objects_of (map f c.args.list.now) in
    let whole : c.objects.new.self.begun ++ codes "]" ≡ c.args.self.now.begun ++ array_text (c.args.front.now ++ objects) =
    array_is c.args.self.now.begun c.mark.new.self.begun c.args.front.now objects c.in_ok-mark.ensures.ok c.parts.new.self.begun c.in_ok-wrote.wrote c.in_ok-wrote.ensures.ok c.in_ok-wrote.ensures.wrote c.objects.new.self.begun
    (c.in_ok-objects.ensures.ok f rows among) in
    let above : c.objects.new.self.limit < total c.objects.new.self.rows + length (c.objects.new.self.begun ++ codes "]") = c.mark-2.ensures.too_large e in
    omega (arith, above, ap length whole, ap total (c.objects.ensures.rows ∙ c.parts.ensures.rows ∙ c.mark.ensures.rows), c.objects.ensures.limit ∙ c.parts.ensures.limit ∙ c.mark.ensures.limit)
