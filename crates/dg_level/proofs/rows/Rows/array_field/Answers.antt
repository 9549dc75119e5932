use Rattle.std.proofs.Common.{◌≡◌, ℕ, ◌+◌, ◌<◌, true, false, List, ◌++◌, map, length, sym, ◌∙◌, subst, rules}
use Rattle.dg_tree.specs.Texts.{array_text}
use Rattle.dg_level.specs.Parts.{has_parts}
use Rattle.dg_level.specs.Rows.{total, objects_of, with_fields}
use Rattle.dg_level.proofs.PartLaws.{array_shown}
use Rattle.dg_level.proofs.rows.Rows.array_field.Goals as goal

pub returns-in_err-begin_field-clause-too_large : goal.returns-in_err-begin_field-clause-too_large
returns-in_err-begin_field-clause-too_large c = λ f rows among e.
    let items = c.args.front.now ++ objects_of (map f c.args.list.now) in
    let yes : c.has_items.result ≡ true = search rules in
    let there : has_parts false items ≡ true = sym (c.has_items.ensures f rows among) ∙ yes in
    subst (λ (a : List (List ℕ)). c.args.self.now.limit < total c.args.self.now.rows + length (with_fields c.args.self.now.begun (map (λ (array : List ℕ). c.args.key.now ++ array) a))) (sym (array_shown items there))
    (c.begin_field.ensures.too_large (array_text items) (search rules))
