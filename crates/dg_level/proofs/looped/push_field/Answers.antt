use Rattle.std.proofs.Common.{◌≡◌, ◌+◌, ◌<◌, List, map, length, sym, ap, ◌∙◌, subst}
use Rattle.std.specs.Prelude.{option_map}
use Rattle.std.proofs.lemmas.Result.{on_ok_weaker}
use Rattle.dg_tree.specs.declared.tree.Field.{Field}
use Rattle.dg_tree.specs.Texts.{field_text}
use Rattle.dg_level.specs.Rows.{total, with_fields}
use Rattle.dg_level.specs.Shown.{under}
use Rattle.dg_level.specs.Looping.{piece_from, piece_fields, lists_as}
use Rattle.dg_level.proofs.LoopLaws.{no_leads}
use Rattle.dg_level.proofs.looped.push_field.Goals as goal

pub returns-in-None-clause-ok : goal.returns-in-None-clause-ok
returns-in-None-clause-ok g c = λ nodes piece at is here below among.
    let node = c.args.node in
    let leads = no_leads nodes is.leads (ap (option_map lists_as) (sym c.in-None.is) ∙ is.lists_are) in
    let e : map (under is.name) (is.shown node) ≡ piece_fields at (piece node) = sym (ap (piece_fields at) (is.piece_is node ∙ ap (λ l. piece_from is.name is.shown l node) leads)) in
    on_ok_weaker c.push_column.result (λ x. x ∙ ap (λ (fs : List Field). with_fields c.args.rows.now.begun (map field_text fs)) e) (c.push_column.ensures.ok is.name nodes is.shown (c.as_str-key.ensures ∙ is.key_is) (is.by nodes) here)

pub returns-in-None-clause-too_large : goal.returns-in-None-clause-too_large
returns-in-None-clause-too_large g c = λ nodes piece at is here below among err.
    let node = c.args.node in
    let leads = no_leads nodes is.leads (ap (option_map lists_as) (sym c.in-None.is) ∙ is.lists_are) in
    let e : map (under is.name) (is.shown node) ≡ piece_fields at (piece node) = sym (ap (piece_fields at) (is.piece_is node ∙ ap (λ l. piece_from is.name is.shown l node) leads)) in
    subst (λ (fs : List Field). c.args.rows.now.limit < total c.args.rows.now.rows + length (with_fields c.args.rows.now.begun (map field_text fs))) e
    (c.push_column.ensures.too_large is.name nodes is.shown (c.as_str-key.ensures ∙ is.key_is) (is.by nodes) here err)
