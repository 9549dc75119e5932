use Rattle.std.proofs.Common.{◌≡◌, ℕ, ◌<◌, List, ◌++◌, length, rules, sym, ap, ◌∙◌, subst}
use Rattle.std.proofs.lemmas.Result.{on_ok_weaker}
use Rattle.dg_parse.specs.declared.query.QField.{QField}
use Rattle.dg_check.specs.declared.parts.Field.{Field}
use Rattle.dg_check.specs.Parts.{AreFieldsOf}
use Rattle.dg_tree.specs.declared.tree.Tree.TheVariants as trees
use Rattle.dg_tree.specs.Texts.{key_text, tree_text, field_text}
use Rattle.dg_level.specs.Aggregates.{aggregates_shown}
use Rattle.dg_level.specs.Shown.{under}
use Rattle.dg_level.proofs.BlockLaws.{named, key_passes}
use Rattle.dg_level.proofs.running.push_values.Goals as goal

pub returns-in_err-key-clause-too_large : goal.returns-in_err-key-clause-too_large
returns-in_err-key-clause-too_large c = λ schema ds is e.
    let block = c.args.block.now in
    let out = c.args.out.now in
    key_passes block.name (trees.Array (aggregates_shown ds c.args.folds.now block.fields)) out 16777216
    (subst (λ (k : List ℕ). 16777216 < length (out ++ key_text k)) c.as_str.ensures (c.key.ensures.too_large (search rules)))

pub returns-clause-ok : goal.returns-clause-ok
returns-clause-ok c = λ schema ds is.
    let block = c.args.block.now in
    let out = c.args.out.now in
    let vars = c.args.folds.now in
    let are : AreFieldsOf schema ds c.as_slice-fields.result.now c.as_slice.result.now =
    subst (λ (qs : List QField). AreFieldsOf schema ds qs c.as_slice.result.now) (sym c.as_slice-fields.ensures) (subst (λ (ks : List Field). AreFieldsOf schema ds block.fields ks) (sym c.as_slice.ensures) is.fields) in
    let keyed : c.key.new.self ≡ out ++ key_text block.name = c.in_ok-key.ensures.ok ∙ ap (λ k. out ++ key_text k) c.as_str.ensures in
    let whole : c.key.new.self ++ tree_text (trees.Array (aggregates_shown ds vars c.as_slice-fields.result.now)) ≡ out ++ field_text (under block.name (trees.Array (aggregates_shown ds vars block.fields))) =
    (λ i. keyed i ++ tree_text (trees.Array (aggregates_shown ds vars (c.as_slice-fields.ensures i)))) ∙ named block.name (trees.Array (aggregates_shown ds vars block.fields)) out in
    on_ok_weaker c.push_aggregates.result (λ e. e ∙ whole) (c.push_aggregates.ensures.ok schema ds are)

pub returns-clause-too_large : goal.returns-clause-too_large
returns-clause-too_large c = λ schema ds is e.
    let block = c.args.block.now in
    let out = c.args.out.now in
    let vars = c.args.folds.now in
    let are : AreFieldsOf schema ds c.as_slice-fields.result.now c.as_slice.result.now =
    subst (λ (qs : List QField). AreFieldsOf schema ds qs c.as_slice.result.now) (sym c.as_slice-fields.ensures) (subst (λ (ks : List Field). AreFieldsOf schema ds block.fields ks) (sym c.as_slice.ensures) is.fields) in
    let keyed : c.key.new.self ≡ out ++ key_text block.name = c.in_ok-key.ensures.ok ∙ ap (λ k. out ++ key_text k) c.as_str.ensures in
    let whole : c.key.new.self ++ tree_text (trees.Array (aggregates_shown ds vars c.as_slice-fields.result.now)) ≡ out ++ field_text (under block.name (trees.Array (aggregates_shown ds vars block.fields))) =
    (λ i. keyed i ++ tree_text (trees.Array (aggregates_shown ds vars (c.as_slice-fields.ensures i)))) ∙ named block.name (trees.Array (aggregates_shown ds vars block.fields)) out in
    subst (λ (w : List ℕ). 16777216 < length w) whole (c.push_aggregates.ensures.too_large schema ds are e)
