use Rattle.std.proofs.Common.{◌≡◌, ◌<◌, List, length, arith, sym, ap, ◌∙◌, subst}
use Rattle.std.specs.Prelude.{option_copied}
use Rattle.dg_parse.specs.declared.query.QBlock.{QBlock}
use Rattle.dg_parse.specs.declared.query.QField.{QField}
use Rattle.dg_check.specs.declared.parts.Field.{Field}
use Rattle.dg_check.specs.declared.parts.Parts.{Parts}
use Rattle.dg_check.specs.Parts.{IsBlockOf, AreFieldsOf}
use Rattle.dg_level.specs.Aggregates.{fields_beyond}
use Rattle.dg_level.specs.Meaning.{first_name}
use Rattle.dg_level.proofs.AggregatePlans.{none_more, first_found, some_mapped}
use Rattle.dg_level.proofs.BlockMeanings.{as_many}
use Rattle.dg_level.proofs.RunLaws.{block_at}
use Rattle.dg_level.proofs.aggregates.sum_beyond.Goals as goal

pub returns-then-at-kept : goal.returns-then-at-kept
returns-then-at-kept c = λ schema ds are. absurd (omega (arith, c.loop-at-test.true, c.if-at-kept.true, as_many schema ds c.args.blocks.now c.args.kept.now are))

pub returns-then-is_some : goal.returns-then-is_some
returns-then-is_some c = λ schema ds are.
    let vars = c.args.folds.now in
    let blocks = c.args.blocks.now in
    let i = c.loop-at.at in
    let block = c.index-blocks-at.result in
    let part = c.index-kept-at.result in
    let lt : i < length blocks = omega (arith, c.loop-at-test.true) in
    let is : IsBlockOf schema ds block part = block_at schema ds blocks c.args.kept.now i block part are lt c.index-blocks-at.is c.index-kept-at.is in
    let slices : first_name (fields_beyond ds vars c.as_slice-fields.result.now) ≡ first_name (fields_beyond ds vars block.fields) = ap (λ fs. first_name (fields_beyond ds vars fs)) c.as_slice-fields.ensures in
    let same : c.as_slice.result.now ≡ part.fields = c.as_slice.ensures ∙ ap (λ (p : Parts). p.fields) (sym c.index-kept-at.is) in
    let inside : AreFieldsOf schema ds c.as_slice-fields.result.now c.as_slice.result.now = subst (λ (qs : List QField). AreFieldsOf schema ds qs c.as_slice.result.now) (sym c.as_slice-fields.ensures) (subst (λ (ks : List Field). AreFieldsOf schema ds block.fields ks) (sym same) is.fields) in
    let found : option_copied c.beyond_in_fields-found.result ≡ first_name (fields_beyond ds vars block.fields) = c.beyond_in_fields-found.ensures schema ds inside ∙ slices in
    first_found (λ (b : QBlock). fields_beyond ds vars b.fields) blocks i block lt c.index-blocks-at.is (c.loop-at.invariant schema ds are) _ found (some_mapped _ c.beyond_in_fields-found.result ∙ sym c.is_some.ensures ∙ c.if-is_some.true)

pub loop-at-preserved : goal.loop-at-preserved
loop-at-preserved c = λ schema ds are.
    let vars = c.args.folds.now in
    let blocks = c.args.blocks.now in
    let i = c.loop-at.at in
    let block = c.index-blocks-at.result in
    let part = c.index-kept-at.result in
    let lt : i < length blocks = omega (arith, c.loop-at-test.true) in
    let is : IsBlockOf schema ds block part = block_at schema ds blocks c.args.kept.now i block part are lt c.index-blocks-at.is c.index-kept-at.is in
    let slices : first_name (fields_beyond ds vars c.as_slice-fields.result.now) ≡ first_name (fields_beyond ds vars block.fields) = ap (λ fs. first_name (fields_beyond ds vars fs)) c.as_slice-fields.ensures in
    let same : c.as_slice.result.now ≡ part.fields = c.as_slice.ensures ∙ ap (λ (p : Parts). p.fields) (sym c.index-kept-at.is) in
    let inside : AreFieldsOf schema ds c.as_slice-fields.result.now c.as_slice.result.now = subst (λ (qs : List QField). AreFieldsOf schema ds qs c.as_slice.result.now) (sym c.as_slice-fields.ensures) (subst (λ (ks : List Field). AreFieldsOf schema ds block.fields ks) (sym same) is.fields) in
    let found : option_copied c.beyond_in_fields-found.result ≡ first_name (fields_beyond ds vars block.fields) = c.beyond_in_fields-found.ensures schema ds inside ∙ slices in
    none_more (λ (b : QBlock). fields_beyond ds vars b.fields) blocks i block lt c.index-blocks-at.is (c.loop-at.invariant schema ds are) _ found (some_mapped _ c.beyond_in_fields-found.result ∙ sym c.is_some.ensures ∙ c.if-is_some.false)
