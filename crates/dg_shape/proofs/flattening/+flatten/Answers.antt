use Rattle.std.proofs.Common.{◌≡◌, ◌<◌, true, false, length, sym, ◌∙◌, rules, arith}
use Rattle.std.specs.Prelude.{bytes_eq, is_some}
use Rattle.std.proofs.lemmas.List.{get_or_default}
use Rattle.dg_parse.specs.Keys.{key_of}
use Rattle.dg_shape.specs.Normalize.{flattened, flattened_item}
use Rattle.dg_shape.proofs.FlattenTurns.{flattened_key, flattened_after, after_last, after_other, after_own}
use Rattle.dg_shape.proofs.flattening.+flatten.Goals as goal

pub flatten_field-returns-then-at-parts : goal.flatten_field-returns-then-at-parts
flatten_field-returns-then-at-parts t c more = after_last c.args.parts.now c.args.made.at (flattened c.args.field.now) more c.args.made.objects.items c.if-at-parts.true

pub flatten_field-returns-then-not-is_key_of : goal.flatten_field-returns-then-not-is_key_of
flatten_field-returns-then-not-is_key_of t c more =
    let f = c.index-parts-at.result in
    let within : c.args.made.at < length c.args.parts.now = omega arith in
    let told : bytes_eq c.index-parts-at.result.key (key_of c.args.field.now) ≡ false = search rules in
    after_other c.args.parts.now c.args.made.at (flattened c.args.field.now) more c.args.made.objects.items f within c.index-parts-at.is
    ((λ i. bytes_eq f.key (flattened_key c.args.field.now i)) ∙ told)

pub flatten_field-returns : goal.flatten_field-returns
flatten_field-returns t c more =
    let f = c.index-parts-at-2.result in
    let first = c.index-parts-at.result in
    let within : c.args.made.at < length c.args.parts.now = omega arith in
    let same : first ≡ f = c.index-parts-at.is ∙ (get_or_default c.args.parts.now c.args.made.at first f within ∙ sym c.index-parts-at-2.is) in
    let told : bytes_eq c.index-parts-at.result.key (key_of c.args.field.now) ≡ true = search rules in
    let made : c.in_ok-objects.objects.items ≡ (flattened_item c.args.field.now.item).after (is_some c.args.field.now.alias) f c.args.made.objects.items = search rules in
    after_own c.args.parts.now c.args.made.at (flattened c.args.field.now) more c.args.made.objects.items f within c.index-parts-at-2.is
    ((λ i. bytes_eq (sym same i).key (flattened_key c.args.field.now i)) ∙ told)
    c.in_ok-objects.objects.items (made ∙ sym (flattened_after c.args.field.now f c.args.made.objects.items))
