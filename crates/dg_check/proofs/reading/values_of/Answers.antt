use Rattle.std.proofs.Common.{rules, ◌≡◌, ◌<◌, length, get_or, [], ◌∷◌, ◌++◌, ap, ◌∙◌}
use Rattle.dg_values.specs.Scanning.{value_of_text}
use Rattle.dg_check.proofs.LiteralLaws.{values_more, all_more}
use Rattle.dg_check.proofs.reading.values_of.Goals as goal

pub loop-literal-preserved : goal.loop-literal-preserved
loop-literal-preserved c =
    let i = c.loop-literal.literal-index in
    let lits = c.args.literals.now in
    let lit = c.literal-item.result in
    let found = c.in_ok-value_of.field-0 in
    let lt : i < length lits = search rules in
    let told : found ≡ value_of_text c.args.kind (get_or lits i lit) = c.in_ok-value_of.ensures ∙ ap (value_of_text c.args.kind) (c.as_str.ensures ∙ c.literal-item.is) in
    let pushed : c.push.new.self.items ≡ c.loop-literal.values.items ++ c.in-Some.value ∷ [] = search rules in
    record {
      all = all_more c.args.kind lits i lit c.in-Some.value found lt c.loop-literal.invariant.all told c.in-Some.is;
      values = values_more c.args.kind lits i lit c.loop-literal.values.items c.push.new.self.items c.in-Some.value found lt c.loop-literal.invariant.values told c.in-Some.is pushed;
    }
