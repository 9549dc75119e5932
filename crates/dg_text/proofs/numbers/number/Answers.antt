use Rattle.std.proofs.Common.{◌∙◌}
use Rattle.dg_values.proofs.Numerals.{parsed}
use Rattle.dg_text.proofs.numbers.number.Goals as goal

pub returns : goal.returns
returns c = c.ok.ensures.value ∙ parsed c.args.text.now _ c.parse.ensures.value.0
