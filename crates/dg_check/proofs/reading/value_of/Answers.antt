use Rattle.std.proofs.Common.{Err, ap, ◌∙◌}
use Rattle.dg_check.proofs.LiteralLaws.{some_told, none_told}
use Rattle.dg_check.proofs.reading.value_of.Goals as goal

pub returns-in-Ok : goal.returns-in-Ok
returns-in-Ok c = some_told c.args.kind c.args.literal.now c.read_value.result c.in-Ok.value c.read_value.ensures.value c.in-Ok.is

pub returns-in-Err-BadLiteral : goal.returns-in-Err-BadLiteral
returns-in-Err-BadLiteral c = none_told c.args.kind c.args.literal.now c.read_value.result c.read_value.ensures.bad (c.in-Err-BadLiteral.is ∙ ap Err c.in-Err-BadLiteral.field-0-is)
