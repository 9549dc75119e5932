use Rattle.std.proofs.Common.{◌∙◌}
use Rattle.dg_level.proofs.known.known_values.Goals as goal

pub returns-in-Values : goal.returns-in-Values
returns-in-Values c = λ values knows. c.values_among.ensures values (c.as_slice.ensures ∙ knows _ _ c.in-Values.is)
