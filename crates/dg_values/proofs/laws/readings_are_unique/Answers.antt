use Rattle.dg_values.proofs.Readings.{unique}
use Rattle.dg_values.proofs.laws.readings_are_unique.Goals as goal

pub returns : goal.returns
returns c = unique
