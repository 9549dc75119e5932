use Rattle.dg_schema.proofs.Listed.{statements_listed}
use Rattle.dg_schema.proofs.WholeListed.{schema_listed}
use Rattle.dg_schema.proofs.laws.statements_are_listed.Goals as goal

pub returns : goal.returns
returns c = record { read = statements_listed; whole = schema_listed }
