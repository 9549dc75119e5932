use Rattle.dg_upsert.proofs.PlainLaws.{have_no_variable, stand_as_they_are}
use Rattle.dg_upsert.proofs.laws.given_statements.Goals as goal

pub returns : goal.returns
returns c = record { plain = have_no_variable; same = stand_as_they_are }
