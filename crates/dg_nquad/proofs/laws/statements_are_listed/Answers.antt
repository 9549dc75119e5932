use Rattle.dg_nquad.proofs.Listed.{statements_listed}
use Rattle.dg_nquad.proofs.PlainListed.{plain_listed}
use Rattle.dg_nquad.proofs.laws.statements_are_listed.Goals as goal

pub returns : goal.returns
returns c = record { read = statements_listed; plain = plain_listed }
