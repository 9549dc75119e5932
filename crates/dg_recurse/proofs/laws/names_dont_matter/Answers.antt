use Rattle.dg_recurse.proofs.NameLaws.{names_dont_matter}
use Rattle.dg_recurse.proofs.laws.names_dont_matter.Goals as goal

pub returns : goal.returns
returns c = names_dont_matter
