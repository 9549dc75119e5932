use Rattle.dg_wire.proofs.SpellingLemmas.{spelling_unique}
use Rattle.dg_wire.proofs.laws.requests_are_unique.Goals as goal

pub returns : goal.returns
returns c = spelling_unique
