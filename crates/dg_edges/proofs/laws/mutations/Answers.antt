use Rattle.dg_edges.proofs.ExpandLaws.{expanded_fits}
use Rattle.dg_edges.proofs.ResolveLaws.{resolves_once}
use Rattle.dg_edges.proofs.laws.mutations.Goals as goal

pub returns-clause-once : goal.returns-clause-once
returns-clause-once c = resolves_once

pub returns-clause-fitting : goal.returns-clause-fitting
returns-clause-fitting c = expanded_fits
