use Rattle.std.proofs.Common.{◌≡◌, flat_map, take}
use Rattle.dg_upsert.specs.Meaning.{mutation_means}
use Rattle.dg_upsert.proofs.giving.mutations_mean.Given as goal

abbrev pub invariant-loop-mutation : goal.invariant-loop-mutation
invariant-loop-mutation l = l.all.items ≡ flat_map (mutation_means l.known.names l.known.vars.now.variables) (take l.mutation-index l.mutations)
