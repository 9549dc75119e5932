use Rattle.std.proofs.Common.{Ok}
use Rattle.dg_edges.specs.Resolving.{Resolves}
use Rattle.dg_edges.proofs.resolving.resolve.Given as goal

-- the statements so far are checked to be the edges so far
abbrev pub invariant-loop-statement : goal.invariant-loop-statement
invariant-loop-statement l = Resolves l.schema l.yielded (Ok l.edges.items)
