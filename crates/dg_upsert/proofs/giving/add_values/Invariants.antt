use Rattle.std.proofs.Common.{◌≡◌, ◌++◌, flat_map, take}
use Rattle.dg_nquad.specs.declared.mutation.Node.TheVariants as nodes
use Rattle.dg_nquad.specs.declared.mutation.Object.TheVariants as objects
use Rattle.dg_upsert.specs.Meaning.{of_subject}
use Rattle.dg_upsert.proofs.giving.add_values.Given as goal

abbrev pub invariant-loop-uid : goal.invariant-loop-uid
invariant-loop-uid l = l.out.items ≡ l.initial.out.items ++ flat_map (λ uid. of_subject l.known.names l.known.vars.now.variables l.statement.delete l.statement.p (objects.Val l.variable) (nodes.Uid uid)) (take l.uid-index l.subjects)
