use Rattle.std.proofs.Common.{◌≡◌, ◌++◌, map, take}
use Rattle.dg_nquad.specs.declared.mutation.Object.TheVariants as objects
use Rattle.dg_upsert.specs.Meaning.{with_objects}
use Rattle.dg_upsert.proofs.giving.add_ends.Given as goal

abbrev pub invariant-loop-end : goal.invariant-loop-end
invariant-loop-end l = l.out.items ≡ l.initial.out.items ++ with_objects l.statement.delete l.statement.p l.subject (map objects.Node (take l.end-index l.ends))
