use Rattle.std.proofs.Common.{◌≡◌, ◌++◌, map}
use Rattle.dg_graph.specs.declared.change.Change.TheVariants.{Del}
use Rattle.dg_edges.proofs.expanding.push_deletes.Given as goal

abbrev pub invariant-loop-o : goal.invariant-loop-o
invariant-loop-o l = l.changes.items ++ map (λ o. Del (record { s = l.s; p = l.p; o = o })) l.o-iterator.rest.items ≡ l.fn.changes.items ++ map (λ o. Del (record { s = l.s; p = l.p; o = o })) l.fn.objects.items
