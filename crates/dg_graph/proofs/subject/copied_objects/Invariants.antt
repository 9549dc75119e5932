use Rattle.std.proofs.Common.{◌≡◌, map, take}
use Rattle.dg_graph.proofs.subject.copied_objects.Given as goal

abbrev pub invariant-loop-triple : goal.invariant-loop-triple
invariant-loop-triple l = l.objects.items ≡ map (λ t. t.o) (take l.triple-index l.triples)
