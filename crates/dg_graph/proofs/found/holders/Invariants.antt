use Rattle.std.proofs.Common.{◌≡◌, true, map, take}
use Rattle.std.specs.Prelude.{◌&&◌, filter}
use Rattle.dg_graph.specs.Graphs.{is_of}
use Rattle.dg_graph.proofs.found.holders.Given as goal

abbrev pub invariant-loop-triple : goal.invariant-loop-triple
invariant-loop-triple l = l.found.items ≡ map (λ t. t.s) (filter (λ t. is_of l.p t && true) (take l.triple-index l.triples))
