use Rattle.std.proofs.Common.{◌≡◌, take}
use Rattle.std.specs.Prelude.{filter_map}
use Rattle.dg_graph.specs.Lookups.{pointed_by}
use Rattle.dg_graph.proofs.found.pointed_to.Given as goal

abbrev pub invariant-loop-triple : goal.invariant-loop-triple
invariant-loop-triple l = l.found.items ≡ filter_map (pointed_by l.p) (take l.triple-index l.triples)
