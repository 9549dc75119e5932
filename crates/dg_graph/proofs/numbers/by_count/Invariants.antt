use Rattle.std.proofs.Common.{◌≡◌, take}
use Rattle.std.specs.Prelude.{filter}
use Rattle.dg_graph.specs.Lookups.{has_number}
use Rattle.dg_graph.proofs.numbers.by_count.Given as goal

abbrev pub invariant-loop-n : goal.invariant-loop-n
invariant-loop-n l = l.found.items ≡ filter (has_number l.graph l.p l.reverse l.low l.high) (take l.n-index l.n-items)
