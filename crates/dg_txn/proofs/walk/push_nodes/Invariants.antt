use Rattle.std.proofs.Common.{◌≡◌, ◌++◌, take}
use Rattle.std.specs.Prelude.{filter_map}
use Rattle.dg_graph.specs.Lookups.{node_in}
use Rattle.dg_txn.proofs.walk.push_nodes.Given as goal

abbrev pub invariant-loop-posting : goal.invariant-loop-posting
invariant-loop-posting l = l.found.items ≡ l.initial.found.items ++ filter_map node_in (take l.posting-index l.list)
