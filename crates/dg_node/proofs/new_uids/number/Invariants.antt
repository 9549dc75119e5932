use Rattle.std.proofs.Common.{◌≡◌, ◌+◌, length}
use Rattle.dg_node.specs.NewUids.{numbered}
use Rattle.dg_node.proofs.new_uids.number.Given as goal

abbrev pub invariant-loop-name : goal.invariant-loop-name
invariant-loop-name l = record {
  nodes : l.nodes.items ≡ numbered l.fn.first l.yielded;
  uid : l.uid ≡ l.fn.first + length l.yielded;
}
