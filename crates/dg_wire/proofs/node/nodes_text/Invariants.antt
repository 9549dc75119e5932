use Rattle.std.proofs.Common.{◌≡◌, ◌+◌, ◌*◌}
use Rattle.std.specs.List.{join_with_byte}
use Rattle.dg_wire.specs.Generator.{nodes_behind}
use Rattle.dg_wire.proofs.node.nodes_text.Given as goal

-- the nodes so far
abbrev pub invariant-loop-before : goal.invariant-loop-before
invariant-loop-before l = record {
  text : l.text.items ≡ join_with_byte 10 (nodes_behind l.fn.draws.seed l.size l.done l.before);
  seed : l.draws.seed ≡ l.fn.draws.seed;
  made : l.draws.made ≡ 3 * (l.done + l.before);
}
