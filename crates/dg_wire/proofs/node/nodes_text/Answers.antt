use Rattle.std.proofs.Common.{ap, ◌∙◌, arith}
use Rattle.dg_wire.specs.Draws.{Drawing}
use Rattle.dg_wire.proofs.NodeLemmas.{node_more}
use Rattle.dg_wire.proofs.node.nodes_text.Goals as goal

pub loop-before-preserved : goal.loop-before-preserved
loop-before-preserved c = record {
  text = node_more c.args.draws.now.seed c.args.size c.args.done c.loop-before.before c.loop-before.draws.seed _ _ _ c.loop-before.invariant.text c.loop-before.invariant.seed (c.as_bytes.ensures.value ∙ c.in_ok-node.ensures.text) c.in_ok-push_node.ensures;
  seed = ap (λ (d : Drawing). d.seed) c.next_node.ensures.drawn ∙ c.loop-before.invariant.seed;
  made = ap (λ (d : Drawing). d.made) c.next_node.ensures.drawn ∙ omega arith;
}
