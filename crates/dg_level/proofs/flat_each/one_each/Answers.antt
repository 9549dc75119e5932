use Rattle.std.proofs.Common.{◌<◌, [], ◌∷◌, ◌++◌, length, sym, ◌∙◌, arith}
use Rattle.std.proofs.lemmas.List.{map_more}
use Rattle.dg_level.proofs.flat_each.one_each.Goals as goal

pub loop-node-preserved : goal.loop-node-preserved
loop-node-preserved c =
    let i = c.loop-node._node-index in
    let lt : i < length c.args.nodes.now = omega (arith, c.loop-node-test.true) in
    c.in_ok-push.ensures.items ∙ ((λ j. c.loop-node.invariant j ++ c.in_ok-one.ensures j ∷ []) ∙ sym (map_more (λ n. [] ∷ []) c.args.nodes.now i 0 lt))
