use Rattle.std.proofs.Common.{◌≡◌, ℕ, List, IfOk, subst}
use Rattle.std.specs.String.{string_bytes}
use Rattle.dg_wire.proofs.NodeLemmas.{node_drawn}
use Rattle.dg_wire.proofs.node.next_node.Goals as goal

pub returns-clause-text : goal.returns-clause-text
returns-clause-text c =
    let is = node_drawn c.args.size c.args.done c.below-name.result c.below-age.result c.below-friend.result c.args.draws.now c.below-name.new.self c.below-age.new.self c.requires.made c.below-name.ensures.made c.below-age.ensures.made c.below-name.ensures.value c.below-age.ensures.value c.below-friend.ensures.value in
    subst (λ (l : List ℕ). IfOk c.node_text.result (λ text. string_bytes text ≡ l)) is c.node_text.ensures
