use Rattle.std.proofs.Common.{◌≡◌, ◌∷◌, ◌++◌, take}
use Rattle.std.specs.Prelude.{flat_map}
use Rattle.dg_text.specs.Spelling.{mark_word}
use Rattle.dg_text.specs.Written.{written}
use Rattle.dg_print.specs.Printed.{node_words}
use Rattle.dg_print.proofs.functions.push_more_nodes.Given as goal

abbrev pub invariant-loop-node : goal.invariant-loop-node
invariant-loop-node l = l.out ≡ l.fn.out ++ written (flat_map (λ x. mark_word 44 ∷ node_words x) (take l.node-index l.more))
