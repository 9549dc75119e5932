use Rattle.std.proofs.Common.{◌≡◌, ◌∷◌, ◌++◌, take}
use Rattle.std.specs.Prelude.{flat_map}
use Rattle.dg_text.specs.Spelling.{mark_word}
use Rattle.dg_text.specs.Written.{written}
use Rattle.dg_print.specs.Printed.{lit_words}
use Rattle.dg_print.proofs.functions.push_more_literals.Given as goal

abbrev pub invariant-loop-literal : goal.invariant-loop-literal
invariant-loop-literal l = l.out ≡ l.fn.out ++ written (flat_map (λ x. mark_word 44 ∷ lit_words x) (take l.literal-index l.more))
