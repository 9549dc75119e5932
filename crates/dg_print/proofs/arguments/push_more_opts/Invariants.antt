use Rattle.std.proofs.Common.{◌≡◌, ◌∷◌, ◌++◌, take}
use Rattle.std.specs.Prelude.{flat_map}
use Rattle.dg_text.specs.Spelling.{mark_word}
use Rattle.dg_text.specs.Written.{written}
use Rattle.dg_print.specs.Printed.{opt_words}
use Rattle.dg_print.proofs.arguments.push_more_opts.Given as goal

abbrev pub invariant-loop-option : goal.invariant-loop-option
invariant-loop-option l = l.out ≡ l.fn.out ++ written (flat_map (λ o. mark_word 44 ∷ opt_words o) (take l.option-index l.options))
