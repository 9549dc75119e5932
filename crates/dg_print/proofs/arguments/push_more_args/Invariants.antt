use Rattle.std.proofs.Common.{◌≡◌, ◌∷◌, ◌++◌, take}
use Rattle.std.specs.Prelude.{flat_map}
use Rattle.dg_text.specs.Spelling.{mark_word}
use Rattle.dg_text.specs.Written.{written}
use Rattle.dg_print.specs.Printed.{arg_words}
use Rattle.dg_print.proofs.arguments.push_more_args.Given as goal

abbrev pub invariant-loop-arg : goal.invariant-loop-arg
invariant-loop-arg l = l.out ≡ l.fn.out ++ written (flat_map (λ a. mark_word 44 ∷ arg_words a) (take l.arg-index l.args))
