use Rattle.std.proofs.Common.{◌≡◌, ◌++◌, take}
use Rattle.dg_text.specs.Spelling.{name_word}
use Rattle.dg_text.specs.Written.{written}
use Rattle.dg_print.specs.Printed.{between_words}
use Rattle.dg_print.specs.PrintedUpsert.{shown}
use Rattle.dg_print.specs.Printing.{words_in}
use Rattle.dg_print.proofs.conditions.+printed.Given as goal

abbrev pub invariant-push_joined-loop-place : goal.invariant-push_joined-loop-place
invariant-push_joined-loop-place l = l.out ≡ l.fn.out ++ written (between_words (name_word l.word) (λ c. words_in l.within (shown c)) (take l.place l.conditions))
