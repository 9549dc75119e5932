use Rattle.std.proofs.Common.{◌≡◌, ◌++◌, string_bytes}
use Rattle.std.specs.Str.Iter.{chars_rest}
use Rattle.dg_text.specs.Spelling.{slashed}
use Rattle.dg_print.proofs.words.slashed_text.Given as goal

abbrev pub invariant-loop-c : goal.invariant-loop-c
invariant-loop-c l = string_bytes l.out ++ slashed (chars_rest l.c-iterator) ≡ slashed l.fn.pattern
