use Rattle.std.proofs.Common.{◌≡◌, ◌++◌, ◌∷◌, string_bytes}
use Rattle.std.specs.Prelude.{flat_map}
use Rattle.std.specs.Str.Iter.{chars_rest}
use Rattle.dg_text.specs.Quoting.{quoted_byte}
use Rattle.dg_text.proofs.quoting.quoted.Given as goal

abbrev pub invariant-loop-c : goal.invariant-loop-c
invariant-loop-c l = string_bytes l.out ++ flat_map quoted_byte (chars_rest l.c-iterator) ≡ 34 ∷ flat_map quoted_byte l.fn.text
