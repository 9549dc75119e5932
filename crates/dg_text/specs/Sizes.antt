-- Tokens of a text of at most 1 MiB.
use Rattle.std.specs.Prelude.{◌≤◌, List, length}
use Rattle.std.specs.List.{AllByRecursion}
use Rattle.dg_text.specs.Tokens.{Tok}

-- the token's characters and its place fit such a text
pub record IsSmall (t : Tok) : Type 0 where
  pub text : length t.text ≤ 1048576
  pub start : t.start ≤ 1048576

-- each of them fits
abbrev pub AreSmall : List Tok → Type 0
AreSmall ts = AllByRecursion IsSmall ts
