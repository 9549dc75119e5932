-- How much the tokens of a text of at most 1 MiB can be.
use Rattle.std.specs.Prelude.{◌≤◌, List, length}
use Rattle.dg_text.specs.Sizes.{AreSmall}
use Rattle.dg_text.specs.Tokens.{Tok}

-- each token fits such a text, and there are no more of them than its bytes
abbrev pub AreFew : List Tok → Type 0
AreFew tokens = AreSmall tokens × (length tokens ≤ 1048576)
