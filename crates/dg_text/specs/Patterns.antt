-- The patterns of Regex tokens.
use Rattle.std.specs.Prelude.{◌≡◌, ℕ, Bool, false, ◌&&◌, eqb, List, [], ◌∷◌, Option, None, is_some, unwrap_or, if◌then◌else◌, ◌==◌}
use Rattle.std.specs.Option.{option_map, option_and_then}
use Rattle.std.specs.List.{AllByRecursion}
use Rattle.dg_text.specs.Said.{after, before}
use Rattle.dg_text.specs.Tokens.{Tok, is_regex}

-- none of these is a slash
abbrev pub Lacks : List ℕ → Type 0
Lacks bytes = AllByRecursion (λ b. eqb b 47 ≡ false) bytes

-- whether a byte stands at the front
abbrev pub begins_with : ℕ → List ℕ → Bool
begins_with byte [] = false
begins_with byte (b ∷ rest) = b == byte

-- a text without each backslash that stands directly before a slash
unfoldable pub unslashed : List ℕ → List ℕ
unslashed [] = []
unslashed (b ∷ rest) = if b == 92 && begins_with 47 rest then unslashed rest else b ∷ unslashed rest

-- a text without `i` at its end
abbrev pub without_i : List ℕ → List ℕ
without_i text = unwrap_or (before 105 text) text

-- the text of a Regex between its slashes
abbrev pub between_slashes : List ℕ → Option (List ℕ)
between_slashes text = option_and_then (λ rest. before 47 (without_i rest)) (after 47 text)

-- the pattern of a Regex, and whether it goes without regard to case
abbrev pub regex_meant : Tok → Option (List ℕ × Bool)
regex_meant t = if is_regex t then option_map (λ inner. (unslashed inner, is_some (before 105 t.text))) (between_slashes t.text) else None
