-- What a token of a text is known to be: what it says can be written as a word that says the same.
use Rattle.std.proofs.Common.{◌≡◌, ℕ, Bool, true, List}
use Rattle.std.specs.Prelude.{ℤ, Option, Some}
use Rattle.std.specs.List.{AllByRecursion}
use Rattle.dg_text.specs.Patterns.{regex_meant}
use Rattle.dg_text.specs.Said.{quoted_meant, int_meant, uid_meant}
use Rattle.dg_text.specs.Tokens.{Tok, is_name, is_blank}
use Rattle.dg_text.specs.declared.token.TokenKind.TheVariants as kinds
use Rattle.dg_text.specs.Quoting.{quoted_word}
use Rattle.dg_text.specs.Spelling.{uid_word, name_word, int_word, regex_word}
use Rattle.dg_text.specs.Written.{Word, IsWord}

-- a word that means this wherever it stands
pub record IsSpelled {A : Type 0} (meaning : Tok → Option A) (w : Word) (x : A) : Type 0 where
  pub word : IsWord w
  pub reads : (start : ℕ) → meaning (record { kind = w.0; text = w.1; start = start }) ≡ Some x

-- what a token says can be written
pub record IsFormed (t : Tok) : Type 0 where
  pub name : is_name t ≡ true → IsWord (name_word t.text)
  pub number : (z : ℤ) → int_meant t ≡ Some z → IsSpelled int_meant (int_word z) z
  pub node : (n : ℕ) → uid_meant t ≡ Some n → IsSpelled uid_meant (uid_word n) n
  pub pattern : (r : List ℕ × Bool) → regex_meant t ≡ Some r → IsSpelled regex_meant (regex_word r.0 r.1) r
  pub blank : is_blank t ≡ true → IsWord (kinds.Blank, t.text)
  pub text : (x : List ℕ) → IsSpelled quoted_meant (quoted_word x) x

-- each of them
abbrev pub AreFormed : List Tok → Type 0
AreFormed tokens = AllByRecursion IsFormed tokens
