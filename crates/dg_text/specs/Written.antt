-- Tokens that are written with a blank behind each.
use Rattle.std.specs.Prelude.{◌≡◌, ℕ, ◌-◌, List, [], ◌∷◌, ◌++◌, map, flat_map, length, slice_range, Ok, IsTrue}
use Rattle.std.specs.List.{AllByRecursion}
use Rattle.dg_text.specs.Forms.{is_short}
use Rattle.dg_text.specs.Language.{HasForm}
use Rattle.dg_text.specs.Lexing.{lexed}
use Rattle.dg_text.specs.Tokens.{Tok, toks_of}
use Rattle.dg_text.specs.declared.token.Token.{Token}
use Rattle.dg_text.specs.declared.token.TokenKind.{TokenKind}
use Rattle.dg_text.specs.declared.token.TokenKind.TheVariants as kinds

-- a token that is written: its kind and all its bytes
abbrev pub Word : Type 0
Word = TokenKind × List ℕ

-- the bytes of a word have the form of its kind, and it isn't too long
pub record IsWord (w : Word) : Type 0 where
  pub form : HasForm w.0 w.1
  pub short : IsTrue (is_short w.0 (length w.1))

-- words one after the other, with a blank behind each
abbrev pub written : List Word → List ℕ
written ws = flat_map (λ w. w.1 ++ 32 ∷ []) ws

-- the kind of a word and its characters as a token; of an Iri those between < and >
abbrev pub word_said : Word → TokenKind × List ℕ
word_said w = (w.0, chars w.0) where
  chars : TokenKind → List ℕ
  chars kinds.Iri = slice_range w.1 1 (length w.1 - 1)
  chars _ = w.1

-- the kind of a token and its characters, wherever it stands
abbrev pub tok_said : Tok → TokenKind × List ℕ
tok_said t = (t.kind, t.text)

-- what is written of words is read as the tokens that they are
abbrev pub WordsAreRead : Type 0
WordsAreRead = (ws : List Word) → AllByRecursion IsWord ws → (tokens : List Token) × ((lexed (written ws) ≡ Ok tokens) × (map tok_said (toks_of (written ws) tokens) ≡ map word_said ws))
