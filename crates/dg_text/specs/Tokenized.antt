-- Which token starts a text, and which tokens a text has.
use Rattle.std.specs.Prelude.{◌≡◌, ℕ, ◌+◌, ◌-◌, Bool, not, ◌||◌, ◌==◌, ◌<◌, ◌≤◌, ◌⊎◌, List, [], ◌∷◌, ◌++◌, length, take, drop, IsTrue, IsFalse}
use Rattle.std.specs.List.{concat, list_all, AllByRecursion}
use Rattle.dg_text.specs.Reading.{next}
use Rattle.dg_text.specs.Forms.{Sized, is_short}
use Rattle.dg_text.specs.Language.{HasForm}
use Rattle.dg_text.specs.Lexing.{is_blank}
use Rattle.dg_text.specs.declared.token.Token.{Token}
use Rattle.dg_text.specs.declared.token.TokenKind.{TokenKind}
use Rattle.dg_text.specs.declared.fault.LexFault.{LexFault}
use Rattle.dg_text.specs.declared.fault.LexFault.TheVariants as faults

-- A token of a kind and a length starts a text: so many bytes at its front have the form, no more bytes at its front have
-- the form of any kind, and it isn't too long.
pub record Starts (text : List ℕ) (t : Sized) : Type 0 where
  pub some : 0 < t.1
  pub within : t.1 ≤ length text
  pub form : HasForm t.0 (take t.1 text)
  pub longest : (kind : TokenKind) (n : ℕ) → n ≤ length text → HasForm kind (take n text) → n ≤ t.1
  pub short : IsTrue (is_short t.0 t.1)

-- no token starts a text
abbrev pub NoneStarts : List ℕ → Type 0
NoneStarts text = (t : Sized) → Starts text t → ⊥

-- # and bytes other than line feed
pub record IsComment (text : List ℕ) : Type 0 where
  pub said : List ℕ
  pub each : IsTrue (list_all (λ b. not (b == 10)) said)
  pub is : text ≡ 35 ∷ said

-- one blank
pub record IsBlankPiece (text : List ℕ) : Type 0 where
  pub byte : ℕ
  pub blank : IsTrue (is_blank byte)
  pub is : text ≡ byte ∷ []

-- a comment and its line feed
pub record IsCommentLine (text : List ℕ) : Type 0 where
  pub comment : List ℕ
  pub commented : IsComment comment
  pub is : text ≡ comment ++ 10 ∷ []

-- a blank, or a comment and its line feed
abbrev pub IsGapPiece : List ℕ → Type 0
IsGapPiece text = IsBlankPiece text ⊎ IsCommentLine text

-- a blank or a comment comes first
abbrev pub begins_gap : List ℕ → Bool
begins_gap text = next (λ b. is_blank b || b == 35) text

-- The gap at the front of a text, as long as it can be, leaves a rest: blanks and comments, after which none begins, or of
-- which the last is a comment that runs to the end.
pub record IsGap (text rest : List ℕ) : Type 0 where
  pub pieces : List (List ℕ)
  pub last : List ℕ
  pub each : AllByRecursion IsGapPiece pieces
  pub ends : ((last ≡ []) × IsFalse (begins_gap rest)) ⊎ (IsComment last × (rest ≡ []))
  pub is : text ≡ concat pieces ++ (last ++ rest)

-- The first token of what is left of a text of so many bytes, with its place in the text, and what holds of what is left
-- after it and the gap behind it.
pub record HasFirst (size : ℕ) (left : List ℕ) (t : Token) (More : List ℕ → Type 0) : Type 0 where
  pub len : ℕ
  pub rest : List ℕ
  pub starts : Starts left (t.kind, len)
  pub start : t.start ≡ size - length left
  pub end : t.end ≡ t.start + len
  pub gap : IsGap (drop len left) rest
  pub more : More rest

-- the tokens of what is left of a text of so many bytes, up to an end where no token starts
abbrev pub TokensFrom : ℕ → List Token → List ℕ → List ℕ → Type 0
TokensFrom size [] end left = (left ≡ end) × NoneStarts left
TokensFrom size (t ∷ more) end left = HasFirst size left t (TokensFrom size more end)

-- a gap, then the tokens of a text, each with the gap behind it, and the end, where nothing is left or no token starts
pub record TokensOf (text : List ℕ) (tokens : List Token) (end : List ℕ) : Type 0 where
  pub rest : List ℕ
  pub gap : IsGap text rest
  pub from : TokensFrom (length text) tokens end rest

-- the tokens of a text end at a place before its end
pub record StopsAt (text : List ℕ) (offset : ℕ) : Type 0 where
  pub tokens : List Token
  pub end : List ℕ
  pub are : TokensOf text tokens end
  pub left : 0 < length end
  pub place : offset ≡ length text - length end

-- a fault at a place is where the tokens of a text end
abbrev pub FaultStops : LexFault → List ℕ → Type 0
FaultStops faults.OutOfMemory text = Unit {0}
FaultStops (faults.BadToken offset) text = StopsAt text offset
