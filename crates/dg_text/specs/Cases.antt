-- Reading with cases beside the grammar, which refuse a token that was passed. The first place in the text counts.
use Rattle.std.specs.Prelude.{ℕ, Bool, ◌&&◌, List, length, drop, max, Result, Ok, Err, ◌≡◌, ◌==◌, if◌then◌else◌}
use Rattle.dg_text.specs.Tokens.{Tok, is_punct, is_word}
use Rattle.dg_text.specs.Words.{name_meant}
use Rattle.dg_text.specs.Said.{quoted_meant}
use Rattle.dg_text.specs.Reading as plain
use Rattle.dg_text.specs.Reading.{Read, Fails, turns, skip, one_as}
use Rattle.dg_text.specs.declared.reading.ReadError.{ReadError}
use Rattle.dg_text.specs.declared.reading.ReadError.TheVariants as errors
use Rattle.dg_text.specs.declared.passed.Passed.{Passed}

-- What is left, and the earliest place that such a case has refused, or 0. A refused token was passed, so its place is
-- not less than that of any token that is left.
pub record Left : Type 0 where
  pub tokens : List Tok
  pub refused : ℕ

-- what is read of that
abbrev pub Reader : Type 0 → Type 0
Reader A = plain.Reader Left A

-- what a part alone gives, where a place was refused before it
abbrev pub met : {A : Type 0} → ℕ → Read (List Tok) A → Read Left A
met refused (Ok x) = Ok (x.0, record { tokens = x.1; refused = refused })
met refused (Err place) = Err (max refused place)

-- a part of the grammar alone: a fault there is the refusal, unless a case refused an earlier token
abbrev pub part : {A : Type 0} → plain.Reader (List Tok) A → Reader A
part reader left = met left.refused (reader left.tokens)

-- a punctuation byte
abbrev pub mark : ℕ → Reader (Unit {0})
mark byte = part (skip (is_punct byte))

-- a word of the grammar
abbrev pub word : List ℕ → Reader (Unit {0})
word w = part (skip (is_word w))

-- a Name
abbrev pub name : Reader (List ℕ)
name = part (one_as name_meant)

-- what a Quoted says
abbrev pub quoted : Reader (List ℕ)
quoted = part (one_as quoted_meant)

-- a case beside the grammar, at a place that was passed; 0 is no place
abbrev pub also_at : ℕ → Bool → Reader (Unit {0})
also_at place test left = Ok (tt, record { tokens = left.tokens; refused = if test then max left.refused place else left.refused })

-- a case at what comes next, where that begins what the case is about
abbrev pub also_next : (List Tok → Bool) → Bool → Reader (Unit {0})
also_next begins test left = also_at (length left.tokens) (begins left.tokens && test) left

-- the place of what comes next
abbrev pub here : Reader ℕ
here left = Ok (length left.tokens, left)

-- a choice by the next tokens
abbrev pub upon : (List Tok → Bool) → Left → Bool
upon begins left = begins left.tokens

-- a | b: the choice is made by what comes next
abbrev pub choose : {A : Type 0} → (List Tok → Bool) → Reader A → Reader A → Reader A
choose begins first other left = plain.choose (upon begins) first other left

-- [ part ]
abbrev pub optional : {A : Type 0} → (List Tok → Bool) → Reader A → A → Reader A
optional begins reader absent left = plain.optional (upon begins) reader absent left

-- { part }: each part takes one token or more
abbrev pub repeated : {A : Type 0} → (List Tok → Bool) → (A → Reader A) → A → Reader A
repeated begins reader before left = turns (length left.tokens) (upon begins) reader before left

-- all tokens were read and no case refused one, or else the first refused place
abbrev pub ended : {A : Type 0} → Read Left A → Result A ℕ
ended (Ok x) = if length x.1.tokens == 0 && (x.1.refused == 0) then Ok x.0 else Err (max x.1.refused (length x.1.tokens))
ended (Err place) = Err place

-- what is left at a place of all tokens
abbrev pub left_of : List Tok → Passed → Left
left_of all p = record { tokens = drop p.at all; refused = p.refused }

-- What a function returned, seen by view, is what reading gives, unless memory ran out.
abbrev pub Gives : {A B : Type 0} → (A → B) → List Tok → Result (A × Passed) ReadError → Read Left B → Type 0
Gives view all (Ok x) read = read ≡ Ok (view x.0, left_of all x.1)
Gives view all (Err e) read = Fails e read

-- a place, where the test has refused an earlier one
abbrev pub refused_at : Passed → ℕ → Bool → Passed
refused_at p place test = record { at = p.at; refused = if test then max p.refused place else p.refused }

-- a fault, where an earlier place was refused
abbrev pub later : ℕ → ReadError → ReadError
later refused errors.OutOfMemory = errors.OutOfMemory
later refused (errors.Fault place) = errors.Fault (max refused place)
