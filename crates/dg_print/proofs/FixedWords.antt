-- The words of the grammar, and its signs, are words.
use Rattle.std.proofs.Common.{◌≡◌, ℕ, Bool, true, false, List, [], ◌∷◌, length, ap, refl}
use Rattle.std.specs.Prelude.{◌&&◌, nat_le, map}
use Rattle.std.specs.List.{AllByRecursion, list_all, concat}
use Rattle.std.proofs.lemmas.Bool.{false≢true}
use Rattle.dg_text.specs.Forms.{is_letter, is_word_byte, is_punct_byte}
use Rattle.dg_text.specs.Language.{IsNamePiece, IsName}
use Rattle.dg_text.specs.Spelling.{name_word, at_word, mark_word}
use Rattle.dg_text.specs.Written.{IsWord}

-- a letter, and then letters and digits, and not too many
abbrev pub is_plain : List ℕ → Bool
is_plain [] = false
is_plain (b ∷ rest) = is_letter b && (list_all is_word_byte rest && nat_le (length (b ∷ rest)) 64)

pub and_first : (a b : Bool) → (a && b) ≡ true → a ≡ true
and_first true b e = refl
and_first false b e = e

pub and_second : (a b : Bool) → (a && b) ≡ true → b ≡ true
and_second true b e = e
and_second false b e = absurd (false≢true e)

alone : List ℕ → List (List ℕ)
alone bytes = map (λ b. b ∷ []) bytes

pieces_are : (bytes : List ℕ) → bytes ≡ concat (alone bytes)
unfolding alone
pieces_are [] = refl
pieces_are (b ∷ rest) = ap (λ l. b ∷ l) (pieces_are rest)

pieces_of : (bytes : List ℕ) → list_all is_word_byte bytes ≡ true → AllByRecursion IsNamePiece (alone bytes)
unfolding alone
pieces_of [] e = tt
pieces_of (b ∷ rest) e = (and_first (is_word_byte b) (list_all is_word_byte rest) e, pieces_of rest (and_second (is_word_byte b) (list_all is_word_byte rest) e))

plain_name : (text : List ℕ) → is_plain text ≡ true → IsName text
plain_name [] e = absurd (false≢true e)
plain_name (b ∷ rest) e =
    let more : (list_all is_word_byte rest && nat_le (length (b ∷ rest)) 64) ≡ true = and_second (is_letter b) _ e in
    record {
      first = b;
      pieces = alone rest;
      begins = and_first (is_letter b) _ e;
      each = pieces_of rest (and_first (list_all is_word_byte rest) _ more);
      is = ap (λ l. b ∷ l) (pieces_are rest);
    }

short_name : (text : List ℕ) → is_plain text ≡ true → nat_le (length text) 64 ≡ true
short_name [] e = absurd (false≢true e)
short_name (b ∷ rest) e = and_second (list_all is_word_byte rest) _ (and_second (is_letter b) _ e)

-- a word of the grammar
pub fixed : (text : List ℕ) → is_plain text ≡ true → IsWord (name_word text)
fixed text e = record { form = plain_name text e; short = short_name text e }

-- a word with its @
pub fixed_at : (text : List ℕ) → is_plain text ≡ true → nat_le (length (64 ∷ text)) 65 ≡ true → IsWord (at_word (64 ∷ text))
fixed_at text e le = record { form = record { name = text; named = plain_name text e; is = refl }; short = le }

-- a sign
pub sign : (b : ℕ) → is_punct_byte b ≡ true → IsWord (mark_word b)
sign b e = record { form = record { alone = e; is = refl }; short = refl }
