use Rattle.std.proofs.Common.{◌≡◌, ◌≢◌, ℕ, ◌+◌, ◌-◌, ◌<◌, ◌≤◌, List, [], ◌∷◌, ◌++◌, length, take, min, Option, refl, ap, sym, subst, ◌∙◌, length-append, arith}
use Rattle.std.proofs.lemmas.List.{length-take, length-take-le, take-take, take_all}
use Rattle.std.specs.Io.KnownBytes.{IsAtEnd}
use Rattle.dg_wire.specs.declared.request.Request.{Request}
use Rattle.dg_wire.specs.Frames.{frame, IsRequest}
use Rattle.dg_wire.specs.Exact.{NoWhole, IsCutFrame}
use Rattle.dg_wire.specs.Reading.{Reading, Answers, taken_of, within_limit, INPUT_LIMIT}
use Rattle.dg_wire.specs.BadFrames.{EndsWithinFrame, IsBroken}

-- of an input that isn't too long, all lies within the limit
within_limit-whole : (reading : Reading) → length (taken_of reading) ≤ INPUT_LIMIT → within_limit reading ≡ reading.rest
within_limit-whole reading short =
    take_all (INPUT_LIMIT - length reading.answered) reading.rest (omega (arith, length-append reading.answered reading.rest))

some_byte : (bytes : List ℕ) → bytes ≢ [] → 0 < length bytes
some_byte [] h = absurd (h refl)
some_byte (b ∷ bytes) h = omega arith

-- where each frame was answered and the source has no more, the input ends within a frame
pub ends_within : (old new : Reading) (left : Option (List ℕ)) → length (taken_of old) ≤ INPUT_LIMIT → IsCutFrame (within_limit old) → NoWhole (within_limit old) → new.answered ≡ old.answered → new.rest ≡ old.rest → new.rest ≢ [] → IsAtEnd left → EndsWithinFrame new left
ends_within old new left short cut none answered rest some end =
    let whole = within_limit-whole old short ∙ sym rest in
    record {
      ended = end;
      not_long = subst (λ (n : ℕ). n ≤ INPUT_LIMIT) (sym (ap length (ap (λ (l : List ℕ). l ++ new.rest) answered ∙ ap (λ (l : List ℕ). old.answered ++ l) rest))) short;
      some = some_byte new.rest some;
      cut = subst IsCutFrame whole cut;
      no_whole = subst NoWhole whole none;
    }

-- where each frame was answered and a read failed, the rest may yet become a frame
pub broken_at : (old new : Reading) → length (taken_of old) ≤ INPUT_LIMIT → IsCutFrame (within_limit old) → NoWhole (within_limit old) → new.answered ≡ old.answered → new.rest ≡ old.rest → IsBroken new
broken_at old new short cut none answered rest =
    let whole = within_limit-whole old short ∙ sym rest in
    record {
      not_long = subst (λ (n : ℕ). n ≤ INPUT_LIMIT) (sym (ap length (ap (λ (l : List ℕ). l ++ new.rest) answered ∙ ap (λ (l : List ℕ). old.answered ++ l) rest))) short;
      cut = subst IsCutFrame whole cut;
      no_whole = subst NoWhole whole none;
    }

-- a front of what lies within the limit is a front of the rest, and ends within the limit
front_within : (reading : Reading) (len : ℕ) → 0 < len → len ≤ length (within_limit reading) → (take len (within_limit reading) ≡ take len reading.rest) × (length reading.answered + len ≤ INPUT_LIMIT) × (len ≤ length reading.rest)
front_within reading len some within =
    let room = INPUT_LIMIT - length reading.answered in
    let taken : length (take room reading.rest) ≡ min room (length reading.rest) = length-take room reading.rest in
    (take-take len room reading.rest (omega (arith, taken)), omega (arith, taken), omega (arith, taken))

-- what is found at the front is the next request
pub answers_next : (start old new : Reading) (request : Request) (len : ℕ) → IsRequest request → 0 < len → len ≤ length (within_limit old) → take len (within_limit old) ≡ frame request → old.answered ≡ start.answered → new.answered ≡ old.answered ++ take len old.rest → Answers start new request
answers_next start old new request len valid some within is begun answered =
    let front = front_within old len some within in
    let grown : length new.answered ≡ length old.answered + len = ap length answered ∙ (length-append old.answered (take len old.rest) ∙ ap (λ (n : ℕ). length old.answered + n) (length-take-le len old.rest front.2)) in
    record {
      valid = valid;
      some = omega (arith, grown, ap length begun);
      next = answered ∙ (ap (λ (l : List ℕ). l ++ take len old.rest) begun ∙ ap (λ (l : List ℕ). start.answered ++ l) (sym front.0 ∙ is));
      within = omega (arith, grown, front.1);
    }
