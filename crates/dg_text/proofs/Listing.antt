-- A repeated part that adds one member a turn reads exactly the lists whose members stand one after the other.
use Rattle.std.proofs.Common.{◌≡◌, ◌↔◌, ℕ, zero, suc, ◌≤◌, ◌<◌, Bool, true, false, List, [], ◌∷◌, ◌++◌, length, length-append, append_assoc, append-nil, refl, sym, ap, subst, ◌∙◌, arith, inl, inr}
use Rattle.std.specs.Prelude.{Ok, Err}
use Rattle.std.proofs.lemmas.Bool.{cases_Bool}
use Rattle.dg_text.specs.Reading.{Read, Reader, and_then, turns, repeated}
use Rattle.dg_text.specs.Listed.{AreListed}
use Rattle.dg_text.proofs.Leaving.{Shorter}

-- one member was added, and its tokens were taken
pub record Adds {E S : Type 0} (before x : List S) (left rest : List E) : Type 0 where
  pub member : S
  pub is : x ≡ before ++ member ∷ []
  pub shorter : Shorter left rest

-- each turn adds one
pub record AddsOne {E S : Type 0} (begins : List E → Bool) (part : List S → Reader (List E) (List S)) : Type 0 where
  pub one : (before x : List S) (left rest : List E) → part before left ≡ Ok (x, rest) → Adds before x left rest
  pub none : begins [] ≡ false

append_same : {S : Type 0} (before a b : List S) → before ++ a ≡ before ++ b → a ≡ b
append_same [] a b e = e
append_same (x ∷ before) a b e = let rest : before ++ a ≡ before ++ b = cc in append_same before a b rest

less : {E : Type 0} (left rest : List E) → Shorter left rest → length rest < length left
less left rest s = omega (arith, s.some, ap length s.ends.is, length-append s.ends.tokens rest)

-- what was read, as a list
pub record Listed {E S : Type 0} (begins : List E → Bool) (part : List S → Reader (List E) (List S)) (before x : List S) (end left : List E) : Type 0 where
  pub all : List S
  pub is : x ≡ before ++ all
  pub are : AreListed begins part before all end left

-- the parts of what was read
abbrev value_or : {E A : Type 0} → A → Read (List E) A → A
value_or d (Ok x) = x.0
value_or d (Err place) = d

abbrev left_or : {E A : Type 0} → List E → Read (List E) A → List E
left_or d (Ok x) = x.1
left_or d (Err place) = d

module _ {E S : Type 0} (begins : List E → Bool) (part : List S → Reader (List E) (List S)) where
  no_turn : (n : ℕ) (before : List S) (left : List E) → begins left ≡ false → turns n begins part before left ≡ Ok (before, left)
  unfolding turns
  no_turn zero before left b = refl
  no_turn (suc n) before left b = rw b refl

  one_turn : (n : ℕ) (before x : List S) (left rest : List E) → begins left ≡ true → part before left ≡ Ok (x, rest) → turns (suc n) begins part before left ≡ turns n begins part x rest
  unfolding turns
  one_turn n before x left rest b e = rw (b, e) refl

  back : (all before : List S) (n : ℕ) (end left : List E) → length left ≤ n → AreListed begins part before all end left → turns n begins part before left ≡ Ok (before ++ all, end)
  back [] before n end left le a =
      no_turn n before left (subst (λ (l : List E). begins l ≡ false) (sym a.0) a.1) ∙ (λ i. Ok (sym (append-nil before) i, a.0 i))
  back (s ∷ all) before zero end left le a = absurd (omega (arith, le, a.some, ap length a.is, length-append a.tokens a.rest))
  back (s ∷ all) before (suc n) end left le a =
      one_turn n before (before ++ s ∷ []) left a.rest a.begun a.read
      ∙ back all (before ++ s ∷ []) n end a.rest (omega (arith, le, a.some, ap length a.is, length-append a.tokens a.rest)) a.more
      ∙ ap (λ (l : List S). Ok (l, end)) (append_assoc before (s ∷ []) all)

  -- such a list is read, whatever else the part reads
  pub listed_read : (before all : List S) (end left : List E) → AreListed begins part before all end left → repeated begins part before left ≡ Ok (before ++ all, end)
  listed_read before all end left a = back all before (length left) end left (omega arith) a

module _ {E S : Type 0} (begins : List E → Bool) (part : List S → Reader (List E) (List S)) (adds : AddsOne begins part) where
  nothing : (before x : List S) (end left : List E) → begins left ≡ false → ◌≡◌ {A = Read (List E) (List S)} (Ok (before, left)) (Ok (x, end)) → Listed begins part before x end left
  nothing before x end left b e =
      let same : before ≡ x = ap (value_or before) e in
      let at_end : left ≡ end = ap (left_or left) e in
      record { all = []; is = sym same ∙ sym (append-nil before); are = (at_end, subst (λ (l : List E). begins l ≡ false) at_end b) }

  -- one member, and those behind it
  joined : (before x y : List S) (end left rest : List E) → begins left ≡ true → part before left ≡ Ok (y, rest) → Adds before y left rest → Listed begins part y x end rest → Listed begins part before x end left
  joined before x y end left rest b e a more = record {
    all = a.member ∷ more.all;
    is = more.is ∙ ap (λ (l : List S). l ++ more.all) a.is ∙ append_assoc before (a.member ∷ []) more.all;
    are = record {
      tokens = a.shorter.ends.tokens;
      rest = rest;
      some = a.shorter.some;
      is = a.shorter.ends.is;
      begun = b;
      read = e ∙ ap (λ (l : List S). Ok (l, rest)) a.is;
      more = subst (λ (l : List S). AreListed begins part l more.all end rest) a.is more.are;
    };
  }

  after_turn : (n : ℕ) (before x : List S) (end left : List E) (r : Read (List E) (List S))
      → ((y : List S) (rest : List E) → length rest ≤ n → turns n begins part y rest ≡ Ok (x, end) → Listed begins part y x end rest)
      → length left ≤ suc n → begins left ≡ true → part before left ≡ r → and_then r (turns n begins part) ≡ Ok (x, end) → Listed begins part before x end left
  after_turn n before x end left (Ok y) again le b e h =
      let a = adds.one before y.0 left y.1 e in
      joined before x y.0 end left y.1 b e a (again y.0 y.1 (omega (arith, le, less left y.1 a.shorter)) h)
  after_turn n before x end left (Err place) again le b e h = absurd (cc)

  -- what is read up to a list's end is such a list
  pub listed : (n : ℕ) (before x : List S) (end left : List E) → length left ≤ n → turns n begins part before left ≡ Ok (x, end) → Listed begins part before x end left
  unfolding turns
  listed zero before x end [] le h = nothing before x end [] adds.none h
  listed zero before x end (t ∷ left) le h = absurd (omega arith)
  listed (suc n) before x end left le h =
      elim (cases_Bool (begins left)) [
        | inl y1 ↦ after_turn n before x end left (part before left) (λ y rest le' h'. listed n y x end rest le' h') le y1 refl (rw y1 at h)
        | inr n1 ↦ nothing before x end left n1 (rw n1 at h)
      ]

  -- what is read is such a list
  pub is_listed : (before all : List S) (end left : List E) → repeated begins part before left ≡ Ok (before ++ all, end) → AreListed begins part before all end left
  is_listed before all end left h =
      let found = listed (length left) before (before ++ all) end left (omega arith) h in
      subst (λ (l : List S). AreListed begins part before l end left) (append_same before found.all all (sym found.is)) found.are

  pub lists : (before all : List S) (end left : List E) → (repeated begins part before left ≡ Ok (before ++ all, end)) ↔ AreListed begins part before all end left
  lists before all end left = (is_listed before all end left, listed_read begins part before all end left)
