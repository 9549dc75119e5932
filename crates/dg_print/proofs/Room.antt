-- Room for brackets in what is left, and what reading leaves of it.
use Rattle.std.proofs.Common.{◌≡◌, ℕ, zero, suc, ◌+◌, ◌-◌, ◌≤◌, Bool, true, false, List, [], ◌∷◌, Option, Some, None, Ok, Err, refl, sym, ap, subst, ◌∙◌, arith}
use Rattle.std.specs.Prelude.{IfOk, nat_lt, if◌then◌else◌}
use Rattle.std.proofs.lemmas.Bool.{eqb-true}
use Rattle.std.proofs.lemmas.Bool.Decides.{nat_tests}
use Rattle.dg_text.specs.Brackets.{opens, closes, counted, deep_from, too_deep}
use Rattle.dg_text.specs.Reading.{Read, Reader, and_then, choose, optional, turns, skip, meant, one_as, ◌>>=◌}
use Rattle.dg_text.specs.Tokens.{Tok, is_punct}
use Rattle.dg_text.specs.declared.token.TokenKind.{TokenKind}
use Rattle.dg_text.specs.declared.token.TokenKind.TheVariants as kinds

-- before each token that is left there is room for a bracket more, where so many more may be open
abbrev pub Fits : ℕ → List Tok → Type 0
Fits r [] = Unit {0}
Fits r (t ∷ rest) = (less : ℕ) × (less + counted (opens t) 0 ≡ r + counted (closes t) 0) × Fits less rest

-- ---- from the test of a whole text

counted_is : (test : Bool) (n : ℕ) → counted test n ≡ n + counted test 0
counted_is true n = omega arith
counted_is false n = omega arith

module _ (m o c : ℕ) (t : Tok) (rest : List Tok) where
  few : (test : Bool) → nat_lt m (counted (opens t) o - counted (closes t) c) ≡ test → deep_from m o c (t ∷ rest) ≡ None → test ≡ false
  unfolding deep_from
  few false e h = refl
  few true e h = absurd (let h' = rw e at h in cc h')

  goes_on : nat_lt m (counted (opens t) o - counted (closes t) c) ≡ false → deep_from m o c (t ∷ rest) ≡ None → deep_from m (counted (opens t) o) (counted (closes t) c) rest ≡ None
  unfolding deep_from
  goes_on e h = rw e at h

fits_from : (m o c r : ℕ) (tokens : List Tok) → r + o ≡ m + c → deep_from m o c tokens ≡ None → Fits r tokens
fits_from m o c r [] e h = tt
fits_from m o c r (t ∷ rest) e h =
    let o2 : ℕ = counted (opens t) o in
    let c2 : ℕ = counted (closes t) c in
    let test : nat_lt m (o2 - c2) ≡ false = few m o c t rest (nat_lt m (o2 - c2)) refl h in
    let le : o2 - c2 ≤ m = grind (arith, nat_tests, test) in
    let eo : o2 ≡ o + counted (opens t) 0 = counted_is (opens t) o in
    let ec : c2 ≡ c + counted (closes t) 0 = counted_is (closes t) c in
    (m + c2 - o2, omega (arith, le, eo, ec, e), fits_from m o2 c2 (m + c2 - o2) rest (omega (arith, le)) (goes_on m o c t rest test h))

-- tokens with at most so many open brackets
pub fits : (n : ℕ) (tokens : List Tok) → too_deep n tokens ≡ None → Fits n tokens
fits n tokens h = fits_from n 0 0 n tokens (omega arith) h

-- ---- what a reader leaves

-- of what is left after reading, where something is read
abbrev pub IfRead : {S A : Type 0} → (S → Type 0) → Read S A → Type 0
IfRead P read = IfOk read (λ x. P x.1)

-- one more, where a bracket was closed that was open before
abbrev pub raised : Bool → ℕ → ℕ
raised false r = r
raised true r = suc r

-- there is room, and one less than before
abbrev pub Less : ℕ → List Tok → Type 0
Less r tokens = (less : ℕ) × (r ≡ suc less) × Fits less tokens

pub in_turn : {S A B : Type 0} (P Q : S → Type 0) (read : Read S A) (more : A → Reader S B) → IfRead P read → ((x : A) (left : S) → P left → IfRead Q (more x left)) → IfRead Q (and_then read more)
in_turn P Q (Ok x) more p follows = follows x.0 x.1 p
in_turn P Q (Err place) more p follows = tt

one_of : {S A : Type 0} (P : S → Type 0) (test : Bool) (a b : Read S A) → IfRead P a → IfRead P b → IfRead P (if test then a else b)
one_of P true a b h k = h
one_of P false a b h k = k

module _ {S : Type 0} (rest : S → List Tok) where
  -- as many brackets are closed as are opened, and one more where that is said
  abbrev pub Ends : {A : Type 0} → Bool → Reader S A → Type 0
  Ends more reader = (r : ℕ) (left : S) → Fits r (rest left) → IfRead (λ after. Fits (raised more r) (rest after)) (reader left)

  -- a bracket is opened
  abbrev pub Opens : {A : Type 0} → Reader S A → Type 0
  Opens reader = (r : ℕ) (left : S) → Fits r (rest left) → IfRead (λ after. Less r (rest after)) (reader left)

module _ {S : Type 0} (rest : S → List Tok) {A B : Type 0} (reader : Reader S A) (more : A → Reader S B) where
  pub chain : (b : Bool) → Ends rest false reader → ((x : A) → Ends rest b (more x)) → Ends rest b (reader >>= more)
  chain b one follows r left f = in_turn (λ l. Fits r (rest l)) (λ l. Fits (raised b r) (rest l)) (reader left) more (one r left f) (λ x l g. follows x r l g)

  pub inside : Opens rest reader → ((x : A) → Ends rest true (more x)) → Ends rest false (reader >>= more)
  inside one follows r left f =
      in_turn (λ l. Less r (rest l)) (λ l. Fits r (rest l)) (reader left) more (one r left f)
      (λ x l g. subst (λ (n : ℕ). IfRead (λ after. Fits n (rest after)) (more x l)) (sym g.1) (follows x g.0 l g.2))

  pub closing : Ends rest true reader → ((x : A) → Ends rest false (more x)) → Ends rest true (reader >>= more)
  closing one follows r left f = in_turn (λ l. Fits (suc r) (rest l)) (λ l. Fits (suc r) (rest l)) (reader left) more (one r left f) (λ x l g. follows x (suc r) l g)

module _ {S : Type 0} (rest : S → List Tok) {A : Type 0} where
  pub either : (b : Bool) (begins : S → Bool) (first other : Reader S A) → Ends rest b first → Ends rest b other → Ends rest b (choose begins first other)
  either b begins first other h k r left f = one_of (λ l. Fits (raised b r) (rest l)) (begins left) (first left) (other left) (h r left f) (k r left f)

  pub maybe : (begins : S → Bool) (reader : Reader S A) (absent : A) → Ends rest false reader → Ends rest false (optional begins reader absent)
  maybe begins reader absent h r left f = one_of (λ l. Fits r (rest l)) (begins left) (reader left) (Ok (absent, left)) (h r left f) f

  pub turned : (begins : S → Bool) (part : A → Reader S A) → ((x : A) → Ends rest false (part x)) → (n : ℕ) (before : A) → Ends rest false (turns n begins part before)
  unfolding turns
  turned begins part h zero before r left f = f
  turned begins part h (suc n) before r left f =
      one_of (λ l. Fits r (rest l)) (begins left) (and_then (part before left) (turns n begins part)) (Ok (before, left))
      (in_turn (λ l. Fits r (rest l)) (λ l. Fits r (rest l)) (part before left) (turns n begins part) (h before r left f) (λ x l g. turned begins part h n x r l g))
      f

-- ---- single tokens

-- the Punct of a byte
abbrev pub punct : ℕ → List ℕ → ℕ → Tok
punct b text start = record { kind = kinds.Punct b; text = text; start = start }

-- no Punct means something
abbrev pub NoPunct : {A : Type 0} → (Tok → Option A) → Type 0
NoPunct meaning = (b : ℕ) (text : List ℕ) (start : ℕ) → meaning (punct b text start) ≡ None

-- no Punct is such
abbrev pub IsNoPunct : (Tok → Bool) → Type 0
IsNoPunct test = (b : ℕ) (text : List ℕ) (start : ℕ) → test (punct b text start) ≡ false

abbrev pub all : List Tok → List Tok
all left = left

passed : (r : ℕ) (t : Tok) (left : List Tok) → opens t ≡ false → closes t ≡ false → Fits r (t ∷ left) → Fits r left
passed r t left o c f =
    let e : f.0 ≡ r = omega (arith, f.1, ap (λ (b : Bool). counted b 0) o, ap (λ (b : Bool). counted b 0) c) in
    subst (λ (n : ℕ). Fits n left) e f.2

given : {A : Type 0} (P : List Tok → Type 0) (o : Option A) (whole left : List Tok) → P left → IfRead P (meant o whole left)
given P None whole left p = tt
given P (Some x) whole left p = p

none_given : {A : Type 0} (P : List Tok → Type 0) (o : Option A) (whole left : List Tok) → o ≡ None → IfRead P (meant o whole left)
none_given P None whole left e = tt
none_given P (Some x) whole left e = absurd (cc e)

module _ {A : Type 0} (meaning : Tok → Option A) (none : NoPunct meaning) where
  by_kind : (k : TokenKind) (text : List ℕ) (start r : ℕ) (left : List Tok) → Fits r (record { kind = k; text = text; start = start } ∷ left)
      → IfRead (λ l. Fits r l) (meant (meaning (record { kind = k; text = text; start = start })) (record { kind = k; text = text; start = start } ∷ left) left)
  by_kind (kinds.Punct b) text start r left f = none_given (λ l. Fits r l) (meaning (punct b text start)) _ left (none b text start)
  by_kind kinds.Name text start r left f = given (λ l. Fits r l) _ _ left (passed r (record { kind = kinds.Name; text = text; start = start }) left refl refl f)
  by_kind kinds.Int text start r left f = given (λ l. Fits r l) _ _ left (passed r (record { kind = kinds.Int; text = text; start = start }) left refl refl f)
  by_kind kinds.Uid text start r left f = given (λ l. Fits r l) _ _ left (passed r (record { kind = kinds.Uid; text = text; start = start }) left refl refl f)
  by_kind kinds.Quoted text start r left f = given (λ l. Fits r l) _ _ left (passed r (record { kind = kinds.Quoted; text = text; start = start }) left refl refl f)
  by_kind kinds.Iri text start r left f = given (λ l. Fits r l) _ _ left (passed r (record { kind = kinds.Iri; text = text; start = start }) left refl refl f)
  by_kind kinds.Blank text start r left f = given (λ l. Fits r l) _ _ left (passed r (record { kind = kinds.Blank; text = text; start = start }) left refl refl f)
  by_kind kinds.At text start r left f = given (λ l. Fits r l) _ _ left (passed r (record { kind = kinds.At; text = text; start = start }) left refl refl f)
  by_kind kinds.Regex text start r left f = given (λ l. Fits r l) _ _ left (passed r (record { kind = kinds.Regex; text = text; start = start }) left refl refl f)
  by_kind kinds.Caret text start r left f = given (λ l. Fits r l) _ _ left (passed r (record { kind = kinds.Caret; text = text; start = start }) left refl refl f)

  -- a token that means something
  pub one : Ends all false (one_as meaning)
  one r [] f = tt
  one r (t ∷ left) f = by_kind t.kind t.text t.start r left f

-- what skipping a token leaves
skipped : (P : List Tok → Type 0) (test : Bool) (n : ℕ) (left : List Tok) → (test ≡ true → P left) → IfRead {A = Unit {0}} P (if test then Ok (tt, left) else Err n)
skipped P true n left h = h refl
skipped P false n left h = tt

module _ (test : Tok → Bool) where
  plain_kind : IsNoPunct test → (k : TokenKind) (text : List ℕ) (start r : ℕ) (left : List Tok) → Fits r (record { kind = k; text = text; start = start } ∷ left)
      → test (record { kind = k; text = text; start = start }) ≡ true → Fits r left
  plain_kind none (kinds.Punct b) text start r left f e = absurd (let h = sym (none b text start) ∙ e in cc h)
  plain_kind none kinds.Name text start r left f e = passed r (record { kind = kinds.Name; text = text; start = start }) left refl refl f
  plain_kind none kinds.Int text start r left f e = passed r (record { kind = kinds.Int; text = text; start = start }) left refl refl f
  plain_kind none kinds.Uid text start r left f e = passed r (record { kind = kinds.Uid; text = text; start = start }) left refl refl f
  plain_kind none kinds.Quoted text start r left f e = passed r (record { kind = kinds.Quoted; text = text; start = start }) left refl refl f
  plain_kind none kinds.Iri text start r left f e = passed r (record { kind = kinds.Iri; text = text; start = start }) left refl refl f
  plain_kind none kinds.Blank text start r left f e = passed r (record { kind = kinds.Blank; text = text; start = start }) left refl refl f
  plain_kind none kinds.At text start r left f e = passed r (record { kind = kinds.At; text = text; start = start }) left refl refl f
  plain_kind none kinds.Regex text start r left f e = passed r (record { kind = kinds.Regex; text = text; start = start }) left refl refl f
  plain_kind none kinds.Caret text start r left f e = passed r (record { kind = kinds.Caret; text = text; start = start }) left refl refl f

  -- a token that is no bracket
  pub over : IsNoPunct test → Ends all false (skip test)
  over none r [] f = tt
  over none r (t ∷ left) f = skipped (λ l. Fits r l) (test t) _ left (λ e. plain_kind none t.kind t.text t.start r left f e)

-- a Punct that is this byte
is_byte : (byte : ℕ) (k : TokenKind) (text : List ℕ) (start : ℕ) → is_punct byte (record { kind = k; text = text; start = start }) ≡ true
    → (C : Tok → Type 0) → C (punct byte text start) → C (record { kind = k; text = text; start = start })
is_byte byte (kinds.Punct b) text start e C h = subst (λ (n : ℕ). C (punct n text start)) (sym (eqb-true b byte e)) h
is_byte byte kinds.Name text start e C h = absurd (cc e)
is_byte byte kinds.Int text start e C h = absurd (cc e)
is_byte byte kinds.Uid text start e C h = absurd (cc e)
is_byte byte kinds.Quoted text start e C h = absurd (cc e)
is_byte byte kinds.Iri text start e C h = absurd (cc e)
is_byte byte kinds.Blank text start e C h = absurd (cc e)
is_byte byte kinds.At text start e C h = absurd (cc e)
is_byte byte kinds.Regex text start e C h = absurd (cc e)
is_byte byte kinds.Caret text start e C h = absurd (cc e)

abbrev opens_byte : ℕ → Bool
opens_byte b = opens (punct b [] 0)

abbrev closes_byte : ℕ → Bool
closes_byte b = closes (punct b [] 0)

module _ (byte : ℕ) where
  -- whether this byte opens and closes, of a token that is this byte
  known : (t : Tok) → is_punct byte t ≡ true → (opens t ≡ opens_byte byte) × (closes t ≡ closes_byte byte)
  known t e = is_byte byte t.kind t.text t.start e (λ t. (opens t ≡ opens_byte byte) × (closes t ≡ closes_byte byte)) (refl, refl)

  -- a Punct that is no bracket
  pub sign : opens_byte byte ≡ false → closes_byte byte ≡ false → Ends all false (skip (is_punct byte))
  sign o c r [] f = tt
  sign o c r (t ∷ left) f = skipped (λ l. Fits r l) (is_punct byte t) _ left (λ e. let k = known t e in passed r t left (k.0 ∙ o) (k.1 ∙ c) f)

  -- a bracket that opens
  pub opening : opens_byte byte ≡ true → closes_byte byte ≡ false → Opens all (skip (is_punct byte))
  opening o c r [] f = tt
  opening o c r (t ∷ left) f = skipped (λ l. Less r l) (is_punct byte t) _ left (λ e.
      let k = known t e in
      let ko : opens t ≡ true = k.0 ∙ o in
      let kc : closes t ≡ false = k.1 ∙ c in
      (f.0, omega (arith, f.1, ap (λ (b : Bool). counted b 0) ko, ap (λ (b : Bool). counted b 0) kc), f.2))

  -- a bracket that closes
  pub shut : opens_byte byte ≡ false → closes_byte byte ≡ true → Ends all true (skip (is_punct byte))
  shut o c r [] f = tt
  shut o c r (t ∷ left) f = skipped (λ l. Fits (suc r) l) (is_punct byte t) _ left (λ e.
      let k = known t e in
      let ko : opens t ≡ false = k.0 ∙ o in
      let kc : closes t ≡ true = k.1 ∙ c in
      subst (λ (n : ℕ). Fits n left) (omega (arith, f.1, ap (λ (b : Bool). counted b 0) ko, ap (λ (b : Bool). counted b 0) kc)) f.2)

pub open_round_opens : Opens all (skip (is_punct 40))
open_round_opens = opening 40 refl refl

pub close_round_shuts : Ends all true (skip (is_punct 41))
close_round_shuts = shut 41 refl refl

pub open_curly_opens : Opens all (skip (is_punct 123))
open_curly_opens = opening 123 refl refl

pub close_curly_shuts : Ends all true (skip (is_punct 125))
close_curly_shuts = shut 125 refl refl

pub open_square_opens : Opens all (skip (is_punct 91))
open_square_opens = opening 91 refl refl

pub close_square_shuts : Ends all true (skip (is_punct 93))
close_square_shuts = shut 93 refl refl
