-- The token that starts a text.
use Rattle.std.proofs.Common.{◌≡◌, ◌↔◌, ℕ, ◌≤◌, ◌<◌, Bool, true, false, cond, ◌==◌, nat_lt, ◌⊎◌, inl, inr, List, [], ◌∷◌, ◌++◌, length, take, drop, length-append, take-append-drop, refl, sym, ap, subst, ◌∙◌, arith}
use Rattle.std.specs.Prelude.{Option, Some, None}
use Rattle.std.specs.List.{concat, AllByRecursion}
use Rattle.std.specs.Char.{is_ascii_digit}
use Rattle.std.proofs.Math.Seq.{take-append_seam}
use Rattle.std.proofs.lemmas.Bool.{ltb-true, ltb-false}
use Rattle.std.proofs.lemmas.Grind.{common_steps}
use Rattle.dg_text.specs.declared.token.TokenKind.{TokenKind}
use Rattle.dg_text.specs.declared.token.TokenKind.TheVariants as kinds
use Rattle.dg_text.specs.Reading.{next}
use Rattle.dg_text.specs.Forms.{Sized, longer, longest, is_short, whole, token_at, is_letter, is_word_byte, is_punct_byte, first_byte, name_len, int_len, uid_len, quoted_len, regex_len, at_len, iri_len, blank_len, caret_len, punct_len}
use Rattle.dg_text.specs.Language.{AreSome, HasForm, IsName, IsInt, IsPunct, IsNamePiece}
use Rattle.dg_text.specs.Tokenized.{Starts, NoneStarts}
use Rattle.dg_text.proofs.Fronts.{Found, some_from, positive, first_and_more}
use Rattle.dg_text.proofs.NameForm.{name_found, name_most, at_found, at_most}
use Rattle.dg_text.proofs.RunForms.{int_found, int_most, uid_found, uid_most, blank_found, blank_most, iri_found, iri_most, caret_found, caret_most, punct_found, punct_most}
use Rattle.dg_text.proofs.EscapeForm.{length_taken}
use Rattle.dg_text.proofs.ClosedForms.{quoted_found, quoted_most, regex_found, regex_most}

-- ---- the kind of a text that has a form

-- the kind by the first two bytes
abbrev pub kind_of : List ℕ → TokenKind
kind_of [] = kinds.Caret
kind_of (b ∷ rest) =
    cond (is_letter b) (cond (next (λ c. c == 58) rest) kinds.Blank kinds.Name)
    (cond (is_ascii_digit b) (cond (next (λ c. c == 120) rest) kinds.Uid kinds.Int)
    (cond (is_punct_byte b) (kinds.Punct b)
    (cond (b == 45) kinds.Int
    (cond (b == 34) kinds.Quoted
    (cond (b == 47) kinds.Regex
    (cond (b == 64) kinds.At
    (cond (b == 60) kinds.Iri kinds.Caret)))))))

-- no piece of a Name begins with a colon
no_colon : (pieces : List (List ℕ)) → AllByRecursion IsNamePiece pieces → next (λ c. c == 58) (concat pieces) ≡ false
no_colon [] a = refl
no_colon ([] ∷ pieces) a = absurd a.0
no_colon ((b ∷ []) ∷ pieces) a = word b a.0
  where
    word : (b : ℕ) → is_word_byte b ≡ true → (b == 58) ≡ false
    word b h = grind (arith, common_steps)
no_colon ((b ∷ c ∷ []) ∷ pieces) a = subst (λ (x : ℕ). (x == 58) ≡ false) (sym a.0.0) refl
no_colon ((b ∷ c ∷ d ∷ piece) ∷ pieces) a = absurd a.0

not_letter : (b : ℕ) → is_ascii_digit b ≡ true → is_letter b ≡ false
not_letter b h = grind (arith, common_steps)

not_x : (b : ℕ) → is_ascii_digit b ≡ true → (b == 120) ≡ false
not_x b h = grind (arith, common_steps)

punct_apart : (b : ℕ) → is_punct_byte b ≡ true → (is_letter b ≡ false) × (is_ascii_digit b ≡ false)
punct_apart b h = (grind (arith, common_steps), grind (arith, common_steps))

digits_kind : (text : List ℕ) → AreSome is_ascii_digit text → kinds.Int ≡ kind_of text
digits_kind [] a = absurd (omega (arith, a.some))
digits_kind (b ∷ []) a =
    let d = first_and_more is_ascii_digit b [] a.each in
    rw (not_letter b d.0, d.0) refl
digits_kind (b ∷ c ∷ rest) a =
    let d = first_and_more is_ascii_digit b (c ∷ rest) a.each in
    let e = first_and_more is_ascii_digit c rest d.1 in
    rw (not_letter b d.0, d.0, not_x c e.0) refl

name_kind : (text : List ℕ) → IsName text → kinds.Name ≡ kind_of text
name_kind text n = subst (λ (t : List ℕ). kinds.Name ≡ kind_of t) (sym n.is) (rw (n.begins, no_colon n.pieces n.each) refl)

int_kind : (text : List ℕ) → IsInt text → kinds.Int ≡ kind_of text
int_kind text (inl a) = digits_kind text a
int_kind text (inr n) = subst (λ (t : List ℕ). kinds.Int ≡ kind_of t) (sym n.is) refl

punct_kind : (b : ℕ) (text : List ℕ) → IsPunct b text → kinds.Punct b ≡ kind_of text
punct_kind b text p =
    let apart = punct_apart b p.alone in
    subst (λ (t : List ℕ). kinds.Punct b ≡ kind_of t) (sym p.is) (rw (apart.0, apart.1, p.alone) refl)

pub form_kind : (kind : TokenKind) (text : List ℕ) → HasForm kind text → kind ≡ kind_of text
form_kind kinds.Name text f = name_kind text f
form_kind kinds.Int text f = int_kind text f
form_kind kinds.Uid text f = subst (λ (t : List ℕ). kinds.Uid ≡ kind_of t) (sym f.is) refl
form_kind kinds.Quoted text f = subst (λ (t : List ℕ). kinds.Quoted ≡ kind_of t) (sym f.is) refl
form_kind kinds.Iri text f = subst (λ (t : List ℕ). kinds.Iri ≡ kind_of t) (sym f.is) refl
form_kind kinds.Blank text f = subst (λ (t : List ℕ). kinds.Blank ≡ kind_of t) (sym f.is) refl
form_kind kinds.At text f = subst (λ (t : List ℕ). kinds.At ≡ kind_of t) (sym f.is) refl
form_kind kinds.Regex text f = subst (λ (t : List ℕ). kinds.Regex ≡ kind_of t) (sym f.is) refl
form_kind kinds.Caret text f = subst (λ (t : List ℕ). kinds.Caret ≡ kind_of t) (sym f) refl
form_kind (kinds.Punct b) text f = punct_kind b text f

-- a text has the form of one kind at most
one_kind : (a b : TokenKind) (text : List ℕ) → HasForm a text → HasForm b text → a ≡ b
one_kind a b text f g = form_kind a text f ∙ sym (form_kind b text g)

-- ---- the longest

-- what is counted of a kind has its form
abbrev IsFound : List ℕ → Sized → Type 0
IsFound text t = 0 < t.1 → Found text t.1 (HasForm t.0)

of_longer : (text : List ℕ) (a b : Sized) → IsFound text a → IsFound text b → IsFound text (longer a b)
of_longer text a b f g = by (nat_lt a.1 b.1)
  where
    by : (v : Bool) → IsFound text (cond v b a)
    by true = g
    by false = f

longest_found : (text : List ℕ) → IsFound text (longest text)
longest_found text =
    of_longer text _ (kinds.Punct (first_byte text), punct_len text)
    (of_longer text _ (kinds.Caret, caret_len text)
    (of_longer text _ (kinds.Blank, blank_len text)
    (of_longer text _ (kinds.Iri, iri_len text)
    (of_longer text _ (kinds.At, at_len text)
    (of_longer text _ (kinds.Regex, regex_len text)
    (of_longer text _ (kinds.Quoted, quoted_len text)
    (of_longer text _ (kinds.Uid, uid_len text)
    (of_longer text (kinds.Name, name_len text) (kinds.Int, int_len text)
    (name_found text) (int_found text)) (uid_found text)) (quoted_found text)) (regex_found text)) (at_found text)) (iri_found text)) (blank_found text)) (caret_found text)) (punct_found text)

longer_left : (a b : Sized) → a.1 ≤ (longer a b).1
longer_left a b = by (nat_lt a.1 b.1) refl
  where
    by : (v : Bool) → nat_lt a.1 b.1 ≡ v → a.1 ≤ (cond v b a).1
    by true e = let lt : a.1 < b.1 = ltb-true a.1 b.1 e in omega (arith, lt)
    by false e = omega arith

longer_right : (a b : Sized) → b.1 ≤ (longer a b).1
longer_right a b = by (nat_lt a.1 b.1) refl
  where
    by : (v : Bool) → nat_lt a.1 b.1 ≡ v → b.1 ≤ (cond v b a).1
    by true e = omega arith
    by false e = let le : b.1 ≤ a.1 = ltb-false a.1 b.1 e in omega (arith, le)

-- the lengths of all kinds
abbrev sizes : List ℕ → List Sized
sizes text =
    (kinds.Punct (first_byte text), punct_len text) ∷ (kinds.Caret, caret_len text) ∷ (kinds.Blank, blank_len text)
    ∷ (kinds.Iri, iri_len text) ∷ (kinds.At, at_len text) ∷ (kinds.Regex, regex_len text) ∷ (kinds.Quoted, quoted_len text)
    ∷ (kinds.Uid, uid_len text) ∷ (kinds.Int, int_len text) ∷ (kinds.Name, name_len text) ∷ []

abbrev best : List Sized → Sized
best [] = (kinds.Caret, 0)
best (t ∷ []) = t
best (t ∷ u ∷ more) = longer (best (u ∷ more)) t

abbrev IsAmongSizes : ℕ → List Sized → Type 0
IsAmongSizes n [] = ⊥
IsAmongSizes n (t ∷ more) = (n ≡ t.1) ⊎ IsAmongSizes n more

best_most : (n : ℕ) (ts : List Sized) → IsAmongSizes n ts → n ≤ (best ts).1
best_most n [] a = absurd a
best_most n (t ∷ []) (inl e) = omega (arith, e)
best_most n (t ∷ []) (inr a) = absurd a
best_most n (t ∷ u ∷ more) (inl e) = omega (arith, e, longer_right (best (u ∷ more)) t)
best_most n (t ∷ u ∷ more) (inr a) = omega (arith, best_most n (u ∷ more) a, longer_left (best (u ∷ more)) t)

among : (text : List ℕ) (n : ℕ) → IsAmongSizes n (sizes text) → n ≤ (longest text).1
among text n a = best_most n (sizes text) a

-- no front of a text that has a form is longer
form_most : (kind : TokenKind) (front rest : List ℕ) → HasForm kind front → length front ≤ (longest (front ++ rest)).1
form_most kinds.Name front rest f = omega (arith, name_most front rest f, among (front ++ rest) (name_len (front ++ rest)) (inr (inr (inr (inr (inr (inr (inr (inr (inr (inl refl)))))))))))
form_most kinds.Int front rest f = omega (arith, int_most front rest f, among (front ++ rest) (int_len (front ++ rest)) (inr (inr (inr (inr (inr (inr (inr (inr (inl refl))))))))))
form_most kinds.Uid front rest f = omega (arith, uid_most front rest f, among (front ++ rest) (uid_len (front ++ rest)) (inr (inr (inr (inr (inr (inr (inr (inl refl)))))))))
form_most kinds.Quoted front rest f = omega (arith, quoted_most front rest f, among (front ++ rest) (quoted_len (front ++ rest)) (inr (inr (inr (inr (inr (inr (inl refl))))))))
form_most kinds.Regex front rest f = omega (arith, regex_most front rest f, among (front ++ rest) (regex_len (front ++ rest)) (inr (inr (inr (inr (inr (inl refl)))))))
form_most kinds.At front rest f = omega (arith, at_most front rest f, among (front ++ rest) (at_len (front ++ rest)) (inr (inr (inr (inr (inl refl))))))
form_most kinds.Iri front rest f = omega (arith, iri_most front rest f, among (front ++ rest) (iri_len (front ++ rest)) (inr (inr (inr (inl refl)))))
form_most kinds.Blank front rest f = omega (arith, blank_most front rest f, among (front ++ rest) (blank_len (front ++ rest)) (inr (inr (inl refl))))
form_most kinds.Caret front rest f = omega (arith, caret_most front rest f, among (front ++ rest) (caret_len (front ++ rest)) (inr (inl refl)))
form_most (kinds.Punct b) front rest f = omega (arith, punct_most b front rest f, among (front ++ rest) (punct_len (front ++ rest)) (inl refl))

taken_most : (text : List ℕ) (kind : TokenKind) (n : ℕ) → n ≤ length text → HasForm kind (take n text) → n ≤ (longest text).1
taken_most text kind n le f =
    let e : length (take n text) ≡ n = length_taken n text le in
    let all : take n text ++ drop n text ≡ text = take-append-drop n text in
    let most : length (take n text) ≤ (longest text).1 = subst (λ (t : List ℕ). length (take n text) ≤ (longest t).1) all (form_most kind (take n text) (drop n text) f) in
    omega (arith, e, most)

-- ---- the token found

record IsTaken (text : List ℕ) (t : Sized) : Type 0 where
  pub within : t.1 ≤ length text
  pub form : HasForm t.0 (take t.1 text)

taken : (text : List ℕ) (t : Sized) → Found text t.1 (HasForm t.0) → IsTaken text t
taken text t f =
    let e : take t.1 text ≡ f.front = ap (λ (x : List ℕ). take t.1 x) f.split ∙ ap (λ (k : ℕ). take k (f.front ++ f.rest)) (sym f.len) ∙ take-append_seam f.front f.rest in
    record {
      within = omega (arith, f.len, ap length f.split, length-append f.front f.rest);
      form = subst (HasForm t.0) (sym e) f.form;
    }

some_is : (x y : Sized) → Some x ≡ Some y → x ≡ y
some_is x y e = cc

-- what is tested of the longest
record IsWhole (t : Sized) : Type 0 where
  pub some : 0 < t.1
  pub short : is_short t.0 t.1 ≡ true

whole_is : (t u : Sized) → whole t ≡ Some u → (t ≡ u) × IsWhole t
whole_is t u e = by (t.1 == 0) refl (is_short t.0 t.1) refl
  where
    by : (z : Bool) → (t.1 == 0) ≡ z → (s : Bool) → is_short t.0 t.1 ≡ s → (t ≡ u) × IsWhole t
    by true z s h = absurd (let f = rw z at e in cc)
    by false z true h = (some_is t u (rw (z, h) at e), record { some = some_from t.1 z; short = h })
    by false z false h = absurd (let f = rw (z, h) at e in cc)

is_whole : (t : Sized) → IsWhole t → whole t ≡ Some t
is_whole t w = rw (positive t.1 w.some, w.short) refl

found_starts : (text : List ℕ) (t : Sized) → token_at text ≡ Some t → Starts text t
unfolding token_at
found_starts text t e =
    let both = whole_is (longest text) t e in
    let got = taken text (longest text) (longest_found text both.1.some) in
    subst (Starts text) both.0 (record {
      some = both.1.some;
      within = got.within;
      form = got.form;
      longest = taken_most text;
      short = both.1.short;
    })

starts_found : (text : List ℕ) (t : Sized) → Starts text t → token_at text ≡ Some t
unfolding token_at
starts_found text t s =
    let le : t.1 ≤ (longest text).1 = taken_most text t.0 t.1 s.within s.form in
    let got = taken text (longest text) (longest_found text (omega (arith, le, s.some))) in
    let ge : (longest text).1 ≤ t.1 = s.longest (longest text).0 (longest text).1 got.within got.form in
    let len : (longest text).1 ≡ t.1 = omega (arith, le, ge) in
    let kind : (longest text).0 ≡ t.0 = one_kind (longest text).0 t.0 (take t.1 text) (subst (λ (n : ℕ). HasForm (longest text).0 (take n text)) len got.form) s.form in
    let same : longest text ≡ t = (λ i. (kind i, len i)) in
    ap whole same ∙ is_whole t (record { some = s.some; short = s.short })

-- the token that is found is the one that starts the text
pub finds_token : (text : List ℕ) (t : Sized) → (token_at text ≡ Some t) ↔ Starts text t
finds_token text t = (found_starts text t, starts_found text t)

none_starts : (text : List ℕ) → token_at text ≡ None → NoneStarts text
none_starts text e t s = absurd (let f : Some t ≡ None = sym (starts_found text t s) ∙ e in cc)

starts_none : (text : List ℕ) → NoneStarts text → token_at text ≡ None
starts_none text n = by (token_at text) refl
  where
    by : (o : Option Sized) → token_at text ≡ o → o ≡ None
    by None e = refl
    by (Some t) e = absurd (n t (found_starts text t e))

-- none is found where none starts
pub finds_none : (text : List ℕ) → (token_at text ≡ None) ↔ NoneStarts text
finds_none text = (none_starts text, starts_none text)
