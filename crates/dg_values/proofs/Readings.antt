-- The scan finds exactly the values that a text reads as.
use Rattle.std.proofs.Common.{◌≡◌, ℕ, ◌+◌, ◌^◌, ◌<◌, ◌≤◌, Bool, true, false, List, [], ◌∷◌, length, ℤ, pos, neg_ℤ, refl, sym, ap, ◌∙◌, subst, arith, FitsSigned, w64}
use Rattle.std.specs.Prelude.{Option, Some, None, option_map, ◌==◌, nat_lt, ◌&&◌, if◌then◌else◌, codes, ◌↔◌}
use Rattle.std.specs.Str.{all_ascii_digits}
use Rattle.std.specs.Str.Parse.{IsNumeral, AllDigits, digits_value}
use Rattle.std.proofs.lemmas.Str.Parse.{digit_from_value}
use Rattle.std.specs.Cmp.{Equal-is}
use Rattle.std.proofs.lemmas.Bool.Decides.{nat_tests}
use Rattle.std.proofs.lemmas.Int.{ints}
use Rattle.dg_values.specs.declared.kind.Kind.{Kind}
use Rattle.dg_values.specs.declared.kind.Kind.TheVariants as kinds
use Rattle.dg_values.specs.declared.value.Value.{Value}
use Rattle.dg_values.specs.declared.value.Value.TheVariants.{Int, Text, Bool as Truth, Time}
use Rattle.dg_values.specs.Order.{same_text, text_cmp}
use Rattle.dg_values.specs.Forms.{IntForm}
use Rattle.dg_values.specs.Forms.IntForm.{plain, plus, minus}
use Rattle.dg_values.specs.Printing.{truth_text}
use Rattle.dg_values.specs.Reading.{Reads}
use Rattle.dg_values.specs.Scanning.{number_below, int_of_text, bool_of_text, time_of_text, value_of_text}
use Rattle.dg_values.proofs.Numerals.{own, tested}
use Rattle.dg_values.proofs.OrderLaws.{same_bytes}
use Rattle.dg_values.proofs.Places.{gate}
use Rattle.dg_values.proofs.TimeForms.{time_reads, time_found}

-- ---- numbers

numeral_reads : (limit : ℕ) (ds : List ℕ) → IsNumeral 10 ds → digits_value 10 ds < limit → number_below limit ds ≡ Some (digits_value 10 ds)
numeral_reads limit ds numeral small = rw (tested limit (digits_value 10 ds) (length ds) (all_ascii_digits ds) (own.from ds numeral.1) numeral.0 small) refl

numeral_tests : (limit n len : ℕ) (digits : Bool) → ((digits && nat_lt 0 len) && nat_lt n limit) ≡ true → (digits ≡ true) × (0 < len) × (n < limit)
numeral_tests limit n len digits h =
    let a : digits ≡ true = grind (arith, nat_tests) in
    let b : 0 < len = grind (arith, nat_tests) in
    let c : n < limit = grind (arith, nat_tests) in
    (a, b, c)

numeral_found : (limit : ℕ) (ds : List ℕ) (n : ℕ) → number_below limit ds ≡ Some n → IsNumeral 10 ds × (digits_value 10 ds ≡ n) × (n < limit)
numeral_found limit ds n h =
    let found = gate ((all_ascii_digits ds && nat_lt 0 (length ds)) && nat_lt (digits_value 10 ds) limit) (Some (digits_value 10 ds)) n h in
    let facts = numeral_tests limit (digits_value 10 ds) (length ds) (all_ascii_digits ds) found.0 in
    let same : digits_value 10 ds ≡ n = cc in
    ((facts.1, own.to ds facts.0), same, omega (arith, facts.2))

no_sign : (b c : ℕ) → 48 ≤ b → b ≤ 57 → c < 48 → (b == c) ≡ false
no_sign b c low high small = grind (arith, nat_tests)

unsigned_reads : (ds : List ℕ) (n : ℕ) → AllDigits 10 ds → 0 < length ds → number_below (2 ^ 63) ds ≡ Some n → int_of_text ds ≡ Some (pos n)
unsigned_reads [] n all some e = absurd (omega arith)
unsigned_reads (b ∷ bs) n all some e =
    let digit = digit_from_value b all.0 in
    rw (no_sign b 45 digit.0 digit.1 (omega arith), no_sign b 43 digit.0 digit.1 (omega arith)) (ap (option_map pos) e)

pub int_reads : (text : List ℕ) (n : ℤ) → IntForm text n → FitsSigned w64 n → int_of_text text ≡ Some n
int_reads text n (plain ds numeral) fits = unsigned_reads ds (digits_value 10 ds) numeral.1 numeral.0 (numeral_reads (2 ^ 63) ds numeral (omega (arith, ints)))
int_reads text n (plus ds numeral) fits = ap (option_map pos) (numeral_reads (2 ^ 63) ds numeral (omega (arith, ints)))
int_reads text n (minus ds numeral) fits = ap (option_map (λ k. neg_ℤ (pos k))) (numeral_reads (2 ^ 63 + 1) ds numeral (below (digits_value 10 ds) fits))
  where
    below : (k : ℕ) → FitsSigned w64 (neg_ℤ (pos k)) → k < 2 ^ 63 + 1
    below k h = omega (arith, ints)

-- an option that was mapped to something
record IsMapped {A B : Type 0} (f : A → B) (o : Option A) (b : B) : Type 0 where
  from : A
  found : o ≡ Some from
  same : f from ≡ b

mapped : {A B : Type 0} (f : A → B) (o : Option A) (b : B) → option_map f o ≡ Some b → IsMapped f o b
mapped f (Some a) b h = record { from = a; found = refl; same = let e : f a ≡ b = cc in e }
mapped f None b h = cc

as_int : (text₂ text : List ℕ) (n₂ n : ℤ) → text₂ ≡ text → n₂ ≡ n → IntForm text₂ n₂ × FitsSigned w64 n₂ → IntForm text n × FitsSigned w64 n
as_int text₂ text n₂ n e f t = subst (λ (l : List ℕ). IntForm l n × FitsSigned w64 n) e (subst (λ (k : ℤ). IntForm text₂ k × FitsSigned w64 k) f t)

fits_pos : (n : ℕ) → n < 2 ^ 63 → FitsSigned w64 (pos n)
fits_pos n h = omega (arith, ints)

fits_neg : (n : ℕ) → n < 2 ^ 63 + 1 → FitsSigned w64 (neg_ℤ (pos n))
fits_neg n h = omega (arith, ints)

by_sign : (b : ℕ) (bs : List ℕ) (n : ℤ) (m p : Bool) → (b == 45) ≡ m → (b == 43) ≡ p
    → (if m then option_map (λ k. neg_ℤ (pos k)) (number_below (2 ^ 63 + 1) bs) else (if p then option_map pos (number_below (2 ^ 63) bs) else option_map pos (number_below (2 ^ 63) (b ∷ bs)))) ≡ Some n
    → IntForm (b ∷ bs) n × FitsSigned w64 n
by_sign b bs n true p e f h =
    let sign : b ≡ 45 = grind (arith, nat_tests) in
    let k = mapped (λ k. neg_ℤ (pos k)) (number_below (2 ^ 63 + 1) bs) n h in
    let found = numeral_found (2 ^ 63 + 1) bs k.from k.found in
    let value : neg_ℤ (pos (digits_value 10 bs)) ≡ n = ap (λ (j : ℕ). neg_ℤ (pos j)) found.1 ∙ k.same in
    as_int (45 ∷ bs) (b ∷ bs) (neg_ℤ (pos (digits_value 10 bs))) n (ap (λ (j : ℕ). j ∷ bs) (sym sign)) value (minus bs found.0, fits_neg (digits_value 10 bs) (omega (arith, found.1, found.2)))
by_sign b bs n false true e f h =
    let sign : b ≡ 43 = grind (arith, nat_tests) in
    let k = mapped pos (number_below (2 ^ 63) bs) n h in
    let found = numeral_found (2 ^ 63) bs k.from k.found in
    as_int (43 ∷ bs) (b ∷ bs) (pos (digits_value 10 bs)) n (ap (λ (j : ℕ). j ∷ bs) (sym sign)) (ap pos found.1 ∙ k.same) (plus bs found.0, fits_pos (digits_value 10 bs) (omega (arith, found.1, found.2)))
by_sign b bs n false false e f h =
    let k = mapped pos (number_below (2 ^ 63) (b ∷ bs)) n h in
    let found = numeral_found (2 ^ 63) (b ∷ bs) k.from k.found in
    as_int (b ∷ bs) (b ∷ bs) (pos (digits_value 10 (b ∷ bs))) n refl (ap pos found.1 ∙ k.same) (plain (b ∷ bs) found.0, fits_pos (digits_value 10 (b ∷ bs)) (omega (arith, found.1, found.2)))

pub int_found : (text : List ℕ) (n : ℤ) → int_of_text text ≡ Some n → IntForm text n × FitsSigned w64 n
int_found [] n h = cc
int_found (b ∷ bs) n h = by_sign b bs n (b == 45) (b == 43) refl refl h

-- ---- truth values

truth_reads : (text : List ℕ) (b : Bool) → text ≡ truth_text b → bool_of_text text ≡ Some b
truth_reads text true h = subst (λ (l : List ℕ). bool_of_text l ≡ Some true) (sym h) refl
truth_reads text false h = subst (λ (l : List ℕ). bool_of_text l ≡ Some false) (sym h) refl

is_word : (a b : List ℕ) → same_text a b ≡ true → a ≡ b
is_word a b e = same_bytes a b ((Equal-is (text_cmp a b)).0 e)

truth_cases : (text : List ℕ) (b t f : Bool) → same_text text (codes "true") ≡ t → same_text text (codes "false") ≡ f → (if t then Some true else (if f then Some false else None)) ≡ Some b → text ≡ truth_text b
truth_cases text true true f e g h = is_word text (codes "true") e
truth_cases text false true f e g h = cc
truth_cases text true false true e g h = cc
truth_cases text false false true e g h = is_word text (codes "false") g
truth_cases text b false false e g h = cc

truth_found : (text : List ℕ) (b : Bool) → bool_of_text text ≡ Some b → text ≡ truth_text b
truth_found text b h = truth_cases text b (same_text text (codes "true")) (same_text text (codes "false")) refl refl h

-- ---- all kinds

pub reads_scanned : (kind : Kind) (text : List ℕ) (v : Value) → Reads kind text v → value_of_text kind text ≡ Some v
reads_scanned kinds.Default text (Text t) h = ap (λ (l : List ℕ). Some (Text l)) (sym h)
reads_scanned kinds.Text text (Text t) h = ap (λ (l : List ℕ). Some (Text l)) (sym h)
reads_scanned kinds.Int text (Int n) h = ap (option_map Int) (int_reads text n h.0 h.1)
reads_scanned kinds.Bool text (Truth b) h = ap (option_map Truth) (truth_reads text b h)
reads_scanned kinds.Time text (Time m) h = ap (option_map Time) (time_reads text m h)
reads_scanned kinds.Default text (Int n) h = absurd h
reads_scanned kinds.Default text (Truth b) h = absurd h
reads_scanned kinds.Default text (Time m) h = absurd h
reads_scanned kinds.Text text (Int n) h = absurd h
reads_scanned kinds.Text text (Truth b) h = absurd h
reads_scanned kinds.Text text (Time m) h = absurd h
reads_scanned kinds.Int text (Text t) h = absurd h
reads_scanned kinds.Int text (Truth b) h = absurd h
reads_scanned kinds.Int text (Time m) h = absurd h
reads_scanned kinds.Bool text (Int n) h = absurd h
reads_scanned kinds.Bool text (Text t) h = absurd h
reads_scanned kinds.Bool text (Time m) h = absurd h
reads_scanned kinds.Time text (Int n) h = absurd h
reads_scanned kinds.Time text (Text t) h = absurd h
reads_scanned kinds.Time text (Truth b) h = absurd h
reads_scanned kinds.Uid text (Int n) h = absurd h
reads_scanned kinds.Uid text (Text t) h = absurd h
reads_scanned kinds.Uid text (Truth b) h = absurd h
reads_scanned kinds.Uid text (Time m) h = absurd h

pub scanned_reads : (kind : Kind) (text : List ℕ) (v : Value) → value_of_text kind text ≡ Some v → Reads kind text v
scanned_reads kinds.Default text v h = let e : Text text ≡ v = cc in subst (λ (w : Value). Reads kinds.Default text w) e refl
scanned_reads kinds.Text text v h = let e : Text text ≡ v = cc in subst (λ (w : Value). Reads kinds.Text text w) e refl
scanned_reads kinds.Int text v h = let m = mapped Int (int_of_text text) v h in subst (λ (w : Value). Reads kinds.Int text w) m.same (int_found text m.from m.found)
scanned_reads kinds.Bool text v h = let m = mapped Truth (bool_of_text text) v h in subst (λ (w : Value). Reads kinds.Bool text w) m.same (truth_found text m.from m.found)
scanned_reads kinds.Time text v h = let m = mapped Time (time_of_text text) v h in subst (λ (w : Value). Reads kinds.Time text w) m.same (time_found text m.from m.found)
scanned_reads kinds.Uid text v h = cc

pub unique : (kind : Kind) (text : List ℕ) (a b : Value) → Reads kind text a → Reads kind text b → a ≡ b
unique kind text a b h k = let e = reads_scanned kind text a h in let f = reads_scanned kind text b k in cc

none_found : (kind : Kind) (text : List ℕ) (o : Option Value) → value_of_text kind text ≡ o → ((v : Value) → ¬ Reads kind text v) → o ≡ None
none_found kind text (Some v) e h = absurd (h v (scanned_reads kind text v e))
none_found kind text None e h = refl

pub none_reads : (kind : Kind) (text : List ℕ) → (value_of_text kind text ≡ None) ↔ ((v : Value) → ¬ Reads kind text v)
none_reads kind text = (λ h v k. let e = reads_scanned kind text v k in cc, none_found kind text (value_of_text kind text) refl)
