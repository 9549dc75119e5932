-- Fractions and zones at the end of a text.
use Rattle.std.proofs.Common.{◌≡◌, ℕ, zero, suc, ◌+◌, ◌-◌, ◌*◌, ◌/◌, ◌^◌, ◌<◌, ◌≤◌, Bool, true, false, List, [], ◌∷◌, ◌++◌, length, drop, refl, sym, ap, ◌∙◌, subst, arith, ℤ, pos, length-drop}
use Rattle.std.specs.Prelude.{Option, Some, None, slice_index, if◌then◌else◌, option_and_then, option_map, nat_le, nat_lt, not, neg_ℤ, ◌&&◌, ◌||◌, ◌==◌}
use Rattle.std.specs.Str.Parse.{AllDigits, digits_value, digits_value_after}
use Rattle.std.specs.Char.{digit_value}
use Rattle.std.proofs.lemmas.Str.{digit_value_digit}
use Rattle.std.proofs.lemmas.Str.Parse.{digit_from_value}
use Rattle.std.proofs.lemmas.Int.Digits.{digits_value-lt}
use Rattle.std.proofs.lemmas.Nat.{pow-add}
use Rattle.std.proofs.Math.Nat.{mul-le-mul_right, pow-suc}
use Rattle.std.proofs.Math.Seq.{drop-append_seam}
use Rattle.std.proofs.lemmas.Bool.Decides.{nat_tests}
use Rattle.jiff_fmt.specs.Text.{pad2}
use Rattle.jiff_fmt.proofs.ReaderLemmas.{ten_pow-pos}
use Rattle.std.proofs.lemmas.List.{get_or-drop}
use Rattle.std.specs.Prelude.{◌⊎◌}
use Rattle.std.proofs.Common.{inl, inr}
use Rattle.dg_values.specs.Forms.{FractionForm, ZoneForm}
use Rattle.dg_values.specs.Forms.FractionForm.{whole, digits}
use Rattle.dg_values.specs.Forms.ZoneForm.{unsaid, upper_z, lower_z, ahead, behind}
use Rattle.dg_values.specs.Scanning.{is_digit, pair_at, leading_digits, fraction_digits, fraction_value, fraction_of_text, width_of_text, zone_of_text}
use Rattle.dg_values.proofs.Places.{gate, byte_at, rest_at, pair_reads, pair_found, mark_found}

-- ---- the digits that a text begins with

split_case : (b : ℕ) (bs : List ℕ) (t : Bool) → bs ≡ leading_digits bs ++ drop (length (leading_digits bs)) bs
    → b ∷ bs ≡ (if t then b ∷ leading_digits bs else []) ++ drop (length (if t then b ∷ leading_digits bs else [])) (b ∷ bs)
split_case b bs true h = ap (λ (l : List ℕ). b ∷ l) h
split_case b bs false h = refl

pub leading_split : (l : List ℕ) → l ≡ leading_digits l ++ drop (length (leading_digits l)) l
leading_split [] = refl
leading_split (b ∷ bs) = split_case b bs (is_digit b) (leading_split bs)

in_range : (b : ℕ) → is_digit b ≡ true → (48 ≤ b) × (b ≤ 57)
in_range b h = let low : 48 ≤ b = grind (arith, nat_tests) in let high : b ≤ 57 = grind (arith, nat_tests) in (low, high)

digits_case : (b : ℕ) (bs : List ℕ) (t : Bool) → is_digit b ≡ t → AllDigits 10 (leading_digits bs) → AllDigits 10 (if t then b ∷ leading_digits bs else [])
digits_case b bs true e h = let r = in_range b e in (omega (arith, digit_value_digit b r), h)
digits_case b bs false e h = tt

pub leading_are_digits : (l : List ℕ) → AllDigits 10 (leading_digits l)
leading_are_digits [] = tt
leading_are_digits (b ∷ bs) = digits_case b bs (is_digit b) refl (leading_are_digits bs)

is_digit_of : (b : ℕ) → digit_value b < 10 → is_digit b ≡ true
is_digit_of b h = let r = digit_from_value b h in grind (arith, nat_tests, r)

pub leading_all : (ds rest : List ℕ) → AllDigits 10 ds → leading_digits rest ≡ [] → leading_digits (ds ++ rest) ≡ ds
leading_all [] rest h none = none
leading_all (b ∷ ds) rest h none = ap (λ (t : Bool). if t then b ∷ leading_digits (ds ++ rest) else []) (is_digit_of b h.0) ∙ ap (λ (l : List ℕ). b ∷ l) (leading_all ds rest h.1 none)

-- ---- what the digits of a fraction are worth

regroup : (n v f p : ℕ) → n * (10 * p) + (v * p + f) ≡ (n * 10 + v) * p + f
regroup n v f p = omega arith

last_place : (bs : List ℕ) → length bs ≤ 0 → bs ≡ []
last_place [] h = refl
last_place (b ∷ bs) h = absurd (omega arith)

-- digits after those of n, where the first of them counts 10 ^ k
pub weighed : (ds : List ℕ) (k n : ℕ) → AllDigits 10 ds → length ds ≤ suc k → n * 10 ^ suc k + fraction_value (10 ^ k) ds ≡ digits_value_after 10 n ds * 10 ^ (suc k - length ds)
weighed [] k n all short = let left : suc k - 0 ≡ suc k = omega arith in subst (λ (j : ℕ). n * 10 ^ suc k + 0 ≡ n * 10 ^ j) (sym left) (omega arith)
weighed (b ∷ []) zero n all short =
    let digit = digit_value_digit b (digit_from_value b all.0) in omega arith
weighed (b ∷ c ∷ ds) zero n all short = absurd (omega arith)
weighed (b ∷ ds) (suc k) n all short =
    let digit = digit_value_digit b (digit_from_value b all.0) in
    let value : b - 48 ≡ digit_value b = omega arith in
    let power : 10 ^ suc k ≡ 10 ^ k * 10 = pow-suc 10 k in
    let powers : 10 ^ suc (suc k) ≡ 10 * 10 ^ suc k = omega (arith, pow-suc 10 (suc k)) in
    let tenth : 10 ^ suc k / 10 ≡ 10 ^ k = omega (arith, power) in
    let left : suc (suc k) - suc (length ds) ≡ suc k - length ds = omega arith in
    ap (λ (p : ℕ). n * p + ((b - 48) * 10 ^ suc k + fraction_value (10 ^ suc k / 10) ds)) powers
    ∙ ap (λ (v : ℕ). n * (10 * 10 ^ suc k) + (v * 10 ^ suc k + fraction_value (10 ^ suc k / 10) ds)) value
    ∙ ap (λ (w : ℕ). n * (10 * 10 ^ suc k) + (digit_value b * 10 ^ suc k + fraction_value w ds)) tenth
    ∙ regroup n (digit_value b) (fraction_value (10 ^ k) ds) (10 ^ suc k)
    ∙ weighed ds k (n * 10 + digit_value b) all.1 (omega arith)
    ∙ ap (λ (j : ℕ). digits_value_after 10 (n * 10 + digit_value b) ds * 10 ^ j) (sym left)

pub worth_of : (ds : List ℕ) → AllDigits 10 ds → length ds ≤ 9 → fraction_value 100_000_000 ds ≡ digits_value 10 ds * 10 ^ (9 - length ds)
worth_of ds all short = omega (arith, weighed ds 8 0 all short)

pub nanos_bound : (fraction : List ℕ) (nanos : ℕ) → FractionForm fraction nanos → nanos < 1_000_000_000
nanos_bound fraction nanos whole = omega arith
nanos_bound fraction nanos (digits ds numeral short) =
    let few = digits_value-lt 10 ds numeral.1 in
    let sum : length ds + (9 - length ds) ≡ 9 = omega arith in
    let product : 10 ^ length ds * 10 ^ (9 - length ds) ≡ 1_000_000_000 = sym (pow-add 10 (length ds) (9 - length ds)) ∙ ap (λ (k : ℕ). 10 ^ k) sum in
    let least : 0 < 10 ^ (9 - length ds) = ten_pow-pos (9 - length ds) in
    let scaled = mul-le-mul_right {m = digits_value 10 ds + 1} {n = 10 ^ length ds} (10 ^ (9 - length ds)) (omega arith) in
    omega arith

-- ---- zones

-- a zone begins with no point and no digit
pub no_point : (zone : List ℕ) (a : ℤ) → ZoneForm zone a → (slice_index zone 0 == 46) ≡ false
no_point zone a unsaid = refl
no_point zone a upper_z = refl
no_point zone a lower_z = refl
no_point zone a (ahead hour minute h m) = refl
no_point zone a (behind hour minute h m) = refl

pub no_digit : (zone : List ℕ) (a : ℤ) → ZoneForm zone a → leading_digits zone ≡ []
no_digit zone a unsaid = refl
no_digit zone a upper_z = refl
no_digit zone a lower_z = refl
no_digit zone a (ahead hour minute h m) = refl
no_digit zone a (behind hour minute h m) = refl

width_joined : (text : List ℕ) (at hour minute : ℕ) → pair_at text at ≡ Some hour → pair_at text (at + 3) ≡ Some minute
    → ((slice_index text (at + 2) == 58) && (length text == at + 5) && nat_lt hour 24 && nat_lt minute 60) ≡ true
    → width_of_text text at ≡ Some (3600 * hour + 60 * minute)
width_joined text at hour minute eh em t = rw (eh, em, t) refl

width_test : (colon len at hour minute : ℕ) → colon ≡ 58 → len ≡ at + 5 → hour < 24 → minute < 60 → ((colon == 58) && (len == at + 5) && nat_lt hour 24 && nat_lt minute 60) ≡ true
width_test colon len at hour minute c l h m = grind (arith, nat_tests)

width_tested : (colon len at hour minute : ℕ) → ((colon == 58) && (len == at + 5) && nat_lt hour 24 && nat_lt minute 60) ≡ true → (colon ≡ 58) × (len ≡ at + 5) × (hour < 24) × (minute < 60)
width_tested colon len at hour minute t =
    let a : colon ≡ 58 = grind (arith, nat_tests) in
    let b : len ≡ at + 5 = grind (arith, nat_tests) in
    let c : hour < 24 = grind (arith, nat_tests) in
    let d : minute < 60 = grind (arith, nat_tests) in
    (a, b, c, d)

next_drop : (text : List ℕ) (at next b : ℕ) (rest : List ℕ) → next ≡ suc at → drop at text ≡ b ∷ rest → drop next text ≡ rest
next_drop text at next b rest e h = ap (λ (k : ℕ). drop k text) e ∙ rest_at text at b rest h

length_from : (text : List ℕ) (at : ℕ) (rest : List ℕ) → at ≤ length text → drop at text ≡ rest → length text ≡ at + length rest
length_from text at rest h e = omega (arith, length-drop at text, ap length e)

width_reads : (text : List ℕ) (at hour minute : ℕ) → hour < 24 → minute < 60 → at ≤ length text → drop at text ≡ pad2 hour ++ 58 ∷ pad2 minute
    → width_of_text text at ≡ Some (3600 * hour + 60 * minute)
width_reads text at hour minute h m room e =
    let one = next_drop text at (at + 1) _ _ (omega arith) e in
    let two = next_drop text (at + 1) (at + 2) _ _ (omega arith) one in
    let three = next_drop text (at + 2) (at + 3) _ _ (omega arith) two in
    let long : length text ≡ at + 5 = length_from text at (pad2 hour ++ 58 ∷ pad2 minute) room e in
    width_joined text at hour minute (pair_reads text at hour _ (omega arith) e) (pair_reads text (at + 3) minute _ (omega arith) three)
    (width_test _ _ at hour minute (byte_at text (at + 2) 58 _ two) long h m)

zone_end : (text : List ℕ) (at : ℕ) → (length text == at) ≡ true → zone_of_text text at ≡ Some (pos 0)
zone_end text at e = rw e refl

zone_z : (text : List ℕ) (at : ℕ) → (length text == at) ≡ false → (((slice_index text at == 90) || (slice_index text at == 122)) && (length text == at + 1)) ≡ true → zone_of_text text at ≡ Some (pos 0)
zone_z text at e f = rw (e, f) refl

zone_ahead : (text : List ℕ) (at : ℕ) → (length text == at) ≡ false → (((slice_index text at == 90) || (slice_index text at == 122)) && (length text == at + 1)) ≡ false → (slice_index text at == 43) ≡ true
    → zone_of_text text at ≡ option_map pos (width_of_text text (at + 1))
zone_ahead text at e f g = rw (e, f, g) refl

zone_behind : (text : List ℕ) (at : ℕ) → (length text == at) ≡ false → (((slice_index text at == 90) || (slice_index text at == 122)) && (length text == at + 1)) ≡ false → (slice_index text at == 43) ≡ false → (slice_index text at == 45) ≡ true
    → zone_of_text text at ≡ option_map (λ width. neg_ℤ (pos width)) (width_of_text text (at + 1))
zone_behind text at e f g h = rw (e, f, g, h) refl

past : (len at : ℕ) → at < len → (len == at) ≡ false
past len at h = grind (arith, nat_tests)

at_last : (b len at : ℕ) → (b ≡ 90) ⊎ (b ≡ 122) → len ≡ at + 1 → (((b == 90) || (b == 122)) && (len == at + 1)) ≡ true
at_last b len at c l = grind (arith, nat_tests)

no_z : (b len at : ℕ) → b < 90 → (((b == 90) || (b == 122)) && (len == at + 1)) ≡ false
no_z b len at h = grind (arith, nat_tests)

same_byte : (b n : ℕ) → b ≡ n → (b == n) ≡ true
same_byte b n h = grind (arith, nat_tests)

other_byte : (b n : ℕ) → b < n → (n == b) ≡ false
other_byte b n h = grind (arith, nat_tests)

pub zone_reads : (zone : List ℕ) (a : ℤ) → ZoneForm zone a → (text : List ℕ) (at : ℕ) → at ≤ length text → drop at text ≡ zone → zone_of_text text at ≡ Some a
zone_reads zone a unsaid text at room e = zone_end text at (same_byte (length text) at (omega (arith, length_from text at [] room e)))
zone_reads zone a upper_z text at room e =
    let long : length text ≡ at + 1 = length_from text at (90 ∷ []) room e in
    zone_z text at (past (length text) at (omega arith)) (at_last _ _ at (inl (byte_at text at 90 [] e)) long)
zone_reads zone a lower_z text at room e =
    let long : length text ≡ at + 1 = length_from text at (122 ∷ []) room e in
    zone_z text at (past (length text) at (omega arith)) (at_last _ _ at (inr (byte_at text at 122 [] e)) long)
zone_reads zone a (ahead hour minute h m) text at room e =
    let long : length text ≡ at + 6 = length_from text at (43 ∷ pad2 hour ++ 58 ∷ pad2 minute) room e in
    let sign : slice_index text at ≡ 43 = byte_at text at 43 _ e in
    let low : slice_index text at < 90 = omega arith in
    zone_ahead text at (past (length text) at (omega arith)) (no_z (slice_index text at) (length text) at low) (same_byte (slice_index text at) 43 sign)
    ∙ ap (option_map pos) (width_reads text (at + 1) hour minute h m (omega arith) (next_drop text at (at + 1) 43 _ (omega arith) e))
zone_reads zone a (behind hour minute h m) text at room e =
    let long : length text ≡ at + 6 = length_from text at (45 ∷ pad2 hour ++ 58 ∷ pad2 minute) room e in
    let sign : slice_index text at ≡ 45 = byte_at text at 45 _ e in
    let other : (slice_index text at == 43) ≡ false = grind (arith, nat_tests) in
    let low : slice_index text at < 90 = omega arith in
    zone_behind text at (past (length text) at (omega arith)) (no_z (slice_index text at) (length text) at low) other (same_byte (slice_index text at) 45 sign)
    ∙ ap (option_map (λ width. neg_ℤ (pos width))) (width_reads text (at + 1) hour minute h m (omega arith) (next_drop text at (at + 1) 45 _ (omega arith) e))

-- hours and minutes stand at the place, and nothing after them
record IsWidthAt (text : List ℕ) (at number : ℕ) : Type 0 where
  hour : ℕ
  minute : ℕ
  hour_in : hour < 24
  minute_in : minute < 60
  same : 3600 * hour + 60 * minute ≡ number
  shape : drop at text ≡ pad2 hour ++ 58 ∷ pad2 minute

nothing_left : (l : List ℕ) (n : ℕ) → length l ≡ n → drop n l ≡ []
nothing_left [] zero h = refl
nothing_left [] (suc n) h = refl
nothing_left (b ∷ bs) zero h = absurd (omega arith)
nothing_left (b ∷ bs) (suc n) h = nothing_left bs n (omega arith)

width_cases : (text : List ℕ) (at number : ℕ) (h m : Option ℕ) → pair_at text at ≡ h → pair_at text (at + 3) ≡ m
    → option_and_then (λ (hour : ℕ). option_and_then (λ (minute : ℕ).
    if (slice_index text (at + 2) == 58) && (length text == at + 5) && nat_lt hour 24 && nat_lt minute 60
    then Some (3600 * hour + 60 * minute) else None) m) h ≡ Some number
    → IsWidthAt text at number
width_cases text at number (Some h) (Some m) eh em p =
    let hour = pair_found text at h eh in
    let minute = pair_found text (at + 3) m em in
    let tests = gate ((slice_index text (at + 2) == 58) && (length text == at + 5) && nat_lt h 24 && nat_lt m 60) (Some (3600 * h + 60 * m)) number p in
    let facts = width_tested (slice_index text (at + 2)) (length text) at h m tests.0 in
    let five : at + 3 + 2 ≡ at + 5 = omega arith in
    let last : drop (at + 3 + 2) text ≡ [] = ap (λ (k : ℕ). drop k text) five ∙ nothing_left text (at + 5) facts.1 in
    record {
      hour = h;
      minute = m;
      hour_in = facts.2;
      minute_in = facts.3;
      same = let e : 3600 * h + 60 * m ≡ number = cc in e;
      shape = hour.shape
          ∙ ap (λ (l : List ℕ). pad2 h ++ l) (mark_found text (at + 2) (at + 3) 58 (omega arith) facts.0 (omega arith)
          ∙ ap (λ (l : List ℕ). 58 ∷ l) (minute.shape ∙ ap (λ (l : List ℕ). pad2 m ++ l) last));
    }
width_cases text at number (Some h) None eh em p = cc
width_cases text at number None m eh em p = cc

width_found : (text : List ℕ) (at number : ℕ) → width_of_text text at ≡ Some number → IsWidthAt text at number
width_found text at number h = width_cases text at number (pair_at text at) (pair_at text (at + 3)) refl refl h

as_form : (l k : List ℕ) (a b : ℤ) → l ≡ k → b ≡ a → ZoneForm k b → ZoneForm l a
as_form l k a b e f z = subst (λ (x : List ℕ). ZoneForm x a) (sym e) (subst (λ (x : ℤ). ZoneForm k x) f z)

signed : (f : ℕ → ℤ) (o : Option ℕ) (a : ℤ) → option_map f o ≡ Some a → (n : ℕ) × (o ≡ Some n) × (f n ≡ a)
signed f (Some n) a h = let e : f n ≡ a = cc in (n, refl, e)
signed f None a h = cc

zone_cases : (text : List ℕ) (at : ℕ) (a : ℤ) (end z plus minus : Bool) → (length text == at) ≡ end → (((slice_index text at == 90) || (slice_index text at == 122)) && (length text == at + 1)) ≡ z
    → (slice_index text at == 43) ≡ plus → (slice_index text at == 45) ≡ minus
    → (if end then Some (pos 0) else (if z then Some (pos 0) else (if plus then option_map pos (width_of_text text (at + 1)) else (if minus then option_map (λ width. neg_ℤ (pos width)) (width_of_text text (at + 1)) else None)))) ≡ Some a
    → ZoneForm (drop at text) a
zone_cases text at a true z plus minus e f g h p =
    let long : length text ≡ at = grind (arith, nat_tests) in
    let same : pos 0 ≡ a = cc in
    as_form (drop at text) [] a (pos 0) (nothing_left text at long) same unsaid
zone_cases text at a false true plus minus e f g h p =
    let long : length text ≡ at + 1 = grind (arith, nat_tests) in
    let same : pos 0 ≡ a = cc in
    let which : (slice_index text at ≡ 90) ⊎ (slice_index text at ≡ 122) = grind (arith, nat_tests) in
    by_letter long same which
  where
    by_letter : length text ≡ at + 1 → pos 0 ≡ a → (slice_index text at ≡ 90) ⊎ (slice_index text at ≡ 122) → ZoneForm (drop at text) a
    by_letter long same (inl b) = as_form (drop at text) (90 ∷ []) a (pos 0) (mark_found text at (at + 1) 90 (omega arith) b (omega arith) ∙ ap (λ (l : List ℕ). 90 ∷ l) (nothing_left text (at + 1) long)) same upper_z
    by_letter long same (inr b) = as_form (drop at text) (122 ∷ []) a (pos 0) (mark_found text at (at + 1) 122 (omega arith) b (omega arith) ∙ ap (λ (l : List ℕ). 122 ∷ l) (nothing_left text (at + 1) long)) same lower_z
zone_cases text at a false false true minus e f g h p =
    let b : slice_index text at ≡ 43 = grind (arith, nat_tests) in
    let found = signed pos (width_of_text text (at + 1)) a p in
    let w = width_found text (at + 1) found.0 found.1 in
    as_form (drop at text) (43 ∷ pad2 w.hour ++ 58 ∷ pad2 w.minute) a (pos (3600 * w.hour + 60 * w.minute))
    (mark_found text at (at + 1) 43 (omega arith) b (omega arith) ∙ ap (λ (l : List ℕ). 43 ∷ l) w.shape) (ap pos w.same ∙ found.2) (ahead w.hour w.minute w.hour_in w.minute_in)
zone_cases text at a false false false true e f g h p =
    let b : slice_index text at ≡ 45 = grind (arith, nat_tests) in
    let found = signed (λ width. neg_ℤ (pos width)) (width_of_text text (at + 1)) a p in
    let w = width_found text (at + 1) found.0 found.1 in
    as_form (drop at text) (45 ∷ pad2 w.hour ++ 58 ∷ pad2 w.minute) a (neg_ℤ (pos (3600 * w.hour + 60 * w.minute)))
    (mark_found text at (at + 1) 45 (omega arith) b (omega arith) ∙ ap (λ (l : List ℕ). 45 ∷ l) w.shape) (ap (λ (n : ℕ). neg_ℤ (pos n)) w.same ∙ found.2) (behind w.hour w.minute w.hour_in w.minute_in)
zone_cases text at a false false false false e f g h p = cc

pub zone_found : (text : List ℕ) (at : ℕ) (a : ℤ) → zone_of_text text at ≡ Some a → ZoneForm (drop at text) a
zone_found text at a h =
    zone_cases text at a (length text == at) (((slice_index text at == 90) || (slice_index text at == 122)) && (length text == at + 1)) (slice_index text at == 43) (slice_index text at == 45) refl refl refl refl h

-- ---- fractions

fraction_joined : (text : List ℕ) (ds : List ℕ) → (slice_index text 19 == 46) ≡ true → fraction_digits text ≡ ds → (nat_le 1 (length ds) && nat_le (length ds) 9) ≡ true
    → fraction_of_text text ≡ Some (fraction_value 100_000_000 ds, 20 + length ds)
fraction_joined text ds e f t = rw (e, f, t) refl

fraction_none : (text : List ℕ) → (slice_index text 19 == 46) ≡ false → fraction_of_text text ≡ Some (0, 19)
fraction_none text e = rw e refl

one_to_nine : (n : ℕ) → 0 < n → n ≤ 9 → (nat_le 1 n && nat_le n 9) ≡ true
one_to_nine n a b = grind (arith, nat_tests)

first_byte : (text : List ℕ) (rest : List ℕ) → drop 19 text ≡ rest → slice_index text 19 ≡ slice_index rest 0
first_byte text rest h = sym (get_or-drop 19 text 0 0) ∙ ap (λ (l : List ℕ). slice_index l 0) h

pub fraction_reads : (fraction : List ℕ) (nanos : ℕ) → FractionForm fraction nanos → (text zone : List ℕ) (a : ℤ) → ZoneForm zone a → drop 19 text ≡ fraction ++ zone
    → fraction_of_text text ≡ Some (nanos, 19 + length fraction)
fraction_reads fraction nanos whole text zone a z h =
    fraction_none text (ap (λ (b : ℕ). b == 46) (first_byte text zone h) ∙ no_point zone a z)
fraction_reads fraction nanos (digits ds numeral short) text zone a z h =
    let rest : drop 20 text ≡ ds ++ zone = rest_at text 19 46 (ds ++ zone) h in
    let same : fraction_digits text ≡ ds = ap leading_digits rest ∙ leading_all ds zone numeral.1 (no_digit zone a z) in
    let place : 20 + length ds ≡ 19 + suc (length ds) = omega arith in
    fraction_joined text ds (same_byte _ 46 (byte_at text 19 46 (ds ++ zone) h)) same (one_to_nine (length ds) numeral.0 short)
    ∙ ap (λ (v : ℕ). Some (v, 20 + length ds)) (worth_of ds numeral.1 short)
    ∙ ap (λ (k : ℕ). Some (digits_value 10 ds * 10 ^ (9 - length ds), k)) place

-- a fraction stands at byte 19, or none does; the zone stands at the place
pub record IsFractionOf (text : List ℕ) (nanos place : ℕ) : Type 0 where
  pub fraction : List ℕ
  pub form : FractionForm fraction nanos
  pub shape : drop 19 text ≡ fraction ++ drop place text

none_dropped : (n : ℕ) → drop n (let none : List ℕ = [] in none) ≡ []
none_dropped zero = refl
none_dropped (suc n) = refl

drop_drop : (l : List ℕ) (a b : ℕ) → drop b (drop a l) ≡ drop (a + b) l
drop_drop [] a b = ap (drop b) (none_dropped a) ∙ none_dropped b ∙ sym (none_dropped (a + b))
drop_drop (c ∷ cs) zero b = let e : 0 + b ≡ b = omega arith in rw e refl
drop_drop (c ∷ cs) (suc a) b = let e : suc a + b ≡ suc (a + b) = omega arith in rw e (drop_drop cs a b)

abbrev stands : ℕ → ℕ → Option (ℕ × ℕ)
stands nanos place = Some (nanos, place)

same_parts : (a b : ℕ × ℕ) → Some a ≡ Some b → (a.0 ≡ b.0) × (a.1 ≡ b.1)
same_parts a b h = let e : a ≡ b = cc in (ap (λ (p : ℕ × ℕ). p.0) e, ap (λ (p : ℕ × ℕ). p.1) e)

fraction_cases : (text : List ℕ) (nanos place : ℕ) (point few : Bool) → (slice_index text 19 == 46) ≡ point → (nat_le 1 (length (fraction_digits text)) && nat_le (length (fraction_digits text)) 9) ≡ few
    → (if not point then stands 0 19 else (if few then stands (fraction_value 100_000_000 (fraction_digits text)) (20 + length (fraction_digits text)) else None)) ≡ stands nanos place
    → IsFractionOf text nanos place
fraction_cases text nanos place false few e f h =
    let parts = same_parts (0, 19) (nanos, place) h in
    let zero_nanos : 0 ≡ nanos = parts.0 in
    let here : 19 ≡ place = parts.1 in
    record { fraction = []; form = subst (λ (n : ℕ). FractionForm [] n) zero_nanos whole; shape = ap (λ (k : ℕ). drop k text) here }
fraction_cases text nanos place true true e f h =
    let ds = fraction_digits text in
    let b : slice_index text 19 ≡ 46 = grind (arith, nat_tests) in
    let some : 1 ≤ length (fraction_digits text) = grind (arith, nat_tests) in
    let short : length (fraction_digits text) ≤ 9 = grind (arith, nat_tests) in
    let all = leading_are_digits (drop 20 text) in
    let parts = same_parts (fraction_value 100_000_000 (fraction_digits text), 20 + length (fraction_digits text)) (nanos, place) h in
    let value : fraction_value 100_000_000 (fraction_digits text) ≡ nanos = parts.0 in
    let here : 20 + length (fraction_digits text) ≡ place = parts.1 in
    record {
      fraction = 46 ∷ fraction_digits text;
      form = subst (λ (n : ℕ). FractionForm (46 ∷ fraction_digits text) n) (sym (worth_of (fraction_digits text) all short) ∙ value) (digits (fraction_digits text) (omega arith, all) short);
      shape = mark_found text 19 20 46 refl b (omega arith)
          ∙ ap (λ (l : List ℕ). 46 ∷ l) (leading_split (drop 20 text) ∙ ap (λ (l : List ℕ). fraction_digits text ++ l) (drop_drop text 20 (length (fraction_digits text)) ∙ ap (λ (k : ℕ). drop k text) here));
    }
fraction_cases text nanos place true false e f h = cc

pub fraction_found : (text : List ℕ) (nanos place : ℕ) → fraction_of_text text ≡ Some (nanos, place) → IsFractionOf text nanos place
fraction_found text nanos place h =
    fraction_cases text nanos place (slice_index text 19 == 46) (nat_le 1 (length (fraction_digits text)) && nat_le (length (fraction_digits text)) 9) refl refl h

pub zone_place : (text fraction zone : List ℕ) → drop 19 text ≡ fraction ++ zone → drop (19 + length fraction) text ≡ zone
zone_place text fraction zone h = sym (drop_drop text 19 (length fraction)) ∙ ap (drop (length fraction)) h ∙ drop-append_seam fraction zone
