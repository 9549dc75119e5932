-- What is printed is a form of what it was.
use Rattle.std.proofs.Common.{◌≡◌, ℕ, zero, suc, ◌+◌, ◌-◌, ◌*◌, ◌/◌, ◌%◌, ◌^◌, ◌<◌, ◌≤◌, Bool, false, List, [], ◌∷◌, length, ℤ, pos, negsuc, neg_ℤ, ◌+ℤ◌, ◌-ℤ◌, ◌*ℤ◌, refl, sym, ap, ◌∙◌, subst, arith, FitsSigned, w64}
use Rattle.std.specs.Prelude.{None, ◌==◌, if◌then◌else◌}
use Rattle.std.proofs.lemmas.Bool.Decides.{nat_tests}
use Rattle.std.specs.Fmt.{decimal, signed_decimal}
use Rattle.std.specs.Char.{digit_value}
use Rattle.std.specs.Str.Parse.{AllDigits, digits_value, digits_value_after}
use Rattle.std.proofs.lemmas.Fmt.{decimal_is_IsNumeral}
use Rattle.std.proofs.lemmas.Str.{digit_value_digit}
use Rattle.std.proofs.lemmas.Str.Parse.{digit_from_value}
use Rattle.std.proofs.lemmas.Nat.{div_below}
use Rattle.std.proofs.Math.Nat.{pow-suc, mod-lt}
use Rattle.std.proofs.lemmas.Int.{ints}
use Rattle.jiff_core.specs.Calendar.{days_from_civil}
use Rattle.jiff_core.proofs.SignedLemmas.{signed_arith, one_part}
use Rattle.jiff_fmt.specs.Reader.{fraction_value}
use Rattle.jiff_fmt.specs.Text.{places, significant, trailing_zeros, fraction, fraction_part}
use Rattle.jiff_fmt.proofs.ReaderLemmas.{tenth, ten_pow-pos, fraction_value-nil, fraction_value-cons}
use Rattle.jiff_fmt.proofs.TextLemmas.{tenth_place, places-step, places-end, places-read, trailing_zeros-le, trailing_zeros-mod, significant-not_zero}
use Rattle.dg_values.specs.declared.kind.Kind.{Kind}
use Rattle.dg_values.specs.declared.kind.Kind.TheVariants as kinds
use Rattle.dg_values.specs.declared.value.Value.{Value}
use Rattle.dg_values.specs.declared.value.Value.TheVariants.{Int, Text, Bool as Truth, Time}
use Rattle.dg_values.specs.Instant.{Instant, IsInstant}
use Rattle.dg_values.specs.Calendar.{year_of, month_of, day_of, day_number, clock_of, moment_on}
use Rattle.dg_values.specs.Forms.{IntForm, TimeForm, FractionForm}
use Rattle.dg_values.specs.Forms.IntForm.{plain, minus}
use Rattle.dg_values.specs.Forms.TimeForm.{with_clock}
use Rattle.dg_values.specs.Forms.ClockMark.{upper_t}
use Rattle.dg_values.specs.Forms.FractionForm.{whole, digits}
use Rattle.dg_values.specs.Forms.ZoneForm.{upper_z}
use Rattle.dg_values.specs.Printing.{time_text, value_text}
use Rattle.dg_values.specs.Reading.{Reads, IsOfKind, IsValue}
use Rattle.dg_values.proofs.Days.{seconds_up, IsDay, date_of_day, day_of_date}
use Rattle.dg_values.proofs.TimeForms.{as_time}

-- ---- numbers

int_prints : (n : ℤ) → FitsSigned w64 n → IntForm (signed_decimal n) n
int_prints (pos n) fits =
    let d = decimal_is_IsNumeral n (omega (arith, ints)) in
    subst (λ (k : ℕ). IntForm (decimal n) (pos k)) d.1 (plain (decimal n) d.0)
int_prints (negsuc n) fits =
    let d = decimal_is_IsNumeral (suc n) (omega (arith, ints)) in
    subst (λ (k : ℕ). IntForm (45 ∷ decimal (suc n)) (neg_ℤ (pos k))) d.1 (minus (decimal (suc n)) d.0)

-- ---- fractions

regroup : (n v f p : ℕ) → n * (10 * p) + (v * p + f) ≡ (n * 10 + v) * p + f
regroup n v f p = omega arith

weighed : (ds : List ℕ) (k n : ℕ) → AllDigits 10 ds → length ds ≤ k → n * 10 ^ k + fraction_value k ds ≡ digits_value_after 10 n ds * 10 ^ (k - length ds)
weighed [] k n all short =
    let left : k - 0 ≡ k = omega arith in
    subst (λ (j : ℕ). n * 10 ^ k + fraction_value k [] ≡ n * 10 ^ j) (sym left) (omega (arith, fraction_value-nil k))
weighed (b ∷ ds) zero n all short = absurd (omega arith)
weighed (b ∷ ds) (suc k) n all short =
    let digit = digit_value_digit b (digit_from_value b all.0) in
    let value : b - 48 ≡ digit_value b = omega arith in
    let powers : 10 ^ suc k ≡ 10 * 10 ^ k = omega (arith, pow-suc 10 k) in
    let left : suc k - suc (length ds) ≡ k - length ds = omega arith in
    ap (λ (f : ℕ). n * 10 ^ suc k + f) (fraction_value-cons k b ds)
    ∙ ap (λ (p : ℕ). n * p + ((b - 48) * 10 ^ k + fraction_value k ds)) powers
    ∙ ap (λ (v : ℕ). n * (10 * 10 ^ k) + (v * 10 ^ k + fraction_value k ds)) value
    ∙ regroup n (digit_value b) (fraction_value k ds) (10 ^ k)
    ∙ weighed ds k (n * 10 + digit_value b) all.1 (omega arith)
    ∙ ap (λ (j : ℕ). digits_value_after 10 (n * 10 + digit_value b) ds * 10 ^ j) (sym left)

place_digit : (n : ℕ) → n < 10 → digit_value (48 + n) < 10
place_digit n h = let same = digit_value_digit (48 + n) (omega arith, omega arith) in omega (arith, same)

places_are_digits : (k j m : ℕ) → k ≤ j → m < 10 ^ j → AllDigits 10 (places k (10 ^ j) m)
places_are_digits zero j m h b = subst (AllDigits 10) (sym (places-end 0 (10 ^ j) m refl)) tt
places_are_digits (suc k) zero m h b = absurd (omega arith)
places_are_digits (suc k) (suc j) m h b =
    let power = 10 ^ j in
    let tens : 10 ^ suc j / 10 ≡ power = tenth_place (suc j) j refl in
    let ten_times : 10 ^ suc j ≡ 10 * power = tenth (suc j) j refl in
    let positive = ten_pow-pos j in
    let digit : m / power < 10 = div_below m power 10 positive (omega (arith, ten_times)) in
    let small : m % power < power = mod-lt m positive in
    let step : places (suc k) (10 ^ suc j) m ≡ (48 + m / power) ∷ places k power (m % power) = rw (← tens) (places-step (suc k) k (10 ^ suc j) m refl) in
    subst (AllDigits 10) (sym step) (place_digit (m / power) digit, places_are_digits k j (m % power) (omega arith) small)

fraction_prints : (n : ℕ) → n < 1_000_000_000 → FractionForm (fraction_part None n) n
fraction_prints zero high = whole
fraction_prints (suc j) high =
    let n : ℕ = suc j in
    let not_zero : n ≡ 0 → ⊥ = λ e. omega arith in
    let few = trailing_zeros-le 8 n in
    let k : ℕ = significant n in
    let is_k : k ≡ 9 - trailing_zeros 8 n = significant-not_zero n not_zero in
    let ds : List ℕ = places k 1_000_000_000 n in
    let facts = places-read k 9 n [] (omega arith) high in
    let all : AllDigits 10 ds = places_are_digits k 9 n (omega arith) high in
    let long : length ds ≡ k = facts.1 in
    let left : 9 - k ≡ trailing_zeros 8 n = omega arith in
    let multiple = trailing_zeros-mod 8 n in
    let value : fraction_value 9 ds ≡ n = omega (arith, facts.2, ap (λ (x : ℕ). n % 10 ^ x) left, multiple) in
    let worth : digits_value 10 ds * 10 ^ (9 - length ds) ≡ n = sym (weighed ds 9 0 all (omega arith)) ∙ omega (arith, value) in
    let test : (suc j == 0) ≡ false = grind (arith, nat_tests) in
    let part : 46 ∷ ds ≡ fraction_part None (suc j) = sym (ap (λ (t : Bool). if t then [] else 46 ∷ fraction None (suc j)) test) in
    subst (λ (l : List ℕ). FractionForm l n) part (subst (λ (x : ℕ). FractionForm (46 ∷ ds) x) worth (digits ds (omega arith, all) (omega arith)))

-- ---- moments

pub day_of_instant : (m : Instant) → IsInstant m → IsDay (day_number m)
day_of_instant m h = record {
  low = omega (arith, signed_arith);
  high = omega (arith, signed_arith, one_part (m.secs +ℤ pos 62_167_219_200), seconds_up m, h.0, h.1);
}

time_prints : (m : Instant) → IsInstant m → TimeForm (time_text m) m
time_prints m h =
    let n : ℤ = day_number m in
    let day = day_of_instant m h in
    let s : ℕ = clock_of m in
    let shown : 3600 * (s / 3600) + 60 * (s / 60 % 60) + s % 60 ≡ s = omega arith in
    let secs : n *ℤ pos 86400 +ℤ pos s -ℤ pos 0 ≡ m.secs = omega (arith, signed_arith, one_part (m.secs +ℤ pos 62_167_219_200), seconds_up m, h.0) in
    let same : moment_on (days_from_civil (pos (year_of n)) (month_of n) (day_of n)) (3600 * (s / 3600) + 60 * (s / 60 % 60) + s % 60) (pos 0) m.nanos ≡ m =
    ap (λ (x : ℤ). moment_on x (3600 * (s / 3600) + 60 * (s / 60 % 60) + s % 60) (pos 0) m.nanos) (day_of_date n day)
    ∙ ap (λ (x : ℕ). moment_on n x (pos 0) m.nanos) shown ∙ ap made secs in
    as_time (time_text m) (time_text m) _ m refl same
    (with_clock (year_of n) (month_of n) (day_of n) (s / 3600) (s / 60 % 60) (s % 60) m.nanos (pos 0) (84 ∷ []) (fraction_part None m.nanos) (90 ∷ [])
    (date_of_day n day) upper_t (omega arith, omega arith, omega arith) (fraction_prints m.nanos h.2) upper_z (subst IsInstant (sym same) h))
  where
    made : ℤ → Instant
    made x = record { secs = x; nanos = m.nanos }

pub printed_reads : (kind : Kind) (v : Value) → IsOfKind kind v → IsValue v → Reads kind (value_text v) v
printed_reads kinds.Default (Text t) k h = refl
printed_reads kinds.Text (Text t) k h = refl
printed_reads kinds.Int (Int n) k h = (int_prints n h, h)
printed_reads kinds.Bool (Truth b) k h = refl
printed_reads kinds.Time (Time m) k h = time_prints m h
printed_reads kinds.Default (Int n) k h = absurd k
printed_reads kinds.Default (Truth b) k h = absurd k
printed_reads kinds.Default (Time m) k h = absurd k
printed_reads kinds.Text (Int n) k h = absurd k
printed_reads kinds.Text (Truth b) k h = absurd k
printed_reads kinds.Text (Time m) k h = absurd k
printed_reads kinds.Int (Text t) k h = absurd k
printed_reads kinds.Int (Truth b) k h = absurd k
printed_reads kinds.Int (Time m) k h = absurd k
printed_reads kinds.Bool (Int n) k h = absurd k
printed_reads kinds.Bool (Text t) k h = absurd k
printed_reads kinds.Bool (Time m) k h = absurd k
printed_reads kinds.Time (Int n) k h = absurd k
printed_reads kinds.Time (Text t) k h = absurd k
printed_reads kinds.Time (Truth b) k h = absurd k
printed_reads kinds.Uid (Int n) k h = absurd k
printed_reads kinds.Uid (Text t) k h = absurd k
printed_reads kinds.Uid (Truth b) k h = absurd k
printed_reads kinds.Uid (Time m) k h = absurd k
