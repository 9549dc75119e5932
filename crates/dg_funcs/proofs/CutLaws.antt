-- A moment that is cut down doesn't come before an earlier one that is.
use Rattle.std.proofs.Common.{◌≡◌, ℕ, zero, suc, ◌<◌, ◌≤◌, Bool, true, false, ℤ, pos, ◌≤ℤ◌, ◌*ℤ◌, ◌+ℤ◌, refl, subst, inl, inr, arith}
use Rattle.std.specs.Prelude.{◌⊎◌, not, int_lt, if◌then◌else◌}
use Rattle.std.specs.declared.cmp.Ordering.{Ordering}
use Rattle.std.specs.declared.cmp.Ordering.TheVariants.{Less, Equal, Greater}
use Rattle.std.specs.Ordering.{int_cmp, nat_cmp, ordering_then, is_le}
use Rattle.std.proofs.Math.Nat.{eq-or-lt_of_le}
use Rattle.std.proofs.lemmas.Int.{ints}
use Rattle.jiff_core.specs.Calendar.{days_from_civil, IsCivilDate}
use Rattle.jiff_core.proofs.SignedLemmas.{signed_arith, one_part}
use Rattle.jiff_core.proofs.CalendarLemmas.{days_from_civil-day_count, day_count-lt_year, day_count-lt_month}
use Rattle.dg_values.specs.declared.kind.DatePart.{DatePart}
use Rattle.dg_values.specs.declared.kind.DatePart.TheVariants as parts
use Rattle.dg_values.specs.Instant.{Instant, last_second}
use Rattle.dg_values.specs.Order.{moment_cmp}
use Rattle.dg_values.specs.Calendar.{latest, year_of, month_of, day_number, truncated}
use Rattle.dg_values.proofs.Days.{latest-le, seconds_up, IsDay, first_of_month, first_of_year}

-- ---- the latest that passes

latest_case : (f g : ℕ → Bool) (n : ℕ) → (f (suc n) ≡ true → g (suc n) ≡ true) → latest f n ≤ latest g n → latest f n ≤ n → (v w : Bool) → f (suc n) ≡ v → g (suc n) ≡ w
    → (if v then suc n else latest f n) ≤ (if w then suc n else latest g n)
latest_case f g n h le most true true a b = omega arith
latest_case f g n h le most true false a b = let c = h a in absurd (cc)
latest_case f g n h le most false true a b = omega arith
latest_case f g n h le most false false a b = le

-- by a test that passes more the latest is no earlier
latest_more : (f g : ℕ → Bool) → ((k : ℕ) → f k ≡ true → g k ≡ true) → (n : ℕ) → latest f n ≤ latest g n
unfolding latest
latest_more f g h zero = omega arith
latest_more f g h (suc n) = latest_case f g n (h (suc n)) (latest_more f g h n) (latest-le f n) (f (suc n)) (g (suc n)) refl refl

-- what a day doesn't come before, no later day comes before
still : (a b x : ℤ) → a ≤ℤ b → not (int_lt a x) ≡ true → not (int_lt b x) ≡ true
still a b x h e = grind (arith, ints)

year_later : (a b : ℤ) → a ≤ℤ b → year_of a ≤ year_of b
unfolding year_of
year_later a b h =
    latest_more (λ year. not (int_lt a (days_from_civil (pos year) 1 1))) (λ year. not (int_lt b (days_from_civil (pos year) 1 1))) (λ k e. still a b (days_from_civil (pos k) 1 1) h e) 9999

month_later : (a b : ℤ) → a ≤ℤ b → year_of a ≡ year_of b → month_of a ≤ month_of b
unfolding month_of
month_later a b h same =
    latest_more (λ month. not (int_lt a (days_from_civil (pos (year_of a)) month 1))) (λ month. not (int_lt b (days_from_civil (pos (year_of b)) month 1)))
    (λ k e. subst (λ (y : ℕ). not (int_lt b (days_from_civil (pos y) k 1)) ≡ true) same (still a b (days_from_civil (pos (year_of a)) k 1) h e)) 12

-- ---- first days

in_year : (y m d z n e : ℕ) → IsCivilDate (pos y) m d → 1 ≤ e → y < z → days_from_civil (pos y) m d ≤ℤ days_from_civil (pos z) n e
in_year y m d z n e h first lt =
    omega (arith, signed_arith, day_count-lt_year (pos y) m d (pos z) n e h first (omega (arith, signed_arith)), days_from_civil-day_count (pos y) m d, days_from_civil-day_count (pos z) n e)

in_month : (y m d n e : ℕ) → IsCivilDate (pos y) m d → 1 ≤ e → m < n → days_from_civil (pos y) m d ≤ℤ days_from_civil (pos y) n e
in_month y m d n e h first lt =
    omega (arith, signed_arith, day_count-lt_month (pos y) m d n e h first lt, days_from_civil-day_count (pos y) m d, days_from_civil-day_count (pos y) n e)

same_day : (a : ℤ) → a ≤ℤ a
same_day a = omega (arith, signed_arith)

year_start : (a b : ℤ) → IsDay a → a ≤ℤ b → days_from_civil (pos (year_of a)) 1 1 ≤ℤ days_from_civil (pos (year_of b)) 1 1
year_start a b day h = by (eq-or-lt_of_le (year_later a b h))
  where
    by : (year_of a ≡ year_of b) ⊎ (year_of a < year_of b) → days_from_civil (pos (year_of a)) 1 1 ≤ℤ days_from_civil (pos (year_of b)) 1 1
    by (inl e) = subst (λ (y : ℕ). days_from_civil (pos (year_of a)) 1 1 ≤ℤ days_from_civil (pos y) 1 1) e (same_day (days_from_civil (pos (year_of a)) 1 1))
    by (inr lt) = in_year (year_of a) 1 1 (year_of b) 1 1 (first_of_year a day) (omega arith) lt

month_start : (a b : ℤ) → IsDay a → a ≤ℤ b → days_from_civil (pos (year_of a)) (month_of a) 1 ≤ℤ days_from_civil (pos (year_of b)) (month_of b) 1
month_start a b day h = by (eq-or-lt_of_le (year_later a b h))
  where
    within : (month_of a ≡ month_of b) ⊎ (month_of a < month_of b) → days_from_civil (pos (year_of a)) (month_of a) 1 ≤ℤ days_from_civil (pos (year_of a)) (month_of b) 1
    within (inl e) = subst (λ (m : ℕ). days_from_civil (pos (year_of a)) (month_of a) 1 ≤ℤ days_from_civil (pos (year_of a)) m 1) e (same_day (days_from_civil (pos (year_of a)) (month_of a) 1))
    within (inr lt) = in_month (year_of a) (month_of a) 1 (month_of b) 1 (first_of_month a day) (omega arith) lt

    by : (year_of a ≡ year_of b) ⊎ (year_of a < year_of b) → days_from_civil (pos (year_of a)) (month_of a) 1 ≤ℤ days_from_civil (pos (year_of b)) (month_of b) 1
    by (inl e) = subst (λ (y : ℕ). days_from_civil (pos (year_of a)) (month_of a) 1 ≤ℤ days_from_civil (pos y) (month_of b) 1) e (within (eq-or-lt_of_le (month_later a b h e)))
    by (inr lt) = in_year (year_of a) (month_of a) 1 (year_of b) (month_of b) 1 (first_of_month a day) (omega arith) lt

-- ---- moments

day_later : (a b : Instant) → a.secs ≤ℤ b.secs → day_number a ≤ℤ day_number b
day_later a b h =
    omega (arith, signed_arith, one_part (a.secs +ℤ pos 62_167_219_200), one_part (b.secs +ℤ pos 62_167_219_200), seconds_up a, seconds_up b, h)

-- a day of the years 0000 to 9999, of a moment that isn't later
day_there : (a : Instant) → a.secs ≤ℤ last_second → IsDay (day_number a)
day_there a i = record {
  low = omega (arith, signed_arith);
  high = omega (arith, signed_arith, one_part (a.secs +ℤ pos 62_167_219_200), seconds_up a, i);
}

days_seconds : (a b : ℤ) → a ≤ℤ b → (a *ℤ pos 86400) ≤ℤ (b *ℤ pos 86400)
days_seconds a b h = omega (arith, signed_arith, h)

-- the seconds of a part's first moment
pub cut_later : (part : DatePart) (a b : Instant) → a.secs ≤ℤ last_second → a.secs ≤ℤ b.secs → (truncated part a).secs ≤ℤ (truncated part b).secs
cut_later parts.Hour a b i h =
    omega (arith, signed_arith, one_part (a.secs +ℤ pos 62_167_219_200), one_part (b.secs +ℤ pos 62_167_219_200), seconds_up a, seconds_up b, h)
cut_later parts.Day a b i h = days_seconds (day_number a) (day_number b) (day_later a b h)
cut_later parts.Month a b i h =
    days_seconds (days_from_civil (pos (year_of (day_number a))) (month_of (day_number a)) 1) (days_from_civil (pos (year_of (day_number b))) (month_of (day_number b)) 1)
    (month_start (day_number a) (day_number b) (day_there a i) (day_later a b h))
cut_later parts.Year a b i h =
    days_seconds (days_from_civil (pos (year_of (day_number a))) 1 1) (days_from_civil (pos (year_of (day_number b))) 1 1)
    (year_start (day_number a) (day_number b) (day_there a i) (day_later a b h))

in_order : (a b : ℤ) → a ≤ℤ b → is_le (ordering_then (int_cmp a b) (nat_cmp 0 0)) ≡ true
in_order a b h = by (int_cmp a b) refl
  where
    by : (o : Ordering) → int_cmp a b ≡ o → is_le (ordering_then o (nat_cmp 0 0)) ≡ true
    by Less e = refl
    by Equal e = refl
    by Greater e = absurd (grind (arith, ints))

-- and so the moments
pub cut_in_order : (part : DatePart) (a b : Instant) → a.secs ≤ℤ last_second → a.secs ≤ℤ b.secs → is_le (moment_cmp (truncated part a) (truncated part b)) ≡ true
cut_in_order parts.Hour a b i h = in_order (truncated parts.Hour a).secs (truncated parts.Hour b).secs (cut_later parts.Hour a b i h)
cut_in_order parts.Day a b i h = in_order (truncated parts.Day a).secs (truncated parts.Day b).secs (cut_later parts.Day a b i h)
cut_in_order parts.Month a b i h = in_order (truncated parts.Month a).secs (truncated parts.Month b).secs (cut_later parts.Month a b i h)
cut_in_order parts.Year a b i h = in_order (truncated parts.Year a).secs (truncated parts.Year b).secs (cut_later parts.Year a b i h)

-- the seconds of an earlier moment
pub secs_in_order : (a b : Instant) → is_le (moment_cmp a b) ≡ true → a.secs ≤ℤ b.secs
secs_in_order a b h = by (int_cmp a.secs b.secs) refl h
  where
    by : (o : Ordering) → int_cmp a.secs b.secs ≡ o → is_le (ordering_then o (nat_cmp a.nanos b.nanos)) ≡ true → a.secs ≤ℤ b.secs
    by Less e g = grind (arith, ints)
    by Equal e g = grind (arith, ints)
    by Greater e g = absurd (cc)
