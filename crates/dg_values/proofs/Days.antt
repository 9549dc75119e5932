-- Which days the years 0000 to 9999 have, and that each has a date.
use Rattle.std.proofs.Common.{◌≡◌, ℕ, zero, suc, ◌+◌, ◌<◌, ◌≤◌, Bool, true, false, refl, sym, ap, ◌∙◌, subst, arith, ℤ, pos, neg_ℤ, ◌+ℤ◌, ◌-ℤ◌, ◌<ℤ◌, ◌≤ℤ◌}
use Rattle.std.specs.Prelude.{not, int_lt, unsigned_abs, if◌then◌else◌}
use Rattle.std.specs.Prelude.{◌⊎◌}
use Rattle.std.proofs.Common.{inl, inr}
use Rattle.std.proofs.Math.Nat.{eq-or-lt_of_le}
use Rattle.std.proofs.lemmas.Int.{ints}
use Rattle.jiff_core.specs.Calendar.{days_from_civil, days_in_month, IsCivilDate}
use Rattle.jiff_core.proofs.SignedLemmas.{signed_arith, one_part}
use Rattle.jiff_core.proofs.CalendarLemmas.{days_from_civil-day_count, day_count-day, day_count-end, day_count-next_year, day_count-next_month, day_count-last_of_year, days_in_month_bounds, day_count-day_of_year, days_of_months-zero}
use borrow.Author.Differences.{up}
use Rattle.dg_values.specs.Instant.{Instant, first_second}
use Rattle.dg_values.specs.Calendar.{latest, year_of, month_of, day_of, seconds_of}
use Rattle.dg_values.proofs.DateParts.{before, number-zero}

-- ---- the seconds of moments

seconds_case : (m : Instant) (before : Bool) → int_lt m.secs first_second ≡ before → (if before then 0 else unsigned_abs (m.secs +ℤ pos 62_167_219_200)) ≡ up (m.secs +ℤ pos 62_167_219_200)
seconds_case m true e = omega (arith, signed_arith, one_part (m.secs +ℤ pos 62_167_219_200), e)
seconds_case m false e = omega (arith, signed_arith, one_part (m.secs +ℤ pos 62_167_219_200), e)

-- from the year 0000 on, as far as they are not negative
pub seconds_up : (m : Instant) → seconds_of m ≡ up (m.secs +ℤ pos 62_167_219_200)
seconds_up m = seconds_case m (int_lt m.secs first_second) refl

-- ---- the latest that passes a test

latest_case : (test : ℕ → Bool) (n : ℕ) (last : Bool) → test (suc n) ≡ last → latest test n ≤ n → (if last then suc n else latest test n) ≤ suc n
latest_case test n true e h = omega arith
latest_case test n false e h = omega arith

pub latest-le : (test : ℕ → Bool) (n : ℕ) → latest test n ≤ n
unfolding latest
latest-le test zero = omega arith
latest-le test (suc n) = latest_case test n (test (suc n)) refl (latest-le test n)

passes_case : (test : ℕ → Bool) (n : ℕ) (last : Bool) → test (suc n) ≡ last → test (latest test n) ≡ true → test (if last then suc n else latest test n) ≡ true
passes_case test n true e h = e
passes_case test n false e h = h

-- where the least passes, the latest that passes does
pub latest_passes : (test : ℕ → Bool) (n : ℕ) → test 0 ≡ true → test (latest test n) ≡ true
unfolding latest
latest_passes test zero h = h
latest_passes test (suc n) h = passes_case test n (test (suc n)) refl (latest_passes test n h)

nothing_case : (test : ℕ → Bool) (n k : ℕ) (last : Bool) → test (suc n) ≡ last → (if last then suc n else latest test n) < k → k ≤ suc n → (latest test n < k → k ≤ n → test k ≡ false) → test k ≡ false
nothing_case test n k true e above upto h = absurd (omega arith)
nothing_case test n k false e above upto h = by_place (eq-or-lt_of_le upto)
  where
    by_place : (k ≡ suc n) ⊎ (k < suc n) → test k ≡ false
    by_place (inl at) = subst (λ (j : ℕ). test j ≡ false) (sym at) e
    by_place (inr le) = h above (omega arith)

-- and none above it does
pub latest_is_last : (test : ℕ → Bool) (n k : ℕ) → latest test n < k → k ≤ n → test k ≡ false
unfolding latest
latest_is_last test zero k above upto = absurd (omega arith)
latest_is_last test (suc n) k above upto = nothing_case test n k (test (suc n)) refl above upto (latest_is_last test n k)

-- ---- the date of a day

-- a day of the years 0000 to 9999
pub record IsDay (n : ℤ) : Type 0 where
  pub low : neg_ℤ (pos 719_528) ≤ℤ n
  pub high : n ≤ℤ pos 2_932_896

began : (a b : ℤ) → not (int_lt a b) ≡ true → b ≤ℤ a
began a b h = grind (arith, ints)

not_begun : (a b : ℤ) → not (int_lt a b) ≡ false → a <ℤ b
not_begun a b h = grind (arith, ints)

module _ (n : ℤ) (h : IsDay n) where
  pub year_began : days_from_civil (pos (year_of n)) 1 1 ≤ℤ n
  unfolding year_of
  year_began = began n _ (latest_passes (λ year. not (int_lt n (days_from_civil (pos year) 1 1))) 9999 (before n _ (omega (arith, signed_arith, number-zero, h.low))))

  pub year_small : year_of n ≤ 9999
  unfolding year_of
  year_small = latest-le _ 9999

  earlier_year : year_of n < 9999 → n <ℤ days_from_civil (pos (suc (year_of n))) 1 1
  unfolding year_of
  earlier_year lt = not_begun n _ (latest_is_last (λ year. not (int_lt n (days_from_civil (pos year) 1 1))) 9999 (suc (year_of n)) (omega arith) (omega arith))

  last_year : year_of n ≡ 9999 → n <ℤ days_from_civil (pos (suc (year_of n))) 1 1
  last_year e = let next : days_from_civil (pos 10000) 1 1 ≡ pos 2_932_897 = omega (arith, signed_arith, day_count-end, days_from_civil-day_count (pos 10000) 1 1) in
      rw e (omega (arith, signed_arith, next, h.high))

  year_ends : n <ℤ days_from_civil (pos (suc (year_of n))) 1 1
  year_ends = by_place (eq-or-lt_of_le year_small)
    where
      by_place : (year_of n ≡ 9999) ⊎ (year_of n < 9999) → n <ℤ days_from_civil (pos (suc (year_of n))) 1 1
      by_place (inl at) = last_year at
      by_place (inr lt) = earlier_year lt

  first_month : days_from_civil (pos (year_of n)) 0 1 ≤ℤ n
  first_month = omega (
    arith,
    signed_arith,
    year_began,
    days_from_civil-day_count (pos (year_of n)) 0 1,
    days_from_civil-day_count (pos (year_of n)) 1 1,
    day_count-day_of_year (pos (year_of n)) 0 1 (omega arith),
    days_of_months-zero (pos (year_of n)),
  )

  pub month_began : days_from_civil (pos (year_of n)) (month_of n) 1 ≤ℤ n
  unfolding month_of
  month_began = began n _ (latest_passes (λ month. not (int_lt n (days_from_civil (pos (year_of n)) month 1))) 12 (before n _ first_month))

  month_high : month_of n ≤ 12
  unfolding month_of
  month_high = latest-le _ 12

  no_month : month_of n < 1 → ⊥
  unfolding month_of
  no_month lt =
      let on = before n (days_from_civil (pos (year_of n)) 1 1) year_began in
      let off = latest_is_last (λ month. not (int_lt n (days_from_civil (pos (year_of n)) month 1))) 12 1 lt (omega arith) in
      cc

  month_low : 1 ≤ month_of n
  month_low = let no = no_month in omega (arith, no)

  earlier_month : month_of n < 12 → n <ℤ days_from_civil (pos (year_of n)) (suc (month_of n)) 1
  unfolding month_of
  earlier_month lt = not_begun n _ (latest_is_last (λ month. not (int_lt n (days_from_civil (pos (year_of n)) month 1))) 12 (suc (month_of n)) (omega arith) (omega arith))

  within_month : (month : ℕ) → month ≡ month_of n → (month ≡ 12) ⊎ (month < 12) → n <ℤ (days_from_civil (pos (year_of n)) month 1 +ℤ pos (days_in_month (pos (year_of n)) month))
  within_month month e (inl at) =
      let next = day_count-next_year (pos (year_of n)) (pos (suc (year_of n))) (omega (arith, signed_arith)) (omega (arith, signed_arith)) in
      let last = day_count-last_of_year (pos (year_of n)) in
      let long = day_count-day (pos (year_of n)) 12 31 1 (omega arith) (omega arith) in
      rw at (omega (arith, signed_arith, year_ends, next, last, long, days_from_civil-day_count (pos (year_of n)) 12 1, days_from_civil-day_count (pos (suc (year_of n))) 1 1))
  within_month month e (inr lt) =
      let one : suc month ≡ month + 1 = omega arith in
      let ends : n <ℤ days_from_civil (pos (year_of n)) (month + 1) 1 = subst (λ (k : ℕ). n <ℤ days_from_civil (pos (year_of n)) k 1) (ap suc (sym e) ∙ one) (earlier_month (omega (arith, e))) in
      omega (arith, signed_arith, ends, day_count-next_month (pos (year_of n)) month (omega (arith, month_low, e)), days_from_civil-day_count (pos (year_of n)) month 1, days_from_civil-day_count (pos (year_of n)) (month + 1) 1)

  month_ends : n <ℤ (days_from_civil (pos (year_of n)) (month_of n) 1 +ℤ pos (days_in_month (pos (year_of n)) (month_of n)))
  month_ends = within_month (month_of n) refl (eq-or-lt_of_le month_high)

  day_low : 1 ≤ day_of n
  unfolding day_of
  day_low = omega arith

  day_high : day_of n ≤ days_in_month (pos (year_of n)) (month_of n)
  unfolding day_of
  day_high = omega (arith, signed_arith, month_began, month_ends, one_part (n -ℤ days_from_civil (pos (year_of n)) (month_of n) 1))

  pub date_of_day : IsCivilDate (pos (year_of n)) (month_of n) (day_of n)
  date_of_day = (omega (arith, signed_arith, year_small), (month_low, month_high), (day_low, day_high))

  pub first_of_month : IsCivilDate (pos (year_of n)) (month_of n) 1
  first_of_month = let long = days_in_month_bounds (pos (year_of n)) (month_of n) in (omega (arith, signed_arith, year_small), (month_low, month_high), (omega arith, omega (arith, long)))

  pub first_of_year : IsCivilDate (pos (year_of n)) 1 1
  first_of_year = let long = days_in_month_bounds (pos (year_of n)) 1 in (omega (arith, signed_arith, year_small), (omega arith, omega arith), (omega arith, omega (arith, long)))

  pub day_of_date : days_from_civil (pos (year_of n)) (month_of n) (day_of n) ≡ n
  unfolding day_of
  day_of_date = omega (
    arith,
    signed_arith,
    month_began,
    one_part (n -ℤ days_from_civil (pos (year_of n)) (month_of n) 1),
    day_count-day (pos (year_of n)) (month_of n) (day_of n) 1 day_low (omega arith),
    days_from_civil-day_count (pos (year_of n)) (month_of n) (day_of n),
    days_from_civil-day_count (pos (year_of n)) (month_of n) 1,
  )
