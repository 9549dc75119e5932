-- A moment cut down is the first of its part.
use Rattle.std.proofs.Common.{◌≡◌, ℕ, ◌/◌, ◌≢◌, ℤ, pos, neg_ℤ, ◌+ℤ◌, ◌*ℤ◌, ◌≤ℤ◌, refl, ap, ◌∙◌, subst, arith}
use Rattle.std.specs.declared.cmp.Ordering.{Ordering}
use Rattle.std.specs.declared.cmp.Ordering.TheVariants.{Less, Equal, Greater}
use Rattle.std.specs.Ordering.{nat_cmp, int_cmp, ordering_then}
use Rattle.std.specs.Prelude.{◌⊎◌}
use borrow.Author.Differences.{up, down}
use Rattle.std.proofs.lemmas.Int.{ints}
use Rattle.std.proofs.lemmas.Bool.Decides.{nat_tests}
use Rattle.jiff_core.specs.Calendar.{days_from_civil}
use Rattle.jiff_core.proofs.SignedLemmas.{signed_arith, one_part}
use Rattle.dg_values.specs.declared.kind.DatePart.{DatePart}
use Rattle.dg_values.specs.declared.kind.DatePart.TheVariants as parts
use Rattle.dg_values.specs.Instant.{Instant, IsInstant}
use Rattle.dg_values.specs.Order.{moment_cmp}
use Rattle.dg_values.specs.Calendar.{year_of, month_of, seconds_of, day_number, midnight, truncated, IsFirstMoment}
use Rattle.dg_values.proofs.DateParts.{the_year, the_month}
use Rattle.dg_values.proofs.Days.{seconds_up, year_began, year_small, month_began, first_of_month, first_of_year}
use Rattle.dg_values.proofs.PrintedForms.{day_of_instant}
use Rattle.dg_values.proofs.TimeForms.{midnight_in}

-- ---- the order of moments

not_above : (a b : ℤ) → a ≤ℤ b → int_cmp a b ≢ Greater
not_above a b h e = grind (arith, ints)

then_above : (r s : Ordering) → r ≢ Greater → s ≢ Greater → ordering_then r s ≢ Greater
then_above Less s a b e = cc
then_above Equal s a b e = b e
then_above Greater s a b e = a refl

least : (n : ℕ) → nat_cmp 0 n ≢ Greater
least n e = grind (arith, nat_tests)

-- a whole second is not after a moment of that second or a later one
not_after : (secs : ℤ) (b : Instant) → secs ≤ℤ b.secs → moment_cmp (record { secs = secs; nanos = 0 }) b ≢ Greater
not_after secs b h = then_above (int_cmp secs b.secs) (nat_cmp 0 b.nanos) (not_above secs b.secs h) (least b.nanos)

-- ---- hours

hour_first : (m : Instant) → IsInstant m → IsFirstMoment parts.Hour m (truncated parts.Hour m)
hour_first m h = record {
  moment = (omega (arith, signed_arith, whole, seconds_up m, h.0), omega (arith, signed_arith, whole, seconds_up m, h.1), omega arith);
  within = within;
  earliest = λ other i same. not_after (truncated parts.Hour m).secs other (omega (arith, signed_arith, whole, seconds_up m, one_part (other.secs +ℤ pos 62_167_219_200), seconds_up other, i.0, same));
}
  where
    whole : (up (m.secs +ℤ pos 62_167_219_200) ≡ 0) ⊎ (down (m.secs +ℤ pos 62_167_219_200) ≡ 0)
    whole = one_part (m.secs +ℤ pos 62_167_219_200)

    within : seconds_of (truncated parts.Hour m) / 3600 ≡ seconds_of m / 3600
    within = omega (arith, signed_arith, whole, seconds_up m, one_part ((truncated parts.Hour m).secs +ℤ pos 62_167_219_200), seconds_up (truncated parts.Hour m), h.0)

-- ---- days, months and years

-- the day that begins at a midnight
midnight_day : (n : ℤ) → neg_ℤ (pos 719_528) ≤ℤ n → day_number (midnight n) ≡ n
midnight_day n low = omega (arith, signed_arith, one_part ((midnight n).secs +ℤ pos 62_167_219_200), seconds_up (midnight n))

begun : (n : ℤ) (other : Instant) → IsInstant other → n ≤ℤ day_number other → (n *ℤ pos 86400) ≤ℤ other.secs
begun n other i h = omega (arith, signed_arith, one_part (other.secs +ℤ pos 62_167_219_200), seconds_up other, i.0)

day_first : (m : Instant) → IsInstant m → IsFirstMoment parts.Day m (truncated parts.Day m)
day_first m h =
    let day = day_of_instant m h in
    record {
      moment = (omega (arith, signed_arith, day.low), omega (arith, signed_arith, day.high), omega arith);
      within = midnight_day (day_number m) day.low;
      earliest = λ other i same. not_after (day_number m *ℤ pos 86400) other (begun (day_number m) other i (omega (arith, signed_arith, same)));
    }

month_first : (m : Instant) → IsInstant m → IsFirstMoment parts.Month m (truncated parts.Month m)
month_first m h =
    let n : ℤ = day_number m in
    let day = day_of_instant m h in
    let civil = first_of_month n day in
    let number : ℤ = days_from_civil (pos (year_of n)) (month_of n) 1 in
    let in_years = midnight_in (year_of n) (month_of n) 1 civil in
    let same_day : day_number (midnight number) ≡ number = midnight_day number (omega (arith, signed_arith, in_years.0)) in
    let same_year : year_of (day_number (midnight number)) ≡ year_of n = ap year_of same_day ∙ the_year (year_of n) (month_of n) 1 civil (year_small n day) in
    let same_month : month_of (day_number (midnight number)) ≡ month_of n = ap month_of same_day ∙ the_month (year_of n) (month_of n) 1 civil (year_small n day) in
    record { moment = in_years; within = (same_year, same_month); earliest = λ other i same. later n number other i same }
  where
    later : (n number : ℤ) (other : Instant) → IsInstant other → (year_of (day_number other) ≡ year_of n) × (month_of (day_number other) ≡ month_of n)
        → moment_cmp (midnight (days_from_civil (pos (year_of n)) (month_of n) 1)) other ≢ Greater
    later n number other i same =
        let first = month_began (day_number other) (day_of_instant other i) in
        let e : days_from_civil (pos (year_of (day_number other))) (month_of (day_number other)) 1 ≡ days_from_civil (pos (year_of n)) (month_of n) 1 =
        ap (λ (y : ℕ). days_from_civil (pos y) (month_of (day_number other)) 1) same.0 ∙ ap (λ (k : ℕ). days_from_civil (pos (year_of n)) k 1) same.1 in
        let low : days_from_civil (pos (year_of n)) (month_of n) 1 ≤ℤ day_number other = subst (λ (d : ℤ). d ≤ℤ day_number other) e first in
        not_after (days_from_civil (pos (year_of n)) (month_of n) 1 *ℤ pos 86400) other (begun (days_from_civil (pos (year_of n)) (month_of n) 1) other i low)

year_first : (m : Instant) → IsInstant m → IsFirstMoment parts.Year m (truncated parts.Year m)
year_first m h =
    let n : ℤ = day_number m in
    let day = day_of_instant m h in
    let civil = first_of_year n day in
    let number : ℤ = days_from_civil (pos (year_of n)) 1 1 in
    let in_years = midnight_in (year_of n) 1 1 civil in
    let same_day : day_number (midnight number) ≡ number = midnight_day number (omega (arith, signed_arith, in_years.0)) in
    let same_year : year_of (day_number (midnight number)) ≡ year_of n = ap year_of same_day ∙ the_year (year_of n) 1 1 civil (year_small n day) in
    record { moment = in_years; within = same_year; earliest = λ other i same. later n other i same }
  where
    later : (n : ℤ) (other : Instant) → IsInstant other → year_of (day_number other) ≡ year_of n → moment_cmp (midnight (days_from_civil (pos (year_of n)) 1 1)) other ≢ Greater
    later n other i same =
        let first = year_began (day_number other) (day_of_instant other i) in
        let low : days_from_civil (pos (year_of n)) 1 1 ≤ℤ day_number other = subst (λ (y : ℕ). days_from_civil (pos y) 1 1 ≤ℤ day_number other) same first in
        not_after (days_from_civil (pos (year_of n)) 1 1 *ℤ pos 86400) other (begun (days_from_civil (pos (year_of n)) 1 1) other i low)

pub first_moment : (part : DatePart) (m : Instant) → IsInstant m → IsFirstMoment part m (truncated part m)
first_moment parts.Year m h = year_first m h
first_moment parts.Month m h = month_first m h
first_moment parts.Day m h = day_first m h
first_moment parts.Hour m h = hour_first m h
