-- How numbers and times are written.
use Rattle.std.specs.Prelude.{ℕ, ◌+◌, ◌-◌, ◌*◌, ◌^◌, ◌<◌, ◌≤◌, ℤ, pos, neg_ℤ, List, [], ◌∷◌, ◌++◌, length}
use Rattle.std.specs.Str.Parse.{IsNumeral, digits_value}
use Rattle.jiff_core.specs.Calendar.{days_from_civil, IsCivilDate}
use Rattle.jiff_fmt.specs.Text.{pad2, pad4}
use Rattle.dg_values.specs.Instant.{Instant, IsInstant}
use Rattle.dg_values.specs.Calendar.{midnight, moment_on}

-- digits after nothing, `+` or `-`, and the number that they write
pub data IntForm : List ℕ → ℤ → Type 0 where
  plain : (digits : List ℕ) → IsNumeral 10 digits → IntForm digits (pos (digits_value 10 digits))
  plus : (digits : List ℕ) → IsNumeral 10 digits → IntForm (43 ∷ digits) (pos (digits_value 10 digits))
  minus : (digits : List ℕ) → IsNumeral 10 digits → IntForm (45 ∷ digits) (neg_ℤ (pos (digits_value 10 digits)))

-- `YYYY-MM-DD`
abbrev pub date_text : ℕ → ℕ → ℕ → List ℕ
date_text year month day = pad4 year ++ 45 ∷ pad2 month ++ 45 ∷ pad2 day

-- `T` or `t`
pub data ClockMark : List ℕ → Type 0 where
  upper_t : ClockMark (84 ∷ [])
  lower_t : ClockMark (116 ∷ [])

-- `hh:mm:ss`
abbrev pub clock_text : ℕ → ℕ → ℕ → List ℕ
clock_text hour minute second = pad2 hour ++ 58 ∷ pad2 minute ++ 58 ∷ pad2 second

-- a clock shows this; there is no second 60
abbrev pub IsClock : ℕ → ℕ → ℕ → Type 0
IsClock hour minute second = (hour < 24) × (minute < 60) × (second < 60)

-- nothing, or a point and one to nine digits, and the nanoseconds that they write
pub data FractionForm : List ℕ → ℕ → Type 0 where
  whole : FractionForm [] 0
  digits : (ds : List ℕ) → IsNumeral 10 ds → length ds ≤ 9 → FractionForm (46 ∷ ds) (digits_value 10 ds * 10 ^ (9 - length ds))

-- nothing, `Z`, `z`, or a sign and `hh:mm`, and how many seconds the clock is ahead of UTC
pub data ZoneForm : List ℕ → ℤ → Type 0 where
  unsaid : ZoneForm [] (pos 0)
  upper_z : ZoneForm (90 ∷ []) (pos 0)
  lower_z : ZoneForm (122 ∷ []) (pos 0)
  ahead : (hour minute : ℕ) → hour < 24 → minute < 60 → ZoneForm (43 ∷ pad2 hour ++ 58 ∷ pad2 minute) (pos (3600 * hour + 60 * minute))
  behind : (hour minute : ℕ) → hour < 24 → minute < 60 → ZoneForm (45 ∷ pad2 hour ++ 58 ∷ pad2 minute) (neg_ℤ (pos (3600 * hour + 60 * minute)))

-- a date, which is its first moment, or a date and a clock, where that moment lies in the years 0000 to 9999
pub data TimeForm : List ℕ → Instant → Type 0 where
  day_alone : (year month day : ℕ) → IsCivilDate (pos year) month day
      → TimeForm (date_text year month day) (midnight (days_from_civil (pos year) month day))
  with_clock : (year month day hour minute second nanos : ℕ) (ahead : ℤ) (mark fraction zone : List ℕ)
      → IsCivilDate (pos year) month day → ClockMark mark → IsClock hour minute second → FractionForm fraction nanos → ZoneForm zone ahead
      → IsInstant (moment_on (days_from_civil (pos year) month day) (3600 * hour + 60 * minute + second) ahead nanos)
      → TimeForm (date_text year month day ++ mark ++ clock_text hour minute second ++ fraction ++ zone)
      (moment_on (days_from_civil (pos year) month day) (3600 * hour + 60 * minute + second) ahead nanos)
