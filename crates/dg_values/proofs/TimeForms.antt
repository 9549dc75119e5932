-- The scan of a time finds exactly the moments of its forms.
use Rattle.std.proofs.Common.{◌≡◌, ℕ, zero, suc, ◌+◌, ◌*◌, ◌<◌, ◌≤◌, Bool, true, false, List, [], ◌∷◌, ◌++◌, length, drop, refl, sym, ap, ◌∙◌, subst, arith, ℤ, pos, ◌+ℤ◌, ◌-ℤ◌, ◌*ℤ◌, ◌≤ℤ◌, length-append, length-drop}
use Rattle.std.specs.Prelude.{Option, Some, None, slice_index, if◌then◌else◌, option_and_then, int_lt, not, ◌&&◌, ◌||◌, ◌==◌, ◌⊎◌}
use Rattle.std.proofs.Common.{inl, inr}
use Rattle.std.proofs.lemmas.Bool.Decides.{nat_tests}
use Rattle.std.proofs.lemmas.Int.{ints}
use Rattle.jiff_core.specs.Calendar.{days_from_civil, IsCivilDate}
use Rattle.jiff_core.proofs.SignedLemmas.{signed_arith}
use Rattle.jiff_core.proofs.CalendarLemmas.{days_from_civil-day_count, day_count_bounds}
use Rattle.dg_values.specs.Instant.{Instant, InYears, IsInstant, first_second, last_second}
use Rattle.dg_values.specs.Calendar.{midnight, moment_on}
use Rattle.dg_values.specs.Forms.{TimeForm, ClockMark, FractionForm, ZoneForm, IsClock, date_text, clock_text}
use Rattle.dg_values.specs.Forms.TimeForm.{day_alone, with_clock}
use Rattle.dg_values.specs.Forms.ClockMark.{upper_t, lower_t}
use Rattle.dg_values.specs.Scanning.{date_of_text, clock_of_text, fraction_of_text, zone_of_text, moment_at, moment_of_text, time_of_text}
use Rattle.dg_values.proofs.Places.{gate, byte_at, mark_found}
use Rattle.dg_values.proofs.Dates.{date_reads, date_found, clock_reads, clock_found}
use Rattle.dg_values.proofs.Zones.{fraction_reads, fraction_found, zone_reads, zone_found, zone_place, nanos_bound}
use Rattle.dg_values.proofs.Joined.{joined, timed}
use Rattle.dg_values.proofs.DateParts.{day_from_zero}

-- ---- moments in range

moment_test : (secs : ℤ) → first_second ≤ℤ secs → secs ≤ℤ last_second → (not (int_lt secs first_second) && not (int_lt last_second secs)) ≡ true
moment_test secs low high = grind (arith, ints)

moment_tested : (secs : ℤ) → (not (int_lt secs first_second) && not (int_lt last_second secs)) ≡ true → (first_second ≤ℤ secs) × (secs ≤ℤ last_second)
moment_tested secs t =
    let low : first_second ≤ℤ secs = grind (arith, ints) in
    let high : secs ≤ℤ last_second = grind (arith, ints) in
    (low, high)

moment_in : (secs : ℤ) (nanos : ℕ) → InYears secs nanos → moment_at secs nanos ≡ Some (record { secs = secs; nanos = nanos })
moment_in secs nanos h = rw (moment_test secs h.0 h.1) refl

moment_found : (secs : ℤ) (nanos : ℕ) (m : Instant) → moment_at secs nanos ≡ Some m → (first_second ≤ℤ secs) × (secs ≤ℤ last_second) × (record { secs = secs; nanos = nanos } ≡ m)
moment_found secs nanos m h =
    let made : Instant = record { secs = secs; nanos = nanos } in
    let found = gate (not (int_lt secs first_second) && not (int_lt last_second secs)) (Some made) m h in
    let range = moment_tested secs found.0 in
    let same : made ≡ m = cc in
    (range.0, range.1, same)

-- the first moment of a day of these years is one of them
pub midnight_in : (year month day : ℕ) → IsCivilDate (pos year) month day → IsInstant (midnight (days_from_civil (pos year) month day))
midnight_in year month day h =
    let low = day_from_zero (pos year) month day h (omega (arith, signed_arith)) in
    let high = (day_count_bounds (pos year) month day h).1 in
    let count = days_from_civil-day_count (pos year) month day in
    (omega (arith, signed_arith), omega (arith, signed_arith), omega arith)

-- ---- from forms to what the scan finds

day_scanned : (text : List ℕ) (day : ℤ) → date_of_text text ≡ Some day → (length text == 10) ≡ true → time_of_text text ≡ moment_at (day *ℤ pos 86400) 0
day_scanned text day e t = rw (e, t) refl

module _ (text : List ℕ) (day : ℤ) (hour minute second nanos : ℕ) (ahead : ℤ) (fraction zone : List ℕ) (dated : date_of_text text ≡ Some day) (clock : IsClock hour minute second)
    (f : FractionForm fraction nanos) (z : ZoneForm zone ahead) (m : IsInstant (moment_on day (3600 * hour + 60 * minute + second) ahead nanos)) where
  clock_scanned : (mark : (slice_index text 10 ≡ 84) ⊎ (slice_index text 10 ≡ 116)) → 19 ≤ length text → clock_of_text text ≡ Some (3600 * hour + 60 * minute + second) → drop 19 text ≡ fraction ++ zone
      → time_of_text text ≡ Some (moment_on day (3600 * hour + 60 * minute + second) ahead nanos)
  clock_scanned mark room ec rest =
      let letter : true ≡ (slice_index text 10 == 84) || (slice_index text 10 == 116) = grind (arith, nat_tests) in
      let place : 19 + length fraction ≤ length text = omega (arith, length-drop 19 text, ap length rest, length-append fraction zone) in
      sym (timed day text (sym dated) (λ e. omega arith) letter)
      ∙ sym (joined day text (3600 * hour + 60 * minute + second) (nanos, 19 + length fraction) ahead (sym ec) (sym (fraction_reads fraction nanos f text zone ahead z rest))
      (sym (zone_reads zone ahead z text (19 + length fraction) place (zone_place text fraction zone rest))))
      ∙ moment_in (day *ℤ pos 86400 +ℤ pos (3600 * hour + 60 * minute + second) -ℤ ahead) nanos m

with_mark : (year month day hour minute second nanos : ℕ) (ahead : ℤ) (mark fraction zone : List ℕ)
    → IsCivilDate (pos year) month day → ClockMark mark → IsClock hour minute second → FractionForm fraction nanos → ZoneForm zone ahead
    → IsInstant (moment_on (days_from_civil (pos year) month day) (3600 * hour + 60 * minute + second) ahead nanos)
    → time_of_text (date_text year month day ++ mark ++ clock_text hour minute second ++ fraction ++ zone) ≡ Some (moment_on (days_from_civil (pos year) month day) (3600 * hour + 60 * minute + second) ahead nanos)
with_mark year month day hour minute second nanos ahead mark fraction zone h upper_t c f z m =
    let text = date_text year month day ++ 84 ∷ clock_text hour minute second ++ fraction ++ zone in
    clock_scanned text (days_from_civil (pos year) month day) hour minute second nanos ahead fraction zone (date_reads year month day (84 ∷ clock_text hour minute second ++ fraction ++ zone) h) c f z m
    (inl (byte_at text 10 84 _ refl)) (omega arith) (clock_reads text hour minute second (fraction ++ zone) c refl refl refl refl refl) refl
with_mark year month day hour minute second nanos ahead mark fraction zone h lower_t c f z m =
    let text = date_text year month day ++ 116 ∷ clock_text hour minute second ++ fraction ++ zone in
    clock_scanned text (days_from_civil (pos year) month day) hour minute second nanos ahead fraction zone (date_reads year month day (116 ∷ clock_text hour minute second ++ fraction ++ zone) h) c f z m
    (inr (byte_at text 10 116 _ refl)) (omega arith) (clock_reads text hour minute second (fraction ++ zone) c refl refl refl refl refl) refl

pub time_reads : (text : List ℕ) (m : Instant) → TimeForm text m → time_of_text text ≡ Some m
time_reads text m (day_alone year month day h) =
    day_scanned (date_text year month day) (days_from_civil (pos year) month day) (date_reads year month day [] h) refl ∙ moment_in _ 0 (midnight_in year month day h)
time_reads text m (with_clock year month day hour minute second nanos ahead mark fraction zone h k c f z i) =
    with_mark year month day hour minute second nanos ahead mark fraction zone h k c f z i

-- ---- from what the scan finds to forms

pub as_time : (text₂ text : List ℕ) (m₂ m : Instant) → text₂ ≡ text → m₂ ≡ m → TimeForm text₂ m₂ → TimeForm text m
as_time text₂ text m₂ m e f t = subst (λ (l : List ℕ). TimeForm l m) e (subst (λ (k : Instant). TimeForm text₂ k) f t)

nothing_left : (l : List ℕ) (n : ℕ) → length l ≡ n → drop n l ≡ []
nothing_left [] zero h = refl
nothing_left [] (suc n) h = refl
nothing_left (b ∷ bs) zero h = absurd (omega arith)
nothing_left (b ∷ bs) (suc n) h = nothing_left bs n (omega arith)

alone : (text : List ℕ) (day : ℤ) (m : Instant) → date_of_text text ≡ Some day → length text ≡ 10 → moment_at (day *ℤ pos 86400) 0 ≡ Some m → TimeForm text m
alone text day m e long h =
    let d = date_found text day e in
    let found = moment_found (day *ℤ pos 86400) 0 m h in
    let shape : date_text d.year d.month d.day ≡ text = sym (d.shape ∙ ap (λ (l : List ℕ). date_text d.year d.month d.day ++ l) (nothing_left text 10 long)) in
    as_time (date_text d.year d.month d.day) text (midnight (days_from_civil (pos d.year) d.month d.day)) m shape (ap midnight d.same ∙ found.2) (day_alone d.year d.month d.day d.civil)

-- a clock, a fraction and a zone follow the date, and this is their moment
record IsMomentOf (text : List ℕ) (day : ℤ) (m : Instant) : Type 0 where
  clock : ℕ
  fraction : ℕ × ℕ
  ahead : ℤ
  clock_is : clock_of_text text ≡ Some clock
  fraction_is : fraction_of_text text ≡ Some fraction
  ahead_is : zone_of_text text fraction.1 ≡ Some ahead
  moment_is : moment_at (day *ℤ pos 86400 +ℤ pos clock -ℤ ahead) fraction.0 ≡ Some m

zone_case : (text : List ℕ) (day : ℤ) (m : Instant) (clock : ℕ) (fraction : ℕ × ℕ) (z : Option ℤ) → clock_of_text text ≡ Some clock → fraction_of_text text ≡ Some fraction → zone_of_text text fraction.1 ≡ z
    → option_and_then (λ (ahead : ℤ). moment_at (day *ℤ pos 86400 +ℤ pos clock -ℤ ahead) fraction.0) z ≡ Some m → IsMomentOf text day m
zone_case text day m clock fraction (Some ahead) ec ef ez h = record { clock = clock; fraction = fraction; ahead = ahead; clock_is = ec; fraction_is = ef; ahead_is = ez; moment_is = h }
zone_case text day m clock fraction None ec ef ez h = cc

moment_cases : (text : List ℕ) (day : ℤ) (m : Instant) (c : Option ℕ) (f : Option (ℕ × ℕ)) → clock_of_text text ≡ c → fraction_of_text text ≡ f
    → option_and_then (λ (clock : ℕ). option_and_then (λ (fraction : ℕ × ℕ). option_and_then (λ (ahead : ℤ).
    moment_at (day *ℤ pos 86400 +ℤ pos clock -ℤ ahead) fraction.0) (zone_of_text text fraction.1)) f) c ≡ Some m
    → IsMomentOf text day m
moment_cases text day m (Some clock) (Some fraction) ec ef h = zone_case text day m clock fraction (zone_of_text text fraction.1) ec ef refl h
moment_cases text day m (Some clock) None ec ef h = cc
moment_cases text day m None f ec ef h = cc

module _ (text : List ℕ) (day : ℤ) (m : Instant) (e : date_of_text text ≡ Some day) (p : IsMomentOf text day m) (letter : ℕ) (mark : ClockMark (letter ∷ [])) (some : 0 < letter) (at : slice_index text 10 ≡ letter) where
  clocked : TimeForm text m
  clocked =
      let d = date_found text day e in
      let k = clock_found text p.clock p.clock_is in
      let f = fraction_found text p.fraction.0 p.fraction.1 p.fraction_is in
      let zone = zone_found text p.fraction.1 p.ahead p.ahead_is in
      let found = moment_found (day *ℤ pos 86400 +ℤ pos p.clock -ℤ p.ahead) p.fraction.0 m p.moment_is in
      let number : ℤ = days_from_civil (pos d.year) d.month d.day in
      let shown : ℕ = 3600 * k.hour + 60 * k.minute + k.second in
      let range : IsInstant (moment_on day p.clock p.ahead p.fraction.0) = (found.0, found.1, nanos_bound f.fraction p.fraction.0 f.form) in
      let of_date : IsInstant (moment_on number p.clock p.ahead p.fraction.0) = subst (λ (x : ℤ). IsInstant (moment_on x p.clock p.ahead p.fraction.0)) (sym d.same) range in
      let instant : IsInstant (moment_on number shown p.ahead p.fraction.0) = subst (λ (x : ℕ). IsInstant (moment_on number x p.ahead p.fraction.0)) (sym k.same) of_date in
      let same : moment_on number shown p.ahead p.fraction.0 ≡ m =
      ap (λ (x : ℕ). moment_on number x p.ahead p.fraction.0) k.same ∙ ap (λ (x : ℤ). moment_on x p.clock p.ahead p.fraction.0) d.same ∙ found.2 in
      let shape : text ≡ date_text d.year d.month d.day ++ letter ∷ clock_text k.hour k.minute k.second ++ (f.fraction ++ drop p.fraction.1 text) =
      d.shape ∙ ap (λ (l : List ℕ). date_text d.year d.month d.day ++ l) (mark_found text 10 11 letter refl at some
      ∙ ap (λ (l : List ℕ). letter ∷ l) (k.shape ∙ ap (λ (l : List ℕ). clock_text k.hour k.minute k.second ++ l) f.shape)) in
      as_time (date_text d.year d.month d.day ++ letter ∷ clock_text k.hour k.minute k.second ++ (f.fraction ++ drop p.fraction.1 text)) text
      (moment_on number shown p.ahead p.fraction.0) m (sym shape) same
      (with_clock d.year d.month d.day k.hour k.minute k.second p.fraction.0 p.ahead (letter ∷ []) f.fraction (drop p.fraction.1 text) d.civil mark k.clock f.form zone instant)

date_case : (text : List ℕ) (day : ℤ) (m : Instant) (short letter : Bool) → date_of_text text ≡ Some day → (length text == 10) ≡ short → ((slice_index text 10 == 84) || (slice_index text 10 == 116)) ≡ letter
    → (if short then moment_at (day *ℤ pos 86400) 0 else (if letter then moment_of_text day text else None)) ≡ Some m → TimeForm text m
date_case text day m true letter e s l h = let long : length text ≡ 10 = grind (arith, nat_tests) in alone text day m e long h
date_case text day m false true e s l h =
    let which : (slice_index text 10 ≡ 84) ⊎ (slice_index text 10 ≡ 116) = grind (arith, nat_tests) in
    by_letter (moment_cases text day m (clock_of_text text) (fraction_of_text text) refl refl h) which
  where
    by_letter : IsMomentOf text day m → (slice_index text 10 ≡ 84) ⊎ (slice_index text 10 ≡ 116) → TimeForm text m
    by_letter p (inl b) = clocked text day m e p 84 upper_t (omega arith) b
    by_letter p (inr b) = clocked text day m e p 116 lower_t (omega arith) b
date_case text day m false false e s l h = cc

day_case : (text : List ℕ) (m : Instant) (d : Option ℤ) → date_of_text text ≡ d
    → option_and_then (λ (day : ℤ). if length text == 10 then moment_at (day *ℤ pos 86400) 0
    else (if (slice_index text 10 == 84) || (slice_index text 10 == 116) then moment_of_text day text else None)) d ≡ Some m → TimeForm text m
day_case text m (Some day) e h = date_case text day m (length text == 10) ((slice_index text 10 == 84) || (slice_index text 10 == 116)) e refl refl h
day_case text m None e h = cc

pub time_found : (text : List ℕ) (m : Instant) → time_of_text text ≡ Some m → TimeForm text m
time_found text m h = day_case text m (date_of_text text) refl h
