-- Dates and clocks at the front of a text.
use Rattle.std.proofs.Common.{◌≡◌, ℕ, ◌+◌, ◌*◌, ◌/◌, ◌%◌, ◌<◌, ◌≤◌, Bool, true, List, ◌∷◌, ◌++◌, drop, refl, ap, ◌∙◌, arith, ℤ, pos}
use Rattle.std.specs.Prelude.{Option, Some, None, slice_index, if◌then◌else◌, option_and_then, nat_lt, ◌&&◌, ◌==◌}
use Rattle.std.proofs.lemmas.Bool.Decides.{nat_tests}
use Rattle.jiff_core.specs.Calendar.{days_from_civil, days_in_month, IsCivilDate}
use Rattle.jiff_core.proofs.SignedLemmas.{signed_arith}
use Rattle.jiff_fmt.specs.Text.{pad2}
use Rattle.dg_values.specs.Forms.{date_text, clock_text, IsClock}
use Rattle.dg_values.specs.Scanning.{pair_at, is_date, day_if_any, date_of_text, clock_of_text}
use Rattle.dg_values.proofs.Places.{gate, both, byte_at, pair_reads, pair_found, mark_found}

-- ---- dates

is_date_of : (year month day : ℕ) → IsCivilDate (pos year) month day → is_date year month day ≡ true
is_date_of year month day h = let low = h.1 in let in_month = h.2 in grind (arith, nat_tests)

civil_of : (year month day : ℕ) → year ≤ 9999 → is_date year month day ≡ true → IsCivilDate (pos year) month day
civil_of year month day small h =
    let a : 1 ≤ month = grind (arith, nat_tests) in
    let b : month ≤ 12 = grind (arith, nat_tests) in
    let c : 1 ≤ day = grind (arith, nat_tests) in
    let d : day ≤ days_in_month (pos year) month = grind (arith, nat_tests) in
    (omega (arith, signed_arith), (a, b), (c, d))

date_joined : (text : List ℕ) (c o m d : ℕ) → pair_at text 0 ≡ Some c → pair_at text 2 ≡ Some o → pair_at text 5 ≡ Some m → pair_at text 8 ≡ Some d
    → slice_index text 4 ≡ 45 → slice_index text 7 ≡ 45 → date_of_text text ≡ day_if_any (100 * c + o) m d
date_joined text c o m d ec eo em ed a b = rw (ec, eo, em, ed, a, b) refl

pub date_reads : (year month day : ℕ) (rest : List ℕ) → IsCivilDate (pos year) month day → date_of_text (date_text year month day ++ rest) ≡ Some (days_from_civil (pos year) month day)
date_reads year month day rest h =
    let text = date_text year month day ++ rest in
    let small : year < 10000 = omega (arith, signed_arith, h.0) in
    let month_small : month < 100 = omega (arith, h.1) in
    let day_small : day < 100 = grind (arith, h.2) in
    let whole : 100 * (year / 100) + year % 100 ≡ year = omega arith in
    date_joined text (year / 100) (year % 100) month day
    (pair_reads text 0 (year / 100) _ (omega arith) refl) (pair_reads text 2 (year % 100) _ (omega arith) refl) (pair_reads text 5 month _ month_small refl) (pair_reads text 8 day _ day_small refl)
    (byte_at text 4 45 _ refl) (byte_at text 7 45 _ refl)
    ∙ ap (λ (y : ℕ). day_if_any y month day) whole
    ∙ ap (λ (t : Bool). if t then Some (days_from_civil (pos year) month day) else None) (is_date_of year month day h)

-- a date stands at the front, and it is this day
pub record IsDated (text : List ℕ) (number : ℤ) : Type 0 where
  pub year : ℕ
  pub month : ℕ
  pub day : ℕ
  pub civil : IsCivilDate (pos year) month day
  pub same : days_from_civil (pos year) month day ≡ number
  pub shape : text ≡ date_text year month day ++ drop 10 text

date_cases : (text : List ℕ) (number : ℤ) (c o m d : Option ℕ) → pair_at text 0 ≡ c → pair_at text 2 ≡ o → pair_at text 5 ≡ m → pair_at text 8 ≡ d
    → option_and_then (λ (century : ℕ). option_and_then (λ (of_century : ℕ). option_and_then (λ (month : ℕ). option_and_then (λ (day : ℕ).
    if (slice_index text 4 == 45) && (slice_index text 7 == 45) then day_if_any (100 * century + of_century) month day else None) d) m) o) c ≡ Some number
    → IsDated text number
date_cases text number (Some c) (Some o) (Some m) (Some d) ec eo em ed h =
    let century = pair_found text 0 c ec in
    let of_century = pair_found text 2 o eo in
    let month = pair_found text 5 m em in
    let day = pair_found text 8 d ed in
    let marks = gate ((slice_index text 4 == 45) && (slice_index text 7 == 45)) (day_if_any (100 * c + o) m d) number h in
    let at = both (slice_index text 4) (slice_index text 7) 45 45 marks.0 in
    let found = gate (is_date (100 * c + o) m d) (Some (days_from_civil (pos (100 * c + o)) m d)) number marks.1 in
    let high : c ≡ (100 * c + o) / 100 = omega (arith, of_century.small) in
    let low : o ≡ (100 * c + o) % 100 = omega (arith, of_century.small) in
    record {
      year = 100 * c + o;
      month = m;
      day = d;
      civil = civil_of (100 * c + o) m d (omega (arith, century.small, of_century.small)) found.0;
      same = let e : days_from_civil (pos (100 * c + o)) m d ≡ number = cc in e;
      shape = century.shape
          ∙ ap (λ (l : List ℕ). pad2 c ++ l) (of_century.shape
          ∙ ap (λ (l : List ℕ). pad2 o ++ l) (mark_found text 4 5 45 refl at.0 (omega arith)
          ∙ ap (λ (l : List ℕ). 45 ∷ l) (month.shape
          ∙ ap (λ (l : List ℕ). pad2 m ++ l) (mark_found text 7 8 45 refl at.1 (omega arith)
          ∙ ap (λ (l : List ℕ). 45 ∷ l) day.shape))))
          ∙ ap (λ (k : ℕ). pad2 k ++ pad2 o ++ 45 ∷ pad2 m ++ 45 ∷ pad2 d ++ drop 10 text) high
          ∙ ap (λ (k : ℕ). pad2 ((100 * c + o) / 100) ++ pad2 k ++ 45 ∷ pad2 m ++ 45 ∷ pad2 d ++ drop 10 text) low;
    }
date_cases text number (Some c) (Some o) (Some m) None ec eo em ed h = cc
date_cases text number (Some c) (Some o) None d ec eo em ed h = cc
date_cases text number (Some c) None m d ec eo em ed h = cc
date_cases text number None o m d ec eo em ed h = cc

pub date_found : (text : List ℕ) (number : ℤ) → date_of_text text ≡ Some number → IsDated text number
date_found text number h = date_cases text number (pair_at text 0) (pair_at text 2) (pair_at text 5) (pair_at text 8) refl refl refl refl h

-- ---- clocks

clock_test : (colon colon₂ hour minute second : ℕ) → colon ≡ 58 → colon₂ ≡ 58 → IsClock hour minute second
    → ((colon == 58) && (colon₂ == 58) && nat_lt hour 24 && nat_lt minute 60 && nat_lt second 60) ≡ true
clock_test colon colon₂ hour minute second a b h = grind (arith, nat_tests)

clock_tested : (colon colon₂ hour minute second : ℕ) → ((colon == 58) && (colon₂ == 58) && nat_lt hour 24 && nat_lt minute 60 && nat_lt second 60) ≡ true
    → (colon ≡ 58) × (colon₂ ≡ 58) × IsClock hour minute second
clock_tested colon colon₂ hour minute second h =
    let a : colon ≡ 58 = grind (arith, nat_tests) in
    let b : colon₂ ≡ 58 = grind (arith, nat_tests) in
    let c : hour < 24 = grind (arith, nat_tests) in
    let d : minute < 60 = grind (arith, nat_tests) in
    let e : second < 60 = grind (arith, nat_tests) in
    (a, b, (c, d, e))

clock_joined : (text : List ℕ) (hour minute second : ℕ) → pair_at text 11 ≡ Some hour → pair_at text 14 ≡ Some minute → pair_at text 17 ≡ Some second
    → ((slice_index text 13 == 58) && (slice_index text 16 == 58) && nat_lt hour 24 && nat_lt minute 60 && nat_lt second 60) ≡ true
    → clock_of_text text ≡ Some (3600 * hour + 60 * minute + second)
clock_joined text hour minute second eh em es t = rw (eh, em, es, t) refl

pub clock_reads : (text : List ℕ) (hour minute second : ℕ) (rest : List ℕ) → IsClock hour minute second → drop 11 text ≡ clock_text hour minute second ++ rest
    → drop 13 text ≡ 58 ∷ pad2 minute ++ 58 ∷ pad2 second ++ rest → drop 14 text ≡ pad2 minute ++ 58 ∷ pad2 second ++ rest
    → drop 16 text ≡ 58 ∷ pad2 second ++ rest → drop 17 text ≡ pad2 second ++ rest
    → clock_of_text text ≡ Some (3600 * hour + 60 * minute + second)
clock_reads text hour minute second rest h a b c d e =
    clock_joined text hour minute second
    (pair_reads text 11 hour _ (omega (arith, h.0)) a) (pair_reads text 14 minute _ (omega (arith, h.1)) c) (pair_reads text 17 second _ (omega (arith, h.2)) e)
    (clock_test _ _ hour minute second (byte_at text 13 58 _ b) (byte_at text 16 58 _ d) h)

-- a clock stands at byte 11, and it is this second of the day
pub record IsTimed (text : List ℕ) (number : ℕ) : Type 0 where
  pub hour : ℕ
  pub minute : ℕ
  pub second : ℕ
  pub clock : IsClock hour minute second
  pub same : 3600 * hour + 60 * minute + second ≡ number
  pub shape : drop 11 text ≡ clock_text hour minute second ++ drop 19 text

clock_cases : (text : List ℕ) (number : ℕ) (h m s : Option ℕ) → pair_at text 11 ≡ h → pair_at text 14 ≡ m → pair_at text 17 ≡ s
    → option_and_then (λ (hour : ℕ). option_and_then (λ (minute : ℕ). option_and_then (λ (second : ℕ).
    if (slice_index text 13 == 58) && (slice_index text 16 == 58) && nat_lt hour 24 && nat_lt minute 60 && nat_lt second 60
    then Some (3600 * hour + 60 * minute + second) else None) s) m) h ≡ Some number
    → IsTimed text number
clock_cases text number (Some h) (Some m) (Some s) eh em es p =
    let hour = pair_found text 11 h eh in
    let minute = pair_found text 14 m em in
    let second = pair_found text 17 s es in
    let tests = gate ((slice_index text 13 == 58) && (slice_index text 16 == 58) && nat_lt h 24 && nat_lt m 60 && nat_lt s 60) (Some (3600 * h + 60 * m + s)) number p in
    let facts = clock_tested (slice_index text 13) (slice_index text 16) h m s tests.0 in
    record {
      hour = h;
      minute = m;
      second = s;
      clock = facts.2;
      same = let e : 3600 * h + 60 * m + s ≡ number = cc in e;
      shape = hour.shape
          ∙ ap (λ (l : List ℕ). pad2 h ++ l) (mark_found text 13 14 58 refl facts.0 (omega arith)
          ∙ ap (λ (l : List ℕ). 58 ∷ l) (minute.shape
          ∙ ap (λ (l : List ℕ). pad2 m ++ l) (mark_found text 16 17 58 refl facts.1 (omega arith)
          ∙ ap (λ (l : List ℕ). 58 ∷ l) second.shape)));
    }
clock_cases text number (Some h) (Some m) None eh em es p = cc
clock_cases text number (Some h) None s eh em es p = cc
clock_cases text number None m s eh em es p = cc

pub clock_found : (text : List ℕ) (number : ℕ) → clock_of_text text ≡ Some number → IsTimed text number
clock_found text number h = clock_cases text number (pair_at text 11) (pair_at text 14) (pair_at text 17) refl refl refl h
