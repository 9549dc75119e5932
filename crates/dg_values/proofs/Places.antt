-- What a text has at a place, and from it on.
use Rattle.std.proofs.Common.{◌≡◌, ℕ, zero, suc, ◌+◌, ◌-◌, ◌*◌, ◌/◌, ◌%◌, ◌<◌, ◌≤◌, Bool, true, false, List, [], ◌∷◌, ◌++◌, drop, refl, sym, ap, ◌∙◌, arith, add-one}
use Rattle.std.specs.Prelude.{Option, Some, None, slice_index, if◌then◌else◌, option_and_then, option_map, ◌&&◌, ◌==◌}
use Rattle.std.proofs.lemmas.Bool.Decides.{nat_tests}
use Rattle.jiff_fmt.specs.Text.{pad2}
use Rattle.dg_values.specs.Scanning.{is_digit, digit_at, pair_at}

pub byte_at : (text : List ℕ) (at b : ℕ) (rest : List ℕ) → drop at text ≡ b ∷ rest → slice_index text at ≡ b
byte_at [] zero b rest h = cc
byte_at [] (suc at) b rest h = cc
byte_at (c ∷ cs) zero b rest h = cc
byte_at (c ∷ cs) (suc at) b rest h = byte_at cs at b rest h

pub rest_at : (text : List ℕ) (at b : ℕ) (rest : List ℕ) → drop at text ≡ b ∷ rest → drop (suc at) text ≡ rest
rest_at [] zero b rest h = cc
rest_at [] (suc at) b rest h = cc
rest_at (c ∷ cs) zero b rest h = cc
rest_at (c ∷ cs) (suc at) b rest h = rest_at cs at b rest h

pub starts_at : (text : List ℕ) (at b : ℕ) → slice_index text at ≡ b → 0 < b → drop at text ≡ b ∷ drop (suc at) text
starts_at [] zero b h some = absurd (omega arith)
starts_at [] (suc at) b h some = absurd (omega arith)
starts_at (c ∷ cs) zero b h some = ap (λ (k : ℕ). k ∷ cs) h
starts_at (c ∷ cs) (suc at) b h some = starts_at cs at b h some

-- the tests of a text's places, read backwards

pub gate : {X : Type 0} (t : Bool) (o : Option X) (x : X) → (if t then o else None) ≡ Some x → (t ≡ true) × (o ≡ Some x)
gate true o x h = (refl, h)
gate false o x h = cc

pub both : (a b : ℕ) (n m : ℕ) → ((a == n) && (b == m)) ≡ true → (a ≡ n) × (b ≡ m)
both a b n m h = let e : a ≡ n = grind (arith, nat_tests) in let f : b ≡ m = grind (arith, nat_tests) in (e, f)

digit_test : (b n : ℕ) → n < 10 → b ≡ 48 + n → (if is_digit b then Some (b - 48) else None) ≡ Some n
digit_test b n small e =
    let digit : is_digit b ≡ true = grind (arith, nat_tests) in
    let same : b - 48 ≡ n = omega arith in
    rw digit (ap Some same)

digit_tested : (b n : ℕ) (t : Bool) → is_digit b ≡ t → (if t then Some (b - 48) else None) ≡ Some n → (n < 10) × (b ≡ 48 + n)
digit_tested b n true e h =
    let same : b - 48 ≡ n = cc in
    let low : 48 ≤ b = grind (arith, nat_tests) in
    let high : b ≤ 57 = grind (arith, nat_tests) in
    (omega arith, omega arith)
digit_tested b n false e h = cc

pub digit_reads : (text : List ℕ) (at n : ℕ) (rest : List ℕ) → n < 10 → drop at text ≡ (48 + n) ∷ rest → digit_at text at ≡ Some n
digit_reads text at n rest small h = digit_test (slice_index text at) n small (byte_at text at (48 + n) rest h)

pub digit_found : (text : List ℕ) (at n : ℕ) → digit_at text at ≡ Some n → (n < 10) × (drop at text ≡ (48 + n) ∷ drop (suc at) text)
digit_found text at n h =
    let d = digit_tested (slice_index text at) n (is_digit (slice_index text at)) refl h in
    (d.0, starts_at text at (48 + n) d.1 (omega arith))

pair_joined : (o p : Option ℕ) (tens ones : ℕ) → o ≡ Some tens → p ≡ Some ones → option_and_then (λ (t : ℕ). option_map (λ (u : ℕ). 10 * t + u) p) o ≡ Some (10 * tens + ones)
pair_joined o p tens ones e f = rw (e, f) refl

pub pair_reads : (text : List ℕ) (at n : ℕ) (rest : List ℕ) → n < 100 → drop at text ≡ pad2 n ++ rest → pair_at text at ≡ Some n
pair_reads text at n rest small h =
    let more : drop (at + 1) text ≡ (48 + n % 10) ∷ rest = rw add-one (rest_at text at _ _ h) in
    let same : 10 * (n / 10) + n % 10 ≡ n = omega arith in
    pair_joined (digit_at text at) (digit_at text (at + 1)) (n / 10) (n % 10) (digit_reads text at (n / 10) _ (omega arith) h) (digit_reads text (at + 1) (n % 10) _ (omega arith) more) ∙ ap Some same

-- the pair at the place is this number, written there
pub record IsPairAt (text : List ℕ) (at n : ℕ) : Type 0 where
  pub small : n < 100
  pub shape : drop at text ≡ pad2 n ++ drop (at + 2) text

pair_cases : (text : List ℕ) (at n : ℕ) (o p : Option ℕ) → digit_at text at ≡ o → digit_at text (at + 1) ≡ p → option_and_then (λ (t : ℕ). option_map (λ (u : ℕ). 10 * t + u) p) o ≡ Some n → IsPairAt text at n
pair_cases text at n (Some t) (Some u) e f h =
    let tens = digit_found text at t e in
    let ones = digit_found text (at + 1) u f in
    let same : 10 * t + u ≡ n = cc in
    let high : t ≡ n / 10 = omega arith in
    let low : u ≡ n % 10 = omega arith in
    let next : suc at ≡ at + 1 = omega arith in
    let last : suc (at + 1) ≡ at + 2 = omega arith in
    record {
      small = omega arith;
      shape = tens.1 ∙ ap (λ (l : List ℕ). (48 + t) ∷ l) (ap (λ (k : ℕ). drop k text) next ∙ ones.1 ∙ ap (λ (k : ℕ). (48 + u) ∷ drop k text) last)
          ∙ ap (λ (k : ℕ). (48 + k) ∷ (48 + u) ∷ drop (at + 2) text) high ∙ ap (λ (k : ℕ). (48 + n / 10) ∷ (48 + k) ∷ drop (at + 2) text) low;
    }
pair_cases text at n (Some t) None e f h = cc
pair_cases text at n None p e f h = cc

pub pair_found : (text : List ℕ) (at n : ℕ) → pair_at text at ≡ Some n → IsPairAt text at n
pair_found text at n h = pair_cases text at n (digit_at text at) (digit_at text (at + 1)) refl refl h

-- the byte at the place, written there
pub mark_found : (text : List ℕ) (at next b : ℕ) → next ≡ suc at → slice_index text at ≡ b → 0 < b → drop at text ≡ b ∷ drop next text
mark_found text at next b e h some = starts_at text at b h some ∙ ap (λ (k : ℕ). b ∷ drop k text) (sym e)
