use Rattle.std.proofs.Common.{◌≡◌, ◌≢◌, ℕ, zero, suc, ◌<◌, ◌≤◌, ◌^◌, ◌⊎◌, inl, inr, List, [], ◌∷◌, ◌++◌, length, get_or, refl, ap, sym, subst, length-append, arith}
use Rattle.std.specs.Fmt.{decimal}
use Rattle.std.specs.Str.Parse.{AllDigits, digits_value}
use Rattle.std.proofs.lemmas.List.{append-nil}
use Rattle.std.proofs.Math.Seq.{take-append_seam}
use Rattle.std.proofs.lemmas.Str.Parse.{digits_value-take-le}
use Rattle.std.proofs.lemmas.Fmt.{first_decimal, decimal_digit}
use Rattle.dg_wire.specs.declared.arguments.Argument.{Argument}
use Rattle.dg_wire.specs.declared.arguments.Argument.TheVariants as kinds
use Rattle.dg_wire.specs.Numbers.{IsPlain}
use Rattle.dg_wire.specs.Cuts.{Begins, IsArgument}
use Rattle.dg_wire.proofs.NumberLemmas.{decimal_number, decimal_plain, plain_decimal}

front_digits : (ds more : List ℕ) → AllDigits 10 (ds ++ more) → AllDigits 10 ds
front_digits [] more h = tt
front_digits (d ∷ ds) more h = (h.0, front_digits ds more h.1)

front_plain : (d : ℕ) (ds more : List ℕ) → IsPlain ((d ∷ ds) ++ more) → IsPlain (d ∷ ds)
front_plain d ds more h = (omega arith, λ z. let one : length ((d ∷ ds) ++ more) ≡ 1 = h.1 z in omega (arith, length-append ds more))

front_value : (ds more : List ℕ) → digits_value 10 ds ≤ digits_value 10 (ds ++ more)
front_value ds more = subst (λ (l : List ℕ). digits_value 10 l ≤ digits_value 10 (ds ++ more)) (take-append_seam ds more) (digits_value-take-le 10 (ds ++ more) (length ds) (omega arith))

-- a front of a number's digits is some number's
pub number_front : (d : ℕ) (ds more : List ℕ) (n : ℕ) → n < 2 ^ 64 → (d ∷ ds) ++ more ≡ decimal n → (m : ℕ) × (m ≤ n) × (0 < n → 0 < m) × ((d ∷ ds) ≡ decimal m)
number_front d ds more n small is =
    let whole = decimal_number ((d ∷ ds) ++ more) n small is in
    let e : digits_value 10 ((d ∷ ds) ++ more) ≡ n = whole.value in
    let m = digits_value 10 (d ∷ ds) in
    let le : m ≤ n = let v : m ≤ digits_value 10 ((d ∷ ds) ++ more) = front_value (d ∷ ds) more in omega arith in
    let same : (d ∷ ds) ≡ decimal m = plain_decimal (d ∷ ds) m (omega arith) (front_plain d ds more (decimal_plain ((d ∷ ds) ++ more) n small is)) (record { each = front_digits (d ∷ ds) more whole.each; value = refl }) in
    (m, le, (λ some. positive m same some), same)
  where
    first : (m : ℕ) → d ∷ ds ≡ decimal m → get_or (decimal m) 0 0 ≡ d
    first m same = ap (λ (l : List ℕ). get_or l 0 0) (sym same)

    positive : (m : ℕ) → d ∷ ds ≡ decimal m → 0 < n → 0 < m
    positive zero same some =
        let high : 48 < get_or (decimal n) 0 0 = first_decimal n some small in
        let here : d ≡ get_or (decimal n) 0 0 = ap (λ (l : List ℕ). get_or l 0 0) is in
        let low : get_or (decimal 0) 0 0 ≡ 48 = ap (λ (l : List ℕ). get_or l 0 0) (decimal_digit 0 (omega arith)) in
        let same_first : get_or (decimal 0) 0 0 ≡ d = first 0 same in
        absurd (omega arith)
    positive (suc m) same some = omega arith

-- a front of an argument that is no name is one, or nothing
pub number_argument : (kind : Argument) (word : List ℕ) → kind ≢ kinds.Name → Begins (IsArgument kind) word → (word ≡ []) ⊎ IsArgument kind word
number_argument kind [] other begins = inl refl
number_argument kinds.Session (d ∷ ds) other (more, (sid, ok, is)) =
    let front = number_front d ds more sid (omega (arith, ok.1)) is in
    let le : front.0 ≤ sid = front.1 in
    inr (front.0, (front.2 ok.0, omega (arith, ok.1)), front.3)
number_argument kinds.Group (d ∷ ds) other (more, (group, ok, is)) =
    let front = number_front d ds more group (omega (arith, ok.1)) is in
    let le : front.0 ≤ group = front.1 in
    inr (front.0, (front.2 ok.0, omega (arith, ok.1)), front.3)
number_argument kinds.Length (d ∷ ds) other (more, (len, ok, is)) =
    let front = number_front d ds more len (omega arith) is in
    let le : front.0 ≤ len = front.1 in
    inr (front.0, omega arith, front.3)
number_argument kinds.Name (d ∷ ds) other begins = absurd (other refl)

-- some argument of each kind
pub some_argument : (kind : Argument) → (word : List ℕ) × IsArgument kind word
some_argument kinds.Session = (decimal 1, (1, (omega arith, omega arith), refl))
some_argument kinds.Group = (decimal 1, (1, (omega arith, omega arith), refl))
some_argument kinds.Length = (decimal 0, (0, omega arith, refl))
some_argument kinds.Name = (97 ∷ [], refl)

-- nothing begins an argument
pub empty_argument : (kind : Argument) (word : List ℕ) → length word ≡ 0 → Begins (IsArgument kind) word
empty_argument kind [] e = some_argument kind
empty_argument kind (c ∷ cs) e = absurd (omega arith)

-- so does the whole
pub whole_argument : (kind : Argument) (word : List ℕ) → IsArgument kind word → Begins (IsArgument kind) word
whole_argument kind word ok = ([], subst (IsArgument kind) (sym (append-nil word)) ok)
