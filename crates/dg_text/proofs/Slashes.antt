-- A pattern without the backslashes before its slashes, cut at the slashes.
use Rattle.std.proofs.Common.{◌≡◌, ◌≢◌, ℕ, suc, ◌+◌, ◌<◌, ◌≤◌, Bool, eqb, List, [], ◌∷◌, ◌++◌, length, take, drop, get_or, Option, Some, None, refl, subst, ap, sym, ◌∙◌, arith, inl, inr, append_assoc, length-append}
use Rattle.std.specs.Borrow.{Bor}
use Rattle.std.specs.List.{position_or_len}
use Rattle.std.specs.Option.{MatchOption, IfSome}
use Rattle.std.proofs.lemmas.Bool.{eqb-true, cases_Bool}
use Rattle.std.proofs.lemmas.List.Sums.{split_at_first, passes_at_first}
use Rattle.dg_text.specs.Patterns.{Lacks, unslashed}

abbrev slash : ℕ → Bool
slash b = eqb b 47

one_more : (n : ℕ) → 1 + n ≡ suc n
one_more n = omega arith

-- what stands before the first slash has none
pub lacking : (s : List ℕ) → Lacks (take (position_or_len slash s) s)
lacking [] = tt
lacking (b ∷ s) =
    elim (cases_Bool (eqb b 47)) [
      | inl y1 ↦ rw y1 tt
      | inr n1 ↦ rw (n1, one_more (position_or_len slash s)) (n1, lacking s)
    ]

-- a text in which none is the first
pub none_is : (s : List ℕ) → position_or_len slash s ≡ length s → Lacks s
none_is [] e = tt
none_is (b ∷ s) e =
    elim (cases_Bool (eqb b 47)) [
      | inl y1 ↦ let z = rw y1 at e in absurd (omega arith)
      | inr n1 ↦ let z = rw n1 at e in (n1, none_is s (omega arith))
    ]

-- a text is cut at its first slash
pub cut_is : (s : List ℕ) → position_or_len slash s < length s → s ≡ take (position_or_len slash s) s ++ 47 ∷ drop (position_or_len slash s + 1) s
cut_is s lt =
    let n = position_or_len slash s in
    let here : get_or s n 0 ≡ 47 = eqb-true (get_or s n 0) 47 (passes_at_first slash s 0 lt) in
    split_at_first slash s 0 lt ∙ ap (λ (c : ℕ). take n s ++ (c ∷ drop (n + 1) s)) here

-- a text without slashes stays
pub stays : (s : List ℕ) → Lacks s → unslashed s ≡ s
unfolding unslashed
stays [] h = refl
stays (b ∷ []) h = elim (cases_Bool (eqb b 92)) [ inl y1 ↦ rw y1 refl | inr n1 ↦ rw n1 refl ]
stays (b ∷ c ∷ s) h =
    let rest = stays (c ∷ s) h.1 in
    elim (cases_Bool (eqb b 92)) [
      | inl y1 ↦ rw (y1, h.1.0) (ap (λ (l : List ℕ). b ∷ l) rest)
      | inr n1 ↦ rw n1 (ap (λ (l : List ℕ). b ∷ l) rest)
    ]

-- behind a slash it begins anew
pub anew : (front behind : List ℕ) → Lacks front → unslashed (front ++ 47 ∷ behind) ≡ unslashed (front ++ 47 ∷ []) ++ unslashed behind
unfolding unslashed
anew [] behind h = refl
anew (b ∷ []) behind h =
    elim (cases_Bool (eqb b 92)) [ inl y1 ↦ rw y1 refl | inr n1 ↦ rw n1 refl ]
anew (b ∷ c ∷ front) behind h =
    let rest = anew (c ∷ front) behind h.1 in
    elim (cases_Bool (eqb b 92)) [
      | inl y1 ↦ rw (y1, h.1.0) (ap (λ (l : List ℕ). b ∷ l) rest)
      | inr n1 ↦ rw n1 (ap (λ (l : List ℕ). b ∷ l) rest)
    ]

-- a backslash before a slash goes
pub escaped : (front : List ℕ) → Lacks front → unslashed ((front ++ 92 ∷ []) ++ 47 ∷ []) ≡ front ++ 47 ∷ []
unfolding unslashed
escaped [] h = refl
escaped (b ∷ []) h =
    elim (cases_Bool (eqb b 92)) [ inl y1 ↦ rw y1 refl | inr n1 ↦ rw n1 refl ]
escaped (b ∷ c ∷ front) h =
    let rest = escaped (c ∷ front) h.1 in
    elim (cases_Bool (eqb b 92)) [
      | inl y1 ↦ rw (y1, h.1.0) (ap (λ (l : List ℕ). b ∷ l) rest)
      | inr n1 ↦ rw n1 (ap (λ (l : List ℕ). b ∷ l) rest)
    ]

-- a slash with no backslash before it stays
pub unescaped : (front : List ℕ) → Lacks front → ((f : List ℕ) → front ≢ f ++ 92 ∷ []) → unslashed (front ++ 47 ∷ []) ≡ front ++ 47 ∷ []
unfolding unslashed
unescaped [] h no_end = refl
unescaped (b ∷ []) h no_end =
    elim (cases_Bool (eqb b 92)) [
      | inl y1 ↦ absurd (no_end [] (ap (λ (n : ℕ). n ∷ []) (eqb-true b 92 y1)))
      | inr n1 ↦ rw n1 refl
    ]
unescaped (b ∷ c ∷ front) h no_end =
    let rest = unescaped (c ∷ front) h.1 (λ f e. no_end (b ∷ f) (ap (λ (l : List ℕ). b ∷ l) e)) in
    elim (cases_Bool (eqb b 92)) [
      | inl y1 ↦ rw (y1, h.1.0) (ap (λ (l : List ℕ). b ∷ l) rest)
      | inr n1 ↦ rw n1 (ap (λ (l : List ℕ). b ∷ l) rest)
    ]

-- what a cut at the first slash gives
pub cut_result : (s : List ℕ) (r : Option (Bor (List ℕ) × Bor (List ℕ)))
    → MatchOption r (position_or_len slash s ≡ length s) (λ x. (position_or_len slash s < length s) × (x.0.now ≡ take (position_or_len slash s) s) × (x.1.now ≡ drop (position_or_len slash s + 1) s))
    → MatchOption r (Lacks s) (λ x. Lacks x.0.now × (s ≡ x.0.now ++ 47 ∷ x.1.now))
cut_result s None h = none_is s h
cut_result s (Some x) h =
    let both : take (position_or_len slash s) s ++ 47 ∷ drop (position_or_len slash s + 1) s ≡ x.0.now ++ 47 ∷ x.1.now =
    ap (λ (l : List ℕ). l ++ 47 ∷ drop (position_or_len slash s + 1) s) (sym h.1) ∙ ap (λ (l : List ℕ). x.0.now ++ 47 ∷ l) (sym h.2) in
    (subst Lacks (sym h.1) (lacking s), cut_is s h.0 ∙ both)

front_lacks : (front more : List ℕ) → Lacks (front ++ more) → Lacks front
front_lacks [] more h = tt
front_lacks (b ∷ front) more h = (h.0, front_lacks front more h.1)

-- what is kept before a slash
pub kept_shorter : (front shorter : List ℕ) → Lacks front → front ≡ shorter ++ 92 ∷ [] → shorter ++ 47 ∷ [] ≡ unslashed (front ++ 47 ∷ [])
kept_shorter front shorter h e =
    let less : Lacks shorter = front_lacks shorter (92 ∷ []) (subst Lacks e h) in
    sym (escaped shorter less) ∙ ap (λ (l : List ℕ). unslashed (l ++ 47 ∷ [])) (sym e)

-- one more piece, up to a slash
pub goes_on : (out before behind rest kept total : List ℕ) → Lacks before → rest ≡ before ++ 47 ∷ behind → kept ++ 47 ∷ [] ≡ unslashed (before ++ 47 ∷ []) → out ++ unslashed rest ≡ total
    → ((out ++ kept) ++ 47 ∷ []) ++ unslashed behind ≡ total
goes_on out before behind rest kept total h e k so_far =
    append_assoc (out ++ kept) (47 ∷ []) (unslashed behind) ∙ append_assoc out kept (47 ∷ unslashed behind)
    ∙ ap (λ (l : List ℕ). out ++ l) (sym (append_assoc kept (47 ∷ []) (unslashed behind)) ∙ ap (λ (l : List ℕ). l ++ unslashed behind) k ∙ sym (anew before behind h) ∙ ap unslashed (sym e))
    ∙ so_far

-- the last piece
pub ends : (out rest total : List ℕ) → Lacks rest → out ++ unslashed rest ≡ total → out ++ rest ≡ total
ends out rest total h so_far = ap (λ (l : List ℕ). out ++ l) (sym (stays rest h)) ∙ so_far

-- there was a turn for each byte
pub is_done : (out rest total : List ℕ) (n m : ℕ) → length rest + n ≤ m → m ≤ n → out ++ unslashed rest ≡ total → out ++ rest ≡ total
is_done out [] total n m le all so_far = ends out [] total tt so_far
is_done out (b ∷ rest) total n m le all so_far = absurd (omega arith)

-- what stands behind a slash is shorter
pub cut_shorter : (s : List ℕ) (r : Option (Bor (List ℕ) × Bor (List ℕ))) → MatchOption r (Lacks s) (λ x. Lacks x.0.now × (s ≡ x.0.now ++ 47 ∷ x.1.now))
    → IfSome r (λ x. length x.1.now < length s)
cut_shorter s None h = tt
cut_shorter s (Some x) h = omega (arith, ap length h.1, length-append x.0.now (47 ∷ x.1.now))

-- the text kept before a slash, by whether it ends in a backslash
pub kept_some : (front : List ℕ) (r : Option (Bor (List ℕ))) (shorter : Bor (List ℕ)) → Lacks front → r ≡ Some shorter
    → MatchOption r ((f : List ℕ) → front ≢ f ++ 92 ∷ []) (λ x. front ≡ x.now ++ 92 ∷ []) → shorter.now ++ 47 ∷ [] ≡ unslashed (front ++ 47 ∷ [])
kept_some front r shorter h e m = kept_shorter front shorter.now h (rw e at m)

pub kept_none : (front : List ℕ) (r : Option (Bor (List ℕ))) → Lacks front → r ≡ None
    → MatchOption r ((f : List ℕ) → front ≢ f ++ 92 ∷ []) (λ x. front ≡ x.now ++ 92 ∷ []) → front ++ 47 ∷ [] ≡ unslashed (front ++ 47 ∷ [])
kept_none front r h e m = sym (unescaped front h (rw e at m))
