-- Counting brackets token by token.
use Rattle.std.proofs.Common.{◌≡◌, ℕ, ◌+◌, ◌-◌, ◌<◌, ◌≤◌, Bool, true, false, List, [], ◌∷◌, length, Option, Some, None, refl, sym, ◌∙◌, ap, arith}
use Rattle.std.specs.Prelude.{nat_lt}
use Rattle.std.proofs.lemmas.Bool.Decides.{nat_tests}
use Rattle.dg_text.specs.Tokens.{Tok}
use Rattle.dg_text.specs.Brackets.{opens, closes, counted, deep_from}

-- a count rises by one at most
pub rises : (test : Bool) (n at more : ℕ) → n ≤ at → more ≡ counted test n → more ≤ at + 1
rises true n at more le e = omega (arith, e)
rises false n at more le e = omega (arith, e)

module _ (m o c : ℕ) (t : Tok) (rest : List Tok) where
  goes_on : nat_lt m (counted (opens t) o - counted (closes t) c) ≡ false → deep_from m o c (t ∷ rest) ≡ deep_from m (counted (opens t) o) (counted (closes t) c) rest
  unfolding deep_from
  goes_on few = rw few refl

  stops : nat_lt m (counted (opens t) o - counted (closes t) c) ≡ true → deep_from m o c (t ∷ rest) ≡ Some (length (t ∷ rest))
  unfolding deep_from
  stops many = rw many refl

ends : (m o c : ℕ) → deep_from m o c [] ≡ None
unfolding deep_from
ends m o c = refl

-- behind a token with which few stand open
pub deeper : (m o c o2 c2 d : ℕ) (t : Tok) (ts rest : List Tok) (total : Option ℕ) → ts ≡ t ∷ rest → o2 ≡ counted (opens t) o → c2 ≡ counted (closes t) c
    → d ≡ o2 - c2 → d ≤ m → deep_from m o c ts ≡ total → deep_from m o2 c2 rest ≡ total
deeper m o c o2 c2 d t ts rest total e eo ec ed le so_far =
    let few : nat_lt m (o2 - c2) ≡ false = rw (sym ed) (grind (arith, nat_tests)) in
    let few2 : nat_lt m (counted (opens t) o - counted (closes t) c) ≡ false = ap (λ (n : ℕ). nat_lt m (n - counted (closes t) c)) (sym eo) ∙ ap (λ (n : ℕ). nat_lt m (o2 - n)) (sym ec) ∙ few in
    ap (λ (n : ℕ). deep_from m n c2 rest) eo ∙ ap (λ (n : ℕ). deep_from m (counted (opens t) o) n rest) ec
    ∙ sym (goes_on m o c t rest few2) ∙ ap (deep_from m o c) (sym e) ∙ so_far

-- too many stand open with this one
pub deep_here : (m o c o2 c2 d n : ℕ) (t : Tok) (ts rest : List Tok) (total : Option ℕ) → ts ≡ t ∷ rest → o2 ≡ counted (opens t) o → c2 ≡ counted (closes t) c
    → d ≡ o2 - c2 → m < d → n ≡ length ts → deep_from m o c ts ≡ total → Some n ≡ total
deep_here m o c o2 c2 d n t ts rest total e eo ec ed lt en so_far =
    let many : nat_lt m (o2 - c2) ≡ true = rw (sym ed) (grind (arith, nat_tests)) in
    let many2 : nat_lt m (counted (opens t) o - counted (closes t) c) ≡ true = ap (λ (k : ℕ). nat_lt m (k - counted (closes t) c)) (sym eo) ∙ ap (λ (k : ℕ). nat_lt m (o2 - k)) (sym ec) ∙ many in
    ap (λ (k : ℕ). Some k) (en ∙ ap (λ (l : List Tok). length l) e) ∙ sym (stops m o c t rest many2) ∙ ap (deep_from m o c) (sym e) ∙ so_far

-- no token is left
pub deep_end : (m o c : ℕ) (ts : List Tok) (total : Option ℕ) → ts ≡ [] → deep_from m o c ts ≡ total → None ≡ total
deep_end m o c ts total e so_far = sym (ends m o c) ∙ ap (deep_from m o c) (sym e) ∙ so_far
