-- Fronts of a text.
use Rattle.std.proofs.Common.{◌≡◌, ℕ, zero, suc, ◌+◌, ◌≤◌, ◌<◌, Bool, true, false, ◌&&◌, ◌==◌, List, [], ◌∷◌, ◌++◌, length, length-append, append_assoc, refl, sym, ap, subst, ◌∙◌, arith}
use Rattle.std.specs.List.{prefix_len, list_all, concat, AllByRecursion}
use Rattle.std.proofs.lemmas.Bool.{eq-eqb}
use Rattle.std.proofs.lemmas.Grind.{common_steps}
use Rattle.dg_text.specs.Reading.{next}

-- n bytes at the front of a text of which P holds
pub record Found (text : List ℕ) (n : ℕ) (P : List ℕ → Type 0) : Type 0 where
  pub front : List ℕ
  pub rest : List ℕ
  pub split : text ≡ front ++ rest
  pub len : length front ≡ n
  pub form : P front

-- a text in pieces
pub record InPieces (P : List ℕ → Type 0) (text : List ℕ) : Type 0 where
  pub pieces : List (List ℕ)
  pub each : AllByRecursion P pieces
  pub is : text ≡ concat pieces

abbrev pub AllAre : (ℕ → Bool) → List ℕ → Type 0
AllAre test text = list_all test text ≡ true

pub nothing : (P : List ℕ → Type 0) (text : List ℕ) → P [] → Found text 0 P
nothing P text p = record { front = []; rest = text; split = refl; len = refl; form = p }

pub long : (P : List ℕ → Type 0) (text : List ℕ) (n m : ℕ) → n ≡ m → Found text n P → Found text m P
long P text n m e f = subst (λ (k : ℕ). Found text k P) e f

-- one byte before
pub with_byte : (P Q : List ℕ → Type 0) (b : ℕ) (text : List ℕ) (n : ℕ) → ((front : List ℕ) → P front → Q (b ∷ front)) → Found text n P → Found (b ∷ text) (suc n) Q
with_byte P Q b text n more f = record {
  front = b ∷ f.front;
  rest = f.rest;
  split = ap (λ (t : List ℕ). b ∷ t) f.split;
  len = ap suc f.len;
  form = more f.front f.form;
}

-- a piece before
pub with_piece : (P : List ℕ → Type 0) (piece text : List ℕ) (n : ℕ) → P piece → Found text n (InPieces P) → Found (piece ++ text) (length piece + n) (InPieces P)
with_piece P piece text n p f = record {
  front = piece ++ f.front;
  rest = f.rest;
  split = ap (λ (t : List ℕ). piece ++ t) f.split ∙ sym (append_assoc piece f.front f.rest);
  len = length-append piece f.front ∙ ap (λ (k : ℕ). length piece + k) f.len;
  form = record { pieces = piece ∷ f.form.pieces; each = (p, f.form.each); is = ap (λ (t : List ℕ). piece ++ t) f.form.is };
}

and_both : (a b : Bool) → (a && b) ≡ true → (a ≡ true) × (b ≡ true)
and_both true b h = (refl, h)
and_both false b h = absurd (cc)

-- the first of a run, and the others
pub first_and_more : (test : ℕ → Bool) (b : ℕ) (more : List ℕ) → AllAre test (b ∷ more) → (test b ≡ true) × AllAre test more
first_and_more test b more h = and_both (test b) (list_all test more) h

pub run_goes : (test : ℕ → Bool) (b : ℕ) (rest : List ℕ) → test b ≡ true → prefix_len test (b ∷ rest) ≡ suc (prefix_len test rest)
run_goes test b rest h =
    let e : prefix_len test (b ∷ rest) ≡ 1 + prefix_len test rest = rw h refl in
    omega (arith, e)

pub run_ends : (test : ℕ → Bool) (b : ℕ) (rest : List ℕ) → test b ≡ false → prefix_len test (b ∷ rest) ≡ 0
run_ends test b rest h = rw h refl

-- so many bytes of a run
pub run_found : (test : ℕ → Bool) (text : List ℕ) (n : ℕ) → n ≤ prefix_len test text → Found text n (AllAre test)
run_found test text zero le = nothing (AllAre test) text refl
run_found test [] (suc n) le = absurd (omega (arith, le))
run_found test (b ∷ rest) (suc n) le = by (test b) refl (run_found test rest n)
  where
    by : (v : Bool) → test b ≡ v → (n ≤ prefix_len test rest → Found rest n (AllAre test)) → Found (b ∷ rest) (suc n) (AllAre test)
    by true h more = with_byte (AllAre test) (AllAre test) b rest n (λ front a. rw (h, a) refl) (more (omega (arith, le, run_goes test b rest h)))
    by false h more = absurd (omega (arith, le, run_ends test b rest h))

-- a run is no longer than what is counted
pub run_most : (test : ℕ → Bool) (front rest : List ℕ) → AllAre test front → length front ≤ prefix_len test (front ++ rest)
run_most test [] rest a = omega arith
run_most test (b ∷ front) rest a =
    let both = first_and_more test b front a in
    omega (arith, run_most test front rest both.1, run_goes test b (front ++ rest) both.0)

-- it is as long where none goes on
pub run_exact : (test : ℕ → Bool) (front rest : List ℕ) → AllAre test front → next test rest ≡ false → prefix_len test (front ++ rest) ≡ length front
run_exact test [] [] a stop = refl
run_exact test [] (b ∷ rest) a stop = run_ends test b rest stop
run_exact test (b ∷ front) rest a stop =
    let both = first_and_more test b front a in
    run_goes test b (front ++ rest) both.0 ∙ ap suc (run_exact test front rest both.1 stop)

-- a front of which not all are such has fewer
pub run_less : (test : ℕ → Bool) (front rest : List ℕ) → list_all test front ≡ false → prefix_len test (front ++ rest) < length front
run_less test [] rest h = absurd (cc)
run_less test (b ∷ front) rest h = by (test b) refl (run_less test front rest)
  where
    by : (v : Bool) → test b ≡ v → (list_all test front ≡ false → prefix_len test (front ++ rest) < length front) → prefix_len test (b ∷ (front ++ rest)) < suc (length front)
    by true e more = omega (arith, run_goes test b (front ++ rest) e, more (rw e at h))
    by false e more = omega (arith, run_ends test b (front ++ rest) e)

pub positive : (n : ℕ) → 0 < n → (n == 0) ≡ false
positive n h = grind (arith, common_steps)

pub some_from : (n : ℕ) → (n == 0) ≡ false → 0 < n
some_from zero h = absurd (let e : (0 == 0) ≡ true = eq-eqb 0 0 refl in cc (e, h))
some_from (suc n) h = omega arith

pub long_by_one : (front : List ℕ) (b : ℕ) → length (front ++ b ∷ []) ≡ suc (length front)
long_by_one [] b = refl
long_by_one (x ∷ front) b = ap suc (long_by_one front b)
