-- In the order in which blocks run each comes after those that it depends on.
use Rattle.std.proofs.Common.{◌≡◌, ℕ, zero, suc, ◌+◌, ◌≤◌, length, Bool, true, false, cond, List, [], ◌∷◌, ◌++◌, refl, sym, ap, ◌∙◌, subst, eq-eqb, arith}
use Rattle.std.specs.Prelude.{Option, Some, None, not, ◌&&◌, ◌||◌, ◌==◌, slice_get, Result, OnOk}
use Rattle.std.specs.List.{list_all}
use Rattle.std.proofs.lemmas.List.Folds.{list_any-append}
use Rattle.std.proofs.lemmas.Result.{on_ok_weaker}
use Rattle.std.proofs.lemmas.Map.Views.{exact_unsigned_eq}
use Rattle.dg_check.specs.Cycles.{is_place_in}
use Rattle.dg_check.specs.RunOrder.{deps_at, first_ready, run_more, run_order, is_ordered, is_ready, are_ready}

pub right_of : (a b : Bool) → (a && b) ≡ true → b ≡ true
right_of true b e = e
right_of false b e = absurd (cc)

pub both_of : (a b : Bool) → a ≡ true → b ≡ true → (a && b) ≡ true
both_of a b e f = cc

inner : (a b : ℕ) → Some a ≡ Some b → a ≡ b
inner a b e = cc

and_more : (a b c : Bool) → ((a && b) && c) ≡ (a && (b && c))
and_more true b c = refl
and_more false b c = refl

and_true : (a : Bool) → (a && true) ≡ a
and_true true = refl
and_true false = refl

none_behind : (xs : List ℕ) → xs ++ [] ≡ xs
none_behind [] = refl
none_behind (x ∷ xs) = ap (λ l. x ∷ l) (none_behind xs)

pub one_behind : (xs : List ℕ) (x : ℕ) (ys : List ℕ) → (xs ++ x ∷ []) ++ ys ≡ xs ++ x ∷ ys
one_behind [] x ys = refl
one_behind (y ∷ xs) x ys = ap (λ l. y ∷ l) (one_behind xs x ys)

-- ---- each is ready when it runs

-- the block that is found is ready
found_ready : (ran : List ℕ) (k : ℕ) (ds : List (List ℕ)) (at : ℕ) → first_ready ran k ds ≡ Some at → (i : ℕ) × (at ≡ k + i) × (is_ready ran at (slice_get ds i) ≡ true)
found_ready ran k [] at e = absurd (cc)
found_ready ran k (needs ∷ more) at e = by (not (is_place_in ran k) && list_all (is_place_in ran) needs) refl e (λ g. found_ready ran (k + 1) more at g)
  where
    later : (i : ℕ) × (at ≡ k + 1 + i) × (is_ready ran at (slice_get more i) ≡ true) → (i : ℕ) × (at ≡ k + i) × (is_ready ran at (slice_get (needs ∷ more) i) ≡ true)
    later (i, same, ready) = (suc i, omega (arith, same), ready)

    by : (v : Bool) → (not (is_place_in ran k) && list_all (is_place_in ran) needs) ≡ v → cond v (Some k) (first_ready ran (k + 1) more) ≡ Some at
        → (first_ready ran (k + 1) more ≡ Some at → (i : ℕ) × (at ≡ k + 1 + i) × (is_ready ran at (slice_get more i) ≡ true))
        → (i : ℕ) × (at ≡ k + i) × (is_ready ran at (slice_get (needs ∷ more) i) ≡ true)
    by true f g rest = let same = inner k at g in (0, omega (arith, same), subst (λ (p : ℕ). is_ready ran p (Some needs) ≡ true) same f)
    by false f g rest = later (rest g)

pub first_can_run : (ran : List ℕ) (deps : List (List ℕ)) (at : ℕ) → first_ready ran 0 deps ≡ Some at → is_ready ran at (slice_get deps at) ≡ true
first_can_run ran deps at e =
    let found = found_ready ran 0 deps at e in
    let same : found.0 ≡ at = omega (arith, found.1) in
    subst (λ (i : ℕ). is_ready ran at (slice_get deps i) ≡ true) same found.2

-- one block more at the end
ready_more : (deps : List (List ℕ)) (before xs : List ℕ) (at : ℕ) → are_ready deps before (xs ++ at ∷ []) ≡ (are_ready deps before xs && is_ready (before ++ xs) at (slice_get deps at))
ready_more deps before [] at = and_true (is_ready before at (slice_get deps at)) ∙ ap (λ b. is_ready b at (slice_get deps at)) (sym (none_behind before))
ready_more deps before (x ∷ xs) at =
    ap (λ b. is_ready before x (slice_get deps x) && b) (ready_more deps (before ++ x ∷ []) xs at ∙ ap (λ b. are_ready deps (before ++ x ∷ []) xs && is_ready b at (slice_get deps at)) (one_behind before x xs))
    ∙ sym (and_more (is_ready before x (slice_get deps x)) (are_ready deps (before ++ x ∷ []) xs) (is_ready (before ++ x ∷ xs) at (slice_get deps at)))

pub ready_with : (deps : List (List ℕ)) (ran : List ℕ) (at : ℕ) → are_ready deps [] ran ≡ true → is_ready ran at (slice_get deps at) ≡ true → are_ready deps [] (ran ++ at ∷ []) ≡ true
ready_with deps ran at e f = ready_more deps [] ran at ∙ both_of (are_ready deps [] ran) (is_ready ran at (slice_get deps at)) e f

-- the same, where there was memory for it
pub pushed_ready : {T E : Type 0} (r : Result T E) (deps : List (List ℕ)) (ran more : List ℕ) (at : ℕ) → are_ready deps [] ran ≡ true → is_ready ran at (slice_get deps at) ≡ true → OnOk r (more ≡ ran ++ at ∷ []) → OnOk r (are_ready deps [] more ≡ true)
pushed_ready r deps ran more at e f pushed = on_ok_weaker r (λ (g : more ≡ ran ++ at ∷ []). ap (are_ready deps []) g ∙ ready_with deps ran at e f) pushed

-- so it is with the turns of the definition
pub ready_from : (turns deps : List (List ℕ)) (ran : List ℕ) → are_ready deps [] ran ≡ true → are_ready deps [] (run_more turns deps ran) ≡ true
ready_from [] deps ran e = e
ready_from (turn ∷ turns) deps ran e = by (first_ready ran 0 deps) refl (λ at h. ready_from turns deps (ran ++ at ∷ []) h)
  where
    by : (o : Option ℕ) → first_ready ran 0 deps ≡ o → ((at : ℕ) → are_ready deps [] (ran ++ at ∷ []) ≡ true → are_ready deps [] (run_more turns deps (ran ++ at ∷ [])) ≡ true) → are_ready deps [] (elim o [ None ↦ ran | Some at ↦ run_more turns deps (ran ++ at ∷ []) ]) ≡ true
    by None f rest = e
    by (Some at) f rest = rest at (ready_with deps ran at e (first_can_run ran deps at f))

pub left_part : (a b : Bool) → (a && b) ≡ true → a ≡ true
left_part true b e = refl
left_part false b e = absurd (cc)

needs_have_run : (deps : List (List ℕ)) (ran : List ℕ) (at i : ℕ) → is_ready ran at (slice_get deps i) ≡ true → list_all (is_place_in ran) (deps_at deps i) ≡ true
needs_have_run [] ran at i e = absurd (cc)
needs_have_run (needs ∷ more) ran at zero e = right_of (not (is_place_in ran at)) (list_all (is_place_in ran) needs) e
needs_have_run (needs ∷ more) ran at (suc i) e = needs_have_run more ran at i e

-- an order of ready blocks is an order of dependency
pub ready_is_ordered : (deps : List (List ℕ)) (before xs : List ℕ) → are_ready deps before xs ≡ true → is_ordered deps before xs ≡ true
ready_is_ordered deps before [] e = refl
ready_is_ordered deps before (x ∷ xs) e =
    both_of (list_all (is_place_in before) (deps_at deps x)) (is_ordered deps (before ++ x ∷ []) xs)
    (needs_have_run deps before x x (left_part (is_ready before x (slice_get deps x)) (are_ready deps (before ++ x ∷ []) xs) e))
    (ready_is_ordered deps (before ++ x ∷ []) xs (right_of (is_ready before x (slice_get deps x)) (are_ready deps (before ++ x ∷ []) xs) e))

-- so is that of the definition
pub run_order_is_ordered : (deps : List (List ℕ)) → is_ordered deps [] (run_order deps) ≡ true
run_order_is_ordered deps = ready_is_ordered deps [] (run_order deps) (ready_from deps deps [] refl)

-- ---- turns end where no block is ready

or_none : (a : Bool) → (a || false) ≡ a
or_none true = refl
or_none false = refl

pub place_more : (xs : List ℕ) (y at : ℕ) → is_place_in (xs ++ y ∷ []) at ≡ (is_place_in xs at || (y == at))
place_more xs y at = list_any-append (λ place. place == at) xs (y ∷ []) ∙ ap (λ b. is_place_in xs at || b) (or_none (y == at))

-- how many of these blocks, those from a place on, haven't run
abbrev pub one_left : Bool → ℕ
one_left true = 0
one_left false = 1

abbrev pub left_of : List ℕ → ℕ → List (List ℕ) → ℕ
left_of ran k [] = 0
left_of ran k (needs ∷ more) = one_left (is_place_in ran k) + left_of ran (k + 1) more

one_left_most : (b : Bool) → one_left b ≤ 1
one_left_most true = omega arith
one_left_most false = omega arith

pub left_most : (ran : List ℕ) (k : ℕ) (ds : List (List ℕ)) → left_of ran k ds ≤ length ds
left_most ran k [] = omega arith
left_most ran k (needs ∷ more) = let a = one_left_most (is_place_in ran k) in let b = left_most ran (k + 1) more in omega arith

fewer_one : (a b : Bool) → one_left (a || b) ≤ one_left a
fewer_one true b = omega arith
fewer_one false true = omega arith
fewer_one false false = omega arith

fewer : (ran : List ℕ) (at k : ℕ) → one_left (is_place_in (ran ++ at ∷ []) k) ≤ one_left (is_place_in ran k)
fewer ran at k = rw place_more (fewer_one (is_place_in ran k) (at == k))

left_less : (ran : List ℕ) (at k : ℕ) (ds : List (List ℕ)) → left_of (ran ++ at ∷ []) k ds ≤ left_of ran k ds
left_less ran at k [] = omega arith
left_less ran at k (needs ∷ more) = let a = fewer ran at k in let b = left_less ran at (k + 1) more in omega arith

itself_left : (a : Bool) (at : ℕ) → a ≡ false → one_left (a || (at == at)) + 1 ≤ one_left a
itself_left true at e = absurd (cc)
itself_left false at e = rw (eq-eqb at at refl) (omega arith)

not_true : (a b : Bool) → (not a && b) ≡ true → a ≡ false
not_true true b e = absurd (cc)
not_true false b e = refl

-- where a block is found, one less is left
left_falls : (ran : List ℕ) (k : ℕ) (ds : List (List ℕ)) (at : ℕ) → first_ready ran k ds ≡ Some at → left_of (ran ++ at ∷ []) k ds + 1 ≤ left_of ran k ds
left_falls ran k [] at e = absurd (cc)
left_falls ran k (needs ∷ more) at e = by (not (is_place_in ran k) && list_all (is_place_in ran) needs) refl e (λ g. left_falls ran (k + 1) more at g)
  where
    by : (v : Bool) → (not (is_place_in ran k) && list_all (is_place_in ran) needs) ≡ v → cond v (Some k) (first_ready ran (k + 1) more) ≡ Some at
        → (first_ready ran (k + 1) more ≡ Some at → left_of (ran ++ at ∷ []) (k + 1) more + 1 ≤ left_of ran (k + 1) more)
        → left_of (ran ++ at ∷ []) k (needs ∷ more) + 1 ≤ left_of ran k (needs ∷ more)
    by true f g rest =
        let same : k ≡ at = inner k at g in
        let own : one_left (is_place_in (ran ++ k ∷ []) k) + 1 ≤ one_left (is_place_in ran k) = rw place_more (itself_left (is_place_in ran k) k (not_true (is_place_in ran k) (list_all (is_place_in ran) needs) f)) in
        let others = left_less ran k (k + 1) more in
        subst (λ (p : ℕ). left_of (ran ++ p ∷ []) k (needs ∷ more) + 1 ≤ left_of ran k (needs ∷ more)) same (omega arith)
    by false f g rest = let a = fewer ran at k in let b = rest g in omega arith

none_left : (ran : List ℕ) (k : ℕ) (ds : List (List ℕ)) → left_of ran k ds ≡ 0 → first_ready ran k ds ≡ None
none_left ran k [] e = refl
none_left ran k (needs ∷ more) e = by (is_place_in ran k) e (λ g. none_left ran (k + 1) more g)
  where
    by : (v : Bool) → one_left v + left_of ran (k + 1) more ≡ 0 → (left_of ran (k + 1) more ≡ 0 → first_ready ran (k + 1) more ≡ None) → cond (not v && list_all (is_place_in ran) needs) (Some k) (first_ready ran (k + 1) more) ≡ None
    by true f rest = rest (omega arith)
    by false f rest = absurd (omega arith)

pub none_ready : (turns deps : List (List ℕ)) (ran : List ℕ) → left_of ran 0 deps ≤ length turns → first_ready (run_more turns deps ran) 0 deps ≡ None
none_ready [] deps ran e = none_left ran 0 deps (omega arith)
none_ready (turn ∷ turns) deps ran e = by (first_ready ran 0 deps) refl (λ at h. none_ready turns deps (ran ++ at ∷ []) h)
  where
    by : (o : Option ℕ) → first_ready ran 0 deps ≡ o → ((at : ℕ) → left_of (ran ++ at ∷ []) 0 deps ≤ length turns → first_ready (run_more turns deps (ran ++ at ∷ [])) 0 deps ≡ None) → first_ready (elim o [ None ↦ ran | Some at ↦ run_more turns deps (ran ++ at ∷ []) ]) 0 deps ≡ None
    by None f rest = f
    by (Some at) f rest = let g = left_falls ran 0 deps at f in rest at (omega arith)

-- ---- where no block is ready, all that can run have

pub unready : (ran : List ℕ) (k : ℕ) (ds : List (List ℕ)) (i : ℕ) (needs : List ℕ) → first_ready ran k ds ≡ None → slice_get ds i ≡ Some needs → list_all (is_place_in ran) needs ≡ true → is_place_in ran (k + i) ≡ true
unready ran k [] i needs e found all = absurd (cc)
unready ran k (own ∷ more) zero needs e found all = subst (λ (p : ℕ). is_place_in ran p ≡ true) (let g : k ≡ k + 0 = omega arith in g) (by (is_place_in ran k) (list_all (is_place_in ran) own) e (ap (list_all (is_place_in ran)) same ∙ all))
  where
    same : own ≡ needs
    same = cc

    by : (v w : Bool) → cond (not v && w) (Some k) (first_ready ran (k + 1) more) ≡ None → w ≡ true → v ≡ true
    by true w f g = refl
    by false true f g = absurd (cc)
    by false false f g = absurd (cc)
unready ran k (own ∷ more) (suc i) needs e found all = subst (λ (p : ℕ). is_place_in ran p ≡ true) (let g : k + 1 + i ≡ k + suc i = omega arith in g) (unready ran (k + 1) more i needs (by (not (is_place_in ran k) && list_all (is_place_in ran) own) e) found all)
  where
    by : (v : Bool) → cond v (Some k) (first_ready ran (k + 1) more) ≡ None → first_ready ran (k + 1) more ≡ None
    by true f = absurd (cc)
    by false f = f

-- all these blocks are among the others
abbrev Within : List ℕ → List ℕ → Type 0
Within xs ys = (at : ℕ) → is_place_in xs at ≡ true → is_place_in ys at ≡ true

all_within : (xs ys needs : List ℕ) → Within xs ys → list_all (is_place_in xs) needs ≡ true → list_all (is_place_in ys) needs ≡ true
all_within xs ys [] w e = refl
all_within xs ys (need ∷ needs) w e =
    both_of (is_place_in ys need) (list_all (is_place_in ys) needs)
    (w need (left_part (is_place_in xs need) (list_all (is_place_in xs) needs) e))
    (all_within xs ys needs w (right_of (is_place_in xs need) (list_all (is_place_in xs) needs) e))

within_more : (xs ys : List ℕ) (x : ℕ) → Within xs ys → is_place_in ys x ≡ true → Within (xs ++ x ∷ []) ys
within_more xs ys x w e at f = by (is_place_in xs at) (x == at) (sym (place_more xs x at) ∙ f) refl refl
  where
    by : (a b : Bool) → (a || b) ≡ true → is_place_in xs at ≡ a → (x == at) ≡ b → is_place_in ys at ≡ true
    by true b g h k = w at h
    by false true g h k = subst (λ (p : ℕ). is_place_in ys p ≡ true) (exact_unsigned_eq x at k) e
    by false false g h k = absurd (cc)

one_within : (deps : List (List ℕ)) (before ys : List ℕ) (x : ℕ) (o : Option (List ℕ)) → slice_get deps x ≡ o → first_ready ys 0 deps ≡ None → Within before ys → is_ready before x o ≡ true → is_place_in ys x ≡ true
one_within deps before ys x None found none w e = absurd (cc)
one_within deps before ys x (Some needs) found none w e =
    let first : 0 + x ≡ x = omega arith in
    subst (λ (p : ℕ). is_place_in ys p ≡ true) first (unready ys 0 deps x needs none found (all_within before ys needs w (right_of (not (is_place_in before x)) (list_all (is_place_in before) needs) e)))

-- blocks each ready when it runs are all among those behind which none is
run_within : (deps : List (List ℕ)) (before xs ys : List ℕ) → first_ready ys 0 deps ≡ None → Within before ys → are_ready deps before xs ≡ true → Within (before ++ xs) ys
run_within deps before [] ys none w e at f = w at (ap (λ l. is_place_in l at) (sym (none_behind before)) ∙ f)
run_within deps before (x ∷ xs) ys none w e at f =
    let here : is_place_in ys x ≡ true = one_within deps before ys x (slice_get deps x) refl none w (left_part (is_ready before x (slice_get deps x)) (are_ready deps (before ++ x ∷ []) xs) e) in
    run_within deps (before ++ x ∷ []) xs ys none (within_more before ys x w here) (right_of (is_ready before x (slice_get deps x)) (are_ready deps (before ++ x ∷ []) xs) e) at
    (ap (λ l. is_place_in l at) (one_behind before x xs) ∙ f)

no_place : (ys : List ℕ) → Within [] ys
no_place ys at e = absurd (cc)

pub one_truth : (a b : Bool) → (a ≡ true → b ≡ true) → (b ≡ true → a ≡ true) → a ≡ b
one_truth true b f g = sym (f refl)
one_truth false true f g = g refl
one_truth false false f g = refl

-- from whichever ready blocks the turns go on, the same blocks run
pub same_blocks : (deps : List (List ℕ)) (ran : List ℕ) → are_ready deps [] ran ≡ true → (at : ℕ) → is_place_in (run_more deps deps ran) at ≡ is_place_in (run_order deps) at
same_blocks deps ran e at =
    let here : first_ready (run_more deps deps ran) 0 deps ≡ None = none_ready deps deps ran (left_most ran 0 deps) in
    let there : first_ready (run_order deps) 0 deps ≡ None = none_ready deps deps [] (left_most [] 0 deps) in
    one_truth (is_place_in (run_more deps deps ran) at) (is_place_in (run_order deps) at)
    (λ f. run_within deps [] (run_more deps deps ran) (run_order deps) there (no_place (run_order deps)) (ready_from deps deps ran e) at f)
    (λ f. run_within deps [] (run_order deps) (run_more deps deps ran) here (no_place (run_more deps deps ran)) (ready_from deps deps [] refl) at f)
