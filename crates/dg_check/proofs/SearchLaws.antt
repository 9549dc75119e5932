-- What is found by going from blocks to what they need.
use Rattle.std.proofs.Common.{◌≡◌, ℕ, zero, suc, ◌+◌, ◌<◌, ◌≤◌, length, Bool, true, false, cond, List, [], ◌∷◌, ◌++◌, refl, sym, ap, ◌∙◌, subst, eq-eqb, arith}
use Rattle.std.specs.Prelude.{Option, Some, None, ◌||◌, ◌==◌, slice_get, map, flat_map}
use Rattle.std.specs.List.{list_any}
use Rattle.std.proofs.lemmas.List.Folds.{list_any-append}
use Rattle.std.proofs.lemmas.Bool.Decides.{nat_tests}
use Rattle.std.proofs.lemmas.Map.Views.{exact_unsigned_eq}
use Rattle.dg_check.specs.declared.blocks.BlockNames.{BlockNames}
use Rattle.dg_check.specs.Names.{is_name_in}
use Rattle.dg_check.specs.Cycles.{is_place_in, uses_at, uses_name_at, is_reached, with_used, definers, depended_on, is_circular}
use Rattle.dg_check.specs.RunOrder.{deps_at, dependencies}
use Rattle.dg_check.specs.Search.{with_new, needs_in, Among, IsClosed}
use Rattle.dg_check.proofs.OrderLaws.{place_more, one_truth}
use Rattle.dg_check.proofs.CycleLaws.{any_has, use_needed, deps_of}
use Rattle.dg_check.proofs.ReachLaws.{or_left, or_right, any_among, flat_in, used_is, inside, depended_closed, led, kept_within, definers_are}

-- ---- blocks that are added

-- those that were there stand in front
front_kept : (some places : List ℕ) → (more : List ℕ) × (with_new some places ≡ some ++ more)
front_kept some [] = ([], sym (none_behind some))
  where
    none_behind : (xs : List ℕ) → xs ++ [] ≡ xs
    none_behind [] = refl
    none_behind (x ∷ xs) = ap (λ l. x ∷ l) (none_behind xs)
front_kept some (place ∷ places) = by (is_place_in some place) (front_kept some places) (front_kept (some ++ place ∷ []) places)
  where
    grouped : (xs ys zs : List ℕ) → (xs ++ ys) ++ zs ≡ xs ++ (ys ++ zs)
    grouped [] ys zs = refl
    grouped (x ∷ xs) ys zs = ap (λ l. x ∷ l) (grouped xs ys zs)

    longer : (more : List ℕ) × (with_new (some ++ place ∷ []) places ≡ (some ++ place ∷ []) ++ more) → (more : List ℕ) × (with_new (some ++ place ∷ []) places ≡ some ++ more)
    longer (more, e) = (place ∷ more, e ∙ grouped some (place ∷ []) more)

    by : (v : Bool) → (more : List ℕ) × (with_new some places ≡ some ++ more) → (more : List ℕ) × (with_new (some ++ place ∷ []) places ≡ (some ++ place ∷ []) ++ more) → (more : List ℕ) × (with_new (cond v some (some ++ place ∷ [])) places ≡ some ++ more)
    by true same more = same
    by false same more = longer more

front_in : (xs more : List ℕ) → Among xs (xs ++ more)
front_in xs more x e = list_any-append (λ place. place == x) xs more ∙ or_left (is_place_in xs x) (is_place_in more x) e

pub new_keeps : (some places : List ℕ) → Among some (with_new some places)
new_keeps some places x e = from (front_kept some places)
  where
    from : (more : List ℕ) × (with_new some places ≡ some ++ more) → is_place_in (with_new some places) x ≡ true
    from (more, f) = ap (λ l. is_place_in l x) f ∙ front_in some more x e

new_has : (some places : List ℕ) (x : ℕ) → is_place_in places x ≡ true → is_place_in (with_new some places) x ≡ true
new_has some [] x e = absurd (cc)
new_has some (place ∷ places) x e = by (place == x) refl e (is_place_in some place) refl (new_has some places x) (new_has (some ++ place ∷ []) places x)
  where
    itself : (l : List ℕ) → is_place_in (l ++ place ∷ []) place ≡ true
    itself l = place_more l place place ∙ or_right (is_place_in l place) (place == place) (eq-eqb place place refl)

    by : (v : Bool) → (place == x) ≡ v → (v || is_place_in places x) ≡ true → (w : Bool) → is_place_in some place ≡ w
        → (is_place_in places x ≡ true → is_place_in (with_new some places) x ≡ true) → (is_place_in places x ≡ true → is_place_in (with_new (some ++ place ∷ []) places) x ≡ true)
        → is_place_in (with_new (cond w some (some ++ place ∷ [])) places) x ≡ true
    by true f g true h same more = new_keeps some places x (subst (λ (p : ℕ). is_place_in some p ≡ true) (exact_unsigned_eq place x f) h)
    by true f g false h same more = new_keeps (some ++ place ∷ []) places x (subst (λ (p : ℕ). is_place_in (some ++ place ∷ []) p ≡ true) (exact_unsigned_eq place x f) (itself some))
    by false f g true h same more = same g
    by false f g false h same more = more g

new_only : (some places : List ℕ) (x : ℕ) → is_place_in (with_new some places) x ≡ true → (is_place_in some x || is_place_in places x) ≡ true
new_only some [] x e = or_left (is_place_in some x) false e
new_only some (place ∷ places) x e = by (is_place_in some place) e (new_only some places x) (new_only (some ++ place ∷ []) places x)
  where
    skip : (a b c : Bool) → (a || c) ≡ true → (a || (b || c)) ≡ true
    skip true b c f = refl
    skip false true c f = refl
    skip false false c f = f

    regroup : (a b c : Bool) → ((a || b) || c) ≡ true → (a || (b || c)) ≡ true
    regroup true b c f = refl
    regroup false b c f = f

    by : (v : Bool) → is_place_in (with_new (cond v some (some ++ place ∷ [])) places) x ≡ true
        → (is_place_in (with_new some places) x ≡ true → (is_place_in some x || is_place_in places x) ≡ true) → (is_place_in (with_new (some ++ place ∷ []) places) x ≡ true → (is_place_in (some ++ place ∷ []) x || is_place_in places x) ≡ true)
        → (is_place_in some x || ((place == x) || is_place_in places x)) ≡ true
    by true f same more = skip (is_place_in some x) (place == x) (is_place_in places x) (same f)
    by false f same more = regroup (is_place_in some x) (place == x) (is_place_in places x) (ap (λ b. b || is_place_in places x) (sym (place_more some place x)) ∙ more f)

-- ---- blocks by their places in a list

place_at : (xs : List ℕ) (x : ℕ) → is_place_in xs x ≡ true → (j : ℕ) × (j < length xs) × (slice_get xs j ≡ Some x)
place_at [] x e = absurd (cc)
place_at (y ∷ xs) x e = by (y == x) refl e (place_at xs x)
  where
    later : (j : ℕ) × (j < length xs) × (slice_get xs j ≡ Some x) → (j : ℕ) × (j < suc (length xs)) × (slice_get (y ∷ xs) j ≡ Some x)
    later (j, f, g) = (suc j, omega (arith, f), g)

    by : (v : Bool) → (y == x) ≡ v → (v || is_place_in xs x) ≡ true → (is_place_in xs x ≡ true → (j : ℕ) × (j < length xs) × (slice_get xs j ≡ Some x)) → (j : ℕ) × (j < suc (length xs)) × (slice_get (y ∷ xs) j ≡ Some x)
    by true f g rest = (0, omega arith, ap Some (exact_unsigned_eq y x f))
    by false f g rest = later (rest g)

place_of : (xs : List ℕ) (j x : ℕ) → slice_get xs j ≡ Some x → is_place_in xs x ≡ true
place_of [] j x e = absurd (cc)
place_of (y ∷ xs) zero x e = let same : y ≡ x = cc in or_left (y == x) (is_place_in xs x) (eq-eqb y x same)
place_of (y ∷ xs) (suc j) x e = or_right (y == x) (is_place_in xs x) (place_of xs j x e)

get_front : (xs more : List ℕ) (j : ℕ) → j < length xs → slice_get (xs ++ more) j ≡ slice_get xs j
get_front [] more j e = absurd (omega arith)
get_front (y ∷ xs) more zero e = refl
get_front (y ∷ xs) more (suc j) e = get_front xs more j (omega arith)

none_there : (xs : List ℕ) (i : ℕ) → slice_get xs i ≡ None → length xs ≤ i
none_there [] i e = omega arith
none_there (y ∷ xs) zero e = absurd (cc)
none_there (y ∷ xs) (suc i) e = let f = none_there xs i e in omega arith

some_there : (xs : List ℕ) (i x : ℕ) → slice_get xs i ≡ Some x → i < length xs
some_there [] i x e = absurd (cc)
some_there (y ∷ xs) zero x e = omega arith
some_there (y ∷ xs) (suc i) x e = let f = some_there xs i x e in omega arith

less_than : (j i : ℕ) → (j == i) ≡ false → j < i + 1 → j < i
less_than j i e lt = grind (arith, nat_tests)

same_some : (x y : ℕ) → Some x ≡ Some y → x ≡ y
same_some x y e = cc

-- ---- how far the search is: what was found comes from those at first, and what the first so many need is found

pub record IsFound (deps : List (List ℕ)) (first found : List ℕ) (i : ℕ) : Type 0 where
  pub kept : Among first found
  pub only : (all : List ℕ) → IsClosed deps all → Among first all → Among found all
  pub done : (j x need : ℕ) → j < i → slice_get found j ≡ Some x → is_place_in (deps_at deps x) need ≡ true → is_place_in found need ≡ true

pub found_first : (deps : List (List ℕ)) (first : List ℕ) → IsFound deps first first 0
found_first deps first = record { kept = λ x e. e; only = λ all c w. w; done = λ j x need lt e f. absurd (omega arith) }

pub found_more : (deps : List (List ℕ)) (first found more : List ℕ) (i at : ℕ) → IsFound deps first found i → slice_get found i ≡ Some at → more ≡ with_new found (deps_at deps at) → IsFound deps first more (i + 1)
found_more deps first found more i at so e same = subst (λ (l : List ℕ). IsFound deps first l (i + 1)) (sym same) (record {
  kept = λ x f. new_keeps found (deps_at deps at) x (so.kept x f);
  only = λ all c w x f. only_one all c w x (is_place_in found x) refl (new_only found (deps_at deps at) x f);
  done = λ j x need lt f g. done_one j x need lt f g (front_kept found (deps_at deps at)) (j == i) refl;
})
  where
    only_one : (all : List ℕ) → IsClosed deps all → Among first all → (x : ℕ) → (v : Bool) → is_place_in found x ≡ v → (v || is_place_in (deps_at deps at) x) ≡ true → is_place_in all x ≡ true
    only_one all c w x true f g = so.only all c w x f
    only_one all c w x false f g = c at x (so.only all c w at (place_of found i at e)) g

    done_one : (j x need : ℕ) → j < i + 1 → slice_get (with_new found (deps_at deps at)) j ≡ Some x → is_place_in (deps_at deps x) need ≡ true → (rest : List ℕ) × (with_new found (deps_at deps at) ≡ found ++ rest) → (v : Bool) → (j == i) ≡ v → is_place_in (with_new found (deps_at deps at)) need ≡ true
    done_one j x need lt f g (rest, h) true k =
        let own : j ≡ i = exact_unsigned_eq j i k in
        let low = some_there found i at e in
        let there : slice_get (found ++ rest) i ≡ Some x = subst (λ (p : ℕ). slice_get (found ++ rest) p ≡ Some x) own (ap (λ l. slice_get l j) (sym h) ∙ f) in
        let it : at ≡ x = same_some at x (sym e ∙ (sym (get_front found rest i low) ∙ there)) in
        new_has found (deps_at deps at) need (subst (λ (p : ℕ). is_place_in (deps_at deps p) need ≡ true) (sym it) g)
    done_one j x need lt f g (rest, h) false k =
        let low = some_there found i at e in
        let less : j < i = less_than j i k lt in
        let within_ : j < length found = omega (arith, less, low) in
        new_keeps found (deps_at deps at) need (so.done j x need less (sym (get_front found rest j within_) ∙ (ap (λ l. slice_get l j) (sym h) ∙ f)) g)

pub found_closed : (deps : List (List ℕ)) (first found : List ℕ) (i : ℕ) → IsFound deps first found i → slice_get found i ≡ None → IsClosed deps found
found_closed deps first found i so e x need f g = from (place_at found x f)
  where
    from : (j : ℕ) × (j < length found) × (slice_get found j ≡ Some x) → is_place_in found need ≡ true
    from (j, h, k) = let all = none_there found i e in so.done j x need (omega (arith, h, all)) k g

needs_are : (deps : List (List ℕ)) (at : ℕ) → needs_in (slice_get deps at) ≡ deps_at deps at
needs_are [] at = refl
needs_are (needs ∷ deps) zero = refl
needs_are (needs ∷ deps) (suc at) = needs_are deps at

pub found_turn : (deps : List (List ℕ)) (first found more : List ℕ) (i at : ℕ) (o : Option ℕ) (needs : List ℕ) → IsFound deps first found i → o ≡ slice_get found i → o ≡ Some at → needs ≡ needs_in (slice_get deps at) → more ≡ with_new found needs → IsFound deps first more (i + 1)
found_turn deps first found more i at o needs so g h n e = found_more deps first found more i at so (sym g ∙ h) (e ∙ ap (with_new found) (n ∙ needs_are deps at))

pub found_end : (deps : List (List ℕ)) (first found : List ℕ) (i : ℕ) (o : Option ℕ) → IsFound deps first found i → o ≡ slice_get found i → o ≡ None → IsClosed deps found
found_end deps first found i o so g h = found_closed deps first found i so (sym g ∙ h)

-- ---- whether a variable is circular

module _ (blocks : List BlockNames) (x : List ℕ) where
  -- the blocks on which that of the variable depends are closed
  depended_is_closed : IsClosed (dependencies blocks) (depended_on blocks x)
  depended_is_closed at need e f = by (slice_get blocks at) refl
    where
      from : (block : BlockNames) → slice_get blocks at ≡ Some block → (name : List ℕ) × (is_name_in block.used name ≡ true) × (is_place_in (definers blocks name) need ≡ true) → is_place_in (depended_on blocks x) need ≡ true
      from block found (name, g, h) = led blocks (depended_on blocks x) at need block name (depended_closed blocks x) e found g h

      missing : (bs : List BlockNames) (u : ℕ) → slice_get bs u ≡ None → deps_at (map (λ own. flat_map (definers blocks) own.used) bs) u ≡ []
      missing [] u g = refl
      missing (b ∷ bs) zero g = absurd (cc)
      missing (b ∷ bs) (suc u) g = missing bs u g

      by : (o : Option BlockNames) → slice_get blocks at ≡ o → is_place_in (depended_on blocks x) need ≡ true
      by None g = absurd (let h : is_place_in [] need ≡ true = ap (λ l. is_place_in l need) (sym (missing blocks at g)) ∙ f in cc)
      by (Some block) g = from block g (flat_in (definers blocks) block.used need (ap (λ l. is_place_in l need) (sym (deps_of (λ own. flat_map (definers blocks) own.used) blocks at block g)) ∙ f))

  -- what is closed under needs is closed under uses
  closed_by_uses : (all : List ℕ) → IsClosed (dependencies blocks) all → Among (with_used blocks all) all
  closed_by_uses all c b e = from (used_is blocks all b e)
    where
      by_use : (block : BlockNames) → slice_get blocks b ≡ Some block → (u : ℕ) × (is_place_in all u ≡ true) × (uses_at blocks u block ≡ true) → is_place_in all b ≡ true
      by_use block found (u, f, g) = c u b f (use_needed blocks u b block found g).0

      by : (block : BlockNames) → slice_get blocks b ≡ Some block → (v : Bool) → is_place_in all b ≡ v → (v || list_any (λ user. uses_at blocks user block) all) ≡ true → v ≡ true
      by block found true f g = refl
      by block found false f g = sym f ∙ by_use block found (any_has (λ user. uses_at blocks user block) all g)

      from : (block : BlockNames) × (slice_get blocks b ≡ Some block) × (is_reached blocks all b block ≡ true) → is_place_in all b ≡ true
      from (block, f, g) = by block f (is_place_in all b) refl g

  any_alike : (p : ℕ → Bool) (xs ys : List ℕ) → Among xs ys → Among ys xs → list_any p xs ≡ list_any p ys
  any_alike p xs ys v w = one_truth (list_any p xs) (list_any p ys) (any_among p xs ys v) (any_among p ys xs w)

  pub circular_by_search : (first found : List ℕ) → first ≡ with_new [] (definers blocks x) → Among first found → ((all : List ℕ) → IsClosed (dependencies blocks) all → Among first all → Among found all) → IsClosed (dependencies blocks) found
      → list_any (uses_name_at blocks x) found ≡ is_circular blocks x
  circular_by_search first found e kept only closed = any_alike (uses_name_at blocks x) found (depended_on blocks x)
      (only (depended_on blocks x) depended_is_closed (λ b f. kept_within blocks blocks (definers blocks x) (definers_are blocks x) b (start b f)))
      (inside blocks blocks (definers blocks x) found (closed_by_uses found closed) (λ b f. kept b (ap (λ l. is_place_in l b) e ∙ new_has [] (definers blocks x) b f)))
    where
      start : (b : ℕ) → is_place_in first b ≡ true → is_place_in (definers blocks x) b ≡ true
      start b f = new_only [] (definers blocks x) b (ap (λ l. is_place_in l b) (sym e) ∙ f)
