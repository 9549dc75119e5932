-- Where all blocks can run, no variable is circular: along a use the place in the order falls.
use Rattle.std.proofs.Common.{◌≡◌, ℕ, zero, suc, ◌+◌, ◌<◌, ◌≤◌, length, Bool, true, false, cond, List, [], ◌∷◌, ◌++◌, refl, sym, ap, ◌∙◌, subst, eq-eqb, arith}
use Rattle.std.specs.Prelude.{Option, Some, None, ◌||◌, ◌==◌, slice_get, map, flat_map, find, option_map, IsTrue, ◌↔◌}
use Rattle.std.specs.List.{list_all, list_any}
use Rattle.std.proofs.lemmas.List.Folds.{list_any-append}
use Rattle.std.proofs.lemmas.Map.Views.{exact_unsigned_eq}
use Rattle.std.proofs.lemmas.Option.{slice_get_within}
use Rattle.dg_values.specs.Ascending.{ascending}
use Rattle.dg_values.specs.Order.{text_cmp, same_text}
use Rattle.dg_sets.proofs.MadeOrders.{text_order}
use Rattle.dg_sets.proofs.Sets.{is_one}
use Rattle.dg_check.specs.declared.blocks.BlockNames.{BlockNames}
use Rattle.dg_check.specs.declared.fault.CheckFault.TheVariants as faults
use Rattle.dg_check.specs.Names.{is_name_in}
use Rattle.dg_check.specs.Cycles.{is_place_in, uses_of, uses_at, uses_name_at, is_reached, reached_from, with_used, within, definers_from, definers, depended_on, is_circular, least_circular}
use Rattle.dg_check.specs.RunOrder.{deps_at, dependencies, run_order, is_ordered}
use Rattle.dg_check.specs.Faults.{cycle}
use Rattle.dg_check.proofs.OrderLaws.{left_part, right_of, place_more, one_behind, run_order_is_ordered}

-- ---- the place in the order

abbrev rank : List ℕ → ℕ → ℕ
rank [] at = 0
rank (y ∷ ys) at = cond (y == at) 0 (1 + rank ys at)

pub all_has : (p : ℕ → Bool) (xs : List ℕ) (at : ℕ) → list_all p xs ≡ true → is_place_in xs at ≡ true → p at ≡ true
all_has p [] at e f = absurd (cc)
all_has p (x ∷ xs) at e f = by (x == at) refl f (all_has p xs at (right_of (p x) (list_all p xs) e))
  where
    by : (v : Bool) → (x == at) ≡ v → (v || is_place_in xs at) ≡ true → (is_place_in xs at ≡ true → p at ≡ true) → p at ≡ true
    by true g h rest = subst (λ (y : ℕ). p y ≡ true) (exact_unsigned_eq x at g) (left_part (p x) (list_all p xs) e)
    by false g h rest = rest h

rank_in : (before zs : List ℕ) (at : ℕ) → is_place_in before at ≡ true → rank (before ++ zs) at < length before
rank_in [] zs at e = absurd (cc)
rank_in (y ∷ ys) zs at e = by (y == at) e (rank_in ys zs at)
  where
    by : (v : Bool) → (v || is_place_in ys at) ≡ true → (is_place_in ys at ≡ true → rank (ys ++ zs) at < length ys) → cond v 0 (1 + rank (ys ++ zs) at) < suc (length ys)
    by true f rest = omega arith
    by false f rest = let g = rest f in omega arith

rank_out : (before zs : List ℕ) (at : ℕ) → is_place_in before at ≡ false → rank (before ++ zs) at ≡ length before + rank zs at
rank_out [] zs at e = omega arith
rank_out (y ∷ ys) zs at e = by (y == at) e (rank_out ys zs at)
  where
    by : (v : Bool) → (v || is_place_in ys at) ≡ false → (is_place_in ys at ≡ false → rank (ys ++ zs) at ≡ length ys + rank zs at) → cond v 0 (1 + rank (ys ++ zs) at) ≡ suc (length ys) + rank zs at
    by true f rest = absurd (cc)
    by false f rest = let g = rest f in omega arith

rank_here : (at : ℕ) (ys : List ℕ) (y : ℕ) → (y == at) ≡ true → rank (y ∷ ys) at ≡ 0
rank_here at ys y e = λ i. cond (e i) 0 (1 + rank ys at)

-- a block's dependencies stand before it
rank_falls : (deps : List (List ℕ)) (before xs : List ℕ) (at need : ℕ) → is_ordered deps before xs ≡ true → is_place_in before at ≡ false → is_place_in xs at ≡ true → is_place_in (deps_at deps at) need ≡ true
    → rank (before ++ xs) need < rank (before ++ xs) at
rank_falls deps before [] at need o out here needed = absurd (cc)
rank_falls deps before (y ∷ ys) at need o out here needed = by (y == at) refl here (λ away later. rank_falls deps (before ++ y ∷ []) ys at need (right_of (list_all (is_place_in before) (deps_at deps y)) (is_ordered deps (before ++ y ∷ []) ys) o) away later needed)
  where
    by : (v : Bool) → (y == at) ≡ v → (v || is_place_in ys at) ≡ true
        → (is_place_in (before ++ y ∷ []) at ≡ false → is_place_in ys at ≡ true → rank ((before ++ y ∷ []) ++ ys) need < rank ((before ++ y ∷ []) ++ ys) at)
        → rank (before ++ y ∷ ys) need < rank (before ++ y ∷ ys) at
    by true g h rest =
        let own : y ≡ at = exact_unsigned_eq y at g in
        let met : is_place_in before need ≡ true = all_has (is_place_in before) (deps_at deps y) need (left_part (list_all (is_place_in before) (deps_at deps y)) (is_ordered deps (before ++ y ∷ []) ys) o) (subst (λ (p : ℕ). is_place_in (deps_at deps p) need ≡ true) (sym own) needed) in
        let low = rank_in before (y ∷ ys) need met in
        let high = rank_out before (y ∷ ys) at out in
        omega arith
    by false g h rest =
        let away : is_place_in (before ++ y ∷ []) at ≡ false = place_more before y at ∙ ((λ i. out i || (y == at)) ∙ g) in
        subst (λ (l : List ℕ). rank l need < rank l at) (one_behind before y ys) (rest away h)

-- ---- a use is a dependency

flat_has : (f : List ℕ → List ℕ) (q : List ℕ → Bool) (used : List (List ℕ)) (b : ℕ) → list_any q used ≡ true → ((name : List ℕ) → q name ≡ true → is_place_in (f name) b ≡ true) → is_place_in (flat_map f used) b ≡ true
flat_has f q [] b e h = absurd (cc)
flat_has f q (name ∷ used) b e h = list_any-append (λ place. place == b) (f name) (flat_map f used) ∙ by (q name) refl e (λ g. flat_has f q used b g h)
  where
    right_true : (a : Bool) → (a || true) ≡ true
    right_true true = refl
    right_true false = refl

    by : (v : Bool) → q name ≡ v → (v || list_any q used) ≡ true → (list_any q used ≡ true → is_place_in (flat_map f used) b ≡ true) → (is_place_in (f name) b || is_place_in (flat_map f used) b) ≡ true
    by true g k rest = ap (λ a. a || is_place_in (flat_map f used) b) (h name g)
    by false g k rest = ap (λ a. is_place_in (f name) b || a) (rest k) ∙ right_true (is_place_in (f name) b)

definers_has : (x : List ℕ) (k : ℕ) (bs : List BlockNames) (i : ℕ) (block : BlockNames) → slice_get bs i ≡ Some block → is_name_in block.defined x ≡ true → is_place_in (definers_from x k bs) (k + i) ≡ true
definers_has x k [] i block e f = absurd (cc)
definers_has x k (own ∷ more) zero block e f = by (is_name_in own.defined x) own_has
  where
    same : own ≡ block
    same = cc

    own_has : is_name_in own.defined x ≡ true
    own_has = ap (λ b. is_name_in b.defined x) same ∙ f

    itself : (k == k + 0) ≡ true
    itself = let e : k ≡ k + 0 = omega arith in eq-eqb k (k + 0) e

    by : (v : Bool) → v ≡ true → is_place_in (cond v (k ∷ definers_from x (k + 1) more) (definers_from x (k + 1) more)) (k + 0) ≡ true
    by true g = λ i. itself i || is_place_in (definers_from x (k + 1) more) (k + 0)
    by false g = absurd (cc)
definers_has x k (own ∷ more) (suc i) block e f =
    let g : k + 1 + i ≡ k + suc i = omega arith in
    by (is_name_in own.defined x) (subst (λ (p : ℕ). is_place_in (definers_from x (k + 1) more) p ≡ true) g (definers_has x (k + 1) more i block e f))
  where
    right_true : (a : Bool) → (a || true) ≡ true
    right_true true = refl
    right_true false = refl

    by : (v : Bool) → is_place_in (definers_from x (k + 1) more) (k + suc i) ≡ true → is_place_in (cond v (k ∷ definers_from x (k + 1) more) (definers_from x (k + 1) more)) (k + suc i) ≡ true
    by true g = ap (λ a. (k == k + suc i) || a) g ∙ right_true (k == k + suc i)
    by false g = g

pub deps_of : (f : BlockNames → List ℕ) (bs : List BlockNames) (u : ℕ) (user : BlockNames) → slice_get bs u ≡ Some user → deps_at (map f bs) u ≡ f user
deps_of f [] u user e = absurd (cc)
deps_of f (own ∷ more) zero user e = let same : own ≡ user = cc in ap f same
deps_of f (own ∷ more) (suc u) user e = deps_of f more u user e

-- the blocks that a block uses, and all that define a name that it uses
pub use_needed : (blocks : List BlockNames) (u b : ℕ) (block : BlockNames) → slice_get blocks b ≡ Some block → uses_at blocks u block ≡ true → (is_place_in (deps_at (dependencies blocks) u) b ≡ true) × (u < length blocks)
use_needed blocks u b block found e = by (slice_get blocks u) refl e
  where
    by : (o : Option BlockNames) → slice_get blocks u ≡ o → elim o [ None ↦ false | Some user ↦ uses_of user block ] ≡ true → (is_place_in (deps_at (dependencies blocks) u) b ≡ true) × (u < length blocks)
    by None f g = absurd (cc)
    by (Some user) f g = (
      ap (λ l. is_place_in l b) (deps_of (λ own. flat_map (definers blocks) own.used) blocks u user f)
          ∙ flat_has (definers blocks) (is_name_in block.defined) user.used b g (λ name h. let first : 0 + b ≡ b = omega arith in subst (λ (p : ℕ). is_place_in (definers blocks name) p ≡ true) first (definers_has name 0 blocks b block found h)),
      slice_get_within blocks u user f,
    )

pub name_needed : (blocks : List BlockNames) (x : List ℕ) (u d : ℕ) → uses_name_at blocks x u ≡ true → is_place_in (definers blocks x) d ≡ true → (is_place_in (deps_at (dependencies blocks) u) d ≡ true) × (u < length blocks)
name_needed blocks x u d e defined = by (slice_get blocks u) refl e
  where
    by : (o : Option BlockNames) → slice_get blocks u ≡ o → elim o [ None ↦ false | Some user ↦ is_name_in user.used x ] ≡ true → (is_place_in (deps_at (dependencies blocks) u) d ≡ true) × (u < length blocks)
    by None f g = absurd (cc)
    by (Some user) f g = (
      ap (λ l. is_place_in l d) (deps_of (λ own. flat_map (definers blocks) own.used) blocks u user f)
          ∙ flat_has (definers blocks) (same_text x) user.used d g (λ name h. ap (λ n. is_place_in (definers blocks n) d) (sym (is_one text_cmp text_order x name h)) ∙ defined),
      slice_get_within blocks u user f,
    )

-- ---- what depends stands no later than a definer

pub any_has : (p : ℕ → Bool) (xs : List ℕ) → list_any p xs ≡ true → (u : ℕ) × (is_place_in xs u ≡ true) × (p u ≡ true)
any_has p [] e = absurd (cc)
any_has p (x ∷ xs) e = by (p x) refl e (any_has p xs)
  where
    right_true : (a : Bool) → (a || true) ≡ true
    right_true true = refl
    right_true false = refl

    later : (u : ℕ) × (is_place_in xs u ≡ true) × (p u ≡ true) → (u : ℕ) × (is_place_in (x ∷ xs) u ≡ true) × (p u ≡ true)
    later (u, f, g) = (u, ap (λ a. (x == u) || a) f ∙ right_true (x == u), g)

    by : (v : Bool) → p x ≡ v → (v || list_any p xs) ≡ true → (list_any p xs ≡ true → (u : ℕ) × (is_place_in xs u ≡ true) × (p u ≡ true)) → (u : ℕ) × (is_place_in (x ∷ xs) u ≡ true) × (p u ≡ true)
    by true f g rest = (x, (λ i. eq-eqb x x refl i || is_place_in xs x), f)
    by false f g rest = later (rest g)

pub reached_is : (blocks : List BlockNames) (some : List ℕ) (k : ℕ) (bs : List BlockNames) (b : ℕ) → is_place_in (reached_from blocks some k bs) b ≡ true → (i : ℕ) × (block : BlockNames) × (b ≡ k + i) × (slice_get bs i ≡ Some block) × (is_reached blocks some b block ≡ true)
reached_is blocks some k [] b e = absurd (cc)
reached_is blocks some k (own ∷ more) b e = by (is_reached blocks some k own) refl e (reached_is blocks some (k + 1) more b)
  where
    later : (i : ℕ) × (block : BlockNames) × (b ≡ k + 1 + i) × (slice_get more i ≡ Some block) × (is_reached blocks some b block ≡ true) → (i : ℕ) × (block : BlockNames) × (b ≡ k + i) × (slice_get (own ∷ more) i ≡ Some block) × (is_reached blocks some b block ≡ true)
    later (i, block, f, g, h) = (suc i, block, omega (arith, f), g, h)

    at_once : is_reached blocks some k own ≡ true → (w : Bool) → (k == b) ≡ w → (w || is_place_in (reached_from blocks some (k + 1) more) b) ≡ true
        → (is_place_in (reached_from blocks some (k + 1) more) b ≡ true → (i : ℕ) × (block : BlockNames) × (b ≡ k + 1 + i) × (slice_get more i ≡ Some block) × (is_reached blocks some b block ≡ true)) → (i : ℕ) × (block : BlockNames) × (b ≡ k + i) × (slice_get (own ∷ more) i ≡ Some block) × (is_reached blocks some b block ≡ true)
    at_once f true g h rest = let same : k ≡ b = exact_unsigned_eq k b g in (0, own, omega (arith, same), refl, subst (λ (p : ℕ). is_reached blocks some p own ≡ true) same f)
    at_once f false g h rest = later (rest h)

    by : (v : Bool) → is_reached blocks some k own ≡ v → is_place_in (cond v (k ∷ reached_from blocks some (k + 1) more) (reached_from blocks some (k + 1) more)) b ≡ true
        → (is_place_in (reached_from blocks some (k + 1) more) b ≡ true → (i : ℕ) × (block : BlockNames) × (b ≡ k + 1 + i) × (slice_get more i ≡ Some block) × (is_reached blocks some b block ≡ true)) → (i : ℕ) × (block : BlockNames) × (b ≡ k + i) × (slice_get (own ∷ more) i ≡ Some block) × (is_reached blocks some b block ≡ true)
    by true f g rest = at_once f (k == b) refl g rest
    by false f g rest = later (rest g)

module _ (blocks : List BlockNames) (order : List ℕ) (ordered : is_ordered (dependencies blocks) [] order ≡ true) (all : (at : ℕ) → at < length blocks → is_place_in order at ≡ true) (x : List ℕ) where
  falls : (at need : ℕ) → at < length blocks → is_place_in (deps_at (dependencies blocks) at) need ≡ true → rank order need < rank order at
  falls at need in_ needed = rank_falls (dependencies blocks) [] order at need ordered refl (all at in_) needed

  abbrev NoLater : ℕ → Type 0
  NoLater b = (d : ℕ) × (is_place_in (definers blocks x) d ≡ true) × (rank order b ≤ rank order d)

  abbrev AreNoLater : List ℕ → Type 0
  AreNoLater places = (b : ℕ) → is_place_in places b ≡ true → NoLater b

  lower : (b u : ℕ) → rank order b < rank order u → NoLater u → NoLater b
  lower b u e (d, f, g) = (d, f, omega (arith, g, e))

  used_no_later : (some : List ℕ) → AreNoLater some → AreNoLater (with_used blocks some)
  used_no_later some are b e = from (reached_is blocks some 0 blocks b e)
    where
      by_use : (block : BlockNames) → slice_get blocks b ≡ Some block → (u : ℕ) × (is_place_in some u ≡ true) × (uses_at blocks u block ≡ true) → NoLater b
      by_use block found (u, f, g) = let needed = use_needed blocks u b block found g in lower b u (falls u b needed.1 needed.0) (are u f)

      by : (block : BlockNames) → slice_get blocks b ≡ Some block → (v : Bool) → is_place_in some b ≡ v → (v || list_any (λ user. uses_at blocks user block) some) ≡ true → NoLater b
      by block found true f g = are b f
      by block found false f g = by_use block found (any_has (λ user. uses_at blocks user block) some g)

      from : (i : ℕ) × (block : BlockNames) × (b ≡ 0 + i) × (slice_get blocks i ≡ Some block) × (is_reached blocks some b block ≡ true) → NoLater b
      from (i, block, f, g, h) = let same : i ≡ b = omega (arith, f) in by block (subst (λ (p : ℕ). slice_get blocks p ≡ Some block) same g) (is_place_in some b) refl h

  within_no_later : (turns : List BlockNames) (some : List ℕ) → AreNoLater some → AreNoLater (within turns blocks some)
  within_no_later [] some are = are
  within_no_later (turn ∷ turns) some are = within_no_later turns (with_used blocks some) (used_no_later some are)

  not_circular : is_circular blocks x ≡ false
  not_circular = by (is_circular blocks x) refl
    where
      no_later : AreNoLater (depended_on blocks x)
      no_later = within_no_later blocks (definers blocks x) (λ b e. (b, e, omega arith))

      against : (u : ℕ) → uses_name_at blocks x u ≡ true → NoLater u → false ≡ true
      against u e (d, f, g) = let needed = name_needed blocks x u d e f in let h = falls u d needed.1 needed.0 in absurd (omega (arith, g, h))

      from : (u : ℕ) × (is_place_in (depended_on blocks x) u ≡ true) × (uses_name_at blocks x u ≡ true) → false ≡ true
      from (u, f, g) = against u g (no_later u f)

      by : (v : Bool) → is_circular blocks x ≡ v → v ≡ false
      by true e = sym (from (any_has (uses_name_at blocks x) (depended_on blocks x) e))
      by false e = refl

none_found : (p : List ℕ → Bool) (names : List (List ℕ)) → ((x : List ℕ) → p x ≡ false) → find p names ≡ None
none_found p [] e = refl
none_found p (x ∷ names) e = (λ i. cond (e x i) (Some x) (find p names)) ∙ none_found p names e

-- where all blocks can run, no variable is circular
pub none_circular : (blocks : List BlockNames) (order : List ℕ) → is_ordered (dependencies blocks) [] order ≡ true → ((at : ℕ) → at < length blocks → is_place_in order at ≡ true) → least_circular blocks ≡ None
none_circular blocks order ordered all = none_found (is_circular blocks) (ascending text_cmp (flat_map (λ block. block.defined) blocks)) (λ x. not_circular blocks order ordered all x)

-- so it is where the definition's order has them all
pub all_run_none_circular : (blocks : List BlockNames) → ((at : ℕ) → at < length blocks → is_place_in (run_order (dependencies blocks)) at ≡ true) → least_circular blocks ≡ None
all_run_none_circular blocks all = none_circular blocks (run_order (dependencies blocks)) (run_order_is_ordered (dependencies blocks)) all

-- where these are the blocks that can run, and they are all, no variable is circular
pub no_cycle : (blocks : List BlockNames) (ran : List ℕ) (all : Bool) → ((at : ℕ) → is_place_in ran at ≡ is_place_in (run_order (dependencies blocks)) at)
    → IsTrue all ↔ ((at : ℕ) → at < length blocks → is_place_in ran at ≡ true) → all ≡ true → None ≡ cycle blocks
no_cycle blocks ran all same told yes_ = sym (ap (option_map faults.VariableCycle) (all_run_none_circular blocks (λ at lt. sym (same at) ∙ told.0 yes_ at lt)))
