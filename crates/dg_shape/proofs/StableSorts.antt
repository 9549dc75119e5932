-- A stable sort by a key puts nodes that stand in an order into the order of the key and then that one.
use Rattle.std.proofs.Common.{◌≡◌, ℕ, zero, suc, ◌+◌, Bool, true, false, cond, List, [], ◌∷◌, refl, ap, subst, sym, ◌∙◌, true≢false, arith}
use Rattle.std.specs.Prelude.{◌&&◌, ◌||◌, not, map, filter, Option, get_or}
use Rattle.std.specs.List.{AllByRecursion, list_any}
use Rattle.std.specs.List.Sorted.{IsPermutation, IsSorted, IsStable, ties}
use Rattle.std.specs.declared.cmp.Ordering.{Ordering}
use Rattle.std.specs.declared.cmp.Ordering.TheVariants.{Less, Equal, Greater}
use Rattle.std.specs.Ordering.{ordering_then, ordering_reverse, is_eq, is_lt}
use Rattle.std.specs.Cmp.{IsTotalOrder, tied_itself, on_total}
use Rattle.std.proofs.lemmas.List.Sorted.{list_any-IsPermutation, All-permutation, ranks_by}
use Rattle.std.proofs.lemmas.List.Elements.{All-from_recursion, recursion_from_All}
use Rattle.dg_values.specs.declared.value.Value.{Value}
use Rattle.dg_values.specs.Ascending.{Ascends, has}
use Rattle.dg_values.specs.Order.{IsOrder}
use Rattle.dg_sets.proofs.MadeOrders.{total_from}
use Rattle.dg_sets.proofs.OnceEach.{ascending_ascends}
use Rattle.dg_sets.proofs.Sets.{one_list, is_one, is_itself, has_more, all_passed}
use Rattle.dg_shape.specs.Orders.{key_cmp, node_cmp, ordered}
use Rattle.dg_shape.proofs.KeyOrders.{key_order, node_order}

-- ---- one order, and then another

passed : {X : Type 0} (cmp : X → X → Ordering) (f : X → Bool) (xs : List X) → Ascends cmp xs → Ascends cmp (filter f xs)
passed cmp f [] a = tt
passed cmp f (x ∷ xs) a =
    elim (f x) as (λ b. Ascends cmp (cond b (x ∷ filter f xs) (filter f xs))) [ true ↦ (all_passed (λ y. cmp x y ≡ Less) f xs a.0, passed cmp f xs a.1) | false ↦ passed cmp f xs a.1 ]

-- what ascends still does without its first, where that was kept or not
without_first : {X : Type 0} (cmp : X → X → Ordering) (x : X) (xs : List X) (b : Bool) → Ascends cmp (cond b (x ∷ xs) xs) → Ascends cmp xs
without_first cmp x xs true a = a.1
without_first cmp x xs false a = a

module _ {X : Type 0} (R S : X → X → Ordering) (r : IsTotalOrder R) where
  -- none of these comes before x
  abbrev NoneBefore : X → List X → Type 0
  NoneBefore x ys = AllByRecursion (λ y. is_lt (R y x) ≡ false) ys

  none_further : (x y : X) (ys : List X) → is_lt (R y x) ≡ false → NoneBefore y ys → NoneBefore x ys
  none_further x y [] e n = tt
  none_further x y (z ∷ ys) e n = ((ranks_by r (λ (w : X). w)).chain z y x n.0 e, none_further x y ys e n.1)

  next_of : (k : ℕ) (x : X) (xs : List X) (d : X) → get_or (x ∷ xs) (suc k + 1) d ≡ get_or xs (k + 1) d
  next_of k x xs d = ap (λ n. get_or (x ∷ xs) n d) (let e : suc k + 1 ≡ suc (k + 1) = omega arith in e)

  sorted_rest : (x : X) (xs : List X) → IsSorted R (x ∷ xs) → IsSorted R xs
  sorted_rest x xs s k d a b = (λ i. is_lt (R (sym (next_of k x xs d) i) (get_or xs k d))) ∙ s (suc k) d (omega arith) (omega arith)

  none_before : (x : X) (xs : List X) → IsSorted R (x ∷ xs) → NoneBefore x xs
  none_before x [] s = tt
  none_before x (y ∷ ys) s =
      let first : is_lt (R y x) ≡ false = s zero x (omega arith) (omega arith) in
      (first, none_further x y ys first (none_before y ys (sorted_rest x (y ∷ ys) s)))

  tied : (x y : X) → (v w : Ordering) → v ≡ ordering_reverse w → (not (is_lt v) && not (is_lt w)) ≡ is_eq v
  tied x y v Less e = (λ i. not (is_lt (e i)) && false) ∙ λ i. is_eq (sym e i)
  tied x y v Equal e = (λ i. not (is_lt (e i)) && true) ∙ λ i. is_eq (sym e i)
  tied x y v Greater e = (λ i. not (is_lt (e i)) && true) ∙ λ i. is_eq (sym e i)

  ties_are : (x y : X) → ties (λ a b. is_lt (R a b)) x y ≡ is_eq (R x y)
  ties_are x y = tied x y (R x y) (R y x) (r.antisymm x y)

  -- x comes before those that tie with it by the second order, so before all that don't come before it
  all_behind : (x : X) (ys : List X) → NoneBefore x ys → AllByRecursion (λ y. S x y ≡ Less) (filter (ties (λ a b. is_lt (R a b)) x) ys) → AllByRecursion (λ y. ordering_then (R x y) (S x y) ≡ Less) ys
  all_behind x [] n a = tt
  all_behind x (y ∷ ys) n a = by (R x y) refl (ties (λ a b. is_lt (R a b)) x y) (ties_are x y) a (all_behind x ys n.1)
    where
      by : (v : Ordering) → R x y ≡ v → (b : Bool) → b ≡ is_eq (R x y) → AllByRecursion (λ z. S x z ≡ Less) (cond b (y ∷ filter (ties (λ a b. is_lt (R a b)) x) ys) (filter (ties (λ a b. is_lt (R a b)) x) ys))
          → (AllByRecursion (λ z. S x z ≡ Less) (filter (ties (λ a b. is_lt (R a b)) x) ys) → AllByRecursion (λ z. ordering_then (R x z) (S x z) ≡ Less) ys)
          → AllByRecursion (λ z. ordering_then (R x z) (S x z) ≡ Less) (y ∷ ys)
      by Less e false t a more = ((λ i. ordering_then (e i) (S x y)), more a)
      by Less e true t a more = absurd (true≢false (t ∙ ap is_eq e))
      by Equal e true t a more = ((λ i. ordering_then (e i) (S x y)) ∙ a.0, more a.1)
      by Equal e false t a more = absurd (true≢false (sym (t ∙ ap is_eq e)))
      by Greater e b t a more = absurd (true≢false (sym (ap is_lt (r.antisymm y x ∙ ap ordering_reverse e)) ∙ n.0))

  -- what is sorted by R, where those that tie ascend by S
  sorted_then : (xs : List X) → IsSorted R xs → ((x : X) → Ascends S (filter (ties (λ a b. is_lt (R a b)) x) xs)) → Ascends (λ a b. ordering_then (R a b) (S a b)) xs
  sorted_then [] s a = tt
  sorted_then (x ∷ xs) s a =
      let kept : ties (λ a b. is_lt (R a b)) x x ≡ true = ties_are x x ∙ ap is_eq (tied_itself r x) in
      let here : Ascends S (x ∷ filter (ties (λ a b. is_lt (R a b)) x) xs) = subst (λ (b : Bool). Ascends S (cond b (x ∷ filter (ties (λ a b. is_lt (R a b)) x) xs) (filter (ties (λ a b. is_lt (R a b)) x) xs))) kept (a x) in
      (all_behind x xs (none_before x xs s) here.0, sorted_then xs (sorted_rest x xs s) (λ y. without_first S x (filter (ties (λ a b. is_lt (R a b)) y) xs) (ties (λ a b. is_lt (R a b)) y x) (a y)))

  pub stably_sorted : (old sorted : List X) → Ascends S old → IsSorted R sorted → IsStable R old sorted → Ascends (λ a b. ordering_then (R a b) (S a b)) sorted
  stably_sorted old sorted a s stable = sorted_then sorted s (λ x. subst (Ascends S) (sym (stable x)) (passed S (ties (λ a b. is_lt (R a b)) x) old a))

-- ---- nodes and their values

-- what tells any two apart finds the same
pub same_found : {X : Type 0} (P Q : X → X → Ordering) → IsOrder P → IsOrder Q → (xs : List X) (u : X) → has P xs u ≡ has Q xs u
same_found P Q p q [] u = refl
same_found P Q p q (x ∷ xs) u = λ i. alike (is_eq (P x u)) (is_eq (Q x u)) refl refl i || same_found P Q p q xs u i
  where
    alike : (v w : Bool) → is_eq (P x u) ≡ v → is_eq (Q x u) ≡ w → v ≡ w
    alike true true e f = refl
    alike false false e f = refl
    alike true false e f = absurd (true≢false (sym (is_itself Q q x) ∙ ((λ i. is_eq (Q x (is_one P p x u e i))) ∙ f)))
    alike false true e f = absurd (true≢false (sym (is_itself P p x) ∙ ((λ i. is_eq (P x (is_one Q q x u f i))) ∙ e)))

-- nodes with their values
abbrev Valued : Type 0
Valued = ℕ × Option Value

module _ (down : Bool) (value : ℕ → Option Value) (keys : List (Bool × (ℕ → Option Value))) where
  -- in the order of the nodes
  abbrev S : Valued → Valued → Ordering
  S a b = node_cmp keys a.0 b.0

  abbrev R : Valued → Valued → Ordering
  R a b = key_cmp down a.1 b.1

  abbrev T : ℕ → ℕ → Ordering
  T = node_cmp ((down, value) ∷ keys)

  valued_ascend : (nodes : List ℕ) → Ascends (node_cmp keys) nodes → Ascends S (map (λ n. (n, value n)) nodes)
  valued_ascend [] a = tt
  valued_ascend (n ∷ nodes) a = (all n nodes a.0, valued_ascend nodes a.1)
    where
      all : (n : ℕ) (ms : List ℕ) → AllByRecursion (λ (m : ℕ). node_cmp keys n m ≡ Less) ms → AllByRecursion (λ (b : Valued). node_cmp keys n b.0 ≡ Less) (map (λ m. (m, value m)) ms)
      all n [] h = tt
      all n (m ∷ ms) h = (h.0, all n ms h.1)

  -- a node stands with its value
  abbrev IsValued : Valued → Type 0
  IsValued a = a.1 ≡ value a.0

  all_valued : (nodes : List ℕ) → AllByRecursion IsValued (map (λ n. (n, value n)) nodes)
  all_valued [] = tt
  all_valued (n ∷ nodes) = (refl, all_valued nodes)

  nodes_ascend : (all : List Valued) → AllByRecursion IsValued all → Ascends (λ a b. ordering_then (R a b) (S a b)) all → Ascends T (map (λ (a : Valued). a.0) all)
  nodes_ascend [] v a = tt
  nodes_ascend (x ∷ xs) v a = (behind xs v.1 a.0, nodes_ascend xs v.1 a.1)
    where
      behind : (ys : List Valued) → AllByRecursion IsValued ys → AllByRecursion (λ (b : Valued). ordering_then (R x b) (S x b) ≡ Less) ys → AllByRecursion (λ m. T x.0 m ≡ Less) (map (λ (b : Valued). b.0) ys)
      behind [] w h = tt
      behind (y ∷ ys) w h = ((λ i. ordering_then (key_cmp down (sym v.0 i) (sym w.0 i)) (S x y)) ∙ h.0, behind ys w.1 h.1)

  nodes_found : (all : List Valued) (u : ℕ) → has T (map (λ (a : Valued). a.0) all) u ≡ list_any (λ (a : Valued). is_eq (T a.0 u)) all
  nodes_found [] u = refl
  nodes_found (x ∷ xs) u = λ i. is_eq (T x.0 u) || nodes_found xs u i

  nodes_of_valued : (nodes : List ℕ) → map (λ (a : Valued). a.0) (map (λ n. (n, value n)) nodes) ≡ nodes
  nodes_of_valued [] = refl
  nodes_of_valued (n ∷ nodes) = λ i. n ∷ nodes_of_valued nodes i

  -- nodes in the order of keys, sorted by one more before these
  pub sorted_by_key : (nodes all : List ℕ) (old sorted : List Valued) → nodes ≡ ordered keys all → old ≡ map (λ n. (n, value n)) nodes → IsPermutation old sorted → IsSorted R sorted → IsStable R old sorted → map (λ (a : Valued). a.0) sorted ≡ ordered ((down, value) ∷ keys) all
  sorted_by_key nodes all old sorted e f p s stable =
      let o = node_order keys in
      let t = node_order ((down, value) ∷ keys) in
      let up : Ascends (node_cmp keys) nodes = subst (Ascends (node_cmp keys)) (sym e) (ascending_ascends (node_cmp keys) o all) in
      let old_up : Ascends S old = subst (Ascends S) (sym f) (valued_ascend nodes up) in
      let old_valued : AllByRecursion IsValued old = subst (AllByRecursion IsValued) (sym f) (all_valued nodes) in
      let new_valued : AllByRecursion IsValued sorted = recursion_from_All IsValued sorted (All-permutation IsValued old sorted p (All-from_recursion IsValued old old_valued)) in
      let new_up = stably_sorted R S (on_total (λ (a : Valued). a.1) (total_from (key_cmp down) (key_order down))) old sorted old_up s stable in
      one_list T t (map (λ (a : Valued). a.0) sorted) (ordered ((down, value) ∷ keys) all) (nodes_ascend sorted new_valued new_up) (ascending_ascends T t all)
      (λ u. nodes_found sorted u
      ∙ (sym (list_any-IsPermutation (λ (a : Valued). is_eq (T a.0 u)) old sorted p)
      ∙ (sym (nodes_found old u)
      ∙ (ap (λ (xs : List ℕ). has T xs u) (ap (map (λ (a : Valued). a.0)) f ∙ (nodes_of_valued nodes ∙ e))
      ∙ (same_found T (node_cmp keys) t o (ordered keys all) u
      ∙ (has_more (node_cmp keys) o [] all u
      ∙ (same_found (node_cmp keys) T o t all u
      ∙ sym (has_more T t [] all u))))))))
