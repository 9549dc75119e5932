-- Lists in the order of keys that know the nodes of the level alone.
use Rattle.std.proofs.Common.{◌≡◌, ℕ, zero, suc, ◌+◌, ◌<◌, ◌++◌, length, take, get_or, arith, Bool, true, false, cond, List, [], ◌∷◌, map, flat_map, fold, true≢false, refl, sym, ap, ◌∙◌}
use Rattle.std.specs.Prelude.{◌==◌, ◌||◌, Option, Some, None, is_some, filter, filter_map}
use Rattle.std.specs.List.{AllByRecursion, cons_option}
use Rattle.std.specs.declared.cmp.Ordering.{Ordering}
use Rattle.std.specs.declared.cmp.Ordering.TheVariants.{Less, Equal, Greater}
use Rattle.std.specs.Ordering.{nat_cmp, is_eq, ordering_then}
use Rattle.dg_values.specs.Ascending.{placed, with_one, ascending, has}
use Rattle.dg_values.specs.declared.value.Value.{Value}
use Rattle.dg_sets.proofs.MadeOrders.{nat_order}
use Rattle.dg_sets.proofs.Sets.{is_one, from_each}
use Rattle.dg_graph.specs.declared.change.Triple.{Triple}
use Rattle.dg_graph.proofs.LookUpLaws.{nat_is_eq}
use Rattle.dg_check.specs.declared.parts.OrderKey.{OrderKey}
use Rattle.dg_check.specs.declared.parts.OrderKey.TheVariants as keys
use Rattle.dg_check.specs.declared.vars.Variable.{Variable}
use Rattle.dg_check.specs.Vars.{value_beside}
use Rattle.dg_shape.specs.Orders.{key_cmp, node_cmp, ordered}
use Rattle.dg_level.specs.Planned.{value_by, planned_key, planned_keys}
use Rattle.dg_level.specs.OrderKeys.{is_down, compared_by, values_among, keyed, known_nodes}
use Rattle.dg_level.proofs.ListLaws.{map_alike}

-- ---- the values of some nodes

-- the values of these nodes that have one
abbrev beside : (ℕ → Option Value) → List ℕ → ℕ → Option Value
beside f nodes n = value_beside (filter (λ m. is_some (f m)) nodes) (filter_map f nodes) n

abbrev with_first : Option Value → ℕ → List ℕ → List Value → ℕ → Option Value
with_first v x nodes values n = value_beside (cond (is_some v) (x ∷ nodes) nodes) (cons_option v values) n

same_number : (x n : ℕ) → (x == n) ≡ true → x ≡ n
same_number x n e = is_one nat_cmp nat_order x n (nat_is_eq x n ∙ e)

same_both : (b : Bool) (v : Option Value) → cond b v v ≡ v
same_both true v = refl
same_both false v = refl

pick : (b : Bool) (v r w : Option Value) → (b ≡ true → v ≡ w) → (b ≡ false → r ≡ w) → cond b v r ≡ w
pick true v r w first second = first refl
pick false v r w first second = second refl

later : (a b c : Bool) → a ≡ c → (a || b) ≡ true → c ≡ false → b ≡ true
later true b c e h f = absurd (true≢false (e ∙ f))
later false b c e h f = h

-- a node without a value has none beside it
none_beside : (f : ℕ → Option Value) (nodes : List ℕ) (n : ℕ) → f n ≡ None → beside f nodes n ≡ None
none_beside f [] n e = refl
none_beside f (x ∷ nodes) n e = by (f x) refl (none_beside f nodes n e)
  where
    by : (v : Option Value) → f x ≡ v → beside f nodes n ≡ None → beside f (x ∷ nodes) n ≡ None
    by None is rest = (λ i. with_first (is i) x (filter (λ m. is_some (f m)) nodes) (filter_map f nodes) n) ∙ rest
    by (Some value) is rest =
        (λ i. with_first (is i) x (filter (λ m. is_some (f m)) nodes) (filter_map f nodes) n)
        ∙ pick (x == n) (Some value) (beside f nodes n) None (λ same. absurd (true≢false (ap is_some (sym is ∙ (ap f (same_number x n same) ∙ e))))) (λ other. rest)

-- each of these nodes has its value beside it
beside_found : (f : ℕ → Option Value) (nodes : List ℕ) (n : ℕ) → has nat_cmp nodes n ≡ true → beside f nodes n ≡ f n
beside_found f [] n there = absurd (true≢false (sym there))
beside_found f (x ∷ nodes) n there = by (f x) refl (λ h. beside_found f nodes n h)
  where
    not_first : (x == n) ≡ false → has nat_cmp nodes n ≡ true
    not_first other = later (is_eq (nat_cmp x n)) (has nat_cmp nodes n) (x == n) (nat_is_eq x n) there other

    by : (v : Option Value) → f x ≡ v → (has nat_cmp nodes n ≡ true → beside f nodes n ≡ f n) → beside f (x ∷ nodes) n ≡ f n
    by None is rest =
        (λ i. with_first (is i) x (filter (λ m. is_some (f m)) nodes) (filter_map f nodes) n)
        ∙ sym (pick (x == n) (f n) (f n) (beside f nodes n)
        (λ same. let none : f n ≡ None = ap f (sym (same_number x n same)) ∙ is in none ∙ sym (none_beside f nodes n none)) (λ other. sym (rest (not_first other))))
        ∙ same_both (x == n) (f n)
    by (Some value) is rest =
        (λ i. with_first (is i) x (filter (λ m. is_some (f m)) nodes) (filter_map f nodes) n)
        ∙ pick (x == n) (Some value) (beside f nodes n) (f n) (λ same. sym is ∙ ap f (same_number x n same)) (λ other. rest (not_first other))

-- ---- orders that agree on some nodes

module _ (a b : ℕ → ℕ → Ordering) (P : ℕ → Type 0) (same : (x y : ℕ) → P x → P y → a x y ≡ b x y) where
  with_alike : (ys : List ℕ) (x : ℕ) → AllByRecursion P ys → P x → with_one a ys x ≡ with_one b ys x
  with_alike [] x all h = refl
  with_alike (y ∷ ys) x all h = λ i. placed (same x y h all.0 i) x y ys (with_alike ys x all.1 h i)

  still : (v : Ordering) (x y : ℕ) (ys more : List ℕ) → P x → P y → AllByRecursion P ys → AllByRecursion P more → AllByRecursion P (placed v x y ys more)
  still Less x y ys more h k all later = (h, (k, all))
  still Equal x y ys more h k all later = (k, all)
  still Greater x y ys more h k all later = (k, later)

  all_with_one : (ys : List ℕ) (x : ℕ) → AllByRecursion P ys → P x → AllByRecursion P (with_one b ys x)
  all_with_one [] x all h = (h, tt)
  all_with_one (y ∷ ys) x all h = still (b x y) x y ys (with_one b ys x) h all.0 all.1 (all_with_one ys x all.1 h)

  all_alike : (base xs : List ℕ) → AllByRecursion P base → AllByRecursion P xs → fold (with_one a) base xs ≡ fold (with_one b) base xs
  all_alike base [] allbase all = refl
  all_alike base (x ∷ xs) allbase all =
      ap (λ ys. fold (with_one a) ys xs) (with_alike base x allbase all.0) ∙ all_alike (with_one b base x) xs (all_with_one base x allbase all.0) all.1

-- lists are put in one order by two that agree on their nodes
order_alike : (a b : ℕ → ℕ → Ordering) (xs : List ℕ) → ((x y : ℕ) → has nat_cmp xs x ≡ true → has nat_cmp xs y ≡ true → a x y ≡ b x y) → ascending a xs ≡ ascending b xs
order_alike a b xs same = all_alike a b (λ x. has nat_cmp xs x ≡ true) same [] xs tt (from_each nat_cmp nat_order (λ x. has nat_cmp xs x ≡ true) xs (λ u h. h))

-- ---- keys

module _ (graph : List Triple) (vars : List Variable) (all : List ℕ) where
  abbrev values_of : OrderKey → Variable
  values_of key = values_among graph vars all (compared_by key)

  key_alike : (key : OrderKey) (x y : ℕ) → has nat_cmp all x ≡ true → has nat_cmp all y ≡ true
      → key_cmp (is_down key) (value_beside (values_of key).nodes (values_of key).values x) (value_beside (values_of key).nodes (values_of key).values y)
      ≡ key_cmp (planned_key graph vars key).0 ((planned_key graph vars key).1 x) ((planned_key graph vars key).1 y)
  key_alike (keys.Asc by) x y h k = λ i. key_cmp false (beside_found (value_by graph vars by) all x h i) (beside_found (value_by graph vars by) all y k i)
  key_alike (keys.Desc by) x y h k = λ i. key_cmp true (beside_found (value_by graph vars by) all x h i) (beside_found (value_by graph vars by) all y k i)

  keys_alike : (orders : List OrderKey) (x y : ℕ) → has nat_cmp all x ≡ true → has nat_cmp all y ≡ true
      → node_cmp (keyed orders (map values_of orders)) x y ≡ node_cmp (planned_keys graph vars orders) x y
  keys_alike [] x y h k = refl
  keys_alike (key ∷ orders) x y h k = λ i. ordering_then (key_alike key x y h k i) (keys_alike orders x y h k i)

  -- nodes among these come in the same order by keys that know these alone
  pub ordered_alike : (orders : List OrderKey) (cs : List ℕ) → ((u : ℕ) → has nat_cmp cs u ≡ true → has nat_cmp all u ≡ true)
      → ordered (keyed orders (map values_of orders)) cs ≡ ordered (planned_keys graph vars orders) cs
  ordered_alike orders cs sub = order_alike (node_cmp (keyed orders (map values_of orders))) (node_cmp (planned_keys graph vars orders)) cs (λ x y h k. keys_alike orders x y (sub x h) (sub y k))

-- the lists of a level come in the same orders by keys that know its nodes alone
pub lists_alike : (graph : List Triple) (vars : List Variable) (g : List ℕ → List ℕ) (orders : List OrderKey) (lists : List (List ℕ))
    → map (λ list. g (ordered (keyed orders (map (λ key. values_among graph vars (known_nodes orders lists) (compared_by key)) orders)) list)) lists
    ≡ map (λ list. g (ordered (planned_keys graph vars orders) list)) lists
lists_alike graph vars g [] lists = refl
lists_alike graph vars g (key ∷ orders) lists =
    let all = ascending nat_cmp (flat_map (λ list. list) lists) in
    map_alike (λ list. g (ordered (keyed (key ∷ orders) (map (λ key. values_among graph vars all (compared_by key)) (key ∷ orders))) list)) (λ list. g (ordered (planned_keys graph vars (key ∷ orders)) list)) lists
    (λ cs sub. ap g (ordered_alike graph vars all (key ∷ orders) cs sub))

-- one key more, with its values
keyed_next : (orders : List OrderKey) (values : List Variable) (i : ℕ) (o : OrderKey) (v : Variable) → i < length orders → length values ≡ length orders
    → keyed (take (suc i) orders) values ≡ keyed (take i orders) values ++ (is_down (get_or orders i o), value_beside (get_or values i v).nodes (get_or values i v).values) ∷ []
keyed_next [] values i o v lt same = absurd (omega (arith, lt))
keyed_next (key ∷ orders) [] i o v lt same = absurd (omega (arith, same))
keyed_next (key ∷ orders) (w ∷ values) zero o v lt same = refl
keyed_next (key ∷ orders) (w ∷ values) (suc i) o v lt same = ap (λ ks. (is_down key, value_beside w.nodes w.values) ∷ ks) (keyed_next orders values i o v (omega (arith, lt)) (omega (arith, same)))

pub keyed_more : (orders : List OrderKey) (values : List Variable) (i : ℕ) (o : OrderKey) (v : Variable) → i < length orders → length values ≡ length orders
    → keyed (take (i + 1) orders) values ≡ keyed (take i orders) values ++ (is_down (get_or orders i o), value_beside (get_or values i v).nodes (get_or values i v).values) ∷ []
keyed_more orders values i o v lt same = let e : i + 1 ≡ suc i = omega arith in ap (λ n. keyed (take n orders) values) e ∙ keyed_next orders values i o v lt same
