-- Nodes by a test of their objects, and sets that are gathered.
use Rattle.std.proofs.Common.{◌≡◌, ℕ, ◌≤◌, Bool, true, false, List, [], ◌∷◌, flat_map, length, take, refl, ap, sym, ◌∙◌}
use Rattle.std.specs.Prelude.{◌&&◌, ◌||◌, filter}
use Rattle.std.specs.List.{list_any}
use Rattle.std.specs.Ordering.{nat_cmp}
use Rattle.std.proofs.lemmas.List.{take_all}
use Rattle.dg_values.specs.Ascending.{Ascends, ascending, has}
use Rattle.dg_values.specs.declared.value.Posting.{Posting}
use Rattle.dg_sets.proofs.MadeOrders.{nat_order}
use Rattle.dg_sets.proofs.Sets.{one_list, has_passed, has_joined, ascends_passed}
use Rattle.dg_graph.specs.declared.change.Triple.{Triple}
use Rattle.dg_graph.specs.Graphs.{objects}
use Rattle.dg_graph.specs.Lookups.{subjects_where, holders}
use Rattle.dg_graph.proofs.Passing.{ascending_has, ascending_ascends, ascending_same}
use Rattle.dg_graph.proofs.LookUpLaws.{where_are, where_ascend, holders_ascend}
use Rattle.dg_funcs.proofs.PassLaws.{and_true}
use Rattle.dg_funcs.proofs.TestLaws.{any_by}

-- those that pass among nodes, gathered after the last one
pub gathered_is : (test : ℕ → Bool) (found xs nodes : List ℕ) (i : ℕ) → found ≡ filter test (take i xs) → length xs ≤ i → xs ≡ nodes → Ascends nat_cmp nodes → ascending nat_cmp found ≡ filter test nodes
gathered_is test found xs nodes i e past same a =
    ap (ascending nat_cmp) (e ∙ (ap (filter test) (take_all i xs past) ∙ ap (filter test) same))
    ∙ ascending_same nat_cmp nat_order (filter test nodes) (ascends_passed nat_cmp nat_order test nodes a)

-- who has an object among some has an object
pub any_and : (test : Posting → Bool) (os : List Posting) → (list_any test os && list_any (λ o. true) os) ≡ list_any test os
any_and test [] = refl
any_and test (o ∷ os) = and_true (list_any test (o ∷ os))

-- a node is in one of some lists that are put after each other
pub flat_has : {X : Type 0} (f : X → List ℕ) (xs : List X) (n : ℕ) → has nat_cmp (flat_map f xs) n ≡ list_any (λ x. has nat_cmp (f x) n) xs
flat_has f [] n = refl
flat_has f (x ∷ xs) n = has_joined nat_cmp nat_order (f x) (flat_map f xs) n ∙ ap (λ b. has nat_cmp (f x) n || b) (flat_has f xs n)

any_there : {X : Type 0} (f : X → Bool) (b : Bool) (xs : List X) → list_any (λ x. f x && b) xs ≡ (list_any f xs && b)
any_there f true xs = any_by (λ x. f x && true) f (λ x. and_true (f x)) xs ∙ sym (and_true (list_any f xs))
any_there f false [] = refl
any_there f false (x ∷ xs) = by (f x) (any_there f false xs)
  where
    none : (a : Bool) → (a && false) ≡ false
    none true = refl
    none false = refl

    by : (a : Bool) → list_any (λ x. f x && false) xs ≡ (list_any f xs && false) → ((a && false) || list_any (λ x. f x && false) xs) ≡ ((a || list_any f xs) && false)
    by true e = e ∙ none (list_any f xs)
    by false e = e

-- those that pass one test or another, gathered, pass some
pub gathered_any : {X : Type 0} (f : X → ℕ → Bool) (xs : List X) (nodes : List ℕ) → Ascends nat_cmp nodes → ascending nat_cmp (flat_map (λ x. filter (f x) nodes) xs) ≡ filter (λ n. list_any (λ x. f x n) xs) nodes
gathered_any f xs nodes a =
    one_list nat_cmp nat_order (ascending nat_cmp (flat_map (λ x. filter (f x) nodes) xs)) (filter some nodes)
    (ascending_ascends nat_cmp nat_order (flat_map (λ x. filter (f x) nodes) xs))
    (ascends_passed nat_cmp nat_order some nodes a)
    (λ n. ascending_has nat_cmp nat_order (flat_map (λ x. filter (f x) nodes) xs) n
    ∙ (flat_has (λ x. filter (f x) nodes) xs n
    ∙ (any_by (λ x. has nat_cmp (filter (f x) nodes) n) (λ x. f x n && has nat_cmp nodes n) (λ x. has_passed nat_cmp nat_order (f x) nodes n) xs
    ∙ (any_there (λ x. f x n) (has nat_cmp nodes n) xs
    ∙ sym (has_passed nat_cmp nat_order some nodes n)))))
  where
    some : ℕ → Bool
    some n = list_any (λ x. f x n) xs

module _ (graph : List Triple) (p : List ℕ) where
  -- nodes by a test of their objects are those of all that have one
  pub where_is_filter : (test : Posting → Bool) → subjects_where test graph p ≡ filter (λ n. list_any test (objects graph p n)) (holders graph p)
  where_is_filter test =
      one_list nat_cmp nat_order (subjects_where test graph p) (filter passes (holders graph p))
      (where_ascend test graph p)
      (ascends_passed nat_cmp nat_order passes (holders graph p) (holders_ascend graph p))
      (λ n. where_are test graph p n ∙ (sym (any_and test (objects graph p n))
      ∙ ((λ i. passes n && sym (where_are (λ o. true) graph p n) i)
      ∙ sym (has_passed nat_cmp nat_order passes (holders graph p) n))))
    where
      passes : ℕ → Bool
      passes n = list_any test (objects graph p n)
