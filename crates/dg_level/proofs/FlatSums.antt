-- How many bytes the flat objects of the nodes of a level take at least.
use Rattle.std.proofs.Common.{◌≡◌, ℕ, ◌≤◌, true, List, [], ◌∷◌, map, flat_map, refl, arith}
use Rattle.std.specs.Prelude.{sum_by, filter}
use Rattle.std.proofs.lemmas.List.Sums.{sum_by-cons}
use Rattle.std.specs.Ordering.{nat_cmp}
use Rattle.dg_values.specs.Ascending.{ascending}
use Rattle.dg_tree.specs.declared.tree.Field.{Field}
use Rattle.dg_shape.specs.Normalize.{times, has_pair}
use Rattle.dg_level.specs.Flats.{weight_in, has_object, AreAllApart}
use Rattle.dg_level.specs.FlatLevels.{FlatsOf, weight_of}
use Rattle.dg_level.proofs.FlatCounts.{times_holds, all_apart_joined, filled_weight, level_weight}

pub sums_within : (f h : ℕ → ℕ) → ((n : ℕ) → f n ≤ h n) → (nodes : List ℕ) → sum_by f nodes ≤ sum_by h nodes
sums_within f h each [] = omega arith
sums_within f h each (n ∷ nodes) = omega (arith, sum_by-cons f n nodes, sum_by-cons h n nodes, each n, sums_within f h each nodes)

-- those of nodes, by node
pub sum_of : (g : FlatsOf) (nodes : List ℕ) → sum_by weight_in (map g nodes) ≡ weight_of g nodes
sum_of g [] = refl
sum_of g (n ∷ nodes) = omega (arith, sum_by-cons weight_in (g n) (map g nodes), sum_by-cons (λ n. weight_in (g n)) n nodes, sum_of g nodes)

-- an object without a field has none
pub none_of : (nodes : List ℕ) → sum_by weight_in (map {A = ℕ} {B = List (List Field)} (λ n. [] ∷ []) nodes) ≡ 0
none_of [] = refl
none_of (n ∷ nodes) = omega (arith, sum_by-cons weight_in ([] ∷ []) (map {A = ℕ} {B = List (List Field)} (λ n. [] ∷ []) nodes), none_of nodes)

-- none is lost with the objects that have none
pub filled_sum : (all : List (List (List Field))) → sum_by weight_in (map (filter has_pair) all) ≡ sum_by weight_in all
filled_sum [] = refl
filled_sum (objects ∷ all) = omega (arith, sum_by-cons weight_in (filter has_pair objects) (map (filter has_pair) all), sum_by-cons weight_in objects all, filled_weight objects, filled_sum all)

module _ (flats : FlatsOf) (apart : (n : ℕ) → AreAllApart (flats n)) where
  list_apart : (nodes : List ℕ) → AreAllApart (flat_map flats nodes)
  list_apart [] = tt
  list_apart (n ∷ nodes) = all_apart_joined (flats n) (flat_map flats nodes) (apart n) (list_apart nodes)

  -- the level below is no heavier than the objects that its own follow
  pub below_within : (g : FlatsOf) (list : ℕ → List ℕ) → ((n : ℕ) → has_object (g n) ≡ true) → (nodes : List ℕ)
      → weight_of flats (ascending nat_cmp (flat_map list nodes)) ≤ weight_of (λ n. times (g n) (flat_map flats (list n))) nodes
  below_within g list has nodes =
      omega (
        arith,
        level_weight flats list nodes,
        sums_within (λ n. weight_in (flat_map flats (list n))) (λ n. weight_in (times (g n) (flat_map flats (list n)))) (λ n. times_holds (g n) (flat_map flats (list n)) (has n) (list_apart (list n))) nodes,
      )
