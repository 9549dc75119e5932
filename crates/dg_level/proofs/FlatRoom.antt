-- How heavy flat objects are at least that follow others, told before they are made.
use Rattle.std.proofs.Common.{◌≡◌, ℕ, ◌+◌, ◌*◌, ◌<◌, ◌≤◌, List, [], ◌∷◌, flat_map, take, drop, length, get_or, sym, ap, ◌∙◌, arith, take-append-drop}
use Rattle.std.specs.Prelude.{sum_by}
use Rattle.std.proofs.Math.Nat.{mul-add}
use Rattle.std.proofs.lemmas.List.{take_more}
use Rattle.std.proofs.lemmas.List.Sums.{sum_by-append, sum_by-cons}
use Rattle.dg_shape.specs.Normalize.{times}
use Rattle.dg_level.specs.Flats.{weight_in, AreAllApart}
use Rattle.dg_level.specs.FlatLevels.{FlatsOf, weight_of}
use Rattle.dg_level.proofs.FlatCounts.{weight_of_list, times_many, nodes_apart}
use Rattle.dg_level.proofs.FlatSums.{sums_within}

module _ (nodes : List ℕ) (i : ℕ) (lt : i < length nodes) where
  -- one more
  sum_more : (size : ℕ → ℕ) → sum_by size (take (i + 1) nodes) ≡ sum_by size (take i nodes) + size (get_or nodes i 0)
  sum_more size = ap (sum_by size) (take_more nodes i 0 lt) ∙ omega (arith, sum_by-append size (take i nodes) (get_or nodes i 0 ∷ []), sum_by-cons size (get_or nodes i 0) [])

  -- all
  sum_all : (size : ℕ → ℕ) → sum_by size nodes ≡ sum_by size (take (i + 1) nodes) + sum_by size (drop (i + 1) nodes)
  sum_all size = ap (sum_by size) (sym (take-append-drop (i + 1) nodes)) ∙ sum_by-append size (take (i + 1) nodes) (drop (i + 1) nodes)

  -- ---- the nodes of a list, whose objects follow so many others

  module _ (f : FlatsOf) (many : ℕ) where
    list_more : many * weight_in (flat_map f (take (i + 1) nodes)) ≡ many * weight_in (flat_map f (take i nodes)) + many * weight_in (f (get_or nodes i 0))
    list_more =
        ap (λ w. many * w)
        (weight_of_list f (take (i + 1) nodes)
        ∙ sum_more (λ n. weight_in (f n))
        ∙ ap (λ w. w + weight_in (f (get_or nodes i 0))) (sym (weight_of_list f (take i nodes))))
        ∙ mul-add many (weight_in (flat_map f (take i nodes))) (weight_in (f (get_or nodes i 0)))

    list_front : many * weight_in (flat_map f (take (i + 1) nodes)) ≤ many * weight_in (flat_map f nodes)
    list_front =
        let rest = sum_by (λ n. weight_in (f n)) (drop (i + 1) nodes) in
        let all : weight_in (flat_map f nodes) ≡ weight_in (flat_map f (take (i + 1) nodes)) + rest =
        weight_of_list f nodes ∙ sum_all (λ n. weight_in (f n)) ∙ ap (λ w. w + rest) (sym (weight_of_list f (take (i + 1) nodes))) in
        omega (arith, ap (λ w. many * w) all, mul-add many (weight_in (flat_map f (take (i + 1) nodes))) rest)

    -- the room that is left behind one more
    pub left_for_one : (left now room weight : ℕ) → weight ≡ weight_in (f (get_or nodes i 0)) → left + many * weight_in (flat_map f (take i nodes)) ≡ room → now + many * weight ≡ left
        → now + many * weight_in (flat_map f (take (i + 1) nodes)) ≡ room
    left_for_one left now room weight is so after = omega (arith, so, after, ap (λ w. many * w) is, list_more)

    -- what there is no room for with one more there is no room for with all
    pub none_for_list : (left room weight : ℕ) → weight ≡ weight_in (f (get_or nodes i 0)) → left + many * weight_in (flat_map f (take i nodes)) ≡ room → left < many * weight
        → room < many * weight_in (flat_map f nodes)
    none_for_list left room weight is so above = omega (arith, so, above, ap (λ w. many * w) is, list_more, list_front)

  -- ---- the nodes of a level, each with a list

  module _ (g f : FlatsOf) (list : ℕ → List ℕ) where
    -- how heavy the objects of a node's list are, as often as they follow its own
    abbrev pub following : ℕ → ℕ
    following n = length (g n) * weight_in (flat_map f (list n))

    pub left_for_node : (left now : ℕ) → left + sum_by following (take i nodes) ≡ 16777216 → now + following (get_or nodes i 0) ≡ left → now + sum_by following (take (i + 1) nodes) ≡ 16777216
    left_for_node left now so after = omega (arith, so, after, sum_more following)

    pub none_for_level : ((n : ℕ) → AreAllApart (f n)) → (left : ℕ) → left + sum_by following (take i nodes) ≡ 16777216 → left < following (get_or nodes i 0)
        → 16777216 < weight_of (λ n. times (g n) (flat_map f (list n))) nodes
    none_for_level apart left so above =
        omega (
          arith,
          so,
          above,
          sum_more following,
          sum_all following,
          sums_within following (λ n. weight_in (times (g n) (flat_map f (list n)))) (λ n. times_many (g n) (flat_map f (list n)) (nodes_apart f (list n) apart)) nodes,
        )
