-- Root sets of which all candidates pass, and the nodes at the ends of edges.
use Rattle.std.proofs.Common.{◌≡◌, ℕ, ◌+◌, ◌<◌, nat_le, Bool, true, false, cond, List, [], ◌∷◌, ◌++◌, take, length, get_or, flat_map, refl, ap, sym, ◌∙◌}
use Rattle.std.specs.Prelude.{◌||◌, filter, filter_map, option_to_list, Option, Some, None}
use Rattle.std.specs.List.{list_any, cons_option}
use Rattle.std.specs.Ordering.{nat_cmp, is_eq}
use Rattle.std.proofs.lemmas.List.{take_more}
use Rattle.std.proofs.lemmas.List.Elements.{filter_map-append}
use Rattle.dg_values.specs.Ascending.{ascending, has}
use Rattle.dg_values.specs.declared.value.Posting.{Posting}
use Rattle.dg_values.specs.declared.value.Posting.TheVariants.{Uid, Val}
use Rattle.dg_sets.proofs.MadeOrders.{nat_order}
use Rattle.dg_sets.proofs.Sets.{one_list, has_joined}
use Rattle.dg_graph.specs.declared.change.Triple.{Triple}
use Rattle.dg_graph.specs.Graphs.{objects}
use Rattle.dg_graph.specs.Lookups.{node_in, holders, pointed_to}
use Rattle.dg_graph.proofs.Passing.{ascending_has, ascending_ascends, some_is}
use Rattle.dg_graph.proofs.LookUpLaws.{pointed_are, pointed_ascend, counted_are}
use Rattle.dg_parse.specs.declared.query.QEdge.{QEdge}
use Rattle.dg_check.specs.declared.parts.Node.{Node}
use Rattle.dg_check.specs.declared.parts.Func.TheVariants as funcs
use Rattle.dg_check.specs.declared.vars.Variable.{Variable}
use Rattle.dg_check.specs.Vars.{named_nodes}
use Rattle.dg_funcs.specs.Truth.{count_along}
use Rattle.dg_funcs.specs.Roots.{nodes_with, root_nodes}
use Rattle.dg_funcs.specs.Tests.{is_node}
use Rattle.dg_funcs.proofs.PassLaws.{filter_same, filter_true}
use Rattle.dg_funcs.proofs.IndexLaws.{where_is_filter}

-- every node that is named passes
pub root_of_uid : (graph : List Triple) (vars : List Variable) (names : List Node) → root_nodes graph vars (funcs.Uid names) ≡ ascending nat_cmp (named_nodes vars names)
root_of_uid graph vars names =
    filter_same (λ n. has nat_cmp (named_nodes vars names) n) (λ n. true) (ascending nat_cmp (named_nodes vars names)) (λ n h. sym (ascending_has nat_cmp nat_order (named_nodes vars names) n) ∙ h)
    ∙ filter_true (ascending nat_cmp (named_nodes vars names))

-- every node with an object passes
pub root_of_has : (graph : List Triple) (vars : List Variable) (edge : QEdge) → root_nodes graph vars (funcs.Has edge) ≡ nodes_with graph edge
root_of_has graph vars edge =
    filter_same (λ n. nat_le 1 (count_along graph edge n)) (λ n. true) (nodes_with graph edge) (λ n h. sym (counted_are graph edge.pred edge.back n) ∙ h)
    ∙ filter_true (nodes_with graph edge)

as_list : {Y : Type 0} (o : Option Y) → option_to_list o ≡ cons_option o []
as_list None = refl
as_list (Some y) = refl

-- one element more of what elements are
pub one_more_of : {X Y : Type 0} (f : X → Option Y) (xs : List X) (i : ℕ) (x : X) → i < length xs → x ≡ get_or xs i x → filter_map f (take i xs) ++ option_to_list (f x) ≡ filter_map f (take (i + 1) xs)
one_more_of f xs i x lt is =
    (λ j. filter_map f (take i xs) ++ option_to_list (f (is j)))
    ∙ ((λ j. filter_map f (take i xs) ++ as_list (f (get_or xs i x)) j)
    ∙ sym (ap (filter_map f) (take_more xs i x lt) ∙ filter_map-append f (take i xs) (get_or xs i x ∷ [])))

some_passed : (f : ℕ → Bool) (xs : List ℕ) → list_any (λ x. true) (filter f xs) ≡ list_any f xs
some_passed f [] = refl
some_passed f (x ∷ xs) = by (f x) (some_passed f xs)
  where
    by : (b : Bool) → list_any (λ x. true) (filter f xs) ≡ list_any f xs → list_any (λ x. true) (cond b (x ∷ filter f xs) (filter f xs)) ≡ (b || list_any f xs)
    by true e = refl
    by false e = e

among_ends : (m : ℕ) (os : List Posting) → has nat_cmp (filter_map node_in os) m ≡ list_any (is_node m) os
among_ends m [] = refl
among_ends m (Uid n ∷ os) = ap (λ b. is_eq (nat_cmp n m) || b) (among_ends m os)
among_ends m (Val v ∷ os) = among_ends m os

module _ (graph : List Triple) (p : List ℕ) where
  joined : (m : ℕ) (ns : List ℕ) → has nat_cmp (flat_map (λ n. filter_map node_in (objects graph p n)) ns) m ≡ list_any (λ n. list_any (is_node m) (objects graph p n)) ns
  joined m [] = refl
  joined m (n ∷ ns) =
      has_joined nat_cmp nat_order (filter_map node_in (objects graph p n)) (flat_map (λ n. filter_map node_in (objects graph p n)) ns) m
      ∙ λ i. among_ends m (objects graph p n) i || joined m ns i

  -- the nodes at the ends of all edges are those to which a subject points
  pub ends_are : ascending nat_cmp (flat_map (λ n. filter_map node_in (objects graph p n)) (holders graph p)) ≡ pointed_to graph p
  ends_are =
      one_list nat_cmp nat_order (ascending nat_cmp (flat_map (λ n. filter_map node_in (objects graph p n)) (holders graph p))) (pointed_to graph p)
      (ascending_ascends nat_cmp nat_order (flat_map (λ n. filter_map node_in (objects graph p n)) (holders graph p)))
      (pointed_ascend graph p)
      (λ m. ascending_has nat_cmp nat_order (flat_map (λ n. filter_map node_in (objects graph p n)) (holders graph p)) m
      ∙ (joined m (holders graph p)
      ∙ sym (pointed_are graph p m
      ∙ (ap (λ ns. nat_le 1 (length ns)) (where_is_filter graph p (is_node m))
      ∙ (some_is (filter (λ n. list_any (is_node m) (objects graph p n)) (holders graph p))
      ∙ some_passed (λ n. list_any (is_node m) (objects graph p n)) (holders graph p))))))
