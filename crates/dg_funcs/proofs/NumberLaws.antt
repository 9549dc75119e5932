-- Nodes by their numbers.
use Rattle.std.proofs.Common.{◌≡◌, ℕ, ℤ, pos, ◌≤◌, nat_le, Bool, true, false, cond, List, [], ◌∷◌, flat_map, refl, sym, ◌∙◌}
use Rattle.std.specs.Prelude.{◌&&◌, ◌||◌, filter, Option, None}
use Rattle.std.proofs.lemmas.Bool.{le-leb, leb-true}
use Rattle.std.specs.declared.cmp.Ordering.{Ordering}
use Rattle.std.specs.declared.cmp.Ordering.TheVariants.{Less, Equal, Greater}
use Rattle.std.specs.Ordering.{nat_cmp, int_cmp, is_eq, is_le, is_ge}
use Rattle.dg_values.specs.declared.kind.Kind.{Kind}
use Rattle.dg_values.specs.declared.value.Value.{Value}
use Rattle.dg_values.specs.declared.value.Value.TheVariants.{Int}
use Rattle.dg_graph.specs.declared.change.Triple.{Triple}
use Rattle.dg_graph.specs.Lookups.{pointed_to, by_count, is_number_up_to, has_number}
use Rattle.dg_graph.proofs.LookUpLaws.{counted_are, counted_ascend}
use Rattle.dg_values.specs.Order.{value_cmp}
use Rattle.dg_values.specs.Ascending.{ascending}
use Rattle.dg_parse.specs.declared.query.CmpOp.{CmpOp}
use Rattle.dg_parse.specs.declared.query.CmpOp.TheVariants as ops
use Rattle.dg_parse.specs.declared.query.QEdge.{QEdge}
use Rattle.dg_check.specs.declared.parts.Of.TheVariants as part
use Rattle.dg_check.specs.declared.parts.Func.TheVariants as funcs
use Rattle.dg_check.specs.declared.vars.Variable.{Variable}
use Rattle.dg_funcs.specs.Truth.{stands, stands_to_any, count_along}
use Rattle.dg_funcs.specs.Roots.{nodes_with, root_nodes}
use Rattle.dg_funcs.specs.Numbers.{numbered, standing, numbered_as}
use Rattle.dg_funcs.proofs.PassLaws.{or_false, filter_same, filter_true}
use Rattle.dg_funcs.proofs.IndexLaws.{gathered_any}
use Rattle.dg_funcs.proofs.EqualLaws.{stands_same}

-- each node that is pointed to has a number from 1 on
pub pointed_counted : (graph : List Triple) (p : List ℕ) → by_count graph p true 1 None ≡ pointed_to graph p
pointed_counted graph p =
    filter_same (has_number graph p true 1 None) (λ n. true) (pointed_to graph p) (λ n h. λ i. (sym (counted_are graph p true n) ∙ h) i && true)
    ∙ filter_true (pointed_to graph p)

and_true : (b : Bool) → (b && true) ≡ b
and_true true = refl
and_true false = refl

ge_and_le : (o : Ordering) → (is_ge o && is_le o) ≡ is_eq o
ge_and_le Less = refl
ge_and_le Equal = refl
ge_and_le Greater = refl

module _ (graph : List Triple) (edge : QEdge) where
  -- the lists of the numbers that pass a test
  pub same_numbers : (low : ℕ) (high : Option ℕ) (test : ℤ → Bool) → ((k : ℕ) → 1 ≤ k → (nat_le low k && is_number_up_to high k) ≡ test (pos k)) → by_count graph edge.pred edge.back low high ≡ numbered graph edge test
  same_numbers low high test f =
      filter_same (has_number graph edge.pred edge.back low high) (λ n. test (pos (count_along graph edge n))) (nodes_with graph edge)
      (λ n h. f (count_along graph edge n) (leb-true 1 (count_along graph edge n) (sym (counted_are graph edge.pred edge.back n) ∙ h)))

  pub from_one : (high : Option ℕ) (test : ℤ → Bool) → ((k : ℕ) → 1 ≤ k → is_number_up_to high k ≡ test (pos k)) → by_count graph edge.pred edge.back 1 high ≡ numbered graph edge test
  from_one high test f = same_numbers 1 high test (λ k l. (λ i. le-leb 1 k l i && is_number_up_to high k) ∙ f k l)

  pub without_end : (low : ℕ) (test : ℤ → Bool) → ((k : ℕ) → nat_le low k ≡ test (pos k)) → by_count graph edge.pred edge.back low None ≡ numbered graph edge test
  without_end low test f = same_numbers low None test (λ k l. and_true (nat_le low k) ∙ f k)

  pub equal_is : (n : ℤ) → numbered graph edge (λ k. is_ge (int_cmp k n) && is_le (int_cmp k n)) ≡ standing graph edge ops.Eq n
  equal_is n = λ i. numbered graph edge (λ k. ge_and_le (int_cmp k n) i)

  pub number_root : (vars : List Variable) (op : CmpOp) (kind : Option Kind) (n : ℤ) → standing graph edge op n ≡ root_nodes graph vars (funcs.Cmp op (part.Count edge) kind (Int n ∷ []))
  number_root vars op kind n =
      (λ i. filter (λ m. sym (or_false (test m)) i) (nodes_with graph edge)) ∙ λ i. filter (λ m. sym (or_false (test m || false)) i) (nodes_with graph edge)
    where
      test : ℕ → Bool
      test m = stands op (int_cmp (pos (count_along graph edge m)) n)

  -- no number is a value that is none
  pub none_there : (v : Value) → ((k : ℤ) → is_eq (value_cmp (Int k) v) ≡ false) → [] ≡ numbered_as graph edge v
  none_there v f = none (nodes_with graph edge)
    where
      none : (xs : List ℕ) → [] ≡ filter (λ n. is_eq (value_cmp (Int (pos (count_along graph edge n))) v)) xs
      none [] = refl
      none (x ∷ xs) = none xs ∙ λ i. cond (sym (f (pos (count_along graph edge x))) i) (x ∷ filter (λ n. is_eq (value_cmp (Int (pos (count_along graph edge n))) v)) xs) (filter (λ n. is_eq (value_cmp (Int (pos (count_along graph edge n))) v)) xs)

  -- the nodes of each of some values, which are asked for once
  pub any_number : (values : List Value) → ascending nat_cmp (flat_map (numbered_as graph edge) (ascending value_cmp values)) ≡ numbered graph edge (λ k. stands_to_any ops.Eq values (Int k))
  any_number values =
      gathered_any (λ v n. is_eq (value_cmp (Int (pos (count_along graph edge n))) v)) (ascending value_cmp values) (nodes_with graph edge) (counted_ascend graph edge.pred edge.back)
      ∙ λ i. numbered graph edge (λ k. stands_same (Int k) values i)

  pub any_number_root : (vars : List Variable) (kind : Option Kind) (values : List Value) → numbered graph edge (λ k. stands_to_any ops.Eq values (Int k)) ≡ root_nodes graph vars (funcs.Cmp ops.Eq (part.Count edge) kind values)
  any_number_root vars kind values = λ i. numbered graph edge (λ k. sym (or_false (stands_to_any ops.Eq values (Int k))) i)

  pub between_numbers_root : (vars : List Variable) (kind : Option Kind) (a b : ℤ) → numbered graph edge (λ k. is_ge (int_cmp k a) && is_le (int_cmp k b)) ≡ root_nodes graph vars (funcs.Between (part.Count edge) kind (Int a ∷ Int b ∷ []))
  between_numbers_root vars kind a b =
      λ i. filter (λ n. sym (or_false (is_ge (int_cmp (pos (count_along graph edge n)) a) && is_le (int_cmp (pos (count_along graph edge n)) b))) i) (nodes_with graph edge)
