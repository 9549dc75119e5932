-- When a statement stands for none, and at which nodes it gives a value.
use Rattle.std.proofs.Common.{◌≡◌, ℕ, Bool, true, false, cond, List, [], ◌∷◌, ◌++◌, map, flat_map, refl, ap, sym, ◌∙◌}
use Rattle.std.proofs.lemmas.List.Folds.{flat_map-map}
use Rattle.std.specs.Prelude.{if◌then◌else◌, Option, Some, None, option_to_list, filter, slice_get}
use Rattle.std.specs.List.{position_or_len}
use Rattle.std.specs.Ordering.{nat_cmp}
use Rattle.dg_values.specs.Ascending.{has}
use Rattle.dg_values.specs.Order.{same_text}
use Rattle.dg_uids.specs.Sets.{common}
use Rattle.dg_nquad.specs.declared.mutation.Node.{Node}
use Rattle.dg_nquad.specs.declared.mutation.Node.TheVariants as nodes
use Rattle.dg_nquad.specs.declared.mutation.Object.TheVariants as objects
use Rattle.dg_nquad.specs.declared.mutation.Statement.{Statement}
use Rattle.dg_check.specs.declared.vars.Variable.{Variable}
use Rattle.dg_check.specs.Vars.{nodes_by, value_by}
use Rattle.dg_funcs.proofs.VarLaws.{beside_none}
use Rattle.dg_upsert.specs.Conditions.{nodes_named}
use Rattle.dg_upsert.specs.Meaning.{new_name, nodes_for, nodes_meant, literal_of, with_objects, of_subject, statements_meant}

-- ---- sums of lists of which some are empty

none_each : (f : Node → List Statement) (xs : List Node) → ((x : Node) → f x ≡ []) → flat_map f xs ≡ []
none_each f [] none = refl
none_each f (x ∷ xs) none = (λ i. none x i ++ flat_map f xs) ∙ none_each f xs none

-- what gives nothing can be left out
sifted : (f : ℕ → List Statement) (test : ℕ → Bool) (xs : List ℕ) → ((x : ℕ) → test x ≡ false → f x ≡ []) → flat_map f (filter test xs) ≡ flat_map f xs
sifted f test [] none = refl
sifted f test (x ∷ xs) none = by (test x) (none x) (sifted f test xs none)
  where
    by : (b : Bool) → (b ≡ false → f x ≡ []) → flat_map f (filter test xs) ≡ flat_map f xs → flat_map f (cond b (x ∷ filter test xs) (filter test xs)) ≡ f x ++ flat_map f xs
    by true here rest = ap (λ more. f x ++ more) rest
    by false here rest = rest ∙ sym (λ i. here refl i ++ flat_map f xs)

-- no node is in common with none
pub none_common : (xs : List ℕ) → common xs [] ≡ []
none_common [] = refl
none_common (x ∷ xs) = none_common xs

-- ---- a statement whose object stands for no node

module _ (names : List (List ℕ)) (vars : List Variable) (st : Statement) where
  pub no_end : (end : Node) → st.o ≡ objects.Node end → nodes_meant names vars st.delete end ≡ [] → statements_meant names vars st ≡ []
  no_end end is_end none = none_each (of_subject names vars st.delete st.p st.o) (nodes_meant names vars st.delete st.s) (λ s. (λ i. of_subject names vars st.delete st.p (is_end i) s) ∙ ap (λ ends. with_objects st.delete st.p s (map objects.Node ends)) none)

-- ---- values

no_value : (v : Option Variable) (n : ℕ) → has nat_cmp (nodes_by v) n ≡ false → value_by v n ≡ None
no_value None n e = refl
no_value (Some v) n e = beside_none v.nodes v.values n e

module _ (names : List (List ℕ)) (vars : List Variable) (delete : Bool) (p x : List ℕ) where
  -- the statements of a subject
  abbrev given : Node → List Statement
  given subject = of_subject names vars delete p (objects.Val x) subject

  none_at : (n : ℕ) → has nat_cmp (nodes_named names vars x) n ≡ false → given (nodes.Uid n) ≡ []
  none_at n e = ap (λ value. with_objects delete p (nodes.Uid n) (map literal_of (option_to_list value))) (no_value (slice_get vars (position_or_len (same_text x) names)) n e)

  none_at_new : (left_out : Bool) (name : List ℕ) → flat_map given (if left_out then [] else nodes.Blank name ∷ []) ≡ []
  none_at_new true name = refl
  none_at_new false name = refl

  given_at : (y : List ℕ) (ns : List ℕ) → flat_map (λ n. given (nodes.Uid n)) (common ns (nodes_named names vars x)) ≡ flat_map given (nodes_for delete y ns)
  given_at y [] = sym (none_at_new delete (new_name y))
  given_at y (n ∷ ns) = sifted (λ m. given (nodes.Uid m)) (has nat_cmp (nodes_named names vars x)) (n ∷ ns) none_at ∙ sym (flat_map-map given nodes.Uid (n ∷ ns))

  -- values are given at the nodes of both variables
  pub given_at_common : (y : List ℕ) → flat_map (λ n. given (nodes.Uid n)) (common (nodes_named names vars y) (nodes_named names vars x)) ≡ flat_map given (nodes_for delete y (nodes_named names vars y))
  given_at_common y = given_at y (nodes_named names vars y)
