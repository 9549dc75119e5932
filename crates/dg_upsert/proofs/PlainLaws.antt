-- No variable stands in the statements that are given, and statements without one are given as they are.
use Rattle.std.proofs.Common.{◌≡◌, ℕ, Bool, true, false, List, [], ◌∷◌, ◌++◌, map, flat_map, refl}
use Rattle.std.specs.Prelude.{if◌then◌else◌, Option, Some, None, option_to_list}
use Rattle.std.specs.List.{AllByRecursion}
use Rattle.dg_values.specs.declared.value.Value.{Value}
use Rattle.dg_nquad.specs.declared.mutation.Node.{Node}
use Rattle.dg_nquad.specs.declared.mutation.Node.TheVariants as nodes
use Rattle.dg_nquad.specs.declared.mutation.Object.{Object}
use Rattle.dg_nquad.specs.declared.mutation.Object.TheVariants as objects
use Rattle.dg_nquad.specs.declared.mutation.Statement.{Statement}
use Rattle.dg_nquad.specs.Plain.{IsNamed, IsNoVariable, HasNoVariable}
use Rattle.dg_parse.specs.declared.upsert.UMut.{UMut}
use Rattle.dg_check.specs.declared.vars.Variable.{Variable}
use Rattle.dg_upsert.specs.Conditions.{nodes_named, is_taken}
use Rattle.dg_upsert.specs.Meaning.{nodes_for, nodes_meant, literal_of, value_at_subject, objects_meant, with_objects, of_subject, statements_meant, mutation_means}
use Rattle.dg_upsert.specs.Laws.{HaveNoVariable, StandAsTheyAre}

-- ---- lists of which all are so

all_both : {A : Type 0} (P : A → Type 0) (xs ys : List A) → AllByRecursion P xs → AllByRecursion P ys → AllByRecursion P (xs ++ ys)
all_both P [] ys p q = q
all_both P (x ∷ xs) ys p q = (p.0, all_both P xs ys p.1 q)

all_given : {A B : Type 0} (P : A → Type 0) (Q : B → Type 0) (f : A → List B) (xs : List A) → AllByRecursion P xs → ((x : A) → P x → AllByRecursion Q (f x)) → AllByRecursion Q (flat_map f xs)
all_given P Q f [] p each = tt
all_given P Q f (x ∷ xs) p each = all_both Q (f x) (flat_map f xs) (each x p.0) (all_given P Q f xs p.1 each)

all_made : {A B : Type 0} (P : A → Type 0) (Q : B → Type 0) (f : A → B) (xs : List A) → AllByRecursion P xs → ((x : A) → P x → Q (f x)) → AllByRecursion Q (map f xs)
all_made P Q f [] p each = tt
all_made P Q f (x ∷ xs) p each = (each x p.0, all_made P Q f xs p.1 each)

-- nothing is said of it
abbrev Any : {A : Type 0} → A → Type 0
Any x = Unit {0}

any : {A : Type 0} (xs : List A) → AllByRecursion Any xs
any [] = tt
any (x ∷ xs) = (tt, any xs)

-- ---- nodes, objects and statements

numbered : (ns : List ℕ) → AllByRecursion IsNamed (map nodes.Uid ns)
numbered ns = all_made Any IsNamed nodes.Uid ns (any ns) (λ n p. tt)

for_variable : (delete : Bool) (x : List ℕ) (ns : List ℕ) → AllByRecursion IsNamed (nodes_for delete x ns)
for_variable true x [] = tt
for_variable false x [] = (tt, tt)
for_variable delete x (n ∷ ns) = numbered (n ∷ ns)

module _ (names : List (List ℕ)) (vars : List Variable) where
  of_node : (delete : Bool) (node : Node) → AllByRecursion IsNamed (nodes_meant names vars delete node)
  of_node delete (nodes.Uid n) = (tt, tt)
  of_node delete (nodes.Blank name) = (tt, tt)
  of_node delete (nodes.Var x) = for_variable delete x (nodes_named names vars x)

  of_value : (value : Option Value) → AllByRecursion IsNoVariable (map literal_of (option_to_list value))
  of_value None = tt
  of_value (Some value) = (tt, tt)

  of_object : (delete : Bool) (subject : Node) (object : Object) → AllByRecursion IsNoVariable (objects_meant names vars delete subject object)
  of_object delete subject (objects.Node node) = all_made IsNamed IsNoVariable objects.Node (nodes_meant names vars delete node) (of_node delete node) (λ n p. p)
  of_object delete subject (objects.Literal text tag) = (tt, tt)
  of_object delete subject objects.Star = (tt, tt)
  of_object delete subject (objects.Val x) = of_value (value_at_subject names vars x subject)

  subject_given : (delete : Bool) (p : List ℕ) (object : Object) (subject : Node) → IsNamed subject → AllByRecursion HasNoVariable (of_subject names vars delete p object subject)
  subject_given delete p object subject named = all_made IsNoVariable HasNoVariable _ (objects_meant names vars delete subject object) (of_object delete subject object) (λ o plain. (named, plain))

  statement_given : (st : Statement) → AllByRecursion HasNoVariable (statements_meant names vars st)
  statement_given st = all_given IsNamed HasNoVariable (of_subject names vars st.delete st.p st.o) (nodes_meant names vars st.delete st.s) (of_node st.delete st.s) (subject_given st.delete st.p st.o)

  mutation_given : (m : UMut) → AllByRecursion HasNoVariable (mutation_means names vars m)
  mutation_given m = by (is_taken names vars m.cond)
    where
      by : (taken : Bool) → AllByRecursion HasNoVariable (if taken then flat_map (statements_meant names vars) m.mutation.statements else [])
      by true = all_given Any HasNoVariable (statements_meant names vars) m.mutation.statements (any m.mutation.statements) (λ st p. statement_given st)
      by false = tt

-- however variables stand
pub have_no_variable : HaveNoVariable
have_no_variable names vars mutations = all_given Any HasNoVariable (mutation_means names vars) mutations (any mutations) (λ m p. mutation_given names vars m)

-- ---- statements without a variable

module _ (names : List (List ℕ)) (vars : List Variable) where
  one : (delete : Bool) (p : List ℕ) (s : Node) (o : Object) → IsNamed s → IsNoVariable o → flat_map (of_subject names vars delete p o) (nodes_meant names vars delete s) ≡ with_objects delete p s (o ∷ [])
  one delete p (nodes.Uid n) (objects.Node (nodes.Uid m)) named plain = refl
  one delete p (nodes.Uid n) (objects.Node (nodes.Blank name)) named plain = refl
  one delete p (nodes.Uid n) (objects.Node (nodes.Var x)) named plain = absurd plain
  one delete p (nodes.Uid n) (objects.Literal text tag) named plain = refl
  one delete p (nodes.Uid n) objects.Star named plain = refl
  one delete p (nodes.Uid n) (objects.Val x) named plain = absurd plain
  one delete p (nodes.Blank name) (objects.Node (nodes.Uid m)) named plain = refl
  one delete p (nodes.Blank name) (objects.Node (nodes.Blank other)) named plain = refl
  one delete p (nodes.Blank name) (objects.Node (nodes.Var x)) named plain = absurd plain
  one delete p (nodes.Blank name) (objects.Literal text tag) named plain = refl
  one delete p (nodes.Blank name) objects.Star named plain = refl
  one delete p (nodes.Blank name) (objects.Val x) named plain = absurd plain
  one delete p (nodes.Var x) o named plain = absurd named

  as_they_are : (statements : List Statement) → AllByRecursion HasNoVariable statements → flat_map (statements_meant names vars) statements ≡ statements
  as_they_are [] plain = refl
  as_they_are (st ∷ more) plain = λ i. one st.delete st.p st.s st.o plain.0.0 plain.0.1 i ++ as_they_are more plain.1 i

pub stand_as_they_are : StandAsTheyAre
stand_as_they_are names vars statements plain = as_they_are names vars statements plain
