-- The statements that those of an upsert block stand for, given what its variables stand for.
use Rattle.std.specs.Prelude.{ℕ, List, [], ◌∷◌, ◌++◌, Bool, if◌then◌else◌, Option, None, option_to_list, map, flat_map, codes}
use Rattle.dg_values.specs.declared.value.Value.{Value}
use Rattle.dg_values.specs.Printing.{value_text}
use Rattle.dg_nquad.specs.declared.mutation.Node.{Node}
use Rattle.dg_nquad.specs.declared.mutation.Node.TheVariants as nodes
use Rattle.dg_nquad.specs.declared.mutation.Object.{Object}
use Rattle.dg_nquad.specs.declared.mutation.Object.TheVariants as objects
use Rattle.dg_nquad.specs.declared.mutation.Statement.{Statement}
use Rattle.dg_parse.specs.declared.upsert.UMut.{UMut}
use Rattle.dg_check.specs.declared.vars.Variable.{Variable}
use Rattle.dg_upsert.specs.Conditions.{nodes_named, value_named, is_taken}

-- the name of the new node that a variable without nodes stands for, the same in the whole block
abbrev pub new_name : List ℕ → List ℕ
new_name x = codes "uid(" ++ (x ++ codes ")")

-- the nodes for which `uid(x)` stands: those of x, or where it has none, in a set one new node
abbrev pub nodes_for : Bool → List ℕ → List ℕ → List Node
nodes_for delete x [] = if delete then [] else nodes.Blank (new_name x) ∷ []
nodes_for delete x (n ∷ more) = map nodes.Uid (n ∷ more)

-- the nodes for which a node of a statement stands
abbrev pub nodes_meant : List (List ℕ) → List Variable → Bool → Node → List Node
nodes_meant names vars delete (nodes.Uid n) = nodes.Uid n ∷ []
nodes_meant names vars delete (nodes.Blank name) = nodes.Blank name ∷ []
nodes_meant names vars delete (nodes.Var x) = nodes_for delete x (nodes_named names vars x)

-- the value of a variable at a subject: none at a new node
abbrev pub value_at_subject : List (List ℕ) → List Variable → List ℕ → Node → Option Value
value_at_subject names vars x (nodes.Uid n) = value_named names vars x n
value_at_subject names vars x (nodes.Blank name) = None
value_at_subject names vars x (nodes.Var y) = None

-- the literal of a value's text
abbrev pub literal_of : Value → Object
literal_of value = objects.Literal (value_text value) None

-- the objects for which that of a statement stands at a subject: `val(x)` for the text of the value of x there, if it has one
abbrev pub objects_meant : List (List ℕ) → List Variable → Bool → Node → Object → List Object
objects_meant names vars delete subject (objects.Node node) = map objects.Node (nodes_meant names vars delete node)
objects_meant names vars delete subject (objects.Literal text tag) = objects.Literal text tag ∷ []
objects_meant names vars delete subject objects.Star = objects.Star ∷ []
objects_meant names vars delete subject (objects.Val x) = map literal_of (option_to_list (value_at_subject names vars x subject))

-- the nodes for which an object stands, none where it is no node
abbrev pub ends_meant : List (List ℕ) → List Variable → Bool → Object → List Node
ends_meant names vars delete (objects.Node node) = nodes_meant names vars delete node
ends_meant names vars delete (objects.Literal text tag) = []
ends_meant names vars delete objects.Star = []
ends_meant names vars delete (objects.Val x) = []

-- the statements of one subject with these objects
abbrev pub with_objects : Bool → List ℕ → Node → List Object → List Statement
with_objects delete p subject given = map (λ o. record { delete = delete; s = subject; p = p; o = o }) given

-- the statements of one subject
abbrev pub of_subject : List (List ℕ) → List Variable → Bool → List ℕ → Object → Node → List Statement
of_subject names vars delete p object subject = with_objects delete p subject (objects_meant names vars delete subject object)

-- the statements for which one stands: every combination, of which the subject varies slowest
abbrev pub statements_meant : List (List ℕ) → List Variable → Statement → List Statement
statements_meant names vars st = flat_map (of_subject names vars st.delete st.p st.o) (nodes_meant names vars st.delete st.s)

-- the statements for which a mutation stands: none where its condition doesn't hold
abbrev pub mutation_means : List (List ℕ) → List Variable → UMut → List Statement
mutation_means names vars m = if is_taken names vars m.cond then flat_map (statements_meant names vars) m.mutation.statements else []

-- the statements for which mutations stand, in the order of the text
abbrev pub mutations_mean : List (List ℕ) → List Variable → List UMut → List Statement
mutations_mean names vars mutations = flat_map (mutation_means names vars) mutations
