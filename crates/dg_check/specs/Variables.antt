-- Which variables a query defines and uses, and what they have.
use Rattle.std.specs.Prelude.{ℕ, List, [], ◌∷◌, ◌++◌, Bool, true, false, Option, Some, None, map, flat_map, filter, find, option_map}
use Rattle.dg_values.specs.declared.kind.Kind.{Kind}
use Rattle.dg_values.specs.declared.kind.Kind.TheVariants as kinds
use Rattle.dg_values.specs.Order.{same_text}
use Rattle.dg_schema.specs.declared.definition.PredDef.{PredDef}
use Rattle.dg_schema.specs.Definitions.{definition_of}
use Rattle.dg_nquad.specs.declared.mutation.Node.{Node}
use Rattle.dg_nquad.specs.declared.mutation.Node.TheVariants as nodes
use Rattle.dg_nquad.specs.declared.mutation.Object.{Object}
use Rattle.dg_nquad.specs.declared.mutation.Object.TheVariants as objects
use Rattle.dg_nquad.specs.declared.mutation.Statement.{Statement}
use Rattle.dg_parse.specs.declared.query.QArg.{QArg}
use Rattle.dg_parse.specs.declared.query.QArg.TheVariants as args
use Rattle.dg_parse.specs.declared.query.QFunc.{QFunc}
use Rattle.dg_parse.specs.declared.query.QFunc.TheVariants as funcs
use Rattle.dg_parse.specs.declared.query.QOf.{QOf}
use Rattle.dg_parse.specs.declared.query.QOf.TheVariants as of
use Rattle.dg_parse.specs.declared.query.QOrder.{QOrder}
use Rattle.dg_parse.specs.declared.query.QOrder.TheVariants as orders
use Rattle.dg_parse.specs.declared.query.UidArg.{UidArg}
use Rattle.dg_parse.specs.declared.query.UidArg.TheVariants as named
use Rattle.dg_parse.specs.declared.upsert.UCond.{UCond, UCond-F, fold-UCond}
use Rattle.dg_parse.specs.declared.upsert.UMut.{UMut}
use Rattle.dg_parse.specs.declared.upsert.UPart.{UPart, UPart-F, fold-UPart}
use Rattle.dg_check.specs.declared.content.Content.{Content}
use Rattle.dg_check.specs.declared.content.Content.TheVariants as contents
use Rattle.dg_check.specs.declared.variables.Definition.{Definition as Met}
use Rattle.dg_check.specs.declared.uses.Use.{Use as Used}
use Rattle.dg_check.specs.Places.{Source, listed, counted, followed, Place, defined, root, tested, arguments, recursion, edge, shown, aggregated}

-- ---- what is defined

-- a variable of a uid predicate has nodes alone; one of a value predicate has values of its kind
abbrev pub content_of_kind : Kind → Content
content_of_kind kinds.Uid = contents.Nodes
content_of_kind kind = contents.Values kind

-- an edge that is followed backwards leads to nodes, whatever its predicate's kind
abbrev pub content_along : Bool → Kind → Content
content_along true kind = contents.Nodes
content_along false kind = content_of_kind kind

-- a predicate that isn't declared serves as both
abbrev pub content_of_edge : Option PredDef → Bool → Content
content_of_edge None back = contents.Both
content_of_edge (Some d) back = content_along back d.kind

-- a count is a whole number, of an edge of any predicate
abbrev pub content_of : List PredDef → Source → Content
content_of schema listed = contents.Nodes
content_of schema (counted e) = contents.Values kinds.Int
content_of schema (followed e) = content_of_edge (definition_of schema e.pred) e.back

-- a variable and what it has
pub record Definition : Type 0 where
  pub name : List ℕ
  pub content : Content

-- the variable that is defined at a place
abbrev pub definition_at : List PredDef → Place → List Definition
definition_at schema (defined x source) = record { name = x; content = content_of schema source } ∷ []
definition_at schema place = []

-- the variables that are defined at places, in their order
abbrev pub definitions_in : List PredDef → List Place → List Definition
definitions_in schema places = flat_map (definition_at schema) places

-- it has values, or may have
abbrev pub has_values : Content → Bool
has_values contents.Nodes = false
has_values (contents.Values kind) = true
has_values contents.Both = true

-- the names of those that have values, or of all
abbrev pub names_for : Bool → List Definition → List (List ℕ)
names_for true definitions = map (λ d. d.name) (filter (λ d. has_values d.content) definitions)
names_for false definitions = map (λ d. d.name) definitions

-- what the variable of a name has; nothing is known of one that isn't defined
abbrev pub content_named : List Definition → List ℕ → Option Content
content_named definitions x = option_map (λ d. d.content) (find (λ d. same_text x d.name) definitions)

-- ---- what is used

-- a variable, and whether its values are used or only its nodes, which every variable has
pub record Use : Type 0 where
  pub name : List ℕ
  pub values : Bool

-- the nodes of a variable are used
abbrev pub of_nodes : List ℕ → Use
of_nodes x = record { name = x; values = false }

-- the values of a variable are used
abbrev pub of_values : List ℕ → Use
of_values x = record { name = x; values = true }

-- a node by its number, or `x` among nodes
abbrev pub uses_of_named : UidArg → List Use
uses_of_named (named.Uid n) = []
uses_of_named (named.Var x) = of_nodes x ∷ []

-- `val(x)`, where it is compared
abbrev pub uses_of_part : QOf → List Use
uses_of_part (of.Pred p) = []
uses_of_part (of.Count e) = []
uses_of_part (of.Val x) = of_values x ∷ []

-- the variables of a function
abbrev pub uses_of_func : QFunc → List Use
uses_of_func (funcs.Uid uids) = flat_map uses_of_named uids
uses_of_func (funcs.Cmp op part lits) = uses_of_part part
uses_of_func (funcs.Between part low high) = uses_of_part part
uses_of_func (funcs.Has e) = []
uses_of_func (funcs.Terms all p text) = []
uses_of_func (funcs.Regexp p pattern fold) = []
uses_of_func (funcs.UidIn e uids) = flat_map uses_of_named uids

-- `val(x)`, by which a list is put in order
abbrev pub uses_of_order : QOrder → List Use
uses_of_order (orders.Pred p) = []
uses_of_order (orders.Val x) = of_values x ∷ []

-- the variables of an argument
abbrev pub uses_of_arg : QArg → List Use
uses_of_arg (args.First n) = []
uses_of_arg (args.Offset n) = []
uses_of_arg (args.After n) = []
uses_of_arg (args.Asc order) = uses_of_order order
uses_of_arg (args.Desc order) = uses_of_order order

-- the variables that are used at a place
abbrev pub uses_at : Place → List Use
uses_at (defined x source) = []
uses_at (root f) = uses_of_func f
uses_at (tested f) = uses_of_func f
uses_at (arguments args) = flat_map uses_of_arg args
uses_at (recursion options) = []
uses_at (edge e) = []
uses_at (shown x) = of_values x ∷ []
uses_at (aggregated op x) = of_values x ∷ []

-- the variables that are used at places, in their order
abbrev pub uses_in : List Place → List Use
uses_in places = flat_map uses_at places

-- ---- in the mutations of an upsert block: the condition, then the statements, `uid(v)` before `val(v)`

-- `len(x)` in a part of a condition, from the uses of those in it
abbrev pub step_of_part : UPart-F (List Use) (List Use) → List Use
step_of_part (UPart-F.Or parts) = flat_map (λ uses. uses) parts
step_of_part (UPart-F.And parts) = flat_map (λ uses. uses) parts
step_of_part (UPart-F.Len op x n) = of_nodes x ∷ []

-- a part with `not` before it or without
abbrev pub step_of_condition : UCond-F (List Use) (List Use) → List Use
step_of_condition condition = condition.part

-- the variables of a part of a condition
abbrev pub uses_of_cond_part : UPart → List Use
uses_of_cond_part = fold-UPart (List Use) (List Use) step_of_part step_of_condition

-- the variables of a condition
abbrev pub uses_of_condition : UCond → List Use
uses_of_condition = fold-UCond (List Use) (List Use) step_of_part step_of_condition

-- the variables of a condition, where there is one
abbrev pub uses_of_any_condition : Option UCond → List Use
uses_of_any_condition None = []
uses_of_any_condition (Some condition) = uses_of_condition condition

-- `uid(x)` as a node
abbrev pub uses_of_node : Node → List Use
uses_of_node (nodes.Uid n) = []
uses_of_node (nodes.Blank name) = []
uses_of_node (nodes.Var x) = of_nodes x ∷ []

-- `uid(x)` or `val(x)` as an object
abbrev pub uses_of_object : Object → List Use
uses_of_object (objects.Node node) = uses_of_node node
uses_of_object (objects.Literal text tag) = []
uses_of_object objects.Star = []
uses_of_object (objects.Val x) = of_values x ∷ []

-- the variables of a statement, the subject's before the object's
abbrev pub uses_of_statement : Statement → List Use
uses_of_statement statement = uses_of_node statement.s ++ uses_of_object statement.o

-- the variables of a mutation, the condition's before the statements'
abbrev pub uses_of_mutation : UMut → List Use
uses_of_mutation mutation = uses_of_any_condition mutation.cond ++ flat_map uses_of_statement mutation.mutation.statements

-- the variables of mutations, in their order
abbrev pub uses_of_mutations : List UMut → List Use
uses_of_mutations mutations = flat_map uses_of_mutation mutations

-- ---- as the code borrows them

-- a definition, without the borrow
abbrev pub definition_met : Met → Definition
definition_met d = record { name = d.name.now; content = d.content }

-- definitions, without the borrow
abbrev pub definitions_met : List Met → List Definition
definitions_met = map definition_met

-- a use, without the borrow
abbrev pub use_met : Used → Use
use_met u = record { name = u.name.now; values = u.values }

-- uses, without the borrow
abbrev pub uses_met : List Used → List Use
uses_met = map use_met
