-- What the statements of a mutation say under a schema, and which of them is refused.
use Rattle.std.specs.Prelude.{◌≡◌, ◌⊎◌, ℕ, Bool, true, false, List, [], ◌∷◌, Option, Some, None, Result, Ok, Err}
use Rattle.dg_values.specs.declared.kind.Kind.{Kind}
use Rattle.dg_values.specs.declared.kind.Kind.TheVariants as kinds
use Rattle.dg_values.specs.declared.value.Value.{Value}
use Rattle.dg_values.specs.Reading.{Reads}
use Rattle.dg_schema.specs.declared.definition.PredDef.{PredDef}
use Rattle.dg_schema.specs.Definitions.{definition_of}
use Rattle.dg_nquad.specs.declared.mutation.Node.{Node}
use Rattle.dg_nquad.specs.declared.mutation.Node.TheVariants as nodes
use Rattle.dg_nquad.specs.declared.mutation.Object.{Object}
use Rattle.dg_nquad.specs.declared.mutation.Object.TheVariants as objects
use Rattle.dg_nquad.specs.declared.mutation.Statement.{Statement}
use Rattle.dg_edges.specs.declared.edge.Named.{Named}
use Rattle.dg_edges.specs.declared.edge.Named.TheVariants as named
use Rattle.dg_edges.specs.declared.edge.Target.{Target}
use Rattle.dg_edges.specs.declared.edge.Target.TheVariants as targets
use Rattle.dg_edges.specs.declared.edge.Edge.{Edge}
use Rattle.dg_edges.specs.declared.fault.EdgeFault.{EdgeFault}
use Rattle.dg_edges.specs.declared.fault.EdgeFault.TheVariants as faults
use Rattle.dg_edges.specs.declared.resolving.Misfit.{Misfit}
use Rattle.dg_edges.specs.declared.resolving.Misfit.TheVariants as misfits

-- the node that a statement names, where it is no variable
abbrev pub node_said : Node → Option Named
node_said (nodes.Uid uid) = Some (named.Uid uid)
node_said (nodes.Blank name) = Some (named.New name)
node_said (nodes.Var name) = None

-- the text is a value of the type, where there is one
abbrev pub IsTyped : Option Kind → List ℕ → Type 0
IsTyped None text = Unit {0}
IsTyped (Some tag) text = (value : Value) × Reads tag text value

-- a literal's value on a predicate of this kind: what the text reads as that kind, if it is a value of its own type
pub record IsValueOf (kind : Kind) (tag : Option Kind) (text : List ℕ) (value : Value) : Type 0 where
  pub typed : IsTyped tag text
  pub reads : Reads kind text value

-- what an object is on a predicate of this kind: nodes stand on predicates of nodes, values on the others
abbrev pub TargetSaid : Object → Target → Kind → Type 0
TargetSaid (objects.Node node) (targets.Node n) kinds.Uid = node_said node ≡ Some n
TargetSaid (objects.Literal text tag) (targets.Value value) kind = IsValueOf kind tag text value
TargetSaid objects.Star targets.All kind = Unit {0}
TargetSaid object target kind = ⊥

-- a literal or a value on a predicate of nodes, or a node on a predicate of values
abbrev pub is_wrong : Object → Kind → Bool
is_wrong (objects.Literal text tag) kinds.Uid = true
is_wrong (objects.Literal text tag) kind = false
is_wrong (objects.Val name) kinds.Uid = true
is_wrong (objects.Val name) kind = false
is_wrong (objects.Node node) kinds.Uid = false
is_wrong (objects.Node node) kind = true
is_wrong objects.Star kind = false

-- a literal that has no value on a predicate of this kind
abbrev pub IsBadLiteral : Object → Kind → Type 0
IsBadLiteral (objects.Literal text tag) kind = (value : Value) → ¬ IsValueOf kind tag text value
IsBadLiteral object kind = ⊥

-- why an object has no place on a predicate of this kind
abbrev pub IsMisfit : Object → Kind → Misfit → Type 0
IsMisfit object kind misfits.Sort = is_wrong object kind ≡ true
IsMisfit object kind misfits.Literal = (is_wrong object kind ≡ false) × IsBadLiteral object kind

-- a statement on a predicate of this kind is checked to be this one
pub record IsChecked (kind : Kind) (statement : Statement) (edge : Edge) : Type 0 where
  pub same_delete : edge.delete ≡ statement.delete
  pub same_subject : node_said statement.s ≡ Some edge.s
  pub same_predicate : edge.p ≡ statement.p
  pub target : TargetSaid statement.o edge.o kind

-- what comes of a statement whose predicate has this definition: the predicate has to be declared, then the object to be of the right sort, then a literal to have a value
abbrev pub SaysBy : Option PredDef → Statement → Result Edge EdgeFault → Type 0
SaysBy None statement outcome = outcome ≡ Err (faults.NoPredicate statement.p)
SaysBy (Some def) statement (Ok edge) = IsChecked def.kind statement edge
SaysBy (Some def) statement (Err (faults.WrongObject pred)) = (pred ≡ statement.p) × (is_wrong statement.o def.kind ≡ true)
SaysBy (Some def) statement (Err (faults.BadLiteral pred)) = (pred ≡ statement.p) × (is_wrong statement.o def.kind ≡ false) × IsBadLiteral statement.o def.kind
SaysBy (Some def) statement (Err fault) = ⊥

-- what comes of a statement under a schema
abbrev pub Says : List PredDef → Statement → Result Edge EdgeFault → Type 0
Says schema statement outcome = SaysBy (definition_of schema statement.p) statement outcome

-- what comes of statements: each is checked, or the first that is refused says why
abbrev pub Resolves : List PredDef → List Statement → Result (List Edge) EdgeFault → Type 0
Resolves schema [] outcome = outcome ≡ Ok []
Resolves schema (statement ∷ statements) (Ok []) = ⊥
Resolves schema (statement ∷ statements) (Ok (edge ∷ edges)) = Says schema statement (Ok edge) × Resolves schema statements (Ok edges)
Resolves schema (statement ∷ statements) (Err fault) = Says schema statement (Err fault) ⊎ ((edge : Edge) × Says schema statement (Ok edge) × Resolves schema statements (Err fault))

-- these are checked statements of some mutation
abbrev pub IsResolved : List PredDef → List Edge → Type 0
IsResolved schema edges = (statements : List Statement) × Resolves schema statements (Ok edges)

-- the answer is one that the relation allows, unless memory is wanting
abbrev pub IsAnswer : {A : Type 0} → (Result A EdgeFault → Type 0) → Result A EdgeFault → Type 0
IsAnswer relation (Err faults.OutOfMemory) = Unit {0}
IsAnswer relation answer = relation answer
