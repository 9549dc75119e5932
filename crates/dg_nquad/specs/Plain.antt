-- Statements that have no variable.
use Rattle.dg_nquad.specs.declared.mutation.Node.{Node}
use Rattle.dg_nquad.specs.declared.mutation.Node.TheVariants as nodes
use Rattle.dg_nquad.specs.declared.mutation.Object.{Object}
use Rattle.dg_nquad.specs.declared.mutation.Object.TheVariants as objects
use Rattle.dg_nquad.specs.declared.mutation.Statement.{Statement}

-- a node that is no variable
abbrev pub IsNamed : Node → Type 0
IsNamed (nodes.Var name) = ⊥
IsNamed node = Unit {0}

-- an object that is no variable
abbrev pub IsNoVariable : Object → Type 0
IsNoVariable (objects.Node node) = IsNamed node
IsNoVariable (objects.Val name) = ⊥
IsNoVariable object = Unit {0}

-- neither the subject nor the object is a variable
abbrev pub HasNoVariable : Statement → Type 0
HasNoVariable statement = IsNamed statement.s × IsNoVariable statement.o
