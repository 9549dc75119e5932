-- What is shown of a predicate of a node.
use Rattle.std.specs.Prelude.{Bool, true, false, Option, Some, None, List, [], ◌∷◌, map, flat_map}
use Rattle.dg_values.specs.declared.value.Value.{Value}
use Rattle.dg_values.specs.declared.value.Value.TheVariants as values
use Rattle.dg_values.specs.declared.value.Posting.{Posting}
use Rattle.dg_values.specs.declared.value.Posting.TheVariants.{Uid, Val}
use Rattle.dg_values.specs.Printing.{time_text}
use Rattle.dg_schema.specs.declared.definition.PredDef.{PredDef}
use Rattle.dg_tree.specs.declared.tree.Tree.{Tree}
use Rattle.dg_tree.specs.declared.tree.Tree.TheVariants as trees

-- a number as a number, a truth as a truth, a text as a text; a moment is shown as its text
abbrev pub value_tree : Value → Tree
value_tree (values.Int n) = trees.Int n
value_tree (values.Bool b) = trees.Bool b
value_tree (values.Text text) = trees.Text text
value_tree (values.Time moment) = trees.Text (time_text moment)

-- the value that an object is, if it is one
abbrev pub value_of : Posting → List Value
value_of (Uid uid) = []
value_of (Val value) = value ∷ []

-- values of a list as an array in their order, a single value by itself; nothing where there is none
abbrev pub values_shown : Bool → List Value → List Tree
values_shown list [] = []
values_shown true values = trees.Array (map value_tree values) ∷ []
values_shown false (value ∷ values) = value_tree value ∷ []

-- what is shown of the objects of a predicate, if it is declared. Nodes have nothing to show where no field of theirs is asked for.
abbrev pub shown : Option PredDef → List Posting → List Tree
shown None objects = []
shown (Some def) objects = values_shown def.list (flat_map value_of objects)
