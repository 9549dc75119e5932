-- What is known of the lists and values of nodes, in place of a look-up.
use Rattle.std.specs.Prelude.{◌≡◌, ℕ, List, Option, map, flat_map}
use Rattle.dg_values.specs.declared.value.Value.{Value}
use Rattle.dg_graph.specs.declared.change.Triple.{Triple}
use Rattle.dg_graph.specs.Graphs.{objects}
use Rattle.dg_parse.specs.declared.query.QArg.{QArg}
use Rattle.dg_parse.specs.declared.query.QDir.{QDir}
use Rattle.dg_parse.specs.declared.query.QEdge.{QEdge}
use Rattle.dg_parse.specs.declared.query.QField.{QField}
use Rattle.dg_parse.specs.declared.query.QItem.{QItem}
use Rattle.dg_parse.specs.declared.query.QItem.TheVariants as items
use Rattle.dg_level.specs.declared.left.Left.{Left}
use Rattle.dg_level.specs.declared.left.Left.TheVariants as lefts
use Rattle.dg_level.specs.Answers.{value_of}

-- the lists that are known under an edge with such lists are these
abbrev pub KnowsLists : (ℕ → List ℕ) → Left → Type 0
KnowsLists list left = (of : List ℕ) (lists : List (List ℕ)) (whole : List ℕ) (inside : List Left) → left ≡ lefts.Nodes of lists whole inside → lists ≡ map list of

-- the values of a node by a predicate
abbrev pub values_by : List Triple → List ℕ → ℕ → List Value
values_by graph p node = flat_map value_of (objects graph p node)

-- the values that are known of nodes with such values are these
abbrev pub KnowsValues : (ℕ → List Value) → Left → Type 0
KnowsValues values left = (of : List ℕ) (all : List (List Value)) → left ≡ lefts.Values of all → all ≡ map values of

-- the values that are known under an item are those of its edge
abbrev pub KnowsItem : List Triple → QItem → Left → Type 0
KnowsItem graph q left = (e : QEdge) (args : List QArg) (dirs : List QDir) (braces : Option (List QField)) → q ≡ items.Edge e args dirs braces → KnowsValues (values_by graph e.pred) left
