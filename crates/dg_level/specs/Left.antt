-- What is known of the nodes that a cascade leaves below a level.
use Rattle.std.specs.Prelude.{◌≡◌, ℕ, Bool, true, List, [], ◌∷◌, Option, Some, map, flat_map, slice_get}
use Rattle.std.specs.Ordering.{nat_cmp}
use Rattle.dg_values.specs.declared.value.Value.{Value}
use Rattle.dg_values.specs.Ascending.{ascending, has}
use Rattle.dg_schema.specs.declared.definition.PredDef.{PredDef}
use Rattle.dg_schema.specs.Definitions.{definition_of}
use Rattle.dg_graph.specs.declared.change.Triple.{Triple}
use Rattle.dg_parse.specs.declared.query.QArg.{QArg}
use Rattle.dg_parse.specs.declared.query.QBlock.{QBlock}
use Rattle.dg_parse.specs.declared.query.QDir.{QDir}
use Rattle.dg_parse.specs.declared.query.QEdge.{QEdge}
use Rattle.dg_parse.specs.declared.query.QField.{QField}
use Rattle.dg_parse.specs.declared.query.QItem.{QItem}
use Rattle.dg_parse.specs.declared.query.QItem.TheVariants as items
use Rattle.dg_check.specs.declared.parts.Field.{Field as Kept}
use Rattle.dg_check.specs.declared.parts.Filter.{Filter}
use Rattle.dg_check.specs.declared.parts.Item.{Item}
use Rattle.dg_check.specs.declared.parts.Item.TheVariants as kept
use Rattle.dg_check.specs.declared.parts.OrderKey.{OrderKey}
use Rattle.dg_check.specs.declared.parts.Parts.{Parts}
use Rattle.dg_check.specs.declared.vars.Variable.{Variable}
use Rattle.dg_level.specs.declared.left.Left.{Left}
use Rattle.dg_level.specs.declared.left.Left.TheVariants as lefts
use Rattle.dg_level.specs.Known.{values_by, KnowsValues}
use Rattle.dg_level.specs.Shown.{sort_of, in_braces}
use Rattle.dg_level.specs.Planned.{is_single, planned_there}
use Rattle.dg_level.specs.Levels.{list_of}

-- what is known under the first field
abbrev pub first_left : List Left → Left
first_left [] = lefts.Unknown
first_left (left ∷ more) = left

-- and what under the others
abbrev pub after_first : List Left → List Left
after_first [] = []
after_first (left ∷ more) = more

-- each node of these lists is in a set exactly where nothing is missing at it
abbrev pub TellsWhole : (ℕ → Bool) → (ℕ → List ℕ) → List ℕ → List ℕ → Type 0
TellsWhole there list level whole = (n m : ℕ) → has nat_cmp level n ≡ true → has nat_cmp (list n) m ≡ true → has nat_cmp whole m ≡ there m

-- what is known under an item for the nodes of a level is so: nothing, or for an edge the values of some nodes, or the lists of some, which
-- nodes of the level's lists are whole, and what is known for these under each field in its braces
pub data IsLeft (schema : List PredDef) (graph : List Triple) (vars : List Variable) : QItem → Item → List ℕ → Left → Type 0 where
  unknown : (q : QItem) (k : Item) (level : List ℕ) → IsLeft schema graph vars q k level lefts.Unknown
  values : (e : QEdge) (args : List QArg) (dirs : List QDir) (braces : Option (List QField)) (k : Item) (level of : List ℕ) (all : List (List Value))
      → all ≡ map (values_by graph e.pred) of → IsLeft schema graph vars (items.Edge e args dirs braces) k level (lefts.Values of all)
  nodes : (e : QEdge) (args : List QArg) (dirs : List QDir) (braces : Option (List QField)) (orders : List OrderKey) (filters : List Filter) (inner : List Kept) (level of : List ℕ) (lists : List (List ℕ)) (whole : List ℕ) (inside : List Left)
      → TellsWhole (planned_there schema graph vars (in_braces braces) inner) (list_of graph vars e args orders filters (is_single (sort_of (definition_of schema e.pred) e.back))) level whole
      → ((i : ℕ) (q : QField) (k : Kept) (left : Left) → slice_get (in_braces braces) i ≡ Some q → slice_get inner i ≡ Some k → slice_get inside i ≡ Some left → IsLeft schema graph vars q.item k.item whole left)
      → lists ≡ map (list_of graph vars e args orders filters (is_single (sort_of (definition_of schema e.pred) e.back))) of
      → IsLeft schema graph vars (items.Edge e args dirs braces) (kept.Edge orders filters inner) level (lefts.Nodes of lists whole inside)

-- what is known under each of some fields is so
abbrev pub AreLeft : List PredDef → List Triple → List Variable → List QField → List Kept → List ℕ → List Left → Type 0
AreLeft schema graph vars fields kept level left =
    (i : ℕ) (q : QField) (k : Kept) (l : Left) → slice_get fields i ≡ Some q → slice_get kept i ≡ Some k → slice_get left i ≡ Some l → IsLeft schema graph vars q.item k.item level l

-- what is known under the fields of a block for the nodes of a list is so
abbrev pub AreLeftAt : List PredDef → List Triple → List Variable → QBlock → Parts → List ℕ → List Left → Type 0
AreLeftAt schema graph vars block kept list left = AreLeft schema graph vars block.fields kept.fields (ascending nat_cmp list) left

-- what is known is so under an edge with such lists, by what stands in its braces and what is kept of it
abbrev pub IsLeftBelow : List PredDef → List Triple → List Variable → (ℕ → List ℕ) → List QField → List Kept → List ℕ → Left → Type 0
IsLeftBelow schema graph vars list braces inner level left =
    (of : List ℕ) (lists : List (List ℕ)) (whole : List ℕ) (inside : List Left) → left ≡ lefts.Nodes of lists whole inside
    → TellsWhole (planned_there schema graph vars braces inner) list level whole × AreLeft schema graph vars braces inner whole inside × (lists ≡ map list of)

-- what is known under an edge, by what the lists are made of
abbrev pub IsLeftUnder : List PredDef → List Triple → List Variable → QEdge → List QArg → List OrderKey → List Filter → Bool → List QField → List Kept → List ℕ → Left → Type 0
IsLeftUnder schema graph vars e args orders filters single braces inner level left = IsLeftBelow schema graph vars (list_of graph vars e args orders filters single) braces inner level left

-- by the edge and what is kept of it, where it leads to one node at most or doesn't
abbrev pub IsLeftOf : List PredDef → List Triple → List Variable → Bool → QEdge → List QArg → List QField → Item → List ℕ → Left → Type 0
IsLeftOf schema graph vars single e args braces k level left =
    (orders : List OrderKey) (filters : List Filter) (inner : List Kept) → k ≡ kept.Edge orders filters inner → IsLeftBelow schema graph vars (list_of graph vars e args orders filters single) braces inner level left

-- and by the edge alone, with its values
abbrev pub IsLeftBy : List PredDef → List Triple → List Variable → QEdge → List QArg → List QField → Item → List ℕ → Left → Type 0
IsLeftBy schema graph vars e args braces k level left = IsLeftOf schema graph vars (is_single (sort_of (definition_of schema e.pred) e.back)) e args braces k level left × KnowsValues (values_by graph e.pred) left

-- each node of these lists is in a set exactly where nothing is missing at it
abbrev pub TellsIn : (ℕ → Bool) → List (List ℕ) → List ℕ → Type 0
TellsIn there lists whole = (m : ℕ) → has nat_cmp (flat_map (λ list. list) lists) m ≡ true → has nat_cmp whole m ≡ there m

-- what is known under an edge with these lists is so
abbrev pub IsLeftIn : List PredDef → List Triple → List Variable → List QField → List Kept → List (List ℕ) → Left → Type 0
IsLeftIn schema graph vars braces inner lists left =
    (of : List ℕ) (known : List (List ℕ)) (whole : List ℕ) (inside : List Left) → left ≡ lefts.Nodes of known whole inside → TellsIn (planned_there schema graph vars braces inner) lists whole × AreLeft schema graph vars braces inner whole inside
