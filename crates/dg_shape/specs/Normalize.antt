-- Normalize, on whole trees: a node becomes flat objects of the fields that have an alias.
use Rattle.std.specs.Prelude.{ℕ, List, [], ◌∷◌, ◌++◌, Bool, true, false, if◌then◌else◌, is_some, fold, filter, map, flat_map, unwrap_or, bytes_eq}
use Rattle.std.specs.List.{list_all, list_any}
use Rattle.dg_tree.specs.declared.tree.Tree.{Tree}
use Rattle.dg_tree.specs.declared.tree.Tree.TheOpen.{Tree-F}
use Rattle.dg_tree.specs.declared.tree.Tree.TheVariants as trees
use Rattle.dg_tree.specs.declared.tree.Tree.TheViews.{out-Tree}
use Rattle.dg_tree.specs.declared.tree.Field.{Field}
use Rattle.dg_parse.specs.declared.query.QField.{QField}
use Rattle.dg_parse.specs.declared.query.QItem.{QItem}
use Rattle.dg_parse.specs.declared.query.QItem.TheOpen.{QItem-F, QField-F}
use Rattle.dg_parse.specs.declared.query.QItem.TheFolds.{fold-QField, fold-QItem}
use Rattle.dg_parse.specs.Keys.{shown_key}
use Rattle.dg_shape.specs.Keyed.{in_braces}
use Rattle.dg_shape.specs.Strip.{is_node}

-- ---- flat objects: lists of fields

-- an object with a field more, unless it has one of the key
abbrev pub with_pair : List Field → Field → List Field
with_pair object pair = if list_any (λ p. bytes_eq p.key pair.key) object then object else object ++ pair ∷ []

-- an object with those of another
abbrev pub joined : List Field → List Field → List Field
joined object more = fold with_pair object more

-- each object followed by each of the others, the earlier varying slowest; the objects alone where there are no others
abbrev pub times : List (List Field) → List (List Field) → List (List Field)
times objects [] = objects
times objects (other ∷ others) = flat_map (λ object. map (joined object) (other ∷ others)) objects

-- whether an object has a field
abbrev pub has_pair : List Field → Bool
has_pair [] = false
has_pair (pair ∷ pairs) = true

-- objects with what is shown under an alias; under none it isn't shown
abbrev pub with_value : Bool → Field → List (List Field) → List (List Field)
with_value true f objects = map (λ object. with_pair object f) objects
with_value false f objects = objects

-- ---- a node

-- what a field asks: its key, and the objects behind what stands under it, from those before
pub record Flattened : Type 0 where
  pub key : List ℕ
  pub after : Field → List (List Field) → List (List Field)

-- the same of an item, which has an alias or none
pub record FlattenedItem : Type 0 where
  pub key : List ℕ
  pub after : Bool → Field → List (List Field) → List (List Field)

-- the objects behind a node's fields, which stand in the order in which they are asked for
abbrev pub after_fields : List Flattened → List Field → List (List Field) → List (List Field)
after_fields [] fields objects = objects
after_fields (asked ∷ more) [] objects = objects
after_fields (asked ∷ more) (f ∷ fields) objects = if bytes_eq f.key asked.key then after_fields more fields (asked.after f objects) else after_fields more (f ∷ fields) objects

-- the flat objects of a node by its fields: those that have a field, of what one empty object becomes
abbrev pub flat_fields : List Flattened → List Field → List (List Field)
flat_fields asked fields = filter has_pair (after_fields asked fields ([] ∷ []))

-- those of a node; of anything else there are none
abbrev pub flat_layer : List Flattened → Tree-F Tree Field → List (List Field)
flat_layer asked (Tree-F.Int n) = []
flat_layer asked (Tree-F.Bool b) = []
flat_layer asked (Tree-F.Text text) = []
flat_layer asked (Tree-F.Array items) = []
flat_layer asked (Tree-F.Node fields) = flat_fields asked fields

-- the same of a tree
abbrev pub flat_tree : List Flattened → Tree → List (List Field)
flat_tree asked t = flat_layer asked (out-Tree t)

-- the flat objects of a list of nodes
abbrev pub flat_trees : List Flattened → List Tree → List (List Field)
flat_trees asked items = flat_map (flat_tree asked) items

-- ---- by the text

-- the objects behind an edge: its nodes follow each; a value is shown under an alias
abbrev pub after_edge : List Flattened → Bool → Field → List (List Field) → Tree-F Tree Field → List (List Field)
after_edge asked alias f objects (Tree-F.Int n) = with_value alias f objects
after_edge asked alias f objects (Tree-F.Bool b) = with_value alias f objects
after_edge asked alias f objects (Tree-F.Text text) = with_value alias f objects
after_edge asked alias f objects (Tree-F.Array items) = if list_all is_node items then times objects (flat_trees asked items) else with_value alias f objects
after_edge asked alias f objects (Tree-F.Node fields) = times objects (flat_fields asked fields)

-- the objects behind an item
abbrev pub after_item : QItem-F FlattenedItem Flattened → Bool → Field → List (List Field) → List (List Field)
after_item QItem-F.Uid alias f objects = with_value alias f objects
after_item QItem-F.CountUid alias f objects = objects
after_item (QItem-F.Count e) alias f objects = with_value alias f objects
after_item (QItem-F.Val x) alias f objects = with_value alias f objects
after_item (QItem-F.Agg op x) alias f objects = with_value alias f objects
after_item (QItem-F.Edge e args dirs braces) alias f objects = after_edge (in_braces braces) alias f objects (out-Tree f.tree)

-- an item, by what the fields in its braces ask
abbrev pub step_of_item : QItem-F FlattenedItem Flattened → FlattenedItem
step_of_item item = record { key = shown_key item; after = after_item item }

-- a field, by its item
abbrev pub step_of_field : QField-F FlattenedItem Flattened → Flattened
step_of_field f = record { key = unwrap_or f.alias f.item.key; after = f.item.after (is_some f.alias) }

-- what an item asks
abbrev pub flattened_item : QItem → FlattenedItem
flattened_item = fold-QItem FlattenedItem Flattened step_of_item step_of_field

-- what a field asks
abbrev pub flattened : QField → Flattened
flattened = fold-QField FlattenedItem Flattened step_of_item step_of_field

-- what the fields ask
abbrev pub to_flatten : List QField → List Flattened
to_flatten fields = map flattened fields

-- the array of a normalized block: the flat objects of its nodes in order
abbrev pub normalized : List QField → List Tree → List Tree
normalized fields items = map trees.Node (flat_trees (to_flatten fields) items)
