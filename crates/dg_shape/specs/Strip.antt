-- What is left out of whole trees in the end: nodes with no field, and edges with no node. The numbers of nodes come in front.
use Rattle.std.specs.Prelude.{ℕ, pos, List, [], ◌∷◌, ◌++◌, Bool, true, false, if◌then◌else◌, Option, Some, None, option_map, filter_map, map, flat_map, length, take, drop, bytes_eq}
use Rattle.std.specs.List.{list_all, cons_option}
use Rattle.dg_tree.specs.declared.tree.Tree.{Tree}
use Rattle.dg_tree.specs.declared.tree.Tree.TheOpen.{Tree-F}
use Rattle.dg_tree.specs.declared.tree.Tree.TheVariants as trees
use Rattle.dg_tree.specs.declared.tree.Tree.TheViews.{out-Tree}
use Rattle.dg_tree.specs.declared.tree.Field.{Field}
use Rattle.dg_parse.specs.declared.query.QField.{QField}
use Rattle.dg_shape.specs.Asked.{Asked, asked_by}

-- ---- a node

-- what is shown of a node's fields, which stand in the order in which they are asked for
abbrev pub shown_fields : List Asked → List Field → List Field
shown_fields [] fields = []
shown_fields (asked ∷ more) [] = []
shown_fields (asked ∷ more) (f ∷ fields) = if bytes_eq f.key asked.key then cons_option (option_map (λ t. record { key = f.key; tree = t }) (asked.left f.tree)) (shown_fields more fields) else shown_fields more (f ∷ fields)

-- a node with what is shown of its fields; anything else as it is
abbrev pub layer_shown : (List Field → List Field) → Tree → Tree-F Tree Field → Tree
layer_shown show t (Tree-F.Int n) = t
layer_shown show t (Tree-F.Bool b) = t
layer_shown show t (Tree-F.Text text) = t
layer_shown show t (Tree-F.Array items) = t
layer_shown show t (Tree-F.Node fields) = trees.Node (show fields)

-- the same of a tree
abbrev pub node_shown : (List Field → List Field) → Tree → Tree
node_shown show t = layer_shown show t (out-Tree t)

-- a tree, unless it is a node without fields or an array without nodes
abbrev pub layer_left : Tree → Tree-F Tree Field → Option Tree
layer_left t (Tree-F.Int n) = Some t
layer_left t (Tree-F.Bool b) = Some t
layer_left t (Tree-F.Text text) = Some t
layer_left t (Tree-F.Array []) = None
layer_left t (Tree-F.Array (item ∷ items)) = Some t
layer_left t (Tree-F.Node []) = None
layer_left t (Tree-F.Node (f ∷ fields)) = Some t

-- the same, by the tree alone
abbrev pub something : Tree → Option Tree
something t = layer_left t (out-Tree t)

-- ---- a list of nodes

-- whether it is a node
abbrev pub is_node_layer : Tree-F Tree Field → Bool
is_node_layer (Tree-F.Int n) = false
is_node_layer (Tree-F.Bool b) = false
is_node_layer (Tree-F.Text text) = false
is_node_layer (Tree-F.Array items) = false
is_node_layer (Tree-F.Node fields) = true

-- the same of a tree
abbrev pub is_node : Tree → Bool
is_node t = is_node_layer (out-Tree t)

-- the object of a field that asks for the number of nodes
abbrev pub count_object : ℕ → Asked → List Tree
count_object n asked = if asked.numbers then trees.Node (record { key = asked.key; tree = trees.Int (pos n) } ∷ []) ∷ [] else []

-- the nodes of a list by what is shown of them, behind the objects of its number of nodes
abbrev pub list_shown : List Asked → List Tree → List Tree
list_shown asked items = flat_map (count_object (length items)) asked ++ filter_map (λ t. something (node_shown (shown_fields asked) t)) items

-- a list of nodes, a single node, or a value, as which an array of something else stays too
abbrev pub layers_shown : List Asked → Tree → Tree-F Tree Field → Tree
layers_shown asked t (Tree-F.Int n) = t
layers_shown asked t (Tree-F.Bool b) = t
layers_shown asked t (Tree-F.Text text) = t
layers_shown asked t (Tree-F.Array items) = if list_all is_node items then trees.Array (list_shown asked items) else t
layers_shown asked t (Tree-F.Node fields) = trees.Node (shown_fields asked fields)

-- the same of a tree
abbrev pub shown_by : List Asked → Tree → Tree
shown_by asked t = layers_shown asked t (out-Tree t)

-- ---- by the text

-- what is shown below an edge, if anything is
abbrev pub shown_below : List Asked → Tree → Option Tree
shown_below asked t = something (shown_by asked t)

-- what the fields ask
abbrev pub to_show : List QField → List Asked
to_show fields = map (asked_by shown_below) fields

-- what is shown of a node, or of an array of nodes, of which these fields are asked
abbrev pub stripped : List QField → Tree → Tree
stripped fields t = shown_by (to_show fields) t

-- what is shown of the fields from a place on, behind those that are shown so far
abbrev pub shown_from : List Field → ℕ → ℕ → List Asked → List Field
shown_from fields kept at asked = take kept fields ++ shown_fields asked (drop at fields)
