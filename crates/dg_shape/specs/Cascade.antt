-- Cascade, on whole trees: every node of a list stands in the array of its edge, shown or not.
use Rattle.std.specs.Prelude.{ℕ, List, [], ◌∷◌, ◌++◌, if◌then◌else◌, Option, Some, None, option_map, option_and_then, filter_map, map, take, drop, bytes_eq}
use Rattle.dg_tree.specs.declared.tree.Tree.{Tree}
use Rattle.dg_tree.specs.declared.tree.Tree.TheOpen.{Tree-F}
use Rattle.dg_tree.specs.declared.tree.Tree.TheVariants as trees
use Rattle.dg_tree.specs.declared.tree.Tree.TheViews.{out-Tree}
use Rattle.dg_tree.specs.declared.tree.Field.{Field}
use Rattle.dg_parse.specs.declared.query.QField.{QField}
use Rattle.dg_shape.specs.Asked.{Asked, asked_by}

-- ---- a node

-- the first field with what remains of it, and what remains of those after it; none where something else stands first
abbrev pub first_remains : Asked → (List Field → Option (List Field)) → List Field → Option (List Field)
first_remains asked others [] = None
first_remains asked others (f ∷ fields) = if bytes_eq f.key asked.key then option_and_then (λ t. option_map (λ rest. record { key = f.key; tree = t } ∷ rest) (others fields)) (asked.left f.tree) else None

-- what remains of a node's fields, which stand in the order in which they are asked for; none where one is left out
abbrev pub remaining : List Asked → List Field → Option (List Field)
remaining [] fields = Some fields
remaining (asked ∷ more) fields = if asked.numbers then remaining more fields else first_remains asked (remaining more) fields

-- a node is dropped where its fields are; anything else stays
abbrev pub layer_cut : (List Field → Option (List Field)) → Tree → Tree-F Tree Field → Option Tree
layer_cut remain t (Tree-F.Int n) = Some t
layer_cut remain t (Tree-F.Bool b) = Some t
layer_cut remain t (Tree-F.Text text) = Some t
layer_cut remain t (Tree-F.Array items) = Some t
layer_cut remain t (Tree-F.Node fields) = option_map trees.Node (remain fields)

-- the same of a tree
abbrev pub node_cut : (List Field → Option (List Field)) → Tree → Option Tree
node_cut remain t = layer_cut remain t (out-Tree t)

-- ---- a list of nodes

-- an array that isn't empty
abbrev pub some_array : List Tree → Option Tree
some_array [] = None
some_array (t ∷ items) = Some (trees.Array (t ∷ items))

-- of an array the nodes that stay, if there are any; a single node as it is cut; a value as it is
abbrev pub layers_cut : (List Field → Option (List Field)) → Tree → Tree-F Tree Field → Option Tree
layers_cut remain t (Tree-F.Int n) = Some t
layers_cut remain t (Tree-F.Bool b) = Some t
layers_cut remain t (Tree-F.Text text) = Some t
layers_cut remain t (Tree-F.Array items) = some_array (filter_map (node_cut remain) items)
layers_cut remain t (Tree-F.Node fields) = option_map trees.Node (remain fields)

-- the same of a tree
abbrev pub cut : (List Field → Option (List Field)) → Tree → Option Tree
cut remain t = layers_cut remain t (out-Tree t)

-- ---- by the text

-- what remains below an edge
abbrev pub cut_below : List Asked → Tree → Option Tree
cut_below asked t = cut (remaining asked) t

-- what the fields ask
abbrev pub to_remain : List QField → List Asked
to_remain fields = map (asked_by cut_below) fields

-- what remains of a node, or of an array of nodes, of which these fields are asked, from the leaves up
abbrev pub cascaded : List QField → Tree → Option Tree
cascaded fields t = cut (remaining (to_remain fields)) t

-- what remains of the fields from a place on, behind those before it
abbrev pub remaining_from : List Field → ℕ → List Asked → Option (List Field)
remaining_from fields at asked = option_map (λ rest. take at fields ++ rest) (remaining asked (drop at fields))
