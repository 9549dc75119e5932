-- What a query answers, by its text.
use Rattle.std.specs.Prelude.{ℕ, true, false, Bool, if◌then◌else◌, List, [], ◌∷◌, Option, Some, None, is_none, map, flat_map, codes}
use Rattle.std.specs.List.{list_any}
use Rattle.std.specs.Str.{bytes_eq}
use Rattle.dg_schema.specs.declared.definition.PredDef.{PredDef}
use Rattle.dg_graph.specs.declared.change.Triple.{Triple}
use Rattle.dg_parse.specs.declared.query.QBlock.{QBlock}
use Rattle.dg_parse.specs.declared.query.QDir.{QDir}
use Rattle.dg_parse.specs.declared.query.QDir.TheVariants as dirs
use Rattle.dg_parse.specs.declared.query.QFunc.{QFunc}
use Rattle.dg_check.specs.declared.vars.Variable.{Variable}
use Rattle.dg_check.specs.Variables.{Definition, names_for}
use Rattle.dg_funcs.specs.Meaning.{text_root_nodes}
use Rattle.dg_shape.specs.Orders.{ordered, page}
use Rattle.dg_tree.specs.declared.tree.Tree.{Tree}
use Rattle.dg_tree.specs.declared.tree.Tree.TheVariants as trees
use Rattle.dg_tree.specs.declared.tree.Field.{Field}
use Rattle.dg_level.specs.Aggregates.{aggregates_shown}
use Rattle.dg_level.specs.declared.recursions.Recursion.{Recursion}
use Rattle.dg_level.specs.Lists.{keys_for, passed_all}
use Rattle.dg_level.specs.Recursions.{recursion_in, recursed_at}
use Rattle.dg_level.specs.Shown.{under, list_shown, cascades, remaining, counts_in, fields_at, whole_at, objects_at}

-- ---- the nodes of a block

-- the nodes that a function gives at a root, where there is one
abbrev pub nodes_at_root : List Triple → List Definition → List Variable → Option QFunc → List ℕ
nodes_at_root graph ds vars None = []
nodes_at_root graph ds vars (Some f) = text_root_nodes graph (names_for false ds) vars f

-- the list of a block: those of its root at which each filter passes, in order, and cut
abbrev pub nodes_of_block : List Triple → List Definition → List Variable → QBlock → List ℕ
nodes_of_block graph ds vars block = page block.args (ordered (keys_for graph ds vars block.args) (passed_all graph ds vars block.dirs (nodes_at_root graph ds vars block.func)))

-- ---- what is shown

-- a block of the name `var`, which isn't shown
abbrev pub is_hidden : QBlock → Bool
is_hidden block = bytes_eq block.name (codes "var")

-- a directive that makes flat objects of nodes
abbrev pub is_normalize : QDir → Bool
is_normalize (dirs.Filter f) = false
is_normalize dirs.Cascade = false
is_normalize dirs.Normalize = true
is_normalize (dirs.Recurse options) = false

-- the nodes of a block's list that remain
abbrev pub left_of_block : List PredDef → List Triple → List Definition → List Variable → QBlock → List ℕ → List ℕ
left_of_block schema graph ds vars block nodes = remaining (cascades false block.dirs) (whole_at schema graph ds vars block.fields) nodes

-- what the nodes of a list show as they are
abbrev pub nested_shown : List PredDef → List Triple → List Definition → List Variable → QBlock → List ℕ → List Tree
nested_shown schema graph ds vars block nodes = list_shown (counts_in schema graph ds vars block.fields) (fields_at schema graph ds vars (cascades false block.dirs) block.fields) nodes

-- what they show as flat objects
abbrev pub flat_shown : List PredDef → List Triple → List Definition → List Variable → QBlock → List ℕ → List Tree
flat_shown schema graph ds vars block nodes = map trees.Node (flat_map (objects_at schema graph ds vars (cascades false block.dirs) block.fields) nodes)

-- what they unfold to
abbrev pub recursed_shown : List PredDef → List Triple → List Definition → List Variable → QBlock → Recursion → List ℕ → List Tree
recursed_shown schema graph ds vars block recursion nodes = list_shown [] (recursed_at schema graph ds vars recursion.again recursion.depth block.fields) nodes

-- what they show by themselves or as flat objects, where nothing recurs
abbrev pub plain_shown : List PredDef → List Triple → List Definition → List Variable → QBlock → List ℕ → List Tree
plain_shown schema graph ds vars block nodes = if list_any is_normalize block.dirs then flat_shown schema graph ds vars block nodes else nested_shown schema graph ds vars block nodes

-- what they show, where there is such a recursion or none
abbrev pub trees_shown : List PredDef → List Triple → List Definition → List Variable → QBlock → List ℕ → Option Recursion → List Tree
trees_shown schema graph ds vars block nodes None = plain_shown schema graph ds vars block nodes
trees_shown schema graph ds vars block nodes (Some recursion) = recursed_shown schema graph ds vars block recursion nodes

-- what the nodes of a list show: an array, also where nothing stands in it
abbrev pub array_shown : List PredDef → List Triple → List Definition → List Variable → QBlock → List ℕ → Tree
array_shown schema graph ds vars block nodes = trees.Array (trees_shown schema graph ds vars block nodes (recursion_in block.dirs))

-- the same under the block's name
abbrev pub nodes_shown : List PredDef → List Triple → List Definition → List Variable → QBlock → List ℕ → Field
nodes_shown schema graph ds vars block nodes = under block.name (array_shown schema graph ds vars block nodes)

-- what a block shows under its name: aggregates of variables where it has no function, and else what the nodes of its list show
abbrev pub block_tree : List PredDef → List Triple → List Definition → List Variable → QBlock → Field
block_tree schema graph ds vars block =
    if is_none block.func then under block.name (trees.Array (aggregates_shown ds vars block.fields)) else nodes_shown schema graph ds vars block (left_of_block schema graph ds vars block (nodes_of_block graph ds vars block))

-- the same, unless it is hidden
abbrev pub block_shown : List PredDef → List Triple → List Definition → List Variable → QBlock → List Field
block_shown schema graph ds vars block = if is_hidden block then [] else block_tree schema graph ds vars block ∷ []

-- what blocks show, in their order
abbrev pub blocks_shown : List PredDef → List Triple → List Definition → List Variable → List QBlock → List Field
blocks_shown schema graph ds vars blocks = flat_map (block_shown schema graph ds vars) blocks
