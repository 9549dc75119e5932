-- What a block with a recursion shows, by its text.
use Rattle.std.specs.Prelude.{ℕ, ◌-◌, pos, ℤ, Bool, true, false, if◌then◌else◌, List, [], ◌∷◌, Option, Some, None, map, int_lt, unsigned_abs}
use Rattle.dg_schema.specs.declared.definition.PredDef.{PredDef}
use Rattle.dg_schema.specs.Definitions.{definition_of}
use Rattle.dg_graph.specs.declared.change.Triple.{Triple}
use Rattle.dg_parse.specs.declared.query.QDir.{QDir}
use Rattle.dg_parse.specs.declared.query.QDir.TheVariants as dirs
use Rattle.dg_parse.specs.declared.query.QField.{QField}
use Rattle.dg_parse.specs.declared.query.QItem.TheOpen.{QItem-F}
use Rattle.dg_parse.specs.declared.query.QItem.TheViews.{out-QItem}
use Rattle.dg_parse.specs.declared.query.QOpt.{QOpt}
use Rattle.dg_parse.specs.declared.query.QOpt.TheVariants as options
use Rattle.dg_parse.specs.Keys.{key_of}
use Rattle.dg_check.specs.declared.vars.Variable.{Variable}
use Rattle.dg_check.specs.Variables.{Definition}
use Rattle.dg_tree.specs.declared.tree.Field.{Field}
use Rattle.dg_level.specs.declared.recursions.Recursion.{Recursion}
use Rattle.dg_level.specs.declared.sorts.Sort.{Sort}
use Rattle.dg_level.specs.declared.sorts.Sort.TheVariants as sorts
use Rattle.dg_level.specs.Lists.{children}
use Rattle.dg_level.specs.Shown.{sort_of, shown_field}
use Rattle.dg_level.specs.Unfolding.{Piece, own, edge, unfolded}

-- whether an edge leads to one node or to a list, where it leads to nodes
abbrev pub single_of : Sort → Option Bool
single_of sorts.Nothing = None
single_of sorts.Values = None
single_of sorts.Node = Some true
single_of sorts.Nodes = Some false

-- the nodes of a list under a key, where a field leads to nodes, and else what it shows of a node itself
abbrev pub piece_of : List Field → List ℕ → Option Bool → List ℕ → Piece
piece_of shown key None nodes = own shown
piece_of shown key (Some single) nodes = edge key single nodes

-- what an item of a recursion is at a node
abbrev pub item_piece : {A B : Type 0} → List PredDef → List Triple → List Definition → List Variable → List Field → List ℕ → QItem-F A B → ℕ → Piece
item_piece schema graph ds vars shown key QItem-F.Uid node = own shown
item_piece schema graph ds vars shown key QItem-F.CountUid node = own shown
item_piece schema graph ds vars shown key (QItem-F.Count e) node = own shown
item_piece schema graph ds vars shown key (QItem-F.Val x) node = own shown
item_piece schema graph ds vars shown key (QItem-F.Agg op x) node = own shown
item_piece schema graph ds vars shown key (QItem-F.Edge e args list braces) node =
    piece_of shown key (single_of (sort_of (definition_of schema e.pred) e.back)) (children graph ds vars e args list node)

-- what a field of a recursion is at a node
abbrev pub piece_at : List PredDef → List Triple → List Definition → List Variable → QField → ℕ → Piece
piece_at schema graph ds vars f node = item_piece schema graph ds vars ((shown_field schema graph ds vars f).at false node) (key_of f) (out-QItem f.item) node

-- what all are, in their order
abbrev pub pieces_at : List PredDef → List Triple → List Definition → List Variable → List QField → ℕ → List Piece
pieces_at schema graph ds vars fields node = map (λ f. piece_at schema graph ds vars f node) fields

-- what is unfolded from a node, to so many nodes below one another, the node itself the first
abbrev pub recursed_at : List PredDef → List Triple → List Definition → List Variable → Bool → ℕ → List QField → ℕ → List Field
recursed_at schema graph ds vars again depth fields node = unfolded (pieces_at schema graph ds vars fields) again (depth - 1) (node ∷ []) node

-- ---- what a block asks for

-- a depth: at least 1, and at most 32, as it is in each query that is checked
abbrev pub depth_of : ℤ → ℕ
depth_of depth = if int_lt depth (pos 1) then 1 else (if int_lt (pos 32) depth then 32 else unsigned_abs depth)

-- the depth that options say
abbrev pub depth_in : List QOpt → ℕ
depth_in [] = 1
depth_in (options.Depth depth ∷ more) = depth_of depth
depth_in (options.Again again ∷ more) = depth_in more

-- whether nodes come again: where it isn't said they don't
abbrev pub again_in : List QOpt → Bool
again_in [] = false
again_in (options.Depth depth ∷ more) = again_in more
again_in (options.Again again ∷ more) = again

-- the recursion that directives ask for, if they do
abbrev pub recursion_in : List QDir → Option Recursion
recursion_in [] = None
recursion_in (dirs.Filter f ∷ more) = recursion_in more
recursion_in (dirs.Cascade ∷ more) = recursion_in more
recursion_in (dirs.Normalize ∷ more) = recursion_in more
recursion_in (dirs.Recurse said ∷ more) = Some (record { depth = depth_in said; again = again_in said })
