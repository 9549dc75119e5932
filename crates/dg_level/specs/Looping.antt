-- What is fetched for a recursion of the nodes of a level, by what a plan keeps of its fields.
use Rattle.std.specs.Prelude.{◌≡◌, ℕ, ◌≤◌, pos, ⊤, Bool, true, if◌then◌else◌, List, [], ◌∷◌, Option, Some, None, option_map, length, map, flat_map}
use Rattle.std.specs.List.{AllByRecursion}
use Rattle.dg_text.specs.Spelling.{uid_text}
use Rattle.dg_schema.specs.declared.definition.PredDef.{PredDef}
use Rattle.dg_schema.specs.Definitions.{definition_of}
use Rattle.dg_graph.specs.declared.change.Triple.{Triple}
use Rattle.dg_parse.specs.declared.query.QArg.{QArg}
use Rattle.dg_parse.specs.declared.query.QEdge.{QEdge}
use Rattle.dg_parse.specs.declared.query.QField.{QField}
use Rattle.dg_parse.specs.declared.query.QItem.{QItem}
use Rattle.dg_parse.specs.declared.query.QItem.TheOpen.{QItem-F}
use Rattle.dg_parse.specs.declared.query.QItem.TheViews.{out-QItem}
use Rattle.dg_parse.specs.Keys.{key_of}
use Rattle.dg_check.specs.declared.parts.Field.{Field as Kept}
use Rattle.dg_check.specs.declared.parts.Item.{Item}
use Rattle.dg_check.specs.declared.parts.Item.TheOpen.{Item-F}
use Rattle.dg_check.specs.declared.parts.Item.TheViews.{out-Item}
use Rattle.dg_check.specs.declared.vars.Variable.{Variable}
use Rattle.dg_funcs.specs.Truth.{count_along}
use Rattle.dg_tree.specs.declared.tree.Tree.TheVariants as trees
use Rattle.dg_tree.specs.declared.tree.Field.{Field}
use Rattle.dg_tree.specs.Texts.{key_text}
use Rattle.dg_level.specs.declared.looped.Fetched.{Fetched}
use Rattle.dg_level.specs.declared.looped.Lists.{Lists}
use Rattle.dg_level.specs.declared.sorts.Sort.{Sort}
use Rattle.dg_level.specs.Shown.{sort_of, under, node_of}
use Rattle.dg_level.specs.Planned.{value_kept, list_by}
use Rattle.dg_level.specs.Columns.{FieldsOf, TreesOf, ShowsBy, shown_by}
use Rattle.dg_level.specs.Levels.{bare_trees}
use Rattle.dg_level.specs.Rows.{AreOfLevel}
use Rattle.dg_level.specs.Recursions.{single_of}
use Rattle.dg_level.specs.Unfolding.{Piece, own, edge, piece_shown}

-- ---- by what is kept

-- the trees that an item shows of a node itself
abbrev pub own_by : {A B : Type 0} → List PredDef → List Triple → List Variable → QItem-F A B → Item → TreesOf
own_by schema graph vars QItem-F.Uid kept node = trees.Text (uid_text node) ∷ []
own_by schema graph vars QItem-F.CountUid kept node = []
own_by schema graph vars (QItem-F.Count e) kept node = trees.Int (pos (count_along graph e node)) ∷ []
own_by schema graph vars (QItem-F.Val x) kept node = value_kept vars node (out-Item kept)
own_by schema graph vars (QItem-F.Agg op x) kept node = []
own_by schema graph vars (QItem-F.Edge e args list braces) kept node = bare_trees schema graph e (out-Item kept) node

-- the same of an item of the text
abbrev pub own_trees : List PredDef → List Triple → List Variable → QItem → Item → TreesOf
own_trees schema graph vars item kept = own_by schema graph vars (out-QItem item) kept

-- the lists to which a field leads, of each node one, and whether a list has one node at most; none where it leads to no nodes
abbrev pub Leading : Type 0
Leading = Option (Bool × (ℕ → List ℕ))

-- these lists, where an edge leads to nodes
abbrev pub leads_as : Option Bool → (ℕ → List ℕ) → Leading
leads_as None list = None
leads_as (Some single) list = Some (single, list)

-- the lists of an edge, by what is kept of it
abbrev pub leads_kept : {A B : Type 0} → List Triple → List Variable → QEdge → List QArg → Sort → Item-F A B → Leading
leads_kept graph vars e args sort Item-F.Plain = None
leads_kept graph vars e args sort (Item-F.Val place) = None
leads_kept graph vars e args sort (Item-F.Edge orders filters inner) = leads_as (single_of sort) (list_by graph vars e args sort orders filters)

-- those of an item
abbrev pub leads_by : {A B : Type 0} → List PredDef → List Triple → List Variable → QItem-F A B → Item → Leading
leads_by schema graph vars QItem-F.Uid kept = None
leads_by schema graph vars QItem-F.CountUid kept = None
leads_by schema graph vars (QItem-F.Count e) kept = None
leads_by schema graph vars (QItem-F.Val x) kept = None
leads_by schema graph vars (QItem-F.Agg op x) kept = None
leads_by schema graph vars (QItem-F.Edge e args list braces) kept = leads_kept graph vars e args (sort_of (definition_of schema e.pred) e.back) (out-Item kept)

-- the same of an item of the text, where edges are followed at all
abbrev pub leads_of : Bool → List PredDef → List Triple → List Variable → QItem → Item → Leading
leads_of further schema graph vars item kept = if further then leads_by schema graph vars (out-QItem item) kept else None

-- what a field is at a node, by what it shows of nodes themselves and where it leads
abbrev pub piece_from : List ℕ → TreesOf → Leading → ℕ → Piece
piece_from key shown None node = own (map (under key) (shown node))
piece_from key shown (Some leads) node = edge key leads.0 (leads.1 node)

-- what each node of a level shows under a field
abbrev pub PieceOf : Type 0
PieceOf = ℕ → Piece

-- what a field is at each node
abbrev pub planned_piece : Bool → List PredDef → List Triple → List Variable → QField → Kept → PieceOf
planned_piece further schema graph vars f k = piece_from (key_of f) (own_trees schema graph vars f.item k.item) (leads_of further schema graph vars f.item k.item)

-- fields, each with what is kept of it
abbrev pub planned_pieces : Bool → List PredDef → List Triple → List Variable → List QField → List Kept → List PieceOf
planned_pieces further schema graph vars [] kept = []
planned_pieces further schema graph vars (f ∷ fields) [] = []
planned_pieces further schema graph vars (f ∷ fields) (k ∷ kept) = planned_piece further schema graph vars f k ∷ planned_pieces further schema graph vars fields kept

-- what they are at a node
abbrev pub pieces_by : List PieceOf → ℕ → List Piece
pieces_by pieces node = map (λ piece. piece node) pieces

-- ---- what is shown

-- what a piece shows, by what each node shows
abbrev pub piece_fields : FieldsOf → Piece → List Field
piece_fields at piece = piece_shown (λ nodes. flat_map (λ n. node_of (at n)) nodes) piece

-- what each piece shows
abbrev pub fields_by : FieldsOf → PieceOf → FieldsOf
fields_by at piece node = piece_fields at (piece node)

-- what all show at a node
abbrev pub level_fields : List PieceOf → FieldsOf → FieldsOf
level_fields pieces at = shown_by (map (fields_by at) pieces)

-- the nodes to which a piece leads
abbrev pub nodes_in : Piece → List ℕ
nodes_in (own fields) = []
nodes_in (edge key single nodes) = nodes

-- ---- what is fetched

-- a list of each node
abbrev pub lists_over : List ℕ → Bool × (ℕ → List ℕ) → Bool × List (List ℕ)
lists_over nodes leads = (leads.0, map leads.1 nodes)

-- the lists that were fetched
abbrev pub lists_as : Lists → Bool × List (List ℕ)
lists_as lists = (lists.single, lists.lists.items)

-- of a single edge a list has one node at most
abbrev pub IsShort : Leading → Type 0
IsShort None = ⊤
IsShort (Some leads) = leads.0 ≡ true → (node : ℕ) → length (leads.1 node) ≤ 1

-- what was fetched for a field that is this at each node
pub record IsFetched (graph : List Triple) (vars : List Variable) (nodes : List ℕ) (fetched : Fetched) (piece : PieceOf) : Type 0 where
  pub name : List ℕ
  pub shown : TreesOf
  pub leads : Leading
  pub key_is : fetched.key ≡ key_text name
  pub by : (some : List ℕ) → ShowsBy graph vars some fetched.content shown
  pub lists_are : option_map lists_as fetched.lists ≡ option_map (lists_over nodes) leads
  pub short : IsShort leads
  pub piece_is : (node : ℕ) → piece node ≡ piece_from name shown leads node

-- the same of all fields
abbrev pub AreFetched : List Triple → List Variable → List ℕ → List Fetched → List PieceOf → Type 0
AreFetched graph vars nodes [] [] = ⊤
AreFetched graph vars nodes [] (piece ∷ pieces) = ⊥
AreFetched graph vars nodes (fetched ∷ more) [] = ⊥
AreFetched graph vars nodes (fetched ∷ more) (piece ∷ pieces) = IsFetched graph vars nodes fetched piece × AreFetched graph vars nodes more pieces

-- all nodes of some lists
abbrev pub nodes_of_lists : Option Lists → List ℕ
nodes_of_lists None = []
nodes_of_lists (Some lists) = flat_map (λ list. list) lists.lists.items

-- all nodes to which the fields lead
abbrev pub nodes_fetched : List Fetched → List ℕ
nodes_fetched all = flat_map (λ fetched. nodes_of_lists fetched.lists) all

-- the nodes to which the fields lead from a node are of the level
abbrev pub AreBelow : List ℕ → List PieceOf → ℕ → Type 0
AreBelow level pieces node = AllByRecursion (λ piece. AreOfLevel level (nodes_in (piece node))) pieces
