-- What the nodes of a level show under a field, before it is written row by row.
use Rattle.std.specs.Prelude.{◌≡◌, ℕ, ◌+◌, ◌≤◌, pos, ⊤, Bool, true, false, if◌then◌else◌, List, [], ◌∷◌, ◌++◌, Some, slice_get, option_to_list, length, map, flat_map}
use Rattle.std.specs.Fmt.{signed_decimal}
use Rattle.std.specs.Ordering.{nat_cmp}
use Rattle.dg_values.specs.Ascending.{ascending}
use Rattle.dg_text.specs.Spelling.{uid_text}
use Rattle.dg_graph.specs.declared.change.Triple.{Triple}
use Rattle.dg_check.specs.declared.vars.Variable.{Variable}
use Rattle.dg_check.specs.Vars.{value_at}
use Rattle.dg_funcs.specs.Truth.{count_along}
use Rattle.dg_tree.specs.declared.tree.Field.{Field}
use Rattle.dg_tree.specs.declared.tree.Tree.{Tree}
use Rattle.dg_tree.specs.declared.tree.Tree.TheVariants as trees
use Rattle.dg_tree.specs.Texts.{key_text, tree_text}
use Rattle.dg_level.specs.declared.column.Below.{Below}
use Rattle.dg_level.specs.declared.column.Column.{Column}
use Rattle.dg_level.specs.declared.column.Content.{Content}
use Rattle.dg_level.specs.declared.column.Content.TheVariants as contents
use Rattle.dg_level.specs.declared.sorts.Sort.{Sort}
use Rattle.dg_level.specs.declared.sorts.Sort.TheVariants as sorts
use Rattle.dg_level.specs.Answers.{value_tree, values_shown}
use Rattle.dg_level.specs.Known.{values_by, KnowsValues}
use Rattle.dg_level.specs.Rows.{total, braced, row_text}
use Rattle.dg_level.specs.Shown.{under, edge_shown}

-- what each node of a level shows: fields, or the trees of one field
abbrev pub FieldsOf : Type 0
FieldsOf = ℕ → List Field

abbrev pub TreesOf : Type 0
TreesOf = ℕ → List Tree

-- the object of a number behind the text of a key
abbrev pub number_object : ℕ → List ℕ → List ℕ
number_object number key = braced (key ++ signed_decimal (pos number))

-- one node at most, or a list of nodes
abbrev pub sort_below : Bool → Sort
sort_below single = if single then sorts.Node else sorts.Nodes

-- whether a node is shown by itself: a single edge leads to it, and no number is asked for
abbrev pub is_alone : Bool → List (List ℕ) → Bool
is_alone single [] = single
is_alone single (key ∷ counts) = false

-- the lists of the nodes of a level, and a row for each node of the level below: so these trees are shown
pub record IsBelow (nodes : List ℕ) (below : Below) (shown : TreesOf) : Type 0 where
  pub list : ℕ → List ℕ
  pub at : FieldsOf
  pub names : List (List ℕ)
  pub lists_are : below.lists.items ≡ map list nodes
  pub level_is : below.level ≡ ascending nat_cmp (flat_map list nodes)
  pub counts_are : below.counts ≡ map key_text names
  pub rows_are : below.rows.rows ≡ map (λ n. row_text (at n)) below.level
  pub short : below.single ≡ true → (n : ℕ) → length (list n) ≤ 1
  pub trees_are : (n : ℕ) → shown n ≡ edge_shown (sort_below below.single) [] names at (list n)

-- these trees are shown by a column at each node; of a column of nothing that is said of the nodes of the level alone
abbrev pub ShowsBy : List Triple → List Variable → List ℕ → Content → TreesOf → Type 0
ShowsBy graph vars nodes contents.Nothing shown = (place n : ℕ) → slice_get nodes place ≡ Some n → shown n ≡ []
ShowsBy graph vars nodes contents.Uid shown = (n : ℕ) → shown n ≡ trees.Text (uid_text n) ∷ []
ShowsBy graph vars nodes (contents.Count e) shown = (n : ℕ) → shown n ≡ trees.Int (pos (count_along graph e n)) ∷ []
ShowsBy graph vars nodes (contents.Value place) shown = (n : ℕ) → shown n ≡ map value_tree (option_to_list (value_at vars place n))
ShowsBy graph vars nodes (contents.Values p list known) shown = ((n : ℕ) → shown n ≡ values_shown list (values_by graph p n)) × KnowsValues (values_by graph p) known
ShowsBy graph vars nodes (contents.Nodes below) shown = IsBelow nodes below shown

-- a column shows these fields: trees under its key
pub record Shows (graph : List Triple) (vars : List Variable) (nodes : List ℕ) (column : Column) (fields : FieldsOf) : Type 0 where
  pub name : List ℕ
  pub shown : TreesOf
  pub key_is : column.key ≡ key_text name
  pub fields_are : (n : ℕ) → fields n ≡ map (under name) (shown n)
  pub by : ShowsBy graph vars nodes column.content shown

-- columns show these fields, each its own
abbrev pub AreShown : List Triple → List Variable → List ℕ → List Column → List FieldsOf → Type 0
AreShown graph vars nodes [] [] = ⊤
AreShown graph vars nodes [] (fields ∷ more) = ⊥
AreShown graph vars nodes (column ∷ columns) [] = ⊥
AreShown graph vars nodes (column ∷ columns) (fields ∷ more) = Shows graph vars nodes column fields × AreShown graph vars nodes columns more

-- what all show at a node
abbrev pub shown_by : List FieldsOf → FieldsOf
shown_by all node = flat_map (λ fields. fields node) all

-- how many bytes the rows of the level below have
abbrev pub held_by : Content → ℕ
held_by contents.Nothing = 0
held_by contents.Uid = 0
held_by (contents.Count e) = 0
held_by (contents.Value place) = 0
held_by (contents.Values p list known) = 0
held_by (contents.Nodes below) = total below.rows.rows + length below.rows.begun

-- how many they may have
abbrev pub room_of : Content → ℕ
room_of contents.Nothing = 0
room_of contents.Uid = 0
room_of (contents.Count e) = 0
room_of (contents.Value place) = 0
room_of (contents.Values p list known) = 0
room_of (contents.Nodes below) = below.rows.limit

-- how many bytes the trees have that nodes show
abbrev pub bytes_of : TreesOf → List ℕ → ℕ
bytes_of shown nodes = total (map (λ n. flat_map tree_text (shown n)) nodes)
