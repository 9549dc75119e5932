-- The changes that a checked mutation stands for, and the nodes that it names.
use Rattle.std.specs.Prelude.{ℕ, ◌+◌, max, Bool, List, [], ◌∷◌, ◌++◌, if◌then◌else◌, fold, map, flat_map, sum_by}
use Rattle.std.specs.List.{list_any, position_or_len}
use Rattle.dg_values.specs.Order.{same_text}
use Rattle.dg_values.specs.declared.value.Posting.TheVariants as postings
use Rattle.dg_graph.specs.declared.change.Triple.{Triple}
use Rattle.dg_graph.specs.declared.change.Change.{Change}
use Rattle.dg_graph.specs.declared.change.Change.TheVariants.{Set, Del}
use Rattle.dg_graph.specs.Graphs.{objects}
use Rattle.dg_edges.specs.declared.edge.Named.{Named}
use Rattle.dg_edges.specs.declared.edge.Named.TheVariants.{Uid, New}
use Rattle.dg_edges.specs.declared.edge.Target.{Target}
use Rattle.dg_edges.specs.declared.edge.Target.TheVariants.{Node, Value, All}
use Rattle.dg_edges.specs.declared.edge.Edge.{Edge}

-- the node that an object is, if it is one
abbrev pub target_node : Target → List Named
target_node (Node node) = node ∷ []
target_node target = []

-- the nodes that statements name, in order: of each its subject, and then its object
abbrev pub nodes_of : List Edge → List Named
nodes_of edges = flat_map (λ e. e.s ∷ target_node e.o) edges

-- the name of a new node
abbrev pub name_of : Named → List (List ℕ)
name_of (Uid uid) = []
name_of (New name) = name ∷ []

-- the number of a node that is named by it
abbrev pub uid_of : Named → List ℕ
uid_of (Uid uid) = uid ∷ []
uid_of (New name) = []

-- one name more, unless it is there
abbrev pub with_name : List (List ℕ) → List ℕ → List (List ℕ)
with_name names name = if list_any (same_text name) names then names else names ++ name ∷ []

-- the names of new nodes, each once, in the order in which they first appear
abbrev pub new_names : List Edge → List (List ℕ)
new_names edges = fold with_name [] (flat_map name_of (nodes_of edges))

-- the greatest node that is named by its number, or 0
abbrev pub top_uid : List Edge → ℕ
top_uid edges = fold max 0 (flat_map uid_of (nodes_of edges))

-- the number of a node, where new names are numbered in their order from `first`
abbrev pub number_of : List (List ℕ) → ℕ → Named → ℕ
number_of names first (Uid uid) = uid
number_of names first (New name) = first + position_or_len (same_text name) names

-- a triple is set or deleted
abbrev pub change_of : Bool → Triple → Change
change_of delete triple = if delete then Del triple else Set triple

-- the changes of one statement in a graph, by the number of its subject: `*` is one delete for each object that the subject has
abbrev pub changes_by : List Triple → (Named → ℕ) → Bool → ℕ → List ℕ → Target → List Change
changes_by graph number delete s p (Node node) = change_of delete (record { s = s; p = p; o = postings.Uid (number node) }) ∷ []
changes_by graph number delete s p (Value value) = change_of delete (record { s = s; p = p; o = postings.Val value }) ∷ []
changes_by graph number delete s p All = map (λ o. Del (record { s = s; p = p; o = o })) (objects graph p s)

-- the changes of one statement
abbrev pub changes_in : List Triple → (Named → ℕ) → Edge → List Change
changes_in graph number edge = changes_by graph number edge.delete (number edge.s) edge.p edge.o

-- how many lists are read for what stands at the object's place: one for `*`
abbrev pub reads_by : Target → ℕ
reads_by All = 1
reads_by target = 0

-- how many lists are read for statements
abbrev pub lists_read : List Edge → ℕ
lists_read edges = sum_by (λ e. reads_by e.o) edges

-- the changes of statements in their order, over the graph before all of them
abbrev pub expanded : List Triple → List Edge → ℕ → List Change
expanded graph edges first = flat_map (changes_in graph (number_of (new_names edges) first)) edges
