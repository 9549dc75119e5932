-- What holds of lawful graphs and changes.
use Rattle.std.specs.Prelude.{◌≡◌, ◌↔◌, ℕ, nat_le, Bool, true, ◌&&◌, ◌==◌, List, Option, fold, length}
use Rattle.std.specs.List.{list_any}
use Rattle.std.specs.Ordering.{nat_cmp}
use Rattle.dg_values.specs.Ascending.{Ascends, has}
use Rattle.dg_values.specs.Order.{posting_cmp}
use Rattle.dg_values.specs.declared.kind.Tokenizer.{Tokenizer}
use Rattle.dg_values.specs.declared.value.Value.{Value}
use Rattle.dg_values.specs.declared.value.Posting.{Posting}
use Rattle.dg_values.specs.declared.value.Posting.TheVariants.{Uid}
use Rattle.dg_tokens.specs.declared.tokens.IndexToken.{IndexToken}
use Rattle.dg_schema.specs.declared.definition.PredDef.{PredDef}
use Rattle.dg_graph.specs.Graphs.{triple_cmp, objects, after_changes, IsLawful}
use Rattle.dg_graph.specs.Lookups.{subjects_where, subjects_of, holders, has_token, is_from, is_up_to, by_token_range, with_objects, is_node, with_subjects, pointed_to, number_of, has_number, by_count}
use Rattle.dg_graph.specs.Changes.{has_triple, there_after_all, objects_after, AllFit}
use Rattle.dg_graph.specs.declared.change.Triple.{Triple}
use Rattle.dg_graph.specs.declared.change.Change.{Change}

-- changes, triple by triple
abbrev pub ChangesByTriple : Type 0
ChangesByTriple = (schema : List PredDef) (graph : List Triple) (changes : List Change) (u : Triple) → has_triple (after_changes schema graph changes) u ≡ there_after_all schema u (has_triple graph u) changes

-- a graph is known by its triples
abbrev pub KnownByTriples : Type 0
KnownByTriples = (g h : List Triple) → Ascends triple_cmp g → Ascends triple_cmp h → ((u : Triple) → has_triple g u ≡ has_triple h u) → g ≡ h

-- changes that fit keep a graph lawful
abbrev pub StaysLawful : Type 0
StaysLawful = (schema : List PredDef) (graph : List Triple) (changes : List Change) → AllFit schema changes → IsLawful schema graph → IsLawful schema (after_changes schema graph changes)

-- the objects of a subject, and the subjects of an object, are those of the graph's triples
abbrev pub ObjectsAre : Type 0
ObjectsAre = (graph : List Triple) (p : List ℕ) (s : ℕ) (o : Posting) → has posting_cmp (objects graph p s) o ≡ has_triple graph (record { s = s; p = p; o = o })

-- the subjects of an object are those of the graph's triples
abbrev pub SubjectsAre : Type 0
SubjectsAre = (graph : List Triple) (p : List ℕ) (s : ℕ) (o : Posting) → has nat_cmp (subjects_of graph p o) s ≡ has_triple graph (record { s = s; p = p; o = o })

-- objects come in order where the triples do
abbrev pub ObjectsAscend : Type 0
ObjectsAscend = (graph : List Triple) (p : List ℕ) (s : ℕ) → Ascends triple_cmp graph → Ascends posting_cmp (objects graph p s)

-- subjects come in order
abbrev pub SubjectsAscend : Type 0
SubjectsAscend = (graph : List Triple) (p : List ℕ) (o : Posting) → Ascends nat_cmp (subjects_of graph p o)

-- the objects of a subject after changes, from its objects before them
abbrev pub ObjectsAfter : Type 0
ObjectsAfter = (schema : List PredDef) (graph : List Triple) (changes : List Change) (p : List ℕ) (s : ℕ) → Ascends triple_cmp graph → objects (after_changes schema graph changes) p s ≡ fold (objects_after schema p s) (objects graph p s) changes

-- a node is listed by a test exactly where the test holds of one of its objects
abbrev pub ListedByTests : Type 0
ListedByTests = (test : Posting → Bool) (graph : List Triple) (p : List ℕ) (s : ℕ) → has nat_cmp (subjects_where test graph p) s ≡ list_any test (objects graph p s)

-- some token of the tokenizer that lies between the ends lists a node
pub record IsListedBetween (graph : List Triple) (p : List ℕ) (tokenizer : Tokenizer) (low high : Option Value) (s : ℕ) : Type 0 where
  pub token : IndexToken
  pub made : token.tokenizer ≡ tokenizer
  pub within : (is_from low token.value && is_up_to high token.value) ≡ true
  pub there : has nat_cmp (subjects_where (has_token token) graph p) s ≡ true

-- a range lists exactly the nodes that its tokens list
abbrev pub RangesByTokens : Type 0
RangesByTokens = (graph : List Triple) (p : List ℕ) (tokenizer : Tokenizer) (low high : Option Value) (s : ℕ) → (has nat_cmp (by_token_range graph p tokenizer low high) s ≡ true) ↔ IsListedBetween graph p tokenizer low high s

-- a node holds an object exactly where the number of its objects is at least 1
abbrev pub HoldersByNumbers : Type 0
HoldersByNumbers = (graph : List Triple) (p : List ℕ) (s : ℕ) → has nat_cmp (holders graph p) s ≡ nat_le 1 (length (objects graph p s))

-- a node is pointed to exactly where the number of its subjects is at least 1
abbrev pub PointedByNumbers : Type 0
PointedByNumbers = (graph : List Triple) (p : List ℕ) (n : ℕ) → has nat_cmp (pointed_to graph p) n ≡ nat_le 1 (length (subjects_of graph p (Uid n)))

-- a node is among those with n objects exactly where it has n of them, and n is at least 1
abbrev pub ListedByObjects : Type 0
ListedByObjects = (graph : List Triple) (p : List ℕ) (n s : ℕ) → has nat_cmp (with_objects graph p n) s ≡ ((length (objects graph p s) == n) && nat_le 1 n)

-- an object is among those that n subjects point to exactly where it is a node, n of them do, and n is at least 1
abbrev pub ListedBySubjects : Type 0
ListedBySubjects = (graph : List Triple) (p : List ℕ) (n : ℕ) (o : Posting) → has posting_cmp (with_subjects graph p n) o ≡ (is_node o && ((length (subjects_of graph p o) == n) && nat_le 1 n))

-- a node is found by its number exactly where that lies between the ends and is at least 1
abbrev pub FoundByNumbers : Type 0
FoundByNumbers = (graph : List Triple) (p : List ℕ) (reverse : Bool) (low : ℕ) (high : Option ℕ) (n : ℕ) → has nat_cmp (by_count graph p reverse low high) n ≡ (has_number graph p reverse low high n && nat_le 1 (number_of graph p reverse n))

-- nodes that are found by their numbers come in order
abbrev pub FoundAscend : Type 0
FoundAscend = (graph : List Triple) (p : List ℕ) (reverse : Bool) (low : ℕ) (high : Option ℕ) → Ascends nat_cmp (by_count graph p reverse low high)
