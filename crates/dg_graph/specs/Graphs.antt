-- Graphs as ascending lists of triples, and what changes make of them under a schema.
use Rattle.std.specs.Prelude.{◌≡◌, ℕ, Bool, true, false, ◌&&◌, ◌==◌, not, if◌then◌else◌, List, [], ◌∷◌, Option, Some, None, fold, map, filter}
use Rattle.std.specs.List.{AllByRecursion, list_any}
use Rattle.std.specs.declared.cmp.Ordering.{Ordering}
use Rattle.std.specs.Ordering.{nat_cmp, ordering_then}
use Rattle.dg_values.specs.Order.{text_cmp, same_text, posting_cmp}
use Rattle.dg_values.specs.Ascending.{Ascends, with_one, without_one}
use Rattle.dg_values.specs.declared.kind.Kind.{Kind}
use Rattle.dg_values.specs.declared.kind.Kind.TheVariants as kinds
use Rattle.dg_values.specs.declared.value.Value.TheVariants.{Int, Text, Bool as Truth, Time}
use Rattle.dg_values.specs.declared.value.Posting.{Posting}
use Rattle.dg_values.specs.declared.value.Posting.TheVariants.{Uid, Val}
use Rattle.dg_schema.specs.declared.definition.PredDef.{PredDef}
use Rattle.dg_schema.specs.Definitions.{definition_of, is_single}
use Rattle.dg_graph.specs.declared.change.Triple.{Triple}
use Rattle.dg_graph.specs.declared.change.Change.{Change}
use Rattle.dg_graph.specs.declared.change.Change.TheVariants.{Set, Del}

-- by predicate, subject and object
abbrev pub triple_cmp : Triple → Triple → Ordering
triple_cmp a b = ordering_then (text_cmp a.p b.p) (ordering_then (nat_cmp a.s b.s) (posting_cmp a.o b.o))

-- the triple is of this predicate
abbrev pub is_of : List ℕ → Triple → Bool
is_of p triple = same_text triple.p p

-- the triple has this subject and predicate
abbrev pub is_of_subject : List ℕ → ℕ → Triple → Bool
is_of_subject p s triple = is_of p triple && (triple.s == s)

-- the objects of a subject, ascending
abbrev pub objects : List Triple → List ℕ → ℕ → List Posting
objects graph p s = map (λ t. t.o) (filter (is_of_subject p s) graph)

-- without the objects that a new one takes the place of: those of its subject, where the predicate is no list
abbrev pub cleared : List PredDef → List Triple → Triple → List Triple
cleared schema graph triple = if is_single schema triple.p then filter (λ t. not (is_of_subject triple.p triple.s t)) graph else graph

-- the graph after one change: a set clears and puts its triple in once, a delete takes its triple out where it is there
abbrev pub after_change : List PredDef → List Triple → Change → List Triple
after_change schema graph (Set triple) = with_one triple_cmp (cleared schema graph triple) triple
after_change schema graph (Del triple) = without_one triple_cmp graph triple

-- the graph after changes in turn
abbrev pub after_changes : List PredDef → List Triple → List Change → List Triple
after_changes schema graph changes = fold (after_change schema) graph changes

-- an object of a predicate of this kind; the values of no declared kind are texts
abbrev pub is_of_kind : Kind → Posting → Bool
is_of_kind kinds.Uid (Uid n) = true
is_of_kind kinds.Int (Val (Int n)) = true
is_of_kind kinds.Text (Val (Text text)) = true
is_of_kind kinds.Default (Val (Text text)) = true
is_of_kind kinds.Bool (Val (Truth b)) = true
is_of_kind kinds.Time (Val (Time moment)) = true
is_of_kind kind object = false

-- the triple's predicate is declared, and its object is of that predicate's kind
abbrev pub fits_by : Option PredDef → Triple → Bool
fits_by None triple = false
fits_by (Some definition) triple = is_of_kind definition.kind triple.o

-- the same, under a schema
abbrev pub fits : List PredDef → Triple → Bool
fits schema triple = fits_by (definition_of schema triple.p) triple

-- no other triple of these has the same subject and predicate, where the predicate is no list
abbrev pub stands_alone : List PredDef → Triple → List Triple → Bool
stands_alone schema triple others = not (is_single schema triple.p && list_any (is_of_subject triple.p triple.s) others)

-- each subject has one object at most of a predicate that is no list
abbrev pub has_single_objects : List PredDef → List Triple → Bool
has_single_objects schema [] = true
has_single_objects schema (triple ∷ graph) = stands_alone schema triple graph && has_single_objects schema graph

-- a graph that a schema allows: each triple fits, and a predicate that is no list has one object for a subject at most
pub record IsLawful (schema : List PredDef) (graph : List Triple) : Type 0 where
  pub ascend : Ascends triple_cmp graph
  pub fit : AllByRecursion (λ t. fits schema t ≡ true) graph
  pub single : has_single_objects schema graph ≡ true
