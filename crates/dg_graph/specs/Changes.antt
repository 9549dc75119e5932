-- Changes seen triple by triple, and what one makes of the objects of a subject.
use Rattle.std.specs.Prelude.{◌≡◌, ℕ, Bool, true, ◌&&◌, ◌||◌, not, List, [], ◌∷◌, if◌then◌else◌, fold}
use Rattle.std.specs.List.{AllByRecursion}
use Rattle.std.specs.Ordering.{is_eq}
use Rattle.dg_values.specs.Ascending.{has, with_one, without_one}
use Rattle.dg_values.specs.Order.{posting_cmp}
use Rattle.dg_values.specs.declared.value.Posting.{Posting}
use Rattle.dg_schema.specs.declared.definition.PredDef.{PredDef}
use Rattle.dg_graph.specs.Graphs.{triple_cmp, is_of_subject, fits}
use Rattle.dg_schema.specs.Definitions.{is_single}
use Rattle.dg_graph.specs.declared.change.Triple.{Triple}
use Rattle.dg_graph.specs.declared.change.Change.{Change}
use Rattle.dg_graph.specs.declared.change.Change.TheVariants.{Set, Del}

-- the graph has this triple
abbrev pub has_triple : List Triple → Triple → Bool
has_triple graph t = has triple_cmp graph t

-- a new triple takes the place of this one
abbrev pub is_cleared : List PredDef → Triple → Triple → Bool
is_cleared schema t u = is_single schema t.p && is_of_subject t.p t.s u

-- whether a triple is there after a change, by whether it was
abbrev pub there_after : List PredDef → Triple → Bool → Change → Bool
there_after schema u there (Set t) = is_eq (triple_cmp t u) || (not (is_cleared schema t u) && there)
there_after schema u there (Del t) = not (is_eq (triple_cmp u t)) && there

-- whether a triple is there after changes in turn, by whether it was
abbrev pub there_after_all : List PredDef → Triple → Bool → List Change → Bool
there_after_all schema u there changes = fold (there_after schema u) there changes

-- the objects of a subject after a change of one of its own triples, and of any
abbrev pub own_objects_after : List PredDef → List Posting → Change → List Posting
own_objects_after schema objects (Set t) = if is_single schema t.p then t.o ∷ [] else with_one posting_cmp objects t.o
own_objects_after schema objects (Del t) = without_one posting_cmp objects t.o

-- the triple that a change puts in or takes out
abbrev pub changed : Change → Triple
changed (Set t) = t
changed (Del t) = t

-- the objects of a subject after a change of any triple
abbrev pub objects_after : List PredDef → List ℕ → ℕ → List Posting → Change → List Posting
objects_after schema p s objects change = if is_of_subject p s (changed change) then own_objects_after schema objects change else objects

-- a triple that is put in is of a declared predicate, and its object of that predicate's kind
abbrev pub Fits : List PredDef → Change → Type 0
Fits schema (Set t) = fits schema t ≡ true
Fits schema (Del t) = Unit {0}

-- each change fits
abbrev pub AllFit : List PredDef → List Change → Type 0
AllFit schema changes = AllByRecursion (Fits schema) changes
