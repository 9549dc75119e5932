-- What small mutations and changes come to, computed: changes and nodes of statements, parts, keys and predicates of changes.
use Rattle.std.proofs.Common.{◌≡◌, List, [], ◌∷◌, refl, codes}
use Rattle.dg_delta.specs.declared.op.Op.TheVariants as ops
use Rattle.dg_graph.specs.declared.change.Change.TheVariants.{Set, Del}
use Rattle.dg_zero.specs.Examples.{text, part, friends, friend, friend_key, friend_part, plain_names, named, name_data, name_key, two_films, film_preds}
use Rattle.dg_schema.specs.declared.definition.PredDef.{PredDef}
use Rattle.dg_graph.specs.declared.change.Triple.{Triple}
use Rattle.dg_graph.specs.declared.change.Change.{Change}
use Rattle.dg_graph.specs.Graphs.{after_changes}
use Rattle.dg_keys.specs.declared.record.Part.{Part}
use Rattle.dg_edges.specs.Deltas.{data_keys, data_conflicts, preds_of}
use Rattle.dg_edges.specs.Expanding.{expanded, lists_read, new_names, top_uid}
use Rattle.dg_edges.specs.Examples.{film_statements, nameless_statement}
use Rattle.dg_edges.proofs.WholeParts.{whole_parts}

-- ---- statements

-- the new nodes in the order in which they first appear
pub film_names : new_names film_statements ≡ codes "d" ∷ codes "p" ∷ codes "s" ∷ []
film_names = refl

-- no node is named by its number, and no list is read
pub film_top : top_uid film_statements ≡ 0
film_top = refl

pub film_reads : lists_read film_statements ≡ 0
film_reads = refl

-- numbered from 1 on, the changes are those that the catalogue's history commits
pub film_changes : expanded [] film_statements 1 ≡ two_films
film_changes = refl

-- `*` is one delete for each object that is there, and one list read
pub nameless_changes : expanded (named (codes "Ann") ∷ []) (nameless_statement ∷ []) 2 ≡ Del (named (codes "Ann")) ∷ []
nameless_changes = refl

pub nameless_reads : lists_read (nameless_statement ∷ []) ≡ 1
nameless_reads = refl

pub nameless_top : top_uid (nameless_statement ∷ []) ≡ 1
nameless_top = refl

-- where there is none it changes nothing
pub nothing_to_delete : expanded [] (nameless_statement ∷ []) 2 ≡ []
nothing_to_delete = refl

-- ---- parts, keys and predicates of changes without index, reverse and count

-- the parts that are made
abbrev deltas : List PredDef → List Triple → List Change → List Part
deltas schema graph changes = whole_parts schema (data_keys changes) graph (after_changes schema graph changes)

-- one more object of a list
pub friend_deltas : deltas (friends ∷ []) (friend 2 ∷ []) (Set (friend 3) ∷ []) ≡ friend_part 3 ∷ []
friend_deltas = refl

-- one that is there already makes no part
pub no_deltas : deltas (friends ∷ []) (friend 2 ∷ []) (Set (friend 2) ∷ []) ≡ []
no_deltas = refl

-- nor does one that is put in and taken out again
pub undone_deltas : deltas (friends ∷ []) [] (Set (friend 2) ∷ Del (friend 2) ∷ []) ≡ []
undone_deltas = refl

-- a name takes the place of another
pub name_deltas : deltas (plain_names ∷ []) (named (codes "Ann") ∷ []) (Set (named (codes "Bob")) ∷ []) ≡ part name_data (ops.Del (text (codes "Ann")) ∷ ops.Set (text (codes "Bob")) ∷ []) ∷ []
name_deltas = refl

-- an object of a list conflicts by itself, and one that stands alone by its subject
pub friend_conflicts : data_conflicts (friends ∷ []) (Set (friend 2) ∷ Del (friend 3) ∷ []) ≡ friend_key 2 ∷ friend_key 3 ∷ []
friend_conflicts = refl

pub name_conflicts : data_conflicts (plain_names ∷ []) (Set (named (codes "Bob")) ∷ []) ≡ name_key ∷ []
name_conflicts = refl

-- predicates ascend, each once
pub film_predicates : preds_of two_films ≡ film_preds
film_predicates = refl
