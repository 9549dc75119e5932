-- What a key lists in a graph under a schema, and the keys by which changes conflict.
use Rattle.std.specs.Prelude.{◌≡◌, ℕ, ◌&&◌, nat_le, List, [], ◌∷◌, ◌++◌, Option, Some, None, if◌then◌else◌, map, flat_map}
use Rattle.dg_values.specs.Ascending.{ascending}
use Rattle.dg_values.specs.declared.value.Posting.{Posting}
use Rattle.dg_values.specs.declared.value.Posting.TheVariants.{Uid, Val}
use Rattle.dg_delta.specs.Ops.{changes_between}
use Rattle.dg_schema.specs.declared.definition.PredDef.{PredDef}
use Rattle.dg_schema.specs.Definitions.{definition_of}
use Rattle.dg_graph.specs.declared.change.Triple.{Triple}
use Rattle.dg_graph.specs.declared.change.Change.{Change}
use Rattle.dg_graph.specs.declared.change.Change.TheVariants.{Set, Del}
use Rattle.dg_graph.specs.Graphs.{objects, after_change}
use Rattle.dg_graph.specs.Lookups.{tokens_of_object, has_token, has_tokenizer, with_objects, with_subjects, subjects_where, subjects_of}
use Rattle.dg_tokens.specs.declared.tokens.IndexToken.{IndexToken}
use Rattle.dg_keys.specs.declared.key.Key.{Key}
use Rattle.dg_keys.specs.declared.key.Key.TheVariants.{Data, Index, Reverse, Count, RCount}
use Rattle.dg_keys.specs.declared.conflict.ConflictKey.{ConflictKey}
use Rattle.dg_keys.specs.declared.conflict.ConflictKey.TheVariants as conflicts
use Rattle.dg_keys.specs.declared.record.Part.{Part}
use Rattle.dg_keys.specs.Keys.{pred_of, ops_at, AreParts}
use Rattle.dg_keys.specs.Conflicts.{conflict_cmp}

-- nodes as postings
abbrev pub nodes : List ℕ → List Posting
nodes ns = map (λ n. Uid n) ns

-- what a key lists, where its predicate has this definition
abbrev pub listing_by : Option PredDef → List Triple → Key → List Posting
listing_by None graph key = []
listing_by (Some def) graph (Data p s) = objects graph p s
listing_by (Some def) graph (Index p t) = if has_tokenizer def t.tokenizer then nodes (subjects_where (has_token t) graph p) else []
listing_by (Some def) graph (Reverse p o) = if def.reverse then nodes (subjects_of graph p (Uid o)) else []
listing_by (Some def) graph (Count p n) = if def.count && nat_le 1 n then nodes (with_objects graph p n) else []
listing_by (Some def) graph (RCount p n) = if def.reverse && (def.count && nat_le 1 n) then with_subjects graph p n else []

-- what a key lists; a key whose predicate isn't declared lists nothing
abbrev pub listing : List PredDef → List Triple → Key → List Posting
listing schema graph key = listing_by (definition_of schema (pred_of key)) graph key

-- the parts are exactly what the lists of all keys gain and lose from one graph and schema to another
pub record AreGainsAndLosses (schema : List PredDef) (graph : List Triple) (new_schema : List PredDef) (new_graph : List Triple) (parts : List Part) : Type 0 where
  pub parts_are : AreParts parts
  pub exact : (key : Key) → ops_at parts key ≡ changes_between (listing schema graph key) (listing new_schema new_graph key)

-- the triple of a change
abbrev pub triple_of : Change → Triple
triple_of (Set t) = t
triple_of (Del t) = t

-- the objects that a change touches: its own, and those that it takes the place of
abbrev pub touched : PredDef → List Triple → Change → List Posting
touched def graph (Set t) = t.o ∷ (if def.list then [] else objects graph t.p t.s)
touched def graph (Del t) = t.o ∷ []

-- the keys of one token
abbrev pub keys_of_token : PredDef → Triple → IndexToken → List ConflictKey
keys_of_token def t token = conflicts.Index t.p token (Some t.s) ∷ (if def.upsert then conflicts.Index t.p token None ∷ [] else [])

-- the keys of an object: those of each of its tokens
abbrev pub keys_of_object : PredDef → Triple → Posting → List ConflictKey
keys_of_object def t object = flat_map (keys_of_token def t) (flat_map (λ tokenizer. tokens_of_object tokenizer object) def.tokens)

-- the key of a node that is pointed to
abbrev pub reverse_keys : Triple → Posting → List ConflictKey
reverse_keys t (Uid n) = conflicts.RCount t.p n ∷ []
reverse_keys t (Val value) = []

-- the keys of one change of a predicate with this definition
abbrev pub keys_of_change : Option PredDef → List Triple → Change → List ConflictKey
keys_of_change None graph change = []
keys_of_change (Some def) graph change =
    let t = triple_of change in
    conflicts.Data t.p t.s (if def.list then Some t.o else None)
    ∷ (flat_map (keys_of_object def t) (touched def graph change)
    ++ ((if def.count then conflicts.Count t.p t.s ∷ [] else [])
    ++ (if def.reverse && def.count then flat_map (reverse_keys t) (touched def graph change) else [])))

-- the keys of changes in turn
abbrev pub keys_of_changes : List PredDef → List Triple → List Change → List ConflictKey
keys_of_changes schema graph [] = []
keys_of_changes schema graph (change ∷ changes) =
    keys_of_change (definition_of schema (triple_of change).p) graph change
    ++ keys_of_changes schema (after_change schema graph change) changes

-- the same, ascending and each once
abbrev pub conflict_keys : List PredDef → List Triple → List Change → List ConflictKey
conflict_keys schema graph changes = ascending conflict_cmp (keys_of_changes schema graph changes)
