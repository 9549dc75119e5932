-- The objects that sets take the place of, where they have keys, and the keys of one change by them.
use Rattle.std.specs.Prelude.{Bool, true, false, not, ◌&&◌, ◌||◌, List, [], ◌∷◌, ◌++◌, Option, Some, None, if◌then◌else◌, flat_map}
use Rattle.dg_values.specs.declared.kind.Tokenizer.{Tokenizer}
use Rattle.dg_values.specs.declared.value.Posting.{Posting}
use Rattle.dg_values.specs.Order.{posting_cmp}
use Rattle.dg_values.specs.Ascending.{ascending, without_one}
use Rattle.dg_schema.specs.declared.definition.PredDef.{PredDef}
use Rattle.dg_schema.specs.Definitions.{definition_of}
use Rattle.dg_graph.specs.declared.change.Triple.{Triple}
use Rattle.dg_graph.specs.declared.change.Change.{Change}
use Rattle.dg_graph.specs.declared.change.Change.TheVariants.{Set, Del}
use Rattle.dg_graph.specs.Graphs.{is_of_subject}
use Rattle.dg_graph.specs.Changes.{changed}
use Rattle.dg_graph.specs.Lookups.{tokens_of_object}
use Rattle.dg_keys.specs.declared.key.Key.{Key}
use Rattle.dg_keys.specs.declared.key.Key.TheVariants as keys
use Rattle.dg_keys.specs.declared.conflict.ConflictKey.{ConflictKey}
use Rattle.dg_keys.specs.declared.conflict.ConflictKey.TheVariants as conflicts
use Rattle.dg_keys.specs.Keys.{key_cmp}
use Rattle.dg_zero.specs.Listings.{keys_of_token, keys_of_object, reverse_keys}

-- there is a tokenizer
abbrev pub is_indexed : List Tokenizer → Bool
is_indexed [] = false
is_indexed (tokenizer ∷ tokenizers) = true

-- the objects that a set takes the place of have keys: there are such, and they are filed under tokens or counted
abbrev pub keys_replaced : PredDef → Bool
keys_replaced def = not def.list && (is_indexed def.tokens || (def.reverse && def.count))

-- the subject whose objects a change has to know, where its predicate has this definition
abbrev pub read_by : Option PredDef → Change → List Key
read_by None change = []
read_by (Some def) (Set t) = if keys_replaced def then keys.Data t.p t.s ∷ [] else []
read_by (Some def) (Del t) = []

-- the subject whose objects a change has to know
abbrev pub read_key : List PredDef → Change → List Key
read_key schema change = read_by (definition_of schema (changed change).p) change

-- the subjects whose objects changes have to know, ascending
abbrev pub read_keys : List PredDef → List Change → List Key
read_keys schema changes = ascending key_cmp (flat_map (read_key schema) changes)

-- the objects of a subject that has one at most, after a change of it
abbrev pub sole_after : List Posting → Change → List Posting
sole_after objects (Set t) = t.o ∷ []
sole_after objects (Del t) = without_one posting_cmp objects t.o

-- the objects at such a subject's key, after a change of any
abbrev pub kept_after : Change → Key → List Posting → List Posting
kept_after change (keys.Data p s) objects = if is_of_subject p s (changed change) then sole_after objects change else objects
kept_after change key objects = objects

-- of the objects of a change's subject those that it takes the place of, where they have keys
abbrev pub replaced : PredDef → List Posting → Change → List Posting
replaced def objects (Set t) = if keys_replaced def then objects else []
replaced def objects (Del t) = []

-- the keys of the tokens of an object by one tokenizer
abbrev pub keys_of_tokens : PredDef → Triple → Posting → Tokenizer → List ConflictKey
keys_of_tokens def t object tokenizer = flat_map (keys_of_token def t) (tokens_of_object tokenizer object)

-- the keys of objects that are counted, by their nodes
abbrev pub counted_keys : PredDef → Triple → List Posting → List ConflictKey
counted_keys def t objects = if def.reverse && def.count then flat_map (reverse_keys t) objects else []

-- the keys of a triple's data and of its count
abbrev pub keys_of_data : PredDef → Triple → ConflictKey
keys_of_data def t = conflicts.Data t.p t.s (if def.list then Some t.o else None)

-- the key of the number of a subject's objects
abbrev pub keys_of_count : PredDef → Triple → List ConflictKey
keys_of_count def t = if def.count then conflicts.Count t.p t.s ∷ [] else []

-- the keys of a change of a triple that takes the place of some objects
abbrev pub keys_with : PredDef → Triple → List Posting → List ConflictKey
keys_with def t objects =
    keys_of_data def t
    ∷ (flat_map (keys_of_object def t) (t.o ∷ objects)
    ++ (keys_of_count def t ++ counted_keys def t (t.o ∷ objects)))

-- the keys of a change, by the objects of its subject
abbrev pub keys_by : Option PredDef → List Posting → Change → List ConflictKey
keys_by None objects change = []
keys_by (Some def) objects change = keys_with def (changed change) (replaced def objects change)
