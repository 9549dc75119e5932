-- Parts by their keys, and the subjects, predicates and triples of changes.
use Rattle.std.specs.Prelude.{◌≡◌, ℕ, true, false, List, [], ◌∷◌, Some, None, if◌then◌else◌, map}
use Rattle.std.specs.List.{AllByRecursion}
use Rattle.dg_values.specs.Order.{text_cmp}
use Rattle.dg_values.specs.Ascending.{ascending}
use Rattle.dg_delta.specs.declared.op.Op.{Op}
use Rattle.dg_delta.specs.Ops.{changes_between}
use Rattle.dg_schema.specs.declared.definition.PredDef.{PredDef}
use Rattle.dg_graph.specs.declared.change.Triple.{Triple}
use Rattle.dg_graph.specs.declared.change.Change.{Change}
use Rattle.dg_graph.specs.Graphs.{fits}
use Rattle.dg_schema.specs.Definitions.{is_single}
use Rattle.dg_graph.specs.Changes.{changed}
use Rattle.dg_keys.specs.declared.key.Key.{Key}
use Rattle.dg_keys.specs.declared.key.Key.TheVariants as keys
use Rattle.dg_keys.specs.declared.conflict.ConflictKey.{ConflictKey}
use Rattle.dg_keys.specs.declared.conflict.ConflictKey.TheVariants as conflicts
use Rattle.dg_keys.specs.declared.record.Part.{Part}
use Rattle.dg_keys.specs.Keys.{key_cmp}
use Rattle.dg_zero.specs.Listings.{listing}

-- a part before others, where there are operations
abbrev pub and_part : Key → List Op → List Part → List Part
and_part key [] parts = parts
and_part key (op ∷ ops) parts = (record { key = key; ops = op ∷ ops }) ∷ parts

-- the parts of some keys, by what the operations of each are
abbrev pub parts_at : (Key → List Op) → List Key → List Part
parts_at ops [] = []
parts_at ops (key ∷ more) = and_part key (ops key) (parts_at ops more)

-- what a key's list gains and loses from one graph to another
abbrev pub gains : List PredDef → List Triple → List Triple → Key → List Op
gains schema graph new_graph key = changes_between (listing schema graph key) (listing schema new_graph key)

-- the key of the list that a change is made in
abbrev pub data_key : Change → Key
data_key change = keys.Data (changed change).p (changed change).s

-- the keys of the subjects that are changed, ascending
abbrev pub data_keys : List Change → List Key
data_keys changes = ascending key_cmp (map data_key changes)

-- the key by which changes of a triple conflict: of its subject, and also of its object where there may be several
abbrev pub data_conflict : List PredDef → Triple → ConflictKey
data_conflict schema t = conflicts.Data t.p t.s (if is_single schema t.p then None else Some t.o)

-- the keys by which changes of triples conflict
abbrev pub data_conflicts : List PredDef → List Change → List ConflictKey
data_conflicts schema changes = map (λ c. data_conflict schema (changed c)) changes

-- the predicates of changes, ascending
abbrev pub preds_of : List Change → List (List ℕ)
preds_of changes = ascending text_cmp (map (λ c. (changed c).p) changes)

-- each change is of a triple of a declared predicate, with an object of that predicate's kind
abbrev pub AreFitting : List PredDef → List Change → Type 0
AreFitting schema changes = AllByRecursion (λ c. fits schema (changed c) ≡ true) changes
