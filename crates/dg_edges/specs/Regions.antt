-- The triples that a conflict key stands for, and the conflict key on which it depends whether a key lists a posting.
use Rattle.std.specs.Prelude.{◌≡◌, true, List, [], Option, Some, None}
use Rattle.dg_values.specs.Ascending.{has}
use Rattle.dg_values.specs.declared.value.Posting.{Posting}
use Rattle.dg_values.specs.declared.value.Posting.TheVariants.{Uid, Val}
use Rattle.dg_schema.specs.declared.definition.PredDef.{PredDef}
use Rattle.dg_schema.specs.Definitions.{definition_of}
use Rattle.dg_graph.specs.declared.change.Triple.{Triple}
use Rattle.dg_graph.specs.declared.change.Change.TheVariants.{Del}
use Rattle.dg_graph.specs.Changes.{has_triple}
use Rattle.dg_keys.specs.declared.key.Key.{Key}
use Rattle.dg_keys.specs.declared.key.Key.TheVariants as keys
use Rattle.dg_keys.specs.declared.conflict.ConflictKey.{ConflictKey}
use Rattle.dg_keys.specs.declared.conflict.ConflictKey.TheVariants as conflicts
use Rattle.dg_keys.specs.Conflicts.{conflict_cmp}
use Rattle.dg_zero.specs.Listings.{keys_of_change}
use Rattle.dg_edges.specs.Deltas.{data_conflict}

-- the keys of a triple: those by which its deletion conflicts
abbrev pub triple_keys : List PredDef → Triple → List ConflictKey
triple_keys schema t = keys_of_change (definition_of schema t.p) [] (Del t)

-- the key is one of the triple's
abbrev pub IsIn : List PredDef → ConflictKey → Triple → Type 0
IsIn schema key t = has conflict_cmp (triple_keys schema t) key ≡ true

-- two graphs have the same triples of this key
abbrev pub AgreeIn : List PredDef → ConflictKey → List Triple → List Triple → Type 0
AgreeIn schema key graph later = (t : Triple) → IsIn schema key t → has_triple graph t ≡ has_triple later t

-- the conflict key whose triples say whether a key lists a posting, where there is one
abbrev pub listing_conflict : List PredDef → Key → Posting → Option ConflictKey
listing_conflict schema (keys.Data p s) o = Some (data_conflict schema (record { s = s; p = p; o = o }))
listing_conflict schema (keys.Index p t) (Uid s) = Some (conflicts.Index p t (Some s))
listing_conflict schema (keys.Index p t) (Val value) = None
listing_conflict schema (keys.Reverse p o) (Uid s) = Some (data_conflict schema (record { s = s; p = p; o = Uid o }))
listing_conflict schema (keys.Reverse p o) (Val value) = None
listing_conflict schema (keys.Count p n) (Uid s) = Some (conflicts.Count p s)
listing_conflict schema (keys.Count p n) (Val value) = None
listing_conflict schema (keys.RCount p n) (Uid o) = Some (conflicts.RCount p o)
listing_conflict schema (keys.RCount p n) (Val value) = None
