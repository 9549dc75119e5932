-- The schema and the graph at each timestamp of a history.
use Rattle.std.specs.Prelude.{ℕ, nat_le, if◌then◌else◌, List, [], fold, map, flat_map}
use Rattle.dg_schema.specs.declared.definition.PredDef.{PredDef}
use Rattle.dg_schema.specs.Definitions.{with_definitions}
use Rattle.dg_graph.specs.declared.change.Triple.{Triple}
use Rattle.dg_graph.specs.declared.change.Change.{Change}
use Rattle.dg_graph.specs.declared.change.Change.TheVariants as changes
use Rattle.dg_graph.specs.Graphs.{after_changes}
use Rattle.dg_delta.specs.declared.op.Op.{Op}
use Rattle.dg_delta.specs.declared.op.Op.TheVariants as ops
use Rattle.dg_keys.specs.declared.key.Key.{Key}
use Rattle.dg_keys.specs.declared.key.Key.TheVariants.{Data}
use Rattle.dg_keys.specs.declared.record.Part.{Part}
use Rattle.dg_zero.specs.declared.entry.Entry.{Entry}
use Rattle.dg_zero.specs.declared.entry.Event.{Event}
use Rattle.dg_zero.specs.declared.entry.Event.TheVariants.{Commit, Alter}

-- the change of a triple that an operation on a subject's objects is
abbrev pub change_of : List ℕ → ℕ → Op → Change
change_of p s (ops.Set o) = changes.Set (record { s = s; p = p; o = o })
change_of p s (ops.Del o) = changes.Del (record { s = s; p = p; o = o })

-- the changes that the operations at a key are: those at a data key change triples, others none
abbrev pub changes_at : Key → List Op → List Change
changes_at (Data p s) ops = map (change_of p s) ops
changes_at key ops = []

-- the changes that the data parts of a record are
abbrev pub changes_of : List Part → List Change
changes_of parts = flat_map (λ part. changes_at part.key part.ops) parts

-- a schema and a graph under it
pub record World : Type 0 where
  pub schema : List PredDef
  pub graph : List Triple

-- nothing is declared, and there is no triple
abbrev pub empty_world : World
empty_world = record { schema = []; graph = [] }

-- after an event: an alter adds or replaces definitions, and the data parts of a commit are changes under the schema at its timestamp
abbrev pub world_after : World → Event → World
world_after w (Alter start newer written) = record { schema = with_definitions w.schema newer; graph = w.graph }
world_after w (Commit start preds keys asked written) = record { schema = w.schema; graph = after_changes w.schema w.graph (changes_of written.parts) }
world_after w event = w

-- the timestamp at which an event changes the world
abbrev pub stamp : Event → ℕ
stamp (Commit start preds keys asked written) = written.ts
stamp (Alter start newer written) = written.ts
stamp event = 0

-- the world after an entry, if its event is at or below a timestamp
abbrev pub world_upto : ℕ → World → Entry → World
world_upto at w e = if nat_le (stamp e.event) at then world_after w e.event else w

-- the world at a timestamp: after the alters and commits at or below it, in order
abbrev pub world_at : List Entry → ℕ → World
world_at history at = fold (world_upto at) empty_world history

-- the present world: after all of them
abbrev pub world : List Entry → World
world history = fold (λ w e. world_after w e.event) empty_world history

-- the schema at a timestamp
abbrev pub schema_at : List Entry → ℕ → List PredDef
schema_at history at = (world_at history at).schema

-- the graph at a timestamp, and then changes of one's own, under the schema at that timestamp
abbrev pub graph_at : List Entry → ℕ → List Change → List Triple
graph_at history at own = after_changes (schema_at history at) (world_at history at).graph own

-- the present schema
abbrev pub schema : List Entry → List PredDef
schema history = (world history).schema
