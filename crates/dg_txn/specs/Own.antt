-- A transaction's own changes, as what lists gain and lose by them.
use Rattle.std.specs.Prelude.{ℕ, List}
use Rattle.dg_values.specs.declared.value.Posting.{Posting}
use Rattle.dg_delta.specs.Ops.{after_ops}
use Rattle.dg_schema.specs.declared.definition.PredDef.{PredDef}
use Rattle.dg_graph.specs.declared.change.Triple.{Triple}
use Rattle.dg_graph.specs.declared.change.Change.{Change}
use Rattle.dg_graph.specs.Graphs.{after_changes, IsLawful}
use Rattle.dg_keys.specs.declared.key.Key.{Key}
use Rattle.dg_keys.specs.declared.record.Part.{Part}
use Rattle.dg_keys.specs.Keys.{ops_at}
use Rattle.dg_zero.specs.Listings.{AreGainsAndLosses, listing}
use Rattle.dg_edges.specs.Deltas.{AreFitting}

-- what a transaction is seen as: its start, the schema and the graph there, its own changes in their order, and the author
-- of its end
pub record Transaction : Type 0 where
  pub start : ℕ
  pub schema : List PredDef
  pub base : List Triple
  pub own : List Change
  pub author : ℕ

-- the graph that a transaction sees
abbrev pub graph : Transaction → List Triple
graph txn = after_changes txn.schema txn.base txn.own

-- the parts are exactly what lists gain and lose by the changes, which fit, over a lawful graph
pub record AreOwn (schema : List PredDef) (base : List Triple) (own : List Change) (parts : List Part) : Type 0 where
  pub lawful : IsLawful schema base
  pub fitting : AreFitting schema own
  pub exact : AreGainsAndLosses schema base schema (after_changes schema base own) parts

-- what a key lists after own changes that lists gain and lose so much by
abbrev pub seen : List PredDef → List Triple → List Part → Key → List Posting
seen schema base parts key = after_ops (listing schema base key) (ops_at parts key)
