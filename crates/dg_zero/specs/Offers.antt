-- What a transaction offers to commit.
use Rattle.std.specs.Prelude.{◌≡◌, ◌≢◌, ℕ, true, List, []}
use Rattle.std.specs.List.{AllByRecursion}
use Rattle.dg_values.specs.Order.{text_cmp}
use Rattle.dg_values.specs.Ascending.{Ascends, has}
use Rattle.dg_schema.specs.declared.definition.PredDef.{PredDef}
use Rattle.dg_graph.specs.declared.change.Triple.{Triple}
use Rattle.dg_graph.specs.declared.change.Change.{Change}
use Rattle.dg_graph.specs.Graphs.{IsLawful, after_changes}
use Rattle.dg_keys.specs.declared.conflict.ConflictKey.{ConflictKey}
use Rattle.dg_keys.specs.declared.record.Part.{Part}
use Rattle.dg_keys.specs.Conflicts.{conflict_cmp}
use Rattle.dg_keys.specs.Keys.{pred_of}
use Rattle.dg_zero.specs.Worlds.{changes_of}
use Rattle.dg_zero.specs.Listings.{AreGainsAndLosses, conflict_keys}

-- the offer is sound over the graph and the schema at its start: its data parts lead from a lawful graph to a
-- lawful one, all its parts are what lists gain and lose by that, and its keys and predicates name what it touches
pub record IsSound (schema : List PredDef) (graph : List Triple) (preds : List (List ℕ)) (keys : List ConflictKey) (parts : List Part) : Type 0 where
  pub some : preds ≢ []
  pub lawful : IsLawful schema (after_changes schema graph (changes_of parts))
  pub parts_are : AreGainsAndLosses schema graph schema (after_changes schema graph (changes_of parts)) parts
  pub ascend : Ascends conflict_cmp keys
  pub keys_named : AllByRecursion (λ key. has conflict_cmp keys key ≡ true) (conflict_keys schema graph (changes_of parts))
  pub preds_named : AllByRecursion (λ part. has text_cmp preds (pred_of part.key) ≡ true) parts

-- the offer is made of changes as they were asked for: its keys are those by which the changes conflict, and its data parts
-- lead where they lead, over the graph and the schema at its start
pub record IsMadeOf (schema : List PredDef) (graph : List Triple) (asked : List Change) (keys : List ConflictKey) (parts : List Part) : Type 0 where
  pub keys_are : keys ≡ conflict_keys schema graph asked
  pub lead_alike : after_changes schema graph (changes_of parts) ≡ after_changes schema graph asked
