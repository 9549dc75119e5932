use Rattle.std.proofs.Common.{◌≡◌, List, [], flat_map, take}
use Rattle.dg_schema.specs.declared.definition.PredDef.{PredDef}
use Rattle.dg_check.specs.Parts.{AreFieldsOf}
use Rattle.dg_check.specs.Variables.{Definition}
use Rattle.dg_level.specs.Aggregates.{beyond_of_field}
use Rattle.dg_level.proofs.aggregates.beyond_in_fields.Given as goal

-- none so far
abbrev pub invariant-loop-place : goal.invariant-loop-place
invariant-loop-place l = (schema : List PredDef) (ds : List Definition) → AreFieldsOf schema ds l.fields l.kept → flat_map (beyond_of_field ds l.folds) (take l.place l.fields) ≡ []
