use Rattle.std.proofs.Common.{List}
use Rattle.dg_schema.specs.declared.definition.PredDef.{PredDef}
use Rattle.dg_check.specs.Variables.{Definition}
use Rattle.dg_check.specs.Parts.{AreFieldsOf, asked_of_field}
use Rattle.dg_check.proofs.PartLaws.{IsSoFar}
use Rattle.dg_check.proofs.building.+field.Given as goal

-- the fields so far, and what is left
abbrev pub invariant-fields_of-loop-field : goal.invariant-fields_of-loop-field
invariant-fields_of-loop-field l = (schema : List PredDef) (ds : List Definition) → IsSoFar schema ds asked_of_field (AreFieldsOf schema ds) l.fields l.initial.reads.items l.field-index l.out.items l.reads.items
