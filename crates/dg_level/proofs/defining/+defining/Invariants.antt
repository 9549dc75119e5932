use Rattle.std.proofs.Common.{◌≡◌, false, take, drop}
use Rattle.std.specs.List.{list_any}
use Rattle.dg_level.specs.Defining.{field_defines, FieldsGiveNothing}
use Rattle.dg_level.proofs.defining.+defining.Given as goal

-- none so far defines a variable, and where those behind make nothing known, all do
abbrev pub invariant-any_defines-loop-field : goal.invariant-any_defines-loop-field
invariant-any_defines-loop-field l = record {
  none : list_any field_defines (take l.field-index l.fields) ≡ false;
  rest : FieldsGiveNothing (drop l.field-index l.fields) → FieldsGiveNothing l.fields;
}
