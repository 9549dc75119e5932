use Rattle.std.proofs.Common.{◌≡◌, List, ◌++◌, false, take}
use Rattle.dg_schema.specs.declared.definition.PredDef.{PredDef}
use Rattle.dg_check.specs.Parts.{AreFieldsOf}
use Rattle.dg_check.specs.Variables.{Definition}
use Rattle.dg_tree.specs.Texts.{tree_text}
use Rattle.dg_level.specs.Aggregates.{objects_of_field}
use Rattle.dg_level.specs.Parts.{parts_text, has_parts}
use Rattle.dg_level.proofs.RunLaws.{texts_of}
use Rattle.dg_level.proofs.aggregates.push_objects.Given as goal

-- the objects so far are written
abbrev pub invariant-loop-place : goal.invariant-loop-place
invariant-loop-place l =
    (schema : List PredDef) (ds : List Definition) → AreFieldsOf schema ds l.fields l.kept
    → (l.out ≡ l.initial.out ++ parts_text false (texts_of (objects_of_field ds l.folds) tree_text (take l.place l.fields)))
    × (l.wrote ≡ has_parts false (texts_of (objects_of_field ds l.folds) tree_text (take l.place l.fields)))
