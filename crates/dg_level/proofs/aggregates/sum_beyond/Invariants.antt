use Rattle.std.proofs.Common.{◌≡◌, List, [], take}
use Rattle.dg_schema.specs.declared.definition.PredDef.{PredDef}
use Rattle.dg_check.specs.Parts.{AreBlocksOf}
use Rattle.dg_check.specs.Variables.{Definition}
use Rattle.dg_level.specs.Aggregates.{sums_beyond}
use Rattle.dg_level.proofs.aggregates.sum_beyond.Given as goal

-- none so far
abbrev pub invariant-loop-at : goal.invariant-loop-at
invariant-loop-at l = (schema : List PredDef) (ds : List Definition) → AreBlocksOf schema ds l.blocks l.kept → sums_beyond ds l.folds (take l.at l.blocks) ≡ []
