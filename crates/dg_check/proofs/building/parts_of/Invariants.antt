use Rattle.std.proofs.Common.{List}
use Rattle.dg_schema.specs.declared.definition.PredDef.{PredDef}
use Rattle.dg_check.specs.Variables.{Definition}
use Rattle.dg_check.specs.Parts.{AreBlocksOf, asked_of_block}
use Rattle.dg_check.proofs.PartLaws.{IsSoFar}
use Rattle.dg_check.proofs.building.parts_of.Given as goal

-- the blocks so far, and what is left
abbrev pub invariant-loop-block : goal.invariant-loop-block
invariant-loop-block l = (schema : List PredDef) (ds : List Definition) → IsSoFar schema ds asked_of_block (AreBlocksOf schema ds) l.blocks l.initial.reads.items l.block-index l.out.items l.reads.items
