use Rattle.std.proofs.Common.{List}
use Rattle.dg_parse.specs.declared.query.QDir.{QDir}
use Rattle.dg_schema.specs.declared.definition.PredDef.{PredDef}
use Rattle.dg_check.specs.declared.parts.Filter.{Filter}
use Rattle.dg_check.specs.Variables.{Definition}
use Rattle.dg_check.specs.Parts.{AreFiltersOf, filters_in, asked_of_dir}
use Rattle.dg_check.proofs.PartLaws.{IsSoFar}
use Rattle.dg_check.proofs.building.filters_in.Given as goal

-- the filters so far, and what is left
abbrev pub invariant-loop-dir : goal.invariant-loop-dir
invariant-loop-dir l = (schema : List PredDef) (ds : List Definition) → IsSoFar schema ds asked_of_dir (λ (list : List QDir) (fs : List Filter). AreFiltersOf schema ds (filters_in list) fs) l.dirs l.initial.reads.items l.dir-index l.out.items l.reads.items
