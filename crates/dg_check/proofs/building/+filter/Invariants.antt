use Rattle.std.proofs.Common.{List}
use Rattle.dg_schema.specs.declared.definition.PredDef.{PredDef}
use Rattle.dg_check.specs.Variables.{Definition}
use Rattle.dg_check.specs.Parts.{AreFiltersOf, asked_of_filter}
use Rattle.dg_check.proofs.PartLaws.{IsSoFar}
use Rattle.dg_check.proofs.building.+filter.Given as goal

-- the filters so far, and what is left
abbrev pub invariant-filters_of-loop-filter : goal.invariant-filters_of-loop-filter
invariant-filters_of-loop-filter l = (schema : List PredDef) (ds : List Definition) → IsSoFar schema ds asked_of_filter (AreFiltersOf schema ds) l.filters l.initial.reads.items l.filter-index l.made.items l.reads.items
