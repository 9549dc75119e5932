use Rattle.std.proofs.Common.{◌≡◌, take, drop}
use Rattle.std.specs.Prelude.{Some}
use Rattle.std.specs.List.{list_all}
use Rattle.dg_check.specs.Faults.{reads_as}
use Rattle.dg_check.specs.Plans.{literals_read}
use Rattle.dg_check.proofs.reading.values_of.Given as goal

-- what is left decides, and the values so far
abbrev pub invariant-loop-literal : goal.invariant-loop-literal
invariant-loop-literal l = record {
  all : list_all (reads_as (Some l.kind)) (drop l.literal-index l.literals) ≡ list_all (reads_as (Some l.kind)) l.literals;
  values : l.values.items ≡ literals_read (Some l.kind) (take l.literal-index l.literals);
}
