use Rattle.std.specs.List.{AllByRecursion}
use Rattle.dg_values.specs.Ascending.{Ascends}
use Rattle.dg_delta.specs.Ops.{op_cmp}
use Rattle.table_lists.proofs.bench.stores.parts.Given as goal

abbrev pub invariant-loop-subject : goal.invariant-loop-subject
invariant-loop-subject l = AllByRecursion (λ part. Ascends op_cmp part.ops) l.parts
