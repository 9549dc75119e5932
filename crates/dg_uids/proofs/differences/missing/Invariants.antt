use Rattle.std.proofs.Common.{◌≡◌, ◌++◌, drop}
use Rattle.std.specs.Ordering.{nat_cmp}
use Rattle.dg_values.specs.Ascending.{Ascends}
use Rattle.dg_uids.specs.Sets.{lacking}
use Rattle.dg_uids.proofs.differences.missing.Given as goal

abbrev pub invariant-loop-uid : goal.invariant-loop-uid
invariant-loop-uid l = record {
  ascends : Ascends nat_cmp l.rest;
  so_far : l.list.items ++ lacking (drop l.uid-index l.few) l.rest ≡ lacking l.few l.many;
}
