use Rattle.std.proofs.Common.{◌≡◌, ◌++◌, drop}
use Rattle.std.specs.Ordering.{nat_cmp}
use Rattle.dg_values.specs.Ascending.{Ascends}
use Rattle.dg_uids.specs.Sets.{either}
use Rattle.dg_uids.proofs.unions.spliced.Given as goal

abbrev pub invariant-loop-uid : goal.invariant-loop-uid
invariant-loop-uid l = record {
  ascends : Ascends nat_cmp l.rest;
  so_far : l.list.items ++ either l.rest (drop l.uid-index l.few) ≡ either l.many l.few;
}
