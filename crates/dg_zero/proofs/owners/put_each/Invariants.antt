use Rattle.std.proofs.Common.{◌≡◌, ◌+◌, ◌≤◌, fold, length}
use Rattle.std.specs.Prelude.{vec_len, vec_capacity}
use Rattle.dg_values.specs.Ascending.{Ascends, with_one}
use Rattle.dg_keys.specs.Tablets.{tablet_cmp}
use Rattle.dg_zero.proofs.owners.put_each.Given as goal

abbrev pub invariant-loop-tablet : goal.invariant-loop-tablet
invariant-loop-tablet l = record {
  so_far : l.tablets.items ≡ fold (with_one tablet_cmp) l.initial.tablets.items l.yielded;
  ascends : Ascends tablet_cmp l.tablets.items;
  room : vec_len l.tablets + length l.fn.more.items ≤ vec_capacity l.tablets + length l.yielded;
}
