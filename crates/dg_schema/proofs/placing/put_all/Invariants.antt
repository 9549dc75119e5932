use Rattle.std.proofs.Common.{◌≡◌, ◌+◌, ◌≤◌, fold, length}
use Rattle.std.specs.Prelude.{vec_len, vec_capacity}
use Rattle.dg_schema.specs.Definitions.{with_definition}
use Rattle.dg_schema.specs.Places.{IsIndexed}
use Rattle.dg_schema.proofs.placing.put_all.Given as goal

abbrev pub invariant-loop-definition : goal.invariant-loop-definition
invariant-loop-definition l = record {
  so_far : l.definitions.items ≡ fold with_definition l.initial.definitions.items l.yielded;
  indexed : IsIndexed l.definitions.items l.by_name.items;
  room : vec_len l.definitions + length l.fn.newer.items ≤ vec_capacity l.definitions + length l.yielded;
  room_by_name : vec_len l.by_name + length l.fn.newer.items ≤ vec_capacity l.by_name + length l.yielded;
}
