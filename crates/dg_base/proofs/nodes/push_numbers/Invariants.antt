use Rattle.std.proofs.Common.{◌≡◌, ◌++◌, ℕ, List, ◌≤◌, length, take, drop, map}
use Rattle.dg_values.specs.declared.value.Posting.TheVariants.{Uid}
use Rattle.dg_base.specs.Cursors.{StandsBefore}
use Rattle.dg_base.proofs.nodes.push_numbers.Given as goal

abbrev pub invariant-loop-read : goal.invariant-loop-read
invariant-loop-read l = record {
  stands : (xs : List ℕ) → l.most ≤ length xs → StandsBefore l.bytes l.fn.start xs → StandsBefore l.bytes l.cursor (drop l._read xs);
  so_far : (xs : List ℕ) → l.most ≤ length xs → StandsBefore l.bytes l.fn.start xs → l.items.items ≡ l.initial.items.items ++ map (λ n. Uid n) (take l._read xs);
}
