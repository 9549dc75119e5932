use Rattle.std.proofs.Common.{◌≡◌, ◌≤◌, ◌+◌, drop}
use Rattle.dg_schema.specs.Whole.{line_feeds}
use Rattle.dg_schema.proofs.reading.count_line_feeds.Given as goal

abbrev pub invariant-loop-i : goal.invariant-loop-i
invariant-loop-i l = record {
  so_far : l.count + line_feeds (drop l.i l.bytes) ≡ line_feeds l.bytes;
  bound : l.count ≤ l.i;
}
