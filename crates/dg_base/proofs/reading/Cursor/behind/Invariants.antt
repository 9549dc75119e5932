use Rattle.std.proofs.Common.{ℕ, List, ◌≤◌, length, drop}
use Rattle.dg_base.specs.Cursors.{StandsBefore}
use Rattle.dg_base.proofs.reading.Cursor.behind.Given as goal

abbrev pub invariant-loop-read : goal.invariant-loop-read
invariant-loop-read l = (xs : List ℕ) → l.most ≤ length xs → StandsBefore l.bytes l.fn.self xs → StandsBefore l.bytes l.cursor (drop l._read xs)
