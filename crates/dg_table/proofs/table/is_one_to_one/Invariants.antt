use Rattle.std.proofs.Common.{◌≡◌, drop}
use Rattle.dg_table.specs.Rows.{rows_of}
use Rattle.dg_table.specs.Tests.{is_one_to_one}
use Rattle.dg_table.proofs.table.is_one_to_one.Given as goal

abbrev pub invariant-loop-i : goal.invariant-loop-i
invariant-loop-i g l =
    is_one_to_one (rows_of g.S.Name.bytes (drop l.i l.rows)) ≡ is_one_to_one (rows_of g.S.Name.bytes l.rows)
