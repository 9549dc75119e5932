use Rattle.std.proofs.Common.{◌≡◌, drop}
use Rattle.dg_schema.specs.Grammar.{distinct}
use Rattle.dg_schema.proofs.checks.are_distinct.Given as goal

abbrev pub invariant-loop-i : goal.invariant-loop-i
invariant-loop-i l = distinct (drop l.i l.listed) ≡ distinct l.listed
