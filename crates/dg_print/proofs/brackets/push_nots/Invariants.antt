use Rattle.std.proofs.Common.{◌≡◌, ◌++◌}
use Rattle.dg_text.specs.Written.{written}
use Rattle.dg_print.specs.Printed.{nots}
use Rattle.dg_print.proofs.brackets.push_nots.Given as goal

abbrev pub invariant-loop-not : goal.invariant-loop-not
invariant-loop-not l = l.out ≡ l.fn.out ++ written (nots l._not)
