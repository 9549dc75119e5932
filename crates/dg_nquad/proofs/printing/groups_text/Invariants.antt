use Rattle.std.proofs.Common.{◌≡◌, ◌++◌, take, codes}
use Rattle.dg_nquad.proofs.Printed.{all_alone}
use Rattle.dg_nquad.proofs.printing.groups_text.Given as goal

abbrev pub invariant-loop-statement : goal.invariant-loop-statement
invariant-loop-statement l = l.text ≡ codes "{ " ++ all_alone (take l.statement-index l.statements)
