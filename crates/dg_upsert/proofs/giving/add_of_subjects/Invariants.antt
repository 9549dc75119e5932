use Rattle.std.proofs.Common.{◌≡◌, ◌++◌, flat_map, take}
use Rattle.dg_upsert.specs.Meaning.{of_subject}
use Rattle.dg_upsert.proofs.giving.add_of_subjects.Given as goal

abbrev pub invariant-loop-subject : goal.invariant-loop-subject
invariant-loop-subject l = l.out.items ≡ l.initial.out.items ++ flat_map (of_subject l.known.names l.known.vars.now.variables l.statement.delete l.statement.p l.statement.o) (take l.subject-index l.subjects)
