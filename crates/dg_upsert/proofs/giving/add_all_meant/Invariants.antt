use Rattle.std.proofs.Common.{◌≡◌, ◌++◌, flat_map, take}
use Rattle.dg_upsert.specs.Meaning.{statements_meant}
use Rattle.dg_upsert.proofs.giving.add_all_meant.Given as goal

abbrev pub invariant-loop-statement : goal.invariant-loop-statement
invariant-loop-statement l = l.out.items ≡ l.initial.out.items ++ flat_map (statements_meant l.known.names l.known.vars.now.variables) (take l.statement-index l.statements)
