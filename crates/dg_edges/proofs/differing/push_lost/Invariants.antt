use Rattle.std.proofs.Common.{◌≡◌, ◌++◌, map, take}
use Rattle.dg_delta.specs.declared.op.Op.TheVariants.{Del}
use Rattle.dg_edges.proofs.differing.push_lost.Given as goal

abbrev pub invariant-loop-posting : goal.invariant-loop-posting
invariant-loop-posting l = l.found.items ≡ l.initial.found.items ++ map Del (take l.posting-index l.lost)
