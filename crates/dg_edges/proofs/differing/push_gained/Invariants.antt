use Rattle.std.proofs.Common.{◌≡◌, ◌++◌, map, take}
use Rattle.dg_delta.specs.declared.op.Op.TheVariants.{Set}
use Rattle.dg_edges.proofs.differing.push_gained.Given as goal

abbrev pub invariant-loop-posting : goal.invariant-loop-posting
invariant-loop-posting l = l.found.items ≡ l.initial.found.items ++ map Set (take l.posting-index l.gained)
