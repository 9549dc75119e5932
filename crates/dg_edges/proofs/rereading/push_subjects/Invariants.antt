use Rattle.std.proofs.Common.{◌≡◌, ◌++◌, map, take}
use Rattle.dg_keys.specs.declared.key.Key.TheVariants.{Data}
use Rattle.dg_edges.proofs.rereading.push_subjects.Given as goal

abbrev pub invariant-loop-s : goal.invariant-loop-s
invariant-loop-s l = l.keys.items ≡ l.fn.keys.items ++ map (Data l.p) (take l.s-index l.subjects)
