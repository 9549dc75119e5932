use Rattle.std.specs.Prelude.{take}
use Rattle.dg_parse.specs.Slots.{AreIndexed}
use Rattle.dg_parse.proofs.slots.grouped.Given as goal

abbrev pub invariant-loop-i : goal.invariant-loop-i
invariant-loop-i l = AreIndexed (take l.i l.fields) l.index.groups.items l.index.others
