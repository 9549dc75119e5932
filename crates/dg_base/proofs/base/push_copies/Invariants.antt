use Rattle.std.proofs.Common.{◌≡◌, ◌++◌, take}
use Rattle.dg_base.proofs.base.push_copies.Given as goal

abbrev pub invariant-loop-item : goal.invariant-loop-item
invariant-loop-item l = l.copied.items ≡ l.initial.copied.items ++ take l.item-index l.items
