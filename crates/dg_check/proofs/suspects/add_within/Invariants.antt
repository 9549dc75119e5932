use Rattle.std.proofs.Common.{◌≡◌, ◌++◌, map, take}
use Rattle.dg_check.specs.RunOrder.{blocks_under}
use Rattle.dg_check.specs.Numbers.{used_within}
use Rattle.dg_check.proofs.suspects.add_within.Given as goal

abbrev pub invariant-loop-name : goal.invariant-loop-name
invariant-loop-name l = l.names ≡ l.initial.names ++ used_within l.numbers (blocks_under l.under) l.number (map (λ name. name.now) (take l.name-index l.used))
