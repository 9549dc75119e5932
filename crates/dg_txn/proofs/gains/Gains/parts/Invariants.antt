use Rattle.std.proofs.Common.{◌≡◌, take}
use Rattle.dg_pages.specs.Paged.{joined}
use Rattle.dg_txn.specs.Gains.{parts_from}
use Rattle.dg_txn.proofs.gains.Gains.parts.Given as goal

abbrev pub invariant-loop-at : goal.invariant-loop-at
invariant-loop-at l = l.parts.items ≡ parts_from (joined (take l.at l.lists))
