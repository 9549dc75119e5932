use Rattle.std.proofs.Common.{◌≡◌, map, take}
use Rattle.dg_pages.specs.Entries.{changes_of}
use Rattle.dg_txn.specs.Gains.{change_by}
use Rattle.dg_txn.proofs.gains.Gains.changes.Given as goal

abbrev pub invariant-loop-part : goal.invariant-loop-part
invariant-loop-part l = changes_of l.changes.items ≡ map (change_by l.self) (take l.part-index l.step)
