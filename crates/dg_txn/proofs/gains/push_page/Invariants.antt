use Rattle.std.proofs.Common.{◌≡◌, ◌++◌, take}
use Rattle.dg_pages.specs.Entries.{entries_of}
use Rattle.dg_txn.specs.Gains.{parts_from}
use Rattle.dg_txn.proofs.gains.push_page.Given as goal

abbrev pub invariant-loop-key : goal.invariant-loop-key
invariant-loop-key l = l.parts.items ≡ l.initial.parts.items ++ parts_from (entries_of (take l.key-index l.page))
