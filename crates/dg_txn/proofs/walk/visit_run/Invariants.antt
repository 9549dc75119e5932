use Rattle.std.proofs.Common.{◌≡◌, ◌≤◌, ◌++◌, take}
use Rattle.std.specs.Prelude.{flat_map}
use Rattle.dg_pages.specs.Entries.{entries_of}
use Rattle.dg_txn.specs.Walks.{entry_shows}
use Rattle.dg_txn.proofs.walk.visit_run.Given as goal

abbrev pub invariant-loop-key : goal.invariant-loop-key
invariant-loop-key g l = (l.found.items ≡ l.initial.found.items ++ flat_map (entry_shows l.span l.at l.gains) (entries_of (take l.key-index l.run))) × (l.initial.reads ≤ l.reads)
