use Rattle.std.proofs.Common.{◌≡◌, map, take}
use Rattle.dg_pages.specs.Entries.{changes_of}
use Rattle.dg_store.specs.Stores.{bases_of}
use Rattle.dg_store.proofs.StoreLemmas.{base_change}
use Rattle.dg_store.proofs.store.Store.with_bases.Given as goal

abbrev pub invariant-loop-pair : goal.invariant-loop-pair
invariant-loop-pair l = changes_of l.changes.items ≡ map (base_change l.upto l.self) (bases_of (take l.pair-index l.bases))
