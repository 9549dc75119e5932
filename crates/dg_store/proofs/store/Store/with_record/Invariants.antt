use Rattle.std.proofs.Common.{◌≡◌, map, take}
use Rattle.dg_pages.specs.Entries.{changes_of}
use Rattle.dg_store.specs.Stores.{held_parts}
use Rattle.dg_store.proofs.StoreLemmas.{part_change}
use Rattle.dg_store.proofs.store.Store.with_record.Given as goal

abbrev pub invariant-loop-part : goal.invariant-loop-part
invariant-loop-part l = changes_of l.changes.items ≡ map (part_change l.rec.ts l.self) (held_parts l.held (take l.part-index l.rec.parts))
