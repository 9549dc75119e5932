use Rattle.std.proofs.Common.{◌≡◌, map, take}
use Rattle.dg_pages.specs.Entries.{changes_of}
use Rattle.dg_store.proofs.StoreLemmas.{part_change}
use Rattle.dg_store.proofs.store.Store.with_parts.Given as goal

abbrev pub invariant-loop-part : goal.invariant-loop-part
invariant-loop-part l = changes_of l.changes.items ≡ map (part_change l.ts l.self) (take l.part-index l.parts)
