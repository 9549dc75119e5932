use Rattle.dg_store.specs.Stores.{held_parts}
use Rattle.table_lists.proofs.Within.{parts_newer, record_within}
use Rattle.table_lists.proofs.kept_store.KeptStore.with_record.Goals as goal

pub with_record-requires-clause-newer : goal.with_record-requires-clause-newer
with_record-requires-clause-newer c =
    let kept = c.self.inside in
    let parts = held_parts c.args.held.now c.args.rec.now.parts in
    parts_newer kept.rolled kept.newest c.args.rec.now.ts kept.store parts c.if-rec-self.false c.self.invariant

pub invariant_of-result : goal.invariant_of-result
invariant_of-result c =
    let kept = c.self.inside in
    let parts = held_parts c.args.held.now c.args.rec.now.parts in
    rw c.in_ok-store.ensures (record_within kept.rolled kept.newest c.args.rec.now.ts kept.store parts c.if-rec-self.false c.self.invariant)
