use Rattle.table_lists.proofs.Within.{parts_newer, record_within}
use Rattle.table_lists.proofs.kept_store.KeptStore.with_parts.Goals as goal

pub with_parts-requires-clause-newer : goal.with_parts-requires-clause-newer
with_parts-requires-clause-newer c =
    let kept = c.self.inside in
    parts_newer kept.rolled kept.newest c.args.ts kept.store c.args.parts.now c.if-ts-self.false c.self.invariant

pub invariant_of-result : goal.invariant_of-result
invariant_of-result c =
    let kept = c.self.inside in
    rw c.in_ok-store.ensures (record_within kept.rolled kept.newest c.args.ts kept.store c.args.parts.now c.if-ts-self.false c.self.invariant)
