use Rattle.std.proofs.Common.{◌+◌, subst, sym}
use Rattle.dg_store.specs.Stores.{held_parts}
use Rattle.table_lists.proofs.KeptLists.{AllBelow, parts_below, after_below, next_below}
use Rattle.table_lists.proofs.bench.stores.put.Goals as goal

pub with_record-requires-clause-newer : goal.with_record-requires-clause-newer
with_record-requires-clause-newer c =
    parts_below c.args.rec.now.ts c.args.store.now (held_parts c.args.held.now c.args.rec.now.parts) c.requires.after c.requires.newer

pub returns : goal.returns
returns c =
    let ts = c.args.rec.now.ts in
    let start = c.args.store.now in
    subst (AllBelow (1 + ts)) (sym c.in_ok-with_record.ensures) (after_below ts start (held_parts c.args.held.now c.args.rec.now.parts) (next_below ts start c.requires.newer))
