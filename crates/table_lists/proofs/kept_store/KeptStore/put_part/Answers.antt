use Rattle.std.proofs.Common.{[], ◌∷◌}
use Rattle.table_lists.proofs.Within.{parts_newer, record_within}
use Rattle.table_lists.proofs.kept_store.KeptStore.put_part.Goals as goal

pub put_part-requires-clause-newer : goal.put_part-requires-clause-newer
put_part-requires-clause-newer c =
    let kept = c.self.inside in
    (parts_newer kept.rolled kept.newest c.args.ts kept.store (c.args.part.now ∷ []) c.if-ts-self.false c.self.invariant).0

pub invariant_of-self-2 : goal.invariant_of-self-2
invariant_of-self-2 c =
    let kept = c.self.inside in
    rw c.in_ok-put_part.ensures.ok (record_within kept.rolled kept.newest c.args.ts kept.store (c.args.part.now ∷ []) c.if-ts-self.false c.self.invariant)
