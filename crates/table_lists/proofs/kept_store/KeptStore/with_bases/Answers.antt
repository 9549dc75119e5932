use Rattle.std.proofs.Common.{arith}
use Rattle.dg_store.specs.Stores.{bases_of}
use Rattle.table_lists.proofs.Within.{bases_below, bases_within}
use Rattle.table_lists.proofs.kept_store.KeptStore.with_bases.Goals as goal

pub with_bases-requires-clause-from : goal.with_bases-requires-clause-from
with_bases-requires-clause-from c =
    let kept = c.self.inside in
    bases_below kept.rolled kept.newest c.args.upto kept.store (bases_of c.as_slice-2.result.now) c.if-upto-self.false c.self.invariant

pub invariant_of-result : goal.invariant_of-result
invariant_of-result c =
    let kept = c.self.inside in
    rw c.in_ok-store.ensures (bases_within kept.rolled kept.newest c.args.upto c.max.result kept.store (bases_of c.as_slice-2.result.now) c.if-upto-self.false (omega (arith, c.max.ensures)) (omega (arith, c.max.ensures)) c.self.invariant)
