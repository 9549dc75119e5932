use Rattle.std.proofs.Common.{arith}
use Rattle.std.specs.Arc.{arc_value}
use Rattle.table_lists.proofs.Within.{found_within, rolled_within}
use Rattle.table_lists.proofs.kept_store.KeptStore.with_base.Goals as goal

pub with_base-requires-clause-from : goal.with_base-requires-clause-from
with_base-requires-clause-from c =
    let kept = c.self.inside in
    let found = found_within kept.rolled kept.newest c.args.key.now kept.store c.self.invariant in
    omega (arith, found.base, c.if-upto-self.false)

pub invariant_of-result : goal.invariant_of-result
invariant_of-result c =
    let kept = c.self.inside in
    rw c.in_ok-store.ensures (rolled_within kept.rolled kept.newest c.args.upto c.max.result c.args.key.now (arc_value c.in_ok-base.base) kept.store c.if-upto-self.false (omega (arith, c.max.ensures)) (omega (arith, c.max.ensures)) c.self.invariant)
