use Rattle.std.proofs.Common.{arith}
use Rattle.std.specs.Arc.{arc_value}
use Rattle.table_lists.proofs.Within.{base_within}
use Rattle.table_lists.proofs.kept_list.KeptList.with_base.Goals as goal

pub invariant_of-result : goal.invariant_of-result
invariant_of-result c =
    let kept = c.self.inside in
    rw c.in_ok-list.ensures.layers (base_within kept.rolled kept.newest c.args.upto c.max.result kept.list (arc_value c.in_ok-base.base) (omega (arith, c.max.ensures)) (omega (arith, c.max.ensures)) c.self.invariant)
