use Rattle.std.specs.Prelude.{option_map}
use Rattle.std.specs.Arc.{arc_value}
use Rattle.dg_txn.proofs.Scanning.{Scanned, left_from}
use Rattle.dg_txn.proofs.existing.any_listed.Given as goal

abbrev pub invariant-loop-next : goal.invariant-loop-next
invariant-loop-next g l = Scanned l.pred l.at l.store (option_map (λ p. (arc_value p.0.now, arc_value p.1.now)) l.next)

abbrev pub decreases-loop-next : goal.decreases-loop-next
decreases-loop-next g l = left_from l.store (option_map (λ p. (arc_value p.0.now, arc_value p.1.now)) l.next)
