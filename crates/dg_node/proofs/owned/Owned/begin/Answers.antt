use Rattle.std.proofs.Common.{[], subst}
use Rattle.dg_txn.specs.Pins.{ArePinsOf}
use Rattle.dg_zero.specs.Counters.{next}
use Rattle.dg_zero.specs.States.{Zero, owners, IsBeginFault}
use Rattle.dg_zero.specs.Worlds.{schema, graph_at}
use Rattle.dg_node.proofs.Keeping.{looked_owned, begun_owned, pins_of_begun}
use Rattle.dg_node.proofs.owned.Owned.begin.Goals.{in-Ok-begin, in-Err}
use Rattle.dg_node.proofs.owned.Owned.begin.Goals as goal

pub invariant_of-self : goal.invariant_of-self
invariant_of-self c = looked_owned c.self.inside.zero c.look.new.self c.pinned.new.groups.items c.args.slip c.pinned.ensures.owned c.look.ensures.history c.look.ensures.legal

pub invariant_of-self-2 : goal.invariant_of-self-2
invariant_of-self-2 c = begun_owned c.self.inside.zero c.begin.new.self c.pinned.new.groups.items c.args.slip (next c.self.inside.zero.history) c.begin.result c.pinned.ensures.owned c.begin.ensures.ok c.begin.ensures.err c.begin.ensures.legal

pub returns-clause-pins : goal.returns-clause-pins
returns-clause-pins c = elim c.match-begin.branch [
  | in-Ok-begin w ↦ rw w.result-is (subst (λ (z : Zero). ArePinsOf (next z.history) (schema z.history) (owners z.history) c.in-Ok.pins.items (graph_at z.history (next z.history) [])) c.self.view_is (pins_of_begun c.self.inside.zero c.begin.new.self c.in-Ok.pins.items c.args.slip c.self.invariant.least c.in-Ok.ensures.pins w.in-Ok-begin.ensures.ok w.in-Ok-begin.ensures.legal))
  | in-Err w ↦ rw w.result-is tt
]

pub returns-clause-fault : goal.returns-clause-fault
returns-clause-fault c = elim c.match-begin.branch [
  | in-Ok-begin w ↦ rw w.result-is tt
  | in-Err w ↦ rw w.result-is (subst (λ (z : Zero). IsBeginFault (next z.history) w.in-Err.fault) c.self.view_is w.in-Err.ensures.fault)
]
