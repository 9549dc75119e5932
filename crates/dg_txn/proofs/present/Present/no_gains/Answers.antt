use Rattle.std.proofs.Common.{subst}
use Rattle.dg_graph.specs.Graphs.{IsLawful}
use Rattle.dg_zero.specs.Worlds.{World}
use Rattle.dg_txn.proofs.LookedUp.{none_gained}
use Rattle.dg_txn.proofs.present.Present.no_gains.Goals as goal

pub returns : goal.returns
returns c = none_gained c.none.result c.args.self.now.schema c.args.self.now.graph (subst (λ (w : World). IsLawful w.schema w.graph) c.self.view_is c.self.invariant.lawful) c.none.ensures
