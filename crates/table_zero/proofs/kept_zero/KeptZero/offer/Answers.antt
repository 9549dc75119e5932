use Rattle.std.proofs.Common.{subst, sym}
use Rattle.dg_graph.specs.Graphs.{IsLawful}
use Rattle.dg_zero.specs.Legal.{IsLegal}
use Rattle.dg_zero.specs.States.{Zero}
use Rattle.dg_zero.specs.Worlds.{World}
use Rattle.dg_zero.proofs.LawfulGraphs.{world_lawful}
use Rattle.table_zero.proofs.kept_zero.KeptZero.offer.Goals as goal

pub offer-requires-clause-lawful : goal.offer-requires-clause-lawful
offer-requires-clause-lawful c = subst (λ (w : World). IsLawful w.schema w.graph) (sym c.in_ok-seen.ensures) (world_lawful c.args.self.now.groups c.args.self.now.history c.args.start (subst (λ (z : Zero). IsLegal z.groups z.history) c.self.view_is c.self.invariant.legal))
