use Rattle.std.proofs.Common.{◌∙◌}
use Rattle.dg_txn.proofs.LookedUp.{holders_are}
use Rattle.dg_txn.proofs.lookups.holders.Goals as goal

pub returns-clause-nodes : goal.returns-clause-nodes
returns-clause-nodes g c = λ own a.
    c.gathered.ensures.nodes ∙ holders_are c.args.base.now.schema c.args.base.now.graph own c.args.gains.now a c.args.p.now c.in_ok-pred.pred c.in_ok-found.found.items c.in_ok-pred.ensures c.in_ok-found.ensures.shown
