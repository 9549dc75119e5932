use Rattle.std.proofs.Common.{◌∙◌}
use Rattle.dg_txn.proofs.LookedUp.{counts_are}
use Rattle.dg_txn.proofs.lookups.by_count.Goals as goal

pub returns-clause-nodes : goal.returns-clause-nodes
returns-clause-nodes g c = λ own a.
    c.gathered.ensures.nodes
    ∙ counts_are c.args.base.now.schema c.args.base.now.graph own c.args.gains.now a c.args.p.now c.in_ok-pred.pred c.args.reverse c.args.low c.args.high c.counts-over.result c.in_ok-found.found.items c.in_ok-pred.ensures c.counts-over.ensures c.requires.numbers c.in_ok-found.ensures.shown
