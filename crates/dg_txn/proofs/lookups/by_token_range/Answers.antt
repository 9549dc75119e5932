use Rattle.std.proofs.Common.{◌∙◌}
use Rattle.std.specs.Prelude.{option_copied}
use Rattle.dg_txn.proofs.LookedUp.{range_are}
use Rattle.dg_txn.proofs.lookups.by_token_range.Goals as goal

pub returns-clause-nodes : goal.returns-clause-nodes
returns-clause-nodes g c = λ own a.
    c.gathered.ensures.nodes
    ∙ range_are c.args.base.now.schema c.args.base.now.graph own c.args.gains.now a c.args.p.now c.in_ok-pred.pred c.args.tokenizer (option_copied c.args.low) (option_copied c.args.high) c.in_ok-low.low c.in_ok-high.high c.in_ok-found.found.items c.in_ok-pred.ensures c.in_ok-low.ensures c.in_ok-high.ensures c.requires.tokenizer c.in_ok-found.ensures.shown
