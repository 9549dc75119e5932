use Rattle.std.proofs.Common.{◌≡◌, subst, List, ℕ}
use Rattle.std.specs.Prelude.{IfOk}
use Rattle.dg_txn.proofs.LookedUp.{token_are}
use Rattle.dg_txn.proofs.lookups.by_token.Goals as goal

pub returns-clause-nodes : goal.returns-clause-nodes
returns-clause-nodes g c = λ own a.
    let is = token_are c.args.base.now.schema c.args.base.now.graph own c.args.gains.now a c.args.p.now c.in_ok-p.p c.args.t.now c.in_ok-t.t c.in_ok-p.ensures c.in_ok-t.ensures c.requires.tokenizer in
    subst (λ (ns : List ℕ). IfOk c.nodes_at.result (λ uids. uids ≡ ns)) is c.nodes_at.ensures.nodes
