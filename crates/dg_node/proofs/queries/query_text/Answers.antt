use Rattle.dg_parse.specs.Whole.{query_of}
use Rattle.dg_txn.specs.Own.{graph}
use Rattle.dg_node.proofs.Seeing.{query_said}
use Rattle.dg_node.proofs.queries.query_text.Goals as goal

pub returns-in-Ok-clause-answered : goal.returns-in-Ok-clause-answered
returns-in-Ok-clause-answered g c = λ lawful m.
    query_said _ m c.args.sid c.args.txn.now.schema (graph c.args.txn.now) c.query_read.result c.in-Ok.query (query_of c.args.text.now) c.in-Ok.ensures (c.query_read.ensures.answered lawful m)
