use Rattle.dg_node.proofs.Counting.{counts_once}
use Rattle.dg_node.proofs.loading.count_one.Goals as goal

pub returns-clause-counts : goal.returns-clause-counts
returns-clause-counts g c = counts_once (g.P.Patterns.refused c.answer-reply.new.patterns) c.args.engine.now c.answer-reply.new.self c.args.request c.answer-reply.result c.args.totals c.with_reply.result c.answer-reply.ensures.answered c.with_reply.ensures.value
