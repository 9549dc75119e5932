use Rattle.dg_node.proofs.run.serve.Goals as goal

pub returns-clause-served : goal.returns-clause-served
returns-clause-served g c = record { leads = record { reply = c.answer-reply.result; step = c.answer-reply.ensures.answered.leads; whole = c.send.ensures.whole; part = c.send.ensures.part } }
