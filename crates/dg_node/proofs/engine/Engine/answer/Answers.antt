use Rattle.dg_node.proofs.LeadLemmas.{step_made, step_spared}
use Rattle.dg_node.proofs.engine.Engine.answer.Goals as goal

pub returns-in-Ok-clause-answered : goal.returns-in-Ok-clause-answered
returns-in-Ok-clause-answered g c = step_made _ c.args.self.now c.try_answer.new.self c.args.request.now c.in-Ok.reply c.in-Ok.ensures.ok

pub returns-in-Err-clause-answered : goal.returns-in-Err-clause-answered
returns-in-Err-clause-answered g c = step_spared _ c.args.self.now c.try_answer.new.self c.args.request.now c.in-Err.ensures.err c.in-Err.ensures.wants
