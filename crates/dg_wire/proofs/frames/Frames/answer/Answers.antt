use Rattle.std.proofs.Math.Seq.{take-add}
use Rattle.dg_wire.proofs.frames.Frames.answer.Goals as goal

pub returns-clause-answered : goal.returns-clause-answered
returns-clause-answered c = rw (← c.self.view_is) (take-add c.self.inside.answered c.args.len c.self.inside.taken.items)
