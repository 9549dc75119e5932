use Rattle.table_zero.proofs.Knowing.{ended_known}
use Rattle.table_zero.proofs.kept_zero.KeptZero.end.Goals as goal

pub invariant_of-self : goal.invariant_of-self
invariant_of-self c = ended_known c.self.inside.zero c.end-was_active.new.self c.self.inside.starts.items c.drop_ended.new.starts.items c.self.inside.steps.items c.in_ok-slip.slip c.args.start c.end-was_active.result c.self.invariant c.end-was_active.ensures.history c.end-was_active.ensures.legal c.drop_ended.ensures
