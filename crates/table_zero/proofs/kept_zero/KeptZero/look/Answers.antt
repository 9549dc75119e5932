use Rattle.table_zero.proofs.Knowing.{looked_known}
use Rattle.table_zero.proofs.kept_zero.KeptZero.look.Goals as goal

pub invariant_of-self : goal.invariant_of-self
invariant_of-self c = looked_known c.self.inside.zero c.look.new.self c.self.inside.starts.items c.self.inside.steps.items c.in_ok-slip.slip c.self.invariant c.look.ensures.history c.look.ensures.legal
