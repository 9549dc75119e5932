use Rattle.table_zero.proofs.Knowing.{leased_known}
use Rattle.table_zero.proofs.kept_zero.KeptZero.lease.Goals as goal

pub invariant_of-self : goal.invariant_of-self
invariant_of-self c = leased_known c.self.inside.zero c.lease.new.self c.self.inside.starts.items c.self.inside.steps.items c.in_ok-slip.slip c.args.top c.args.count c.lease.result c.self.invariant c.lease.ensures.ok c.lease.ensures.err c.lease.ensures.legal
