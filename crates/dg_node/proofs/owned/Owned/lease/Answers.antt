use Rattle.dg_node.proofs.Keeping.{leased_owned}
use Rattle.dg_node.proofs.owned.Owned.lease.Goals as goal

pub invariant_of-self : goal.invariant_of-self
invariant_of-self c = leased_owned c.self.inside.zero c.lease.new.self c.self.inside.groups.items c.args.slip c.args.top c.args.count c.lease.result c.self.invariant c.lease.ensures.ok c.lease.ensures.err c.lease.ensures.legal
