use Rattle.dg_node.proofs.Keeping.{committed_owned}
use Rattle.dg_node.proofs.owned.Owned.commit.Goals as goal

pub invariant_of-self : goal.invariant_of-self
invariant_of-self c = committed_owned c.self.inside.zero c.commit.new.self c.self.inside.groups.items c.args.slip c.args.offer c.commit.result c.self.invariant c.commit.ensures.ok c.commit.ensures.fault c.commit.ensures.legal
