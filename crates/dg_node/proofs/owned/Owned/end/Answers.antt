use Rattle.dg_node.proofs.Keeping.{ended_owned}
use Rattle.dg_node.proofs.owned.Owned.end.Goals as goal

pub invariant_of-self : goal.invariant_of-self
invariant_of-self c = ended_owned c.self.inside.zero c.end.new.self c.self.inside.groups.items c.args.slip c.args.start c.end.result c.self.invariant c.end.ensures.history c.end.ensures.legal
