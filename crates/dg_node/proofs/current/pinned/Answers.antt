use Rattle.dg_node.proofs.Keeping.{exact_history}
use Rattle.dg_node.proofs.current.pinned.Goals as goal

pub bring_all-requires-clause-exact : goal.bring_all-requires-clause-exact
bring_all-requires-clause-exact c = exact_history c.args.zero.now c.args.groups.now.items c.requires
