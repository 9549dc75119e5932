use Rattle.dg_node.proofs.Keeping.{starting_owned}
use Rattle.dg_node.proofs.owned.Owned.starting_at.Goals as goal

pub invariant_of-result : goal.invariant_of-result
invariant_of-result c = starting_owned c.args.groups c.args.next c.in_ok-starting_at.field-0 c.in_ok-new_groups.field-0.items c.requires.least c.requires.first c.requires.last c.in_ok-starting_at.ensures.new c.in_ok-new_groups.ensures
