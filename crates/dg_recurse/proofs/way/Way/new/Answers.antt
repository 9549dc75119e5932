use Rattle.dg_recurse.proofs.WayLaws.{none_at_first}
use Rattle.dg_recurse.proofs.way.Way.new.Goals as goal

pub returns : goal.returns
returns c = λ fetched. none_at_first fetched (record { alloc = c.args.alloc; path = c.new.result; raised = c.new-2.result }) c.new.ensures.items c.new-2.ensures.items
