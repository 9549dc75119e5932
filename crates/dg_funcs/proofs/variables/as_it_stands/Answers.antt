use Rattle.std.proofs.Common.{sym}
use Rattle.std.specs.Ordering.{nat_cmp}
use Rattle.dg_sets.proofs.MadeOrders.{nat_order}
use Rattle.dg_graph.proofs.Passing.{ascending_same}
use Rattle.dg_funcs.proofs.variables.as_it_stands.Goals as goal

pub returns : goal.returns
returns c = sym (ascending_same nat_cmp nat_order c.args.set.now c.as_slice-nodes.ensures.ascend)
