use Rattle.dg_level.proofs.laws.any_order_serves.Goals as goal
use Rattle.dg_level.proofs.OrderServes.{any_order}

pub returns : goal.returns
returns c = any_order
