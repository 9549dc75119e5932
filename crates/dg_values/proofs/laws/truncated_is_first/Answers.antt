use Rattle.dg_values.proofs.FirstMoments.{first_moment}
use Rattle.dg_values.proofs.laws.truncated_is_first.Goals as goal

pub returns : goal.returns
returns c = first_moment
