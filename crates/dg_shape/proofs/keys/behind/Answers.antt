use Rattle.dg_shape.proofs.Behind.{behind_is}
use Rattle.dg_shape.proofs.keys.behind.Goals as goal

pub returns : goal.returns
returns c back = behind_is (λ r. r.now) _ c.strip_prefix.result c.args.text.now c.args.front.now c.strip_prefix.ensures.cases back
