use Rattle.std.proofs.Common.{◌∙◌}
use Rattle.dg_list.proofs.OpLemmas.{answer_tells}
use Rattle.dg_list.proofs.covering.stands_on.Goals as goal

pub returns : goal.returns
returns c = c.is_some.ensures ∙ answer_tells c.args.ops.now c.args.posting.now c.decide.result c.decide.ensures
