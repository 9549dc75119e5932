use Rattle.dg_tokens.proofs.Ascent.{all_ascend}
use Rattle.dg_tokens.proofs.laws.tokens_ascend.Goals as goal

pub returns : goal.returns
returns c = all_ascend
