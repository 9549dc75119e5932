use Rattle.dg_tokens.proofs.Exact.{all_exact}
use Rattle.dg_tokens.proofs.laws.tokens_are_exact.Goals as goal

pub returns : goal.returns
returns c = all_exact
