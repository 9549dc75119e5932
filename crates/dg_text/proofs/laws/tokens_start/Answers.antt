use Rattle.dg_text.proofs.FirstToken.{finds_token, finds_none}
use Rattle.dg_text.proofs.laws.tokens_start.Goals as goal

pub returns : goal.returns
returns c = record { found = finds_token; none = finds_none }
