use Rattle.dg_nquad.proofs.TokensSay.{lexed_say}
use Rattle.dg_nquad.proofs.laws.tokens_say.Goals as goal

pub returns : goal.returns
returns c = lexed_say
