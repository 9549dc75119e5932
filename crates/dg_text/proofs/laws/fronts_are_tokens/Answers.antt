use Rattle.dg_text.proofs.TokenLists.{front_tokens, front_reads}
use Rattle.dg_text.proofs.laws.fronts_are_tokens.Goals as goal

pub returns : goal.returns
returns c = record { exact = front_tokens; read = front_reads }
