use Rattle.dg_text.proofs.TokenLists.{lexed_tokens, lexed_stops}
use Rattle.dg_text.proofs.laws.texts_are_tokens.Goals as goal

pub returns : goal.returns
returns c = record { tokens = lexed_tokens; fault = lexed_stops }
