use Rattle.dg_text.proofs.Quotes.{quotes_are_words, quotes_mean_texts}
use Rattle.dg_text.proofs.laws.quotes_read_back.Goals as goal

pub returns : goal.returns
returns c = record { word = quotes_are_words; meant = quotes_mean_texts }
