use Rattle.dg_text.proofs.WrittenWords.{words_read}
use Rattle.dg_text.proofs.laws.words_are_read.Goals as goal

pub returns : goal.returns
returns c = words_read
