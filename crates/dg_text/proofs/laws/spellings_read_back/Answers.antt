use Rattle.dg_text.proofs.NodeSpelling.{nodes_read_back, nodes_are_bounded}
use Rattle.dg_text.proofs.NameSpelling.{iris_say_their_text, iris_are_words, names_read_back, names_are_whole, blanks_read_back, signs_are_words}
use Rattle.dg_text.proofs.NumberSpelling.{numbers_read_back, numbers_are_bounded}
use Rattle.dg_text.proofs.PatternSpelling.{patterns_read_back}
use Rattle.dg_text.proofs.laws.spellings_read_back.Goals as goal

pub returns : goal.returns
returns c = record {
  nodes = nodes_read_back;
  bounded = nodes_are_bounded;
  said = iris_say_their_text;
  iris = iris_are_words;
  names = names_read_back;
  whole = names_are_whole;
  blanks = blanks_read_back;
  signs = signs_are_words;
  numbers = numbers_read_back;
  within = numbers_are_bounded;
  patterns = patterns_read_back;
}
