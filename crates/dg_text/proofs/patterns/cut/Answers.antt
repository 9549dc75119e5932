use Rattle.std.proofs.Common.{lit<}
use Rattle.std.proofs.lemmas.Str.Pattern.{split_once_first}
use Rattle.dg_text.proofs.Slashes.{cut_result, cut_shorter}
use Rattle.dg_text.proofs.patterns.cut.Goals as goal

pub returns-clause-cut : goal.returns-clause-cut
returns-clause-cut c = cut_result c.args.text.now c.split_once.result (split_once_first 47 c.args.text.now c.split_once.result c.split_once.ensures.cases (lit< tt))

pub returns-clause-shorter : goal.returns-clause-shorter
returns-clause-shorter c = cut_shorter c.args.text.now c.split_once.result (cut_result c.args.text.now c.split_once.result (split_once_first 47 c.args.text.now c.split_once.result c.split_once.ensures.cases (lit< tt)))
