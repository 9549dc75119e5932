use Rattle.std.proofs.Common.{lit<}
use Rattle.std.proofs.lemmas.Str.Pattern.{strip_suffix_char}
use Rattle.dg_text.proofs.Slashes.{kept_some, kept_none}
use Rattle.dg_text.proofs.patterns.kept.Goals as goal

pub returns-in-Some : goal.returns-in-Some
returns-in-Some c =
    kept_some c.args.front.now c.strip_suffix.result c.in-Some.shorter c.requires c.in-Some.is
    (strip_suffix_char 92 c.args.front.now c.strip_suffix.result c.strip_suffix.ensures.cases (lit< tt))

pub returns-in-None : goal.returns-in-None
returns-in-None c =
    kept_none c.args.front.now c.strip_suffix.result c.requires c.in-None.is
    (strip_suffix_char 92 c.args.front.now c.strip_suffix.result c.strip_suffix.ensures.cases (lit< tt))
