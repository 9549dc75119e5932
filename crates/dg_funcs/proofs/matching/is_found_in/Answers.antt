use Rattle.std.proofs.Common.{◌∙◌}
use Rattle.regex.specs.Strings.{matcher_pattern}
use Rattle.dg_funcs.proofs.FoundLaws.{found_in_text}
use Rattle.dg_funcs.proofs.matching.is_found_in.Goals as goal

pub returns-clause-found : goal.returns-clause-found
returns-clause-found c = c.is_match.ensures.found ∙ found_in_text (matcher_pattern c.args.matcher.now) c.args.text.now c.utf8.text
