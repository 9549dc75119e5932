use Rattle.std.proofs.Common.{◌∙◌, [], ap, subst, sym}
use Rattle.dg_text.specs.Tokens.{toks}
use Rattle.dg_parse.specs.Sizes.{AreFew}
use Rattle.dg_parse.proofs.Few.{are_few}
use Rattle.dg_parse.proofs.reading.query_tokens.Goals as goal

pub query_pieces-requires-clause-few : goal.query_pieces-requires-clause-few
query_pieces-requires-clause-few c =
    subst AreFew (sym (ap toks c.as_slice.ensures.value ∙ c.in-Ok.ensures)) (are_few c.args.text.now c.args.tokens.now [] c.requires.size c.requires.cut c.requires.all)
