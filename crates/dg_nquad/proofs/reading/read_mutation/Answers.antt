use Rattle.std.proofs.Common.{rules}
use Rattle.dg_nquad.specs.Whole.{mutation, Reads}
use Rattle.dg_nquad.proofs.NoVariables.{read_has_none}
use Rattle.dg_nquad.proofs.reading.read_mutation.Goals as goal

pub returns-in-Ok-clause-plain : goal.returns-in-Ok-clause-plain
returns-in-Ok-clause-plain c =
    let reads : Reads c.read_tokens.result (mutation c.args.text.now) = search rules in
    read_has_none c.read_tokens.result c.args.text.now reads
