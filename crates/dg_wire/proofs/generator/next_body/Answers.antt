use Rattle.std.proofs.Common.{length, ap, arith}
use Rattle.dg_wire.proofs.ScriptLemmas.{few_short}
use Rattle.dg_wire.proofs.generator.next_body.Goals as goal

pub returns-clause-short : goal.returns-clause-short
returns-clause-short c =
    let short = few_short c.copy-later.result.seed c.args.size c.args.done.now c.min-count.result (omega (arith, c.min-count.ensures)) in
    omega (arith, ap length c.in_ok-body.ensures.text, short)
