use Rattle.dg_upsert.proofs.GivingLaws.{no_end}
use Rattle.dg_upsert.proofs.giving.gives_none.Goals as goal

pub returns-in-Node : goal.returns-in-Node
returns-in-Node c _ =
    no_end c.args.known.now.names c.args.known.now.vars.now.variables c.args.statement.now c.in-Node.end c.in-Node.is (c.stands_for_none.ensures.0 c.if-stands_for_none.true)
