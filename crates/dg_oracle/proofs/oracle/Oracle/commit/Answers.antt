use Rattle.std.proofs.Common.{arith}
use Rattle.dg_oracle.proofs.Oracles.{committed_is}
use Rattle.dg_oracle.proofs.oracle.Oracle.commit.Goals as goal

pub invariant_of-self-in-Ok : goal.invariant_of-self-in-Ok
invariant_of-self-in-Ok g c =
    rw (c.drop_start.ensures, c.in-Ok.ensures.ok) (committed_is _ c.args.start c.args.keys.items c.self.invariant (omega arith))

pub returns-in-Ok-clause-valid : goal.returns-in-Ok-clause-valid
returns-in-Ok-clause-valid g c =
    rw (c.drop_start.ensures, c.in-Ok.ensures.ok) (committed_is _ c.args.start c.args.keys.items c.self.invariant (omega arith))
