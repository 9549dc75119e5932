use Rattle.std.proofs.Common.{arith}
use Rattle.dg_level.proofs.KeepLemmas.{begins_at}
use Rattle.dg_level.proofs.rows.start_of.Goals as goal

pub returns-else-place-eq0 : goal.returns-else-place-eq0
returns-else-place-eq0 c = begins_at c.args.ends.now c.args.place 0 (omega (arith, c.if-place-eq0.false)) c.requires
