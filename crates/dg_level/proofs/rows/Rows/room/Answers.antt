use Rattle.std.proofs.Common.{ap, arith}
use Rattle.dg_level.specs.Rows.{Written, total}
use Rattle.dg_level.proofs.KeepLemmas.{total_is}
use Rattle.dg_level.proofs.rows.Rows.room.Goals as goal

pub returns : goal.returns
returns c = omega (arith, c.len.ensures, total_is c.self.invariant, c.self.invariant.within, ap (λ (w : Written). total w.rows) c.self.view_is, ap (λ (w : Written). w.limit) c.self.view_is)
