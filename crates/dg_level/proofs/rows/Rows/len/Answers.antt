use Rattle.std.proofs.Common.{length, ap, arith}
use Rattle.dg_level.specs.Rows.{Written}
use Rattle.dg_level.proofs.KeepLemmas.{rows_long}
use Rattle.dg_level.proofs.rows.Rows.len.Goals as goal

pub returns : goal.returns
returns c =
    omega (arith, c.len.ensures, c.self.inside.ends.ok, rows_long c.self.inside.text 0 c.self.inside.ends.items, ap (λ (w : Written). length w.rows) c.self.view_is)
