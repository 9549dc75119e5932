use Rattle.std.proofs.Common.{length, ap, arith}
use Rattle.dg_level.specs.Rows.{Written, total}
use Rattle.dg_level.proofs.KeepLemmas.{total_is}
use Rattle.dg_level.proofs.rows.Rows.total.Goals as goal

pub overflow_add-result : goal.overflow_add-result
overflow_add-result c = omega (arith, c.len.ensures, c.len-2.ensures, c.self.invariant.within, c.self.invariant.small)

pub returns-clause-bytes : goal.returns-clause-bytes
returns-clause-bytes c =
    omega (arith, c.len.ensures, c.len-2.ensures, total_is c.self.invariant, ap (λ (w : Written). total w.rows) c.self.view_is, ap (λ (w : Written). length w.begun) c.self.view_is)
