use Rattle.std.proofs.lemmas.Result.{err_from_is_err_and}
use Rattle.dg_keys.proofs.Carried.{none_found}
use Rattle.dg_keys.proofs.Digits.{flipped_fits}
use Rattle.dg_keys.proofs.reading.read_int.Goals as goal

pub returns-in_err-bits : goal.returns-in_err-bits
returns-in_err-bits c =
    let p = err_from_is_err_and c.from_residual.result c.from_residual.ensures.1 in
    rw (p.1, p.2) (none_found _ _ _ _ _ _ (λ z f s. (_, flipped_fits z f, s)) _ c.in_err-bits.ensures)
