use Rattle.std.proofs.lemmas.Result.{err_from_is_err_and}
use Rattle.std.proofs.Common.{subst}
use Rattle.dg_keys.specs.KeyReading.{Reads}
use Rattle.dg_keys.proofs.Spelled.{no_pred, whole, IsOf, behind}
use Rattle.dg_keys.proofs.reading.key_of.Goals as goal

pub returns-in_err-read_text-in-Some : goal.returns-in_err-read_text-in-Some
returns-in_err-read_text-in-Some c =
    let p = err_from_is_err_and c.from_residual.result c.from_residual.ensures.1 in
    rw (p.1, p.2, c.in_err-read_text-in-Some.ensures.0) (no_pred c.args.bytes.now c.in-Some.front.now c.in-Some.behind.now c.in-Some.ensures.0 c.in-Some.ensures.1 c.in_err-read_text-in-Some.ensures.1)

pub returns-in_ok-read_text-in-Some : goal.returns-in_ok-read_text-in-Some
returns-in_ok-read_text-in-Some c =
    whole c.args.bytes.now c.in-Some.front.now c.in-Some.behind.now c.in-Some.ensures.0 c.in-Some.ensures.1 c.in_ok-read_text-in-Some.ensures.1 c.read_field.result
    (subst (λ p. Reads (IsOf p) behind c.in-Some.behind.now c.read_field.result) c.in_ok-read_text-in-Some.ensures.0 c.read_field.ensures)
