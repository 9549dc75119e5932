use Rattle.std.proofs.Common.{sym, ◌∙◌, true≢false}
use Rattle.std.specs.Int.{w64}
use Rattle.std.proofs.lemmas.Int.{to_z-of_z}
use Rattle.std.proofs.lemmas.Result.{err_from_is_err_and}
use Rattle.dg_keys.proofs.Carried.{none_found}
use Rattle.dg_keys.proofs.Spelled.{secs_in, nanos_in, no_moment}
use Rattle.dg_keys.proofs.reading.read_moment.Goals as goal

pub returns-in_err-secs : goal.returns-in_err-secs
returns-in_err-secs c =
    let p = err_from_is_err_and c.from_residual.result c.from_residual.ensures.1 in
    rw (p.1, p.2) (none_found _ _ _ _ _ _ (secs_in c.args.bytes.now _ c.split_at.ensures.front) _ c.in_err-secs.ensures)

pub returns-in_err-nanos : goal.returns-in_err-nanos
returns-in_err-nanos c =
    let p = err_from_is_err_and c.from_residual-in_err-nanos.result c.from_residual-in_err-nanos.ensures.1 in
    rw (p.1, p.2) (none_found _ _ _ _ _ _ (nanos_in c.args.bytes.now _ c.split_at.ensures.back) _ c.in_err-nanos.ensures)

pub returns-then-not-is_moment : goal.returns-then-not-is_moment
returns-then-not-is_moment c =
    no_moment c.args.bytes.now c.split_at.result.0.now c.split_at.result.1.now c.in_ok-secs.secs c.in_ok-nanos.nanos c.split_at.ensures.by_index.0 c.in_ok-secs.ensures c.in_ok-nanos.ensures
    (λ h. true≢false (sym (c.is_moment.ensures.1 (rw (to_z-of_z w64 c.in_ok-secs.secs c.in_ok-secs.ensures.0) h)) ∙ c.if-not-is_moment.true))
