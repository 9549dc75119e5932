use Rattle.std.proofs.lemmas.Result.{on_err_weaker}
use Rattle.dg_wire.proofs.ToldLemmas.{kept}
use Rattle.dg_wire.proofs.told.push_told.Goals as goal

pub returns-in_ok-push_field-in-Two-clause-err : goal.returns-in_ok-push_field-in-Two-clause-err
returns-in_ok-push_field-in-Two-clause-err c =
    on_err_weaker c.push_next.result (λ e. kept _ _ _ _ c.in_ok-push_words-in-Two.ensures.ok (kept _ _ _ _ c.in_ok-push_field-in-Two.ensures.ok e)) c.push_next.ensures.err

pub returns-in_ok-push_field-in-Three-clause-err : goal.returns-in_ok-push_field-in-Three-clause-err
returns-in_ok-push_field-in-Three-clause-err c =
    on_err_weaker c.push_both.result (λ e. kept _ _ _ _ c.in_ok-push_words-in-Three.ensures.ok (kept _ _ _ _ c.in_ok-push_field-in-Three.ensures.ok e)) c.push_both.ensures.err
