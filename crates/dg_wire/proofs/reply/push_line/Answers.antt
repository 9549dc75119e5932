use Rattle.std.proofs.Common.{◌≡◌, ◌++◌, ℕ, List, codes, sym, ap, ◌∙◌, append_assoc}
use Rattle.std.proofs.lemmas.Result.{on_ok_weaker, on_err_weaker}
use Rattle.dg_wire.specs.Replies.{reply_line, refusal_text}
use Rattle.dg_wire.proofs.ToldLemmas.{kept}
use Rattle.dg_wire.proofs.reply.push_line.Goals as goal

pub returns-in_ok-push_words-in-Refused-clause-ok : goal.returns-in_ok-push_words-in-Refused-clause-ok
returns-in_ok-push_words-in-Refused-clause-ok c =
    let out : List ℕ = c.args.out.now.items in
    let words : c.push_words.new.out.items ≡ out ++ codes "error " = c.in_ok-push_words-in-Refused.ensures.ok in
    let line = append_assoc out (codes "error ") (refusal_text c.in-Refused.refusal) ∙ ap (λ r. out ++ reply_line r) (sym c.in-Refused.is) in
    on_ok_weaker c.push_told.result (λ e. e ∙ ((λ i. words i ++ sym c.told.ensures i) ∙ line)) c.push_told.ensures.ok

pub returns-in_ok-push_words-in-Refused-clause-err : goal.returns-in_ok-push_words-in-Refused-clause-err
returns-in_ok-push_words-in-Refused-clause-err c = on_err_weaker c.push_told.result (λ e. kept _ _ _ _ c.in_ok-push_words-in-Refused.ensures.ok e) c.push_told.ensures.err
