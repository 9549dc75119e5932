use Rattle.std.proofs.lemmas.Result.{IfOk-weaker}
use Rattle.dg_text.proofs.TokenLists.{read_tokens}
use Rattle.dg_text.proofs.lexer.front.Goals as goal

pub returns-clause-tokens : goal.returns-clause-tokens
returns-clause-tokens c =
    IfOk-weaker c.tokens_from.result _ _
    (λ x e. read_tokens c.args.bytes.now c.past_gap-first.result x.1 x.0.items c.past_gap-first.ensures.place e)
    c.tokens_from.ensures.gives
