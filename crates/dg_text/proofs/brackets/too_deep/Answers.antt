use Rattle.std.proofs.Common.{◌≡◌, ◌+◌, ◌∷◌, [], drop, arith, rules}
use Rattle.dg_text.specs.Tokens.{tok, toks}
use Rattle.dg_text.proofs.TokenLemmas.{toks_end}
use Rattle.dg_text.specs.Brackets.{opens, closes, counted, too_deep}
use Rattle.dg_text.proofs.BracketLemmas.{deeper, deep_here, deep_end, rises}
use Rattle.dg_text.proofs.brackets.too_deep.Goals as goal

pub returns-in-None : goal.returns-in-None
returns-in-None c =
    let none : drop c.loop-at.at (toks c.args.tokens.now) ≡ [] = search rules in
    deep_end c.args.most c.loop-at.opened c.loop-at.closed (drop c.loop-at.at (toks c.args.tokens.now)) (too_deep c.args.most (toks c.args.tokens.now)) none c.loop-at.invariant.0

pub returns-then-saturating_sub-most : goal.returns-then-saturating_sub-most
returns-then-saturating_sub-most c =
    let t = tok c.in-Some.token.now in
    let next : drop c.loop-at.at (toks c.args.tokens.now) ≡ t ∷ drop (c.loop-at.at + 1) (toks c.args.tokens.now) = search rules in
    let opened : c.counted-opened.result ≡ counted (opens t) c.loop-at.opened = search rules in
    let closed : c.counted-closed.result ≡ counted (closes t) c.loop-at.closed = search rules in
    deep_here c.args.most c.loop-at.opened c.loop-at.closed c.counted-opened.result c.counted-closed.result c.saturating_sub.result c.left.result t
    (drop c.loop-at.at (toks c.args.tokens.now)) (drop (c.loop-at.at + 1) (toks c.args.tokens.now)) (too_deep c.args.most (toks c.args.tokens.now))
    next opened closed c.saturating_sub.ensures (omega arith) c.left.ensures c.loop-at.invariant.0

pub loop-at-preserved : goal.loop-at-preserved
loop-at-preserved c =
    let t = tok c.in-Some.token.now in
    let next : drop c.loop-at.at (toks c.args.tokens.now) ≡ t ∷ drop (c.loop-at.at + 1) (toks c.args.tokens.now) = search rules in
    let opened : c.counted-opened.result ≡ counted (opens t) c.loop-at.opened = search rules in
    let closed : c.counted-closed.result ≡ counted (closes t) c.loop-at.closed = search rules in (
      deeper c.args.most c.loop-at.opened c.loop-at.closed c.counted-opened.result c.counted-closed.result c.saturating_sub.result t
          (drop c.loop-at.at (toks c.args.tokens.now)) (drop (c.loop-at.at + 1) (toks c.args.tokens.now)) (too_deep c.args.most (toks c.args.tokens.now))
          next opened closed c.saturating_sub.ensures (omega arith) c.loop-at.invariant.0,
      rises (opens t) c.loop-at.opened c.loop-at.at c.counted-opened.result c.loop-at.invariant.1 opened,
      rises (closes t) c.loop-at.closed c.loop-at.at c.counted-closed.result c.loop-at.invariant.2 closed,
    )

pub returns : goal.returns
returns c =
    deep_end c.args.most c.loop-at.opened c.loop-at.closed (drop c.loop-at.at (toks c.args.tokens.now)) (too_deep c.args.most (toks c.args.tokens.now))
    (toks_end c.args.tokens.now c.loop-at.at (omega arith)) c.loop-at.invariant.0
