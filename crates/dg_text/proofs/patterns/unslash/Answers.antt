use Rattle.std.proofs.Common.{◌≡◌, ◌++◌, ◌∷◌, ◌∙◌, [], ap, arith, rules}
use Rattle.std.proofs.lemmas.Result.{IfOk-weaker}
use Rattle.dg_text.specs.Patterns.{unslashed}
use Rattle.dg_text.proofs.Slashes.{goes_on, is_done}
use Rattle.dg_text.proofs.patterns.unslash.Goals as goal

pub loop-preserved : goal.loop-preserved
loop-preserved c =
    let parts = c.in-Some.ensures.cut in
    let made : c.in_ok-out-in-Some.out ≡ (c.loop.out ++ c.kept.result.now) ++ 47 ∷ [] =
    c.in_ok-out-in-Some.ensures.made ∙ ap (λ s. s ++ 47 ∷ []) c.in_ok-more-in-Some.ensures.made in (
      search rules,
      ap (λ s. s ++ unslashed c.in-Some.behind.now) made
          ∙ goes_on c.loop.out c.in-Some.front.now c.in-Some.behind.now c.loop.rest.now c.kept.result.now (unslashed c.args.text.now) parts.0 parts.1 c.kept.ensures c.loop.invariant.1,
      omega (arith, c.in-Some.ensures.shorter, c.loop.invariant.2),
    )

pub returns-clause-made : goal.returns-clause-made
returns-clause-made c =
    IfOk-weaker c.joined-2.result _ _
    (λ s e. e ∙ is_done c.loop.out c.loop.rest.now (unslashed c.args.text.now) c.loop.counter _ c.loop.invariant.2 (omega arith) c.loop.invariant.1)
    c.joined-2.ensures.made
