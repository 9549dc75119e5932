use Rattle.std.proofs.Common.{◌≡◌, ◌<◌, length, false, ap, sym, ◌∙◌, arith}
use Rattle.regex.specs.Strings.{matcher_pattern}
use Rattle.dg_funcs.specs.Tests.{in_text}
use Rattle.dg_funcs.specs.Truth.{found_in}
use Rattle.dg_funcs.proofs.TestLaws.{none_more_so_far}
use Rattle.dg_funcs.proofs.matching.any_found.Goals as goal

pub loop-object-preserved : goal.loop-object-preserved
loop-object-preserved c =
    let i = c.loop-object.object-index in
    let lt : i < length c.args.objects.now = omega (arith, c.loop-object-test.true) in
    let here : in_text (found_in (matcher_pattern c.args.matcher.now)) c.object-item.result ≡ false =
    ap (λ m. in_text (found_in m) c.object-item.result) (sym c.loop-object.invariant.1) ∙ (sym c.is_found.ensures.found ∙ c.if-is_found.false) in (
      none_more_so_far (in_text (found_in (matcher_pattern c.args.matcher.now))) c.args.objects.now i c.object-item.result lt c.object-item.is c.loop-object.invariant.0 here,
      c.is_found.ensures.same ∙ c.loop-object.invariant.1,
    )
