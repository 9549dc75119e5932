use Rattle.std.proofs.Common.{◌≡◌, true, false, sym, ap, ◌∙◌, arith}
use Rattle.std.proofs.lemmas.List.{get_or_default}
use Rattle.std.specs.Prelude.{Some, None}
use Rattle.dg_delta.proofs.OpLaws.{hits, says_from}
use Rattle.dg_delta.proofs.Decisions.{found_says, none_says}
use Rattle.dg_delta.proofs.deciding.decide.Goals as goal

pub returns-then-is_eq : goal.returns-then-is_eq
returns-then-is_eq c =
    let hit : hits c.index-ops-place.result c.args.posting.now ≡ true = cc in
    says_from c.args.ops.now c.args.posting.now (Some c.is_set.result)
    (λ was. found_says c.args.ops.now c.below-place.result c.args.posting.now c.index-ops-place.result was c.requires c.if-place-ops.true c.below-place.ensures.point.0 c.index-ops-place.is hit ∙ sym c.is_set.ensures)

pub returns-else-is_eq : goal.returns-else-is_eq
returns-else-is_eq c =
    let missed : hits c.index-ops-place.result c.args.posting.now ≡ false = cc in
    says_from c.args.ops.now c.args.posting.now None
    (λ was. none_says c.args.ops.now c.below-place.result c.args.posting.now was c.requires c.below-place.ensures.within c.below-place.ensures.point.0 c.below-place.ensures.point.1 (λ d lt. ap (λ o. hits o c.args.posting.now) (get_or_default c.args.ops.now c.below-place.result d c.index-ops-place.result lt ∙ sym c.index-ops-place.is) ∙ missed))

pub returns-else-place-ops : goal.returns-else-place-ops
returns-else-place-ops c =
    says_from c.args.ops.now c.args.posting.now None
    (λ was. none_says c.args.ops.now c.below-place.result c.args.posting.now was c.requires c.below-place.ensures.within c.below-place.ensures.point.0 c.below-place.ensures.point.1 (λ d lt. absurd (omega arith)))
