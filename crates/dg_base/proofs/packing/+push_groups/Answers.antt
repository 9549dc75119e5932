use Rattle.std.proofs.Common.{◌≡◌, ◌<◌, ◌⊎◌, inl, inr, ◌++◌, ◌∷◌, [], ◌∙◌, ◌-◌, ◌/◌, ◌%◌, ◌+◌, sym, ap, arith, append_assoc}
use Rattle.std.proofs.lemmas.Result.{IfOk-weaker}
use Rattle.dg_base.specs.Packed.{groups}
use Rattle.dg_base.proofs.Groups.{groups-on, groups-last}
use Rattle.dg_base.proofs.packing.+push_groups.Goals.{then-more-eq0-via-then-more-eq0, then-more-eq0-via-else-more-eq0+then-number-lt128}
use Rattle.dg_base.proofs.packing.+push_groups.Goals as goal

pub returns-then-more-eq0 : goal.returns-then-more-eq0
returns-then-more-eq0 t c =
    let last : (c.args.more ≡ 0) ⊎ (c.args.number < 128) = elim c.then-more-eq0.branch [ then-more-eq0-via-then-more-eq0 w ↦ inl w.if-more-eq0.true | then-more-eq0-via-else-more-eq0+then-number-lt128 w ↦ inr w.if-number-lt128.true ] in
    rw (groups-last c.args.more c.args.number last) c.in_ok-push.ensures.items

pub returns : goal.returns
returns t c =
    IfOk-weaker c.push_groups.result _ _
    (λ x e. e
    ∙ ap (λ xs. xs ++ groups (c.args.more - 1) (c.args.number / 128)) c.in_ok-push-2.ensures.items
    ∙ append_assoc c.args.bytes.now.items ((128 + c.args.number % 128) ∷ []) (groups (c.args.more - 1) (c.args.number / 128))
    ∙ ap (λ xs. c.args.bytes.now.items ++ xs) (sym (groups-on c.args.more c.args.number (omega (arith, c.if-more-eq0.false)) (omega (arith, c.if-number-lt128.false)))))
    c.push_groups.ensures
