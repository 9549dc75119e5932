use Rattle.std.proofs.Common.{◌≡◌, ◌∙◌, ◌<◌, length, sym, ap, subst}
use Rattle.std.specs.Prelude.{Some}
use Rattle.dg_zero.specs.Records.{next_record}
use Rattle.dg_group.specs.Groups.{Group}
use Rattle.dg_group.specs.Stands.{records_above}
use Rattle.dg_node.proofs.Bringing.{fewer_above}
use Rattle.dg_node.proofs.current.bring_up.Goals as goal

pub apply-requires : goal.apply-requires
apply-requires c =
    let h = c.args.zero.now.history in
    let next : next_record h c.loop-rec.group.last ≡ Some c.in-Some.rec.now = sym (c.in-Some.ensures ∙ ap (next_record h) c.last.ensures) in
    record { next = c.records_of_histories.ensures.can c.args.zero.now.groups h c.loop-rec.group c.in-Some.rec.now c.requires.legal c.requires.exact c.loop-rec.invariant.0 next }

pub loop-rec-smaller : goal.loop-rec-smaller
loop-rec-smaller c =
    let h = c.args.zero.now.history in
    let next : next_record h c.loop-rec.group.last ≡ Some c.in-Some.rec.now = sym (c.in-Some.ensures ∙ ap (next_record h) c.last.ensures) in
    subst (λ (g : Group). length (records_above h g.last) < length (records_above h c.loop-rec.group.last)) (sym c.in_ok-apply.ensures.ok) (fewer_above h c.loop-rec.group.last c.in-Some.rec.now next)
