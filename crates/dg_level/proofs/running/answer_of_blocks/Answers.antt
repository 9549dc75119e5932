use Rattle.std.proofs.Common.{ℕ, ◌<◌, List, ◌++◌, length, codes, rules, refl, ap, ◌∙◌, subst}
use Rattle.dg_level.specs.Blocks.{blocks_shown}
use Rattle.dg_level.proofs.BlockLaws.{answered, answer_passes}
use Rattle.dg_level.proofs.running.answer_of_blocks.Goals as goal

pub returns-in_err-push_blocks-clause-too_large : goal.returns-in_err-push_blocks-clause-too_large
returns-in_err-push_blocks-clause-too_large g c = λ ds lawful kinds are e.
    let fields = blocks_shown (g.S.Snapshot.declared c.args.snap.now) (g.S.Snapshot.graph c.args.snap.now) ds c.args.vars.now.variables c.args.blocks.now in
    answer_passes fields c.mark.new.self _ (c.in_ok-mark.ensures.ok ∙ ap (λ o. o ++ codes "{\"data\":{") c.in_ok-out.ensures) refl 16777216 (c.push_blocks.ensures.too_large ds lawful kinds are (search rules))

pub returns-in_err-mark-2-clause-too_large : goal.returns-in_err-mark-2-clause-too_large
returns-in_err-mark-2-clause-too_large g c = λ ds lawful kinds are e.
    let fields = blocks_shown (g.S.Snapshot.declared c.args.snap.now) (g.S.Snapshot.graph c.args.snap.now) ds c.args.vars.now.variables c.args.blocks.now in
    subst (λ (w : List ℕ). 16777216 < length w)
    (answered fields c.mark.new.self c.push_blocks.new.out (c.in_ok-mark.ensures.ok ∙ ap (λ o. o ++ codes "{\"data\":{") c.in_ok-out.ensures) (c.in_ok-push_blocks.ensures.ok ds lawful kinds are))
    (c.mark-2.ensures.too_large (search rules))

pub returns-clause-text : goal.returns-clause-text
returns-clause-text g c = λ ds lawful kinds are.
    let fields = blocks_shown (g.S.Snapshot.declared c.args.snap.now) (g.S.Snapshot.graph c.args.snap.now) ds c.args.vars.now.variables c.args.blocks.now in
    c.into_string.ensures.text
    ∙ (c.in_ok-mark-2.ensures.ok
    ∙ answered fields c.mark.new.self c.push_blocks.new.out (c.in_ok-mark.ensures.ok ∙ ap (λ o. o ++ codes "{\"data\":{") c.in_ok-out.ensures) (c.in_ok-push_blocks.ensures.ok ds lawful kinds are))
