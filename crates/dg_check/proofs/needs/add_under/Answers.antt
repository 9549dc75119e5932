use Rattle.std.proofs.Common.{◌++◌, [], ◌∷◌, ap, ◌∙◌}
use Rattle.dg_check.proofs.NeedLaws.{under_more}
use Rattle.dg_check.proofs.needs.add_under.Goals as goal

pub returns : goal.returns
returns c =
    under_more c.args.under.now c.take_under-blocks.new.under c.insert.new.self c.args.name c.args.at c.push.new.self c.take_under-blocks.ensures.others c.in_ok-insert.ensures.updates
    (c.in_ok-push.ensures.ok ∙ ap (λ l. l ++ c.args.at ∷ []) c.take_under-blocks.ensures.blocks)
