use Rattle.std.proofs.Common.{sym, ◌∙◌}
use Rattle.dg_shape.proofs.Beside.{beside_at, beside_none}
use Rattle.dg_shape.proofs.ordering.value_of.Goals as goal

pub returns-in-Ok : goal.returns-in-Ok
returns-in-Ok c =
    c.item_at.ensures ∙ sym (beside_at c.args.nodes.now c.args.values.now c.in-Ok.at c.args.node c.requires.ascend c.in-Ok.ensures.there.item_is)

pub returns-in-Err : goal.returns-in-Err
returns-in-Err c = sym (beside_none c.args.nodes.now c.args.values.now c.args.node c.in-Err.ensures.missing.missing)
