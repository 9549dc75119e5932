use Rattle.dg_values.specs.Ascending.{Ascends}
use Rattle.dg_values.specs.Order.{posting_cmp}
use Rattle.dg_graph.proofs.ObjectLaws.{own_ascends}
use Rattle.dg_graph.proofs.EitherWay.{either_way}
use Rattle.dg_graph.proofs.subject.change_objects.Goals as goal

pub returns-then-is_of_subject-clause-ascends : goal.returns-then-is_of_subject-clause-ascends
returns-then-is_of_subject-clause-ascends c =
    either_way (Ascends posting_cmp) _ _ _ _ c.change_own.ensures.ok c.change_own.ensures.err
    (own_ascends c.args.schema.now c.args.objects.now.items c.args.change.now c.requires.ascend)
    c.requires.ascend
