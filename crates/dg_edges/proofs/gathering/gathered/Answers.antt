use Rattle.std.proofs.Common.{List, take, sym, ◌∙◌}
use Rattle.dg_values.specs.declared.value.Posting.{Posting}
use Rattle.dg_edges.specs.Filing.{nodes_under}
use Rattle.dg_edges.proofs.FilingLaws.{one_filed_more}
use Rattle.dg_edges.proofs.gathering.gathered.Goals as goal

pub loop-one-preserved : goal.loop-one-preserved
loop-one-preserved c =
    ◌∙◌ {A = List (List Posting)} (c.in_ok-gather_one.ensures (nodes_under (take c.loop-one.one-index c.args.filed.now)) c.loop-one.invariant)
    (one_filed_more c.args.filed.now c.loop-one.one-index _ c.args.keys.now c.loop-one-test.true (sym c.one-item.is))
