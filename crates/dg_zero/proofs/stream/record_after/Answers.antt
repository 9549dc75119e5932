use Rattle.std.proofs.Common.{◌∙◌}
use Rattle.dg_zero.proofs.Streams.{found_behind}
use Rattle.dg_zero.proofs.stream.record_after.Goals as goal

pub returns : goal.returns
returns c = c.record_at.ensures ∙ found_behind c.args.after c.args.records.now c.records_upto.result c.records_upto.ensures.within c.records_upto.ensures.point
