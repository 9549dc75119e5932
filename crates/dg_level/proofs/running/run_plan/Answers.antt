use Rattle.std.proofs.Common.{length, sym, ap, ◌∙◌}
use Rattle.dg_level.specs.Meaning.{defined_in}
use Rattle.dg_level.proofs.BlockMeanings.{as_many}
use Rattle.dg_level.proofs.running.run_plan.Goals as goal

pub answer_of_blocks-requires : goal.answer_of_blocks-requires
answer_of_blocks-requires g c =
    let schema = g.S.Snapshot.declared c.args.snap.now in
    let plan = c.args.plan.now in
    record { folds = c.in_ok-folds.ensures; alike = ap length c.as_slice-blocks.ensures ∙ (as_many schema (defined_in schema plan.query) plan.query.blocks plan.parts c.requires.plan.parts ∙ sym (ap length c.as_slice-kept.ensures)) }
