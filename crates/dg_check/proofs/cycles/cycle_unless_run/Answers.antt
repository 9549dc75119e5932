use Rattle.dg_check.proofs.CycleLaws.{no_cycle}
use Rattle.dg_check.proofs.cycles.cycle_unless_run.Goals as goal

pub returns-then-have_all_run : goal.returns-then-have_all_run
returns-then-have_all_run c = no_cycle c.args.blocks.now c.args.ran.now c.have_all_run.result c.requires c.have_all_run.ensures c.if-have_all_run.true
