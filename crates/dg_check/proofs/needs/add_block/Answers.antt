use Rattle.std.proofs.Common.{arith}
use Rattle.std.proofs.lemmas.Grind.{common_steps}
use Rattle.dg_check.specs.RunOrder.{blocks_under}
use Rattle.dg_check.proofs.NeedLaws.{block_more}
use Rattle.dg_check.proofs.needs.add_block.Goals as goal

pub loop-name-preserved : goal.loop-name-preserved
loop-name-preserved c = (
  grind (arith, common_steps, c.in_ok-push.ensures, c.loop-name.invariant.0),
  λ x. block_more (blocks_under c.add_once.new.under x) (blocks_under c.loop-name.under x) (blocks_under c.args.under.now x) c.loop-name.had c.push.new.self _ x c.args.at (c.in_ok-add_once.ensures x) (c.loop-name.invariant.1 x) c.in_ok-push.ensures,
)
