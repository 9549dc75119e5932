use Rattle.std.proofs.Common.{sym, ◌∙◌}
use Rattle.dg_check.proofs.OrderLaws.{pushed_ready}
use Rattle.dg_check.proofs.order.run_if_ready.Goals as goal

pub returns : goal.returns
returns c =
    pushed_ready c.push.result c.args.deps.now c.args.ran.now c.push.new.self c.args.at c.requires (sym c.is_ready.ensures ∙ c.if-not-is_ready.false) c.push.ensures
