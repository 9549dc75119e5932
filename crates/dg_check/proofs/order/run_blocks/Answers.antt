use Rattle.std.proofs.Common.{[], ap, ◌∙◌}
use Rattle.dg_check.specs.Cycles.{is_place_in}
use Rattle.dg_check.specs.RunOrder.{are_ready}
use Rattle.dg_check.proofs.OrderLaws.{ready_from, same_blocks}
use Rattle.dg_check.proofs.order.run_blocks.Goals as goal

pub returns-clause-ready : goal.returns-clause-ready
returns-clause-ready c =
    ap (are_ready c.args.deps.now []) c.in_ok-run_rest.ensures
    ∙ ready_from c.args.deps.now c.args.deps.now c.run_early.new.ran c.in_ok-run_early.ensures

pub returns-clause-same : goal.returns-clause-same
returns-clause-same c = λ at.
    ap (λ l. is_place_in l at) c.in_ok-run_rest.ensures
    ∙ same_blocks c.args.deps.now c.run_early.new.ran c.in_ok-run_early.ensures at
