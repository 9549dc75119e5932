use Rattle.table_zero.proofs.Knowing.{begun_known, looked_known}
use Rattle.table_zero.proofs.kept_zero.KeptZero.begin.Goals as goal

pub invariant_of-self-in-Ok : goal.invariant_of-self-in-Ok
invariant_of-self-in-Ok c =
    rw (c.push_reserved.ensures.items, c.reserve.ensures.items, c.new-in-Ok.ensures)
    (begun_known c.self.inside.zero c.begin.new.self c.self.inside.starts.items c.self.inside.steps.items c.args.author c.in_ok-slip.slip c.in-Ok.begun.start c.self.invariant c.in_ok-slip.ensures c.in-Ok.ensures.ok c.in-Ok.ensures.legal c.in-Ok.ensures.start)

pub invariant_of-self-in-Err : goal.invariant_of-self-in-Err
invariant_of-self-in-Err c =
    rw c.reserve.ensures.items
    (looked_known c.self.inside.zero c.begin.new.self c.self.inside.starts.items c.self.inside.steps.items c.in_ok-slip.slip c.self.invariant c.in-Err.ensures.err c.in-Err.ensures.legal)
