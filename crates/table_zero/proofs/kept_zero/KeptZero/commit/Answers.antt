use Rattle.std.proofs.Common.{Bool, cond, ap, ◌∙◌}
use Rattle.dg_zero.specs.Counters.{ended}
use Rattle.table_zero.proofs.Knowing.{committed_known, refused_known}
use Rattle.table_zero.proofs.kept_zero.KeptZero.commit.Goals as goal

pub invariant_of-self-in-Ok : goal.invariant_of-self-in-Ok
invariant_of-self-in-Ok c =
    rw (c.push_reserved.ensures.items, c.reserve.ensures.items)
    (committed_known c.self.inside.zero c.commit.new.self c.self.inside.starts.items c.drop_start.new.starts.items c.self.inside.steps.items c.in_ok-slip.slip c.args.start c.in-Ok.ts c.in_ok-offer.offer c.args.changes c.self.invariant c.in-Ok.ensures.ok c.in-Ok.ensures.legal c.in_ok-offer.ensures.start (c.in_ok-offer.ensures.changes ∙ c.as_slice-2.ensures) c.drop_start.ensures)

pub invariant_of-self-in-Err-1 : goal.invariant_of-self-in-Err-1
invariant_of-self-in-Err-1 c =
    let left = c.drop_ended.ensures ∙ ap (λ (b : Bool). cond b (ended c.self.inside.starts.items c.args.start) c.self.inside.starts.items) c.has_ended.ensures in
    rw c.reserve.ensures.items
    (refused_known c.self.inside.zero c.commit.new.self c.self.inside.starts.items c.drop_ended.new.starts.items c.self.inside.steps.items c.in_ok-slip.slip c.args.start c.in_ok-offer.offer c.in-Err.fault c.self.invariant c.in-Err.ensures.fault c.in-Err.ensures.legal c.in_ok-offer.ensures.start left)
