use Rattle.table_runs.proofs.Knowing.{all_stay}
use Rattle.table_runs.proofs.groups.kept.Kept.glance.Goals as goal

pub invariant_of-self : goal.invariant_of-self
invariant_of-self c = all_stay c.self.inside.counting c.begin.new.self c.self.inside.sessions.items c.begin.ensures.stay c.self.invariant

pub invariant_of-self-in-Err : goal.invariant_of-self-in-Err
invariant_of-self-in-Err c = all_stay c.self.inside.counting c.begin.new.self c.self.inside.sessions.items c.begin.ensures.stay c.self.invariant

pub invariant_of-self-in_err-end-2 : goal.invariant_of-self-in_err-end-2
invariant_of-self-in_err-end-2 c = all_stay c.begin.new.self c.end-2.new.self c.self.inside.sessions.items c.end-2.ensures.stay (all_stay c.self.inside.counting c.begin.new.self c.self.inside.sessions.items c.begin.ensures.stay c.self.invariant)

pub invariant_of-self-in_err-objects : goal.invariant_of-self-in_err-objects
invariant_of-self-in_err-objects c = all_stay c.begin.new.self c.end-2.new.self c.self.inside.sessions.items c.end-2.ensures.stay (all_stay c.self.inside.counting c.begin.new.self c.self.inside.sessions.items c.begin.ensures.stay c.self.invariant)

pub invariant_of-self-2 : goal.invariant_of-self-2
invariant_of-self-2 c = all_stay c.begin.new.self c.end-2.new.self c.self.inside.sessions.items c.end-2.ensures.stay (all_stay c.self.inside.counting c.begin.new.self c.self.inside.sessions.items c.begin.ensures.stay c.self.invariant)
