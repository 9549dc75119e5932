use Rattle.std.proofs.Common.{not}
use Rattle.std.specs.Prelude.{◌==◌}
use Rattle.std.specs.List.{AllByRecursion}
use Rattle.dg_sets.proofs.Sets.{all_passed}
use Rattle.table_runs.specs.declared.groups.sessions.Session.{Session}
use Rattle.table_runs.specs.Opened.{IsOpen}
use Rattle.table_runs.proofs.Knowing.{all_stay}
use Rattle.table_runs.proofs.groups.kept.Kept.commit.Goals as goal

pub invariant_of-self : goal.invariant_of-self
invariant_of-self c = all_stay c.self.inside.counting c.commit.new.self c.self.inside.sessions.items c.commit.ensures.stay c.self.invariant

pub invariant_of-self-then-is_over : goal.invariant_of-self-then-is_over
invariant_of-self-then-is_over c =
    let left : AllByRecursion (IsOpen c.commit.new.self.history) c.drop_session.new.sessions.items = rw c.drop_session.ensures (all_passed (IsOpen c.commit.new.self.history) (λ (s : Session). not (s.number == c.args.number)) c.self.inside.sessions.items (all_stay c.self.inside.counting c.commit.new.self c.self.inside.sessions.items c.commit.ensures.stay c.self.invariant)) in
    left

pub invariant_of-self-else-is_over : goal.invariant_of-self-else-is_over
invariant_of-self-else-is_over c = all_stay c.self.inside.counting c.commit.new.self c.self.inside.sessions.items c.commit.ensures.stay c.self.invariant
