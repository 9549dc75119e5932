use Rattle.std.proofs.Common.{rules}
use Rattle.std.specs.Arc.{arc_value}
use Rattle.std.specs.List.{AllByRecursion}
use Rattle.table_runs.specs.Opened.{HasBegun, IsOpen}
use Rattle.table_runs.proofs.Knowing.{all_stay, one_more}
use Rattle.table_runs.proofs.groups.kept.Kept.begin.Goals as goal

pub invariant_of-self-in_err-begun : goal.invariant_of-self-in_err-begun
invariant_of-self-in_err-begun c =
    let all : AllByRecursion (IsOpen c.begin.new.self.history) c.reserve.new.self.items = rw c.reserve.ensures.items (all_stay c.self.inside.counting c.begin.new.self c.self.inside.sessions.items c.begin.ensures.stay c.self.invariant) in
    all

pub invariant_of-self-in-Err : goal.invariant_of-self-in-Err
invariant_of-self-in-Err c =
    let all : AllByRecursion (IsOpen c.begin.new.self.history) c.reserve.new.self.items = rw c.reserve.ensures.items (all_stay c.self.inside.counting c.begin.new.self c.self.inside.sessions.items c.begin.ensures.stay c.self.invariant) in
    all

pub invariant_of-self-in-Ok-open : goal.invariant_of-self-in-Ok-open
invariant_of-self-in-Ok-open c =
    let begun : HasBegun c.begin.new.self.history c.in-Ok.begun.0.start (arc_value c.in-Ok.begun.0.schema) (arc_value c.in-Ok.begun.0.owners) c.in-Ok.begun.1.items = search rules in
    let is : IsOpen c.begin.new.self.history c.in-Ok-open.session = c.in-Ok-open.ensures.opened c.begin.new.self.history begun in
    let all : AllByRecursion (IsOpen c.begin.new.self.history) c.push_reserved.new.self.items = rw (c.push_reserved.ensures.items, c.reserve.ensures.items) (one_more c.self.inside.counting c.begin.new.self c.self.inside.sessions.items c.in-Ok-open.session c.begin.ensures.stay c.self.invariant is) in
    all

pub invariant_of-self-in_err-end-in-Err-open : goal.invariant_of-self-in_err-end-in-Err-open
invariant_of-self-in_err-end-in-Err-open c =
    let all : AllByRecursion (IsOpen c.end-in-Err-open.new.self.history) c.reserve.new.self.items = rw c.reserve.ensures.items (all_stay c.begin.new.self c.end-in-Err-open.new.self c.self.inside.sessions.items c.end-in-Err-open.ensures.stay (all_stay c.self.inside.counting c.begin.new.self c.self.inside.sessions.items c.begin.ensures.stay c.self.invariant)) in
    all

pub invariant_of-self-in-Err-open : goal.invariant_of-self-in-Err-open
invariant_of-self-in-Err-open c =
    let all : AllByRecursion (IsOpen c.end-in-Err-open.new.self.history) c.reserve.new.self.items = rw c.reserve.ensures.items (all_stay c.begin.new.self c.end-in-Err-open.new.self c.self.inside.sessions.items c.end-in-Err-open.ensures.stay (all_stay c.self.inside.counting c.begin.new.self c.self.inside.sessions.items c.begin.ensures.stay c.self.invariant)) in
    all
