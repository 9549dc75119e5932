use Rattle.std.proofs.Common.{◌<◌, ◌∙◌, List, length, subst, sym}
use Rattle.std.specs.List.{AllByRecursion}
use Rattle.table_runs.specs.declared.groups.sessions.Session.{Session}
use Rattle.table_runs.specs.Opened.{IsOpen}
use Rattle.dg_node.proofs.Bringing.{element}
use Rattle.table_runs.proofs.Knowing.{all_stay, all_removed}
use Rattle.table_runs.proofs.groups.kept.Kept.end.Goals as goal

pub end-requires : goal.end-requires
end-requires c =
    let ss : List Session = c.self.inside.sessions.items in
    let lt : c.in-Some.at < length ss = subst (λ (xs : List Session). c.in-Some.at < length xs) c.as_slice.ensures.value c.in-Some.ensures in
    let open_then : IsOpen c.self.inside.counting.history c.remove-session.result = element (IsOpen c.self.inside.counting.history) ss c.in-Some.at c.remove-session.result lt (sym c.remove-session.ensures.value) c.self.invariant in
    c.close-start.ensures.author ∙ open_then.author_is

pub invariant_of-self : goal.invariant_of-self
invariant_of-self c =
    let left : AllByRecursion (IsOpen c.self.inside.counting.history) c.remove-session.new.self.items = rw c.remove-session.ensures.items (all_removed (IsOpen c.self.inside.counting.history) c.self.inside.sessions.items c.in-Some.at c.self.invariant) in
    all_stay c.self.inside.counting c.end.new.self c.remove-session.new.self.items c.end.ensures.stay left
