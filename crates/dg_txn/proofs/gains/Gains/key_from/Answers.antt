use Rattle.std.specs.Prelude.{None, Some}
use Rattle.std.specs.Arc.{arc_value}
use Rattle.std.specs.Ordering.{is_le}
use Rattle.dg_keys.specs.Keys.{key_cmp}
use Rattle.dg_pages.specs.Paged.{joined}
use Rattle.dg_txn.proofs.StandingKeys.{gained_least}
use Rattle.dg_txn.proofs.gains.Gains.key_from.Goals as goal

pub returns-in-Some : goal.returns-in-Some
returns-in-Some c =
    rw c.deref.ensures
    (gained_least (λ other. is_le (key_cmp c.args.key.now other)) (joined c.self.inside.lists) c.args.self.now (Some (arc_value c.in-Some.found.now, arc_value c.in-Some.field-0-1.now)) c.in-Some.ensures.map c.self.view_is c.in-Some.ensures.next)

pub returns-in-None : goal.returns-in-None
returns-in-None c = gained_least (λ other. is_le (key_cmp c.args.key.now other)) (joined c.self.inside.lists) c.args.self.now None c.in-None.ensures.map c.self.view_is c.in-None.ensures.next
