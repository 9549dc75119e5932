use Rattle.std.proofs.Common.{subst}
use Rattle.dg_zero.specs.States.{Zero}
use Rattle.table_runs.specs.Opened.{StayOpen}
use Rattle.table_runs.proofs.Knowing.{alters_stay, alters_starts}
use Rattle.table_runs.proofs.groups.counting.Counting.alter.Goals as goal

pub invariant_of-self : goal.invariant_of-self
invariant_of-self c = alters_starts c.self.inside.owned c.alter.new.self c.self.inside.starts.items c.in_ok-slip.slip c.args.newer.now c.alter.result c.self.invariant c.alter.ensures.alters

pub returns : goal.returns
returns c = record { stay = subst (λ (z : Zero). StayOpen z c.alter.new.self) c.self.view_is (alters_stay c.self.inside.owned c.alter.new.self c.in_ok-slip.slip c.args.newer.now c.alter.result c.alter.ensures.alters c.alter.ensures.legal) }
