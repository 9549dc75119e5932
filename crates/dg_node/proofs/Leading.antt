-- Steps of the engine, from the machine that it stands for.
use Rattle.std.proofs.Common.{refl, subst}
use Rattle.dg_node.specs.Held.{Held}
use Rattle.dg_node.specs.Machine.{Machine}
use Rattle.dg_node.specs.State.{machine_of, HistoriesAgree, Leads, StandsFor}
use Rattle.dg_node.proofs.Agreeing.{agree}

pub histories_agree : HistoriesAgree
histories_agree groups history l = let s = agree groups history l in record { keys_are = s.keys_are; drawn = s.drawn; graphs_are = s.graphs_are }

-- the step from the machine that the engine stands for, and that for which it stands then
pub led_from : {before after : Held} {step : Machine → Machine → Type 0} → Leads before step after → (m : Machine) → StandsFor before m → (n : Machine) × step m n × StandsFor after n
led_from {before} {after} {step} l m s = (machine_of after, subst (λ (n : Machine). step n (machine_of after)) s l.leads, refl)
