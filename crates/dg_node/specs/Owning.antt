-- Groups beside the state that coordinates them.
use Rattle.std.specs.Prelude.{◌≡◌, ℕ, ◌≤◌, List, [], map}
use Rattle.std.specs.List.{AllByRecursion}
use Rattle.dg_zero.specs.Legal.{IsLegal}
use Rattle.dg_zero.specs.declared.entry.Entry.{Entry}
use Rattle.dg_zero.specs.declared.tablets.Phase.TheVariants.{Idle}
use Rattle.dg_zero.specs.declared.tablets.Place.{Place}
use Rattle.dg_zero.specs.Places.{groups, tablets}
use Rattle.dg_zero.specs.States.{Zero}
use Rattle.dg_group.specs.Groups.{Group}
use Rattle.dg_group.specs.Stands.{IsInStep}

-- a group that has applied nothing
abbrev pub new_group : ℕ → Group
new_group number = record { number = number; last = 0; copies = [] }

-- no tablet is being moved
abbrev pub AreAtRest : List Entry → Type 0
AreAtRest history = AllByRecursion (λ (t : Place). t.phase ≡ Idle) (tablets history)

-- the history is legal, no tablet is being moved, and the groups have the numbers from 1 to n and are in step with the
-- history
pub record IsOwned (zero : Zero) (gs : List Group) : Type 0 where
  pub least : 1 ≤ zero.groups
  pub legal : IsLegal zero.groups zero.history
  pub idle : AreAtRest zero.history
  pub numbers : map (λ (g : Group). g.number) gs ≡ groups zero.groups
  pub in_step : AllByRecursion (λ g. IsInStep g zero.history) gs
