-- What stands beside a state of Zero.
use Rattle.std.specs.Prelude.{◌≡◌, ℕ, true, []}
use Rattle.dg_graph.specs.declared.plain.Plain.{Plain}
use Rattle.dg_zero.specs.Counters.{active, is_active_of}
use Rattle.dg_zero.specs.Legal.{IsLegal}
use Rattle.dg_zero.specs.States.{Zero}
use Rattle.dg_zero.specs.Worlds.{World, world, world_at}

-- a schema and a graph in memory, as a world
abbrev pub world_in : Plain → World
world_in at = record { schema = at.schema; graph = at.graph }

-- the history is legal and leads to this schema and graph
pub record IsMirror (zero : Zero) (at : Plain) : Type 0 where
  pub legal : IsLegal zero.groups zero.history
  pub world_is : world zero.history ≡ world_in at

-- a transaction of author 0 with this start is active, and this schema and graph are those there
pub record IsOpen (zero : Zero) (start : ℕ) (at : Plain) : Type 0 where
  pub active_is : is_active_of (active zero.history) start 0 ≡ true
  pub seen : world_at zero.history start ≡ world_in at

-- the history is legal, and there is no triple
pub record IsBare (zero : Zero) : Type 0 where
  pub legal : IsLegal zero.groups zero.history
  pub none : (world zero.history).graph ≡ []
