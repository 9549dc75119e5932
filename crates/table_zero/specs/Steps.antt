-- What steps lead to, as the histories lead that they were made beside.
use Rattle.std.specs.Prelude.{◌≡◌, ℕ, nat_le, if◌then◌else◌, List, fold}
use Rattle.dg_graph.specs.declared.plain.Plain.{Plain}
use Rattle.dg_graph.specs.Graphs.{after_changes}
use Rattle.dg_schema.specs.Definitions.{with_definitions}
use Rattle.dg_zero.specs.declared.entry.Entry.{Entry}
use Rattle.dg_zero.specs.Worlds.{World, world_at, empty_world}
use Rattle.table_zero.specs.declared.steps.Step.{Step}
use Rattle.table_zero.specs.declared.steps.Step.TheVariants.{Committed, Altered}

-- a schema and a graph in memory, as a world
abbrev pub world_in : Plain → World
world_in plain = record { schema = plain.schema; graph = plain.graph }

-- the world after a step, where it is at or below a timestamp
abbrev pub world_by : ℕ → World → Step → World
world_by at w (Committed ts changes) = if nat_le ts at then record { schema = w.schema; graph = after_changes w.schema w.graph changes } else w
world_by at w (Altered ts newer) = if nat_le ts at then record { schema = with_definitions w.schema newer; graph = w.graph } else w

-- the steps lead where the history leads, at each timestamp
abbrev pub LeadAlike : List Entry → List Step → Type 0
LeadAlike history steps = (at : ℕ) → world_at history at ≡ fold (world_by at) empty_world steps
