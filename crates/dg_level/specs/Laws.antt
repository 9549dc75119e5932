-- What holds of the variables of a query.
use Rattle.std.specs.Prelude.{◌≡◌, ℕ, ◌<◌, true, false, List, [], length, None}
use Rattle.dg_schema.specs.declared.definition.PredDef.{PredDef}
use Rattle.dg_graph.specs.declared.change.Triple.{Triple}
use Rattle.dg_parse.specs.declared.query.Query.{Query}
use Rattle.dg_check.specs.Blocks.{names_of_blocks}
use Rattle.dg_check.specs.Cycles.{is_place_in}
use Rattle.dg_check.specs.Faults.{first_again}
use Rattle.dg_check.specs.RunOrder.{dependencies, are_ready}
use Rattle.dg_check.specs.Variables.{names_for}
use Rattle.dg_level.specs.Meaning.{defined_in, variables_by, variables_of}

-- any order of all blocks, in which each comes once and behind those that it depends on, makes the same variables known
abbrev pub AnyOrderServes : Type 0
AnyOrderServes = (schema : List PredDef) (graph : List Triple) (query : Query) (order : List ℕ) → are_ready (dependencies (names_of_blocks query.blocks)) [] order ≡ true
    → ((at : ℕ) → at < length query.blocks → is_place_in order at ≡ true) → first_again [] (names_for false (defined_in schema query)) ≡ None → variables_by schema graph query order ≡ variables_of schema graph query
