-- What a query answers, by its text.
use Rattle.std.specs.Prelude.{ℕ, List, [], ◌∷◌, Option, Some, None}
use Rattle.dg_schema.specs.declared.definition.PredDef.{PredDef}
use Rattle.dg_graph.specs.declared.change.Triple.{Triple}
use Rattle.dg_parse.specs.declared.query.Query.{Query}
use Rattle.dg_check.specs.declared.vars.Variable.{Variable}
use Rattle.dg_check.specs.Places.{places_of_query}
use Rattle.dg_check.specs.RunOrder.{order_of}
use Rattle.dg_check.specs.Variables.{Definition, definitions_in}
use Rattle.dg_tree.specs.declared.tree.Field.{Field}
use Rattle.dg_level.specs.Aggregates.{sums_beyond}
use Rattle.dg_level.specs.Blocks.{blocks_shown}
use Rattle.dg_level.specs.Given.{run_in_order}

-- the variables that a query defines, in the order of its text
abbrev pub defined_in : List PredDef → Query → List Definition
defined_in schema query = definitions_in schema (places_of_query query)

-- what they stand for once the blocks have run in this order
abbrev pub variables_by : List PredDef → List Triple → Query → List ℕ → List Variable
variables_by schema graph query order = run_in_order schema graph (defined_in schema query) query.blocks order

-- what they stand for: again and again the first block of the text runs whose variables are known
abbrev pub variables_of : List PredDef → List Triple → Query → List Variable
variables_of schema graph query = variables_by schema graph query (order_of query)

-- the first of these, if there is any
abbrev pub first_name : List (List ℕ) → Option (List ℕ)
first_name [] = None
first_name (x ∷ names) = Some x

-- the variable of the first sum of the text that is no number of 64 bits, if there is one
abbrev pub overflow_of : List PredDef → List Triple → Query → Option (List ℕ)
overflow_of schema graph query = first_name (sums_beyond (defined_in schema query) (variables_of schema graph query) query.blocks)

-- what a query answers: its blocks in the order of the text, without those that are hidden
abbrev pub answer_of : List PredDef → List Triple → Query → List Field
answer_of schema graph query = blocks_shown schema graph (defined_in schema query) (variables_of schema graph query) query.blocks
