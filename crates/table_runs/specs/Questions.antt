-- What is looked up in a graph.
use Rattle.std.specs.Prelude.{ℕ, Bool, true, List}
use Rattle.dg_values.specs.declared.value.Posting.TheVariants.{Uid}
use Rattle.dg_schema.specs.declared.definition.PredDef.{PredDef}
use Rattle.dg_graph.specs.declared.change.Triple.{Triple}
use Rattle.dg_graph.specs.Lookups.{has_reverse, is_indexed_by, has_numbers, subjects_of, subjects_where, has_token, holders, by_token_range, by_count}
use Rattle.table_runs.specs.declared.groups.lookups.Lookup.{Lookup}
use Rattle.table_runs.specs.declared.groups.lookups.Lookup.TheVariants.{Subjects, Token, Range, Holders, Count}

-- the schema keeps the lists by which a look-up is answered
abbrev pub is_answered : List PredDef → Lookup → Bool
is_answered schema (Subjects p o) = has_reverse schema p
is_answered schema (Token p t) = is_indexed_by schema p t.tokenizer
is_answered schema (Range p tokenizer low high) = is_indexed_by schema p tokenizer
is_answered schema (Holders p) = true
is_answered schema (Count p reverse low high) = has_numbers schema p reverse

-- the nodes that a look-up finds in a graph
abbrev pub found_in : List Triple → Lookup → List ℕ
found_in graph (Subjects p o) = subjects_of graph p (Uid o)
found_in graph (Token p t) = subjects_where (has_token t) graph p
found_in graph (Range p tokenizer low high) = by_token_range graph p tokenizer low high
found_in graph (Holders p) = holders graph p
found_in graph (Count p reverse low high) = by_count graph p reverse low high
