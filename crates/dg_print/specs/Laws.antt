-- That printed queries and upsert blocks read back.
use Rattle.std.specs.Prelude.{◌≡◌, ℕ, List, Ok}
use Rattle.dg_parse.specs.declared.query.Query.{Query}
use Rattle.dg_parse.specs.declared.upsert.Upsert.{Upsert}
use Rattle.dg_print.specs.PrintedQuery.{query_text}
use Rattle.dg_print.specs.PrintedUpsert.{upsert_text}
use Rattle.dg_parse.specs.Whole.{query_of, upsert_of}

-- the printed text of a query that a text says says the same query
abbrev pub QueryReadsBack : Type 0
QueryReadsBack = (text : List ℕ) (q : Query) → query_of text ≡ Ok q → query_of (query_text q) ≡ Ok q

-- the same of an upsert block
abbrev pub UpsertReadsBack : Type 0
UpsertReadsBack = (text : List ℕ) (u : Upsert) → upsert_of text ≡ Ok u → upsert_of (upsert_text u) ≡ Ok u
