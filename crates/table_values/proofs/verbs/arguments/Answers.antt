use Rattle.std.proofs.Common.{◌≡◌, ℕ, ◌<◌, ◌==◌, List, Option, Some, nat_lt}
use Rattle.std.specs.List.{AllPass}
use Rattle.std.specs.Prelude.{slice_index}
use Rattle.std.proofs.lemmas.Bool.{and_parts}
use Rattle.std.proofs.lemmas.Bool.Decides.{Decides-eqb, Decides-ltb}
use Rattle.dg_table.specs.Rows.{Row, IsCodeOf}
use Rattle.table_values.specs.Verbs.{argument_count, is_counted}
use Rattle.table_values.specs.declared.verbs.TheConstants.{COUNTS}
use Rattle.dg_table.proofs.TestLemmas.{at_each_row}
use Rattle.table_values.proofs.verbs.arguments.Goals as goal

-- the rule at the row that a name finds
counted_where_found : (rows : List Row) (name : List ℕ) (answer : Option ℕ) (code : ℕ) → AllPass (is_counted COUNTS) rows
    → IsCodeOf rows name answer → answer ≡ Some code → (code < 17) × (slice_index COUNTS code ≡ argument_count name)
counted_where_found rows name answer code each answers found =
    let parts = and_parts (nat_lt code 17) (slice_index COUNTS code == argument_count name)
    (at_each_row (is_counted COUNTS) rows name code each ((answers code).0 found)) in
    ((Decides-ltb code 17).0 parts.0, (Decides-eqb (slice_index COUNTS code) (argument_count name)).0 parts.1)

pub bounds-code : goal.bounds-code
bounds-code c =
    (counted_where_found c.verbs.result c.args.name.now _ c.in_ok-code.code c.verbs.ensures.counted c.find.ensures.answer c.in_ok-code.was).0

pub returns : goal.returns
returns c =
    (counted_where_found c.verbs.result c.args.name.now _ c.in_ok-code.code c.verbs.ensures.counted c.find.ensures.answer c.in_ok-code.was).1
