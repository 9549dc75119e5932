use Rattle.std.proofs.Common.{◌≡◌, List, [], map, take}
use Rattle.std.specs.Ordering.{nat_cmp}
use Rattle.dg_values.specs.Ascending.{ascending}
use Rattle.dg_level.specs.Rows.{row_text}
use Rattle.dg_level.specs.Columns.{FieldsOf}
use Rattle.dg_level.specs.Looping.{PieceOf, level_fields, nodes_fetched, AreFetched}
use Rattle.dg_level.proofs.looped.rows_above.Given as goal

-- a row for each node so far
abbrev pub invariant-loop-place : goal.invariant-loop-place
invariant-loop-place g l =
    ((pieces : List PieceOf) (at : FieldsOf) → AreFetched (g.S.Snapshot.graph l.snap) l.vars.variables l.nodes l.all pieces → l.level ≡ ascending nat_cmp (nodes_fetched l.all)
    → l.below.rows ≡ map (λ n. row_text (at n)) l.level → l.rows.rows ≡ map (λ n. row_text (level_fields pieces at n)) (take l.place l.nodes))
    × (l.rows.begun ≡ [])
    × (l.rows.limit ≡ l.limit)
