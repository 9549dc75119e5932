use Rattle.std.proofs.Common.{◌≡◌, ℕ, List, take}
use Rattle.std.specs.Prelude.{Some, slice_get}
use Rattle.dg_level.specs.Rows.{row_text}
use Rattle.dg_level.specs.Columns.{FieldsOf, AreShown, shown_by}
use Rattle.dg_level.proofs.writing.push_row.Given as goal

-- the row so far
abbrev pub invariant-loop-column : goal.invariant-loop-column
invariant-loop-column g l =
    ((nodes : List ℕ) (all : List FieldsOf) → AreShown (g.S.Snapshot.graph l.snap) l.vars.variables nodes l.columns all → slice_get nodes l.place ≡ Some l.node
    → l.rows.begun ≡ row_text (shown_by (take l.column-index all) l.node))
    × (l.rows.rows ≡ l.fn.rows.rows)
    × (l.rows.limit ≡ l.fn.rows.limit)
