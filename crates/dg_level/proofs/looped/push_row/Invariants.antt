use Rattle.std.proofs.Common.{◌≡◌, ℕ, List, map, take}
use Rattle.std.specs.Prelude.{Some, slice_get}
use Rattle.dg_level.specs.Rows.{row_text}
use Rattle.dg_level.specs.Columns.{FieldsOf, shown_by}
use Rattle.dg_level.specs.Looping.{PieceOf, fields_by, AreFetched, AreBelow}
use Rattle.dg_level.proofs.looped.push_row.Given as goal

-- the row so far
abbrev pub invariant-loop-fetched : goal.invariant-loop-fetched
invariant-loop-fetched g l =
    ((nodes : List ℕ) (pieces : List PieceOf) (at : FieldsOf) → AreFetched (g.S.Snapshot.graph l.snap) l.vars.variables nodes l.all pieces → slice_get nodes l.place ≡ Some l.node
    → l.below.rows ≡ map (λ n. row_text (at n)) l.level → AreBelow l.level pieces l.node
    → l.rows.begun ≡ row_text (shown_by (take l.fetched-index (map (fields_by at) pieces)) l.node))
    × (l.rows.rows ≡ l.fn.rows.rows)
    × (l.rows.limit ≡ l.fn.rows.limit)
