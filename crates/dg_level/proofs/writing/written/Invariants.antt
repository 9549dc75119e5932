use Rattle.std.proofs.Common.{◌≡◌, List, [], map, take}
use Rattle.dg_level.specs.Rows.{row_text}
use Rattle.dg_level.specs.Columns.{FieldsOf, AreShown, shown_by}
use Rattle.dg_level.proofs.writing.written.Given as goal

-- a row for each node so far
abbrev pub invariant-loop-place : goal.invariant-loop-place
invariant-loop-place g l =
    ((all : List FieldsOf) → AreShown (g.S.Snapshot.graph l.snap) l.vars.variables l.nodes l.columns all → l.rows.rows ≡ map (λ n. row_text (shown_by all n)) (take l.place l.nodes))
    × (l.rows.begun ≡ [])
    × (l.rows.limit ≡ l.limit)
