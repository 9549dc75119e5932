use Rattle.std.proofs.Common.{◌≡◌, map, take}
use Rattle.dg_recurse.specs.Columns.{own_of}
use Rattle.dg_recurse.specs.Rows.{joined}
use Rattle.dg_recurse.proofs.near.row_of.Given as goal

-- the columns so far
abbrev pub invariant-loop-column : goal.invariant-loop-column
invariant-loop-column l = l.out ≡ joined (map (λ column. own_of column l.place) (take l.column-index l.columns))
