use Rattle.std.proofs.Common.{◌≡◌, ◌+◌, ◌*◌, ◌≤◌, [], length, map, take}
use Rattle.dg_recurse.specs.Rows.{joined, objects_of}
use Rattle.dg_recurse.specs.Written.{column_text, child_at, object_at, rows_behind}
use Rattle.dg_recurse.specs.Ways.{IsKept}
use Rattle.dg_recurse.proofs.walk.+walk.Given as goal

abbrev pub decreases-row : goal.decreases-row
decreases-row l = 5 * l.left + 1

abbrev pub decreases-column_of : goal.decreases-column_of
decreases-column_of l = 5 * l.left

abbrev pub decreases-shown_by : goal.decreases-shown_by
decreases-shown_by l = 5 * l.left + 4

abbrev pub decreases-first_row : goal.decreases-first_row
decreases-first_row l = 5 * l.left + 3

abbrev pub decreases-all_objects : goal.decreases-all_objects
decreases-all_objects l = 5 * l.left + 3

abbrev pub decreases-child_row : goal.decreases-child_row
decreases-child_row l = 5 * l.left + 2

-- the columns so far
abbrev pub invariant-row-loop-column : goal.invariant-row-loop-column
invariant-row-loop-column l =
    IsKept l.columns l.initial.way l.way
    × (l.out ≡ joined (map (column_text (rows_behind l.columns l.left l.initial.way.path.items) l.node) (take l.column-index l.columns)))
    × (length l.out ≤ l.limit)

-- no node so far shows something
abbrev pub invariant-first_row-loop-node : goal.invariant-first_row-loop-node
invariant-first_row-loop-node l =
    IsKept l.columns l.initial.way l.way × (objects_of (map (child_at l.columns l.left l.initial.way.path.items) (take l.node-index l.nodes)) ≡ [])

-- the objects so far
abbrev pub invariant-all_objects-loop-node : goal.invariant-all_objects-loop-node
invariant-all_objects-loop-node l =
    IsKept l.columns l.initial.way l.way
    × (l.out ≡ joined (map (object_at l.columns l.left l.initial.way.path.items) (take l.node-index l.nodes)))
    × (length l.out ≤ l.limit)
