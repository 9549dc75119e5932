use Rattle.std.proofs.Common.{◌≡◌, ◌≤◌, ℕ, take, drop, length, get_or}
use Rattle.std.specs.Prelude.{filter_map}
use Rattle.dg_tree.specs.declared.tree.Tree.{Tree}
use Rattle.dg_shape.specs.Cascade.{to_remain, remaining, remaining_from, node_cut}
use Rattle.dg_shape.proofs.cascading.+cascade.Given as goal

-- what is left of the trees so far stands in front; the trees to come are as they were
abbrev pub invariant-cut_all-loop-i : goal.invariant-cut_all-loop-i
invariant-cut_all-loop-i l =
    (l.kept ≤ l.i) × (take l.kept l.items ≡ filter_map (node_cut (remaining (to_remain l.fields))) (take l.i l.initial.items))
    × (length l.items ≡ length l.initial.items) × ((k : ℕ) (d : Tree) → l.i ≤ k → get_or l.items k d ≡ get_or l.initial.items k d)

abbrev pub invariant-cut_fields-loop-field : goal.invariant-cut_fields-loop-field
invariant-cut_fields-loop-field l = remaining_from l.parts l.at (to_remain (drop l.field-index l.fields)) ≡ remaining (to_remain l.fields) l.initial.parts
