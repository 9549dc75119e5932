use Rattle.std.proofs.Common.{◌≡◌, ◌≤◌, ℕ, take, drop, length, get_or}
use Rattle.std.specs.Prelude.{filter_map}
use Rattle.dg_tree.specs.declared.tree.Tree.{Tree}
use Rattle.dg_shape.specs.Strip.{shown_fields, shown_from, node_shown, something, to_show}
use Rattle.dg_shape.proofs.stripping.+strip.Given as goal

-- what is shown of the trees so far stands in front; the trees to come are as they were
abbrev pub invariant-show_all-loop-i : goal.invariant-show_all-loop-i
invariant-show_all-loop-i l =
    (l.kept ≤ l.i) × (take l.kept l.items ≡ filter_map (λ t. something (node_shown (shown_fields (to_show l.fields)) t)) (take l.i l.initial.items))
    × (length l.items ≡ length l.initial.items) × ((k : ℕ) (d : Tree) → l.i ≤ k → get_or l.items k d ≡ get_or l.initial.items k d)

abbrev pub invariant-show_fields-loop-field : goal.invariant-show_fields-loop-field
invariant-show_fields-loop-field l =
    (l.places.kept ≤ l.places.at) × (shown_from l.parts l.places.kept l.places.at (to_show (drop l.field-index l.fields)) ≡ shown_fields (to_show l.fields) l.initial.parts)
