use Rattle.std.proofs.Common.{◌≡◌, false, ◌++◌, map, take}
use Rattle.std.specs.Arc.{arc_value}
use Rattle.dg_tree.specs.Texts.{field_text}
use Rattle.dg_level.specs.Parts.{parts_text, has_parts}
use Rattle.dg_level.proofs.rows.Rows.fields.Given as goal

-- the fields so far
abbrev pub invariant-loop-pair : goal.invariant-loop-pair
invariant-loop-pair l =
    (l.self.begun ≡ l.fn.self.begun ++ parts_text false (map field_text (map arc_value (take l.pair-index l.pairs))))
    × (l.wrote ≡ has_parts false (map field_text (map arc_value (take l.pair-index l.pairs))))
    × (l.self.rows ≡ l.fn.self.rows)
    × (l.self.limit ≡ l.fn.self.limit)
