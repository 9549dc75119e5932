use Rattle.std.proofs.Common.{◌≡◌, ◌++◌, false, take}
use Rattle.dg_level.specs.Parts.{parts_text, has_parts}
use Rattle.dg_level.proofs.rows.Rows.parts.Given as goal

-- the texts so far
abbrev pub invariant-loop-text : goal.invariant-loop-text
invariant-loop-text l =
    (l.self.begun ≡ l.fn.self.begun ++ parts_text false (take l.text-index l.texts))
    × (l.wrote ≡ has_parts false (take l.text-index l.texts))
    × (l.self.rows ≡ l.fn.self.rows)
    × (l.self.limit ≡ l.fn.self.limit)
