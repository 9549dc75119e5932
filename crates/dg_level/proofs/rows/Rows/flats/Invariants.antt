use Rattle.std.proofs.Common.{◌≡◌, ◌++◌, take}
use Rattle.dg_level.specs.Parts.{parts_text, has_parts}
use Rattle.dg_level.specs.Flats.{flat_texts}
use Rattle.dg_level.proofs.rows.Rows.flats.Given as goal

-- the objects so far
abbrev pub invariant-loop-object : goal.invariant-loop-object
invariant-loop-object l =
    (l.self.begun ≡ l.fn.self.begun ++ parts_text l.before (flat_texts (take l.object-index l.objects)))
    × (l.wrote ≡ has_parts l.before (flat_texts (take l.object-index l.objects)))
    × (l.self.rows ≡ l.fn.self.rows)
    × (l.self.limit ≡ l.fn.self.limit)
