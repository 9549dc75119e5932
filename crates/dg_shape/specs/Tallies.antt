-- Flat objects that are counted before they are made.
use Rattle.std.specs.Prelude.{◌≡◌, ◌≤◌, ℕ, Bool, true, List, length}
use Rattle.std.specs.List.{list_all}
use Rattle.dg_tree.specs.declared.tree.Field.{Field}
use Rattle.dg_shape.specs.Normalize.{has_pair}

-- there are as many objects or more, and where it is said all have a field
abbrev pub IsTally : ℕ → Bool → List (List Field) → Type 0
IsTally total filled objects = (total ≤ length objects) × (filled ≡ true → list_all has_pair objects ≡ true)
