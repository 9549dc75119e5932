-- Numbers of blocks that never rise along needs, and the names that a block uses of blocks of its own number.
use Rattle.std.specs.Prelude.{◌≡◌, ℕ, ◌+◌, List, [], ◌∷◌, ◌++◌, Bool, true, ◌&&◌, ◌==◌, nat_le, filter, Option, Some, None, unwrap_or, slice_get}
use Rattle.std.specs.List.{list_all, list_any}
use Rattle.dg_check.specs.declared.blocks.BlockNames.{BlockNames}
use Rattle.dg_check.specs.Names.{is_name_in}
use Rattle.dg_check.specs.Cycles.{is_circular}

-- the number of the block at a place; one that has none has 0
abbrev pub number_at : List (Option ℕ) → ℕ → ℕ
number_at numbers at = elim (slice_get numbers at) [ None ↦ 0 | Some number ↦ unwrap_or number 0 ]

-- none of these blocks has a greater number
abbrev pub are_below : List (Option ℕ) → ℕ → List ℕ → Bool
are_below numbers number places = list_all (λ place. nat_le (number_at numbers place) number) places

-- no block needs one of a greater number; these are what the blocks from a place on need
abbrev pub are_falling : List (Option ℕ) → ℕ → List (List ℕ) → Bool
are_falling numbers at [] = true
are_falling numbers at (needs ∷ more) = are_below numbers (number_at numbers at) needs && are_falling numbers (at + 1) more

-- one of these blocks has this number
abbrev pub has_number : List (Option ℕ) → ℕ → List ℕ → Bool
has_number numbers number places = list_any (λ place. number_at numbers place == number) places

-- the names that a block of this number uses of blocks that have it too, given the blocks that define each name
abbrev pub used_within : List (Option ℕ) → (List ℕ → List ℕ) → ℕ → List (List ℕ) → List (List ℕ)
used_within numbers under number used = filter (λ name. has_number numbers number (under name)) used

-- the same of the blocks from a place on
abbrev pub suspects_from : List (Option ℕ) → (List ℕ → List ℕ) → ℕ → List BlockNames → List (List ℕ)
suspects_from numbers under at [] = []
suspects_from numbers under at (block ∷ more) = used_within numbers under (number_at numbers at) block.used ++ suspects_from numbers under (at + 1) more

-- the name is one of these; where there are none it may be any
abbrev pub is_suspect : Option (List (List ℕ)) → List ℕ → Bool
is_suspect None x = true
is_suspect (Some names) x = is_name_in names x

-- each circular variable is a suspect
abbrev pub AreSuspects : List BlockNames → Option (List (List ℕ)) → Type 0
AreSuspects blocks suspects = (x : List ℕ) → is_circular blocks x ≡ true → is_suspect suspects x ≡ true
