-- Which variables are used in a block on which their own block depends.
use Rattle.std.specs.Prelude.{ℕ, ◌+◌, List, [], ◌∷◌, Bool, false, ◌||◌, ◌==◌, if◌then◌else◌, find, flat_map, Option, Some, None, slice_get}
use Rattle.std.specs.List.{list_any}
use Rattle.dg_values.specs.Ascending.{ascending}
use Rattle.dg_values.specs.Order.{text_cmp}
use Rattle.dg_check.specs.declared.blocks.BlockNames.{BlockNames}
use Rattle.dg_check.specs.Names.{is_name_in}

-- the place is one of these
abbrev pub is_place_in : List ℕ → ℕ → Bool
is_place_in places at = list_any (λ place. place == at) places

-- one block uses a variable of the other
abbrev pub uses_of : BlockNames → BlockNames → Bool
uses_of user definer = list_any (is_name_in definer.defined) user.used

-- the same of the block at a place, and whether that uses a variable
abbrev pub uses_at : List BlockNames → ℕ → BlockNames → Bool
uses_at blocks user definer = elim (slice_get blocks user) [ None ↦ false | Some block ↦ uses_of block definer ]

-- the block at a place uses a variable
abbrev pub uses_name_at : List BlockNames → List ℕ → ℕ → Bool
uses_name_at blocks x user = elim (slice_get blocks user) [ None ↦ false | Some block ↦ is_name_in block.used x ]

-- a block at a place is one of these, or one of these uses its variables
abbrev pub is_reached : List BlockNames → List ℕ → ℕ → BlockNames → Bool
is_reached blocks some at block = is_place_in some at || list_any (λ user. uses_at blocks user block) some

-- these blocks and those whose variables they use, of the blocks from a place on
abbrev pub reached_from : List BlockNames → List ℕ → ℕ → List BlockNames → List ℕ
reached_from blocks some at [] = []
reached_from blocks some at (block ∷ more) = if is_reached blocks some at block then at ∷ reached_from blocks some (at + 1) more else reached_from blocks some (at + 1) more

-- these blocks and those whose variables they use
abbrev pub with_used : List BlockNames → List ℕ → List ℕ
with_used blocks some = reached_from blocks some 0 blocks

-- these, and those that are as many steps away at most as there are turns
abbrev pub within : List BlockNames → List BlockNames → List ℕ → List ℕ
within [] blocks some = some
within (turn ∷ turns) blocks some = within turns blocks (with_used blocks some)

-- the blocks that define a variable, of those from a place on; it is one, unless the variable is defined twice
abbrev pub definers_from : List ℕ → ℕ → List BlockNames → List ℕ
definers_from x at [] = []
definers_from x at (block ∷ more) = if is_name_in block.defined x then at ∷ definers_from x (at + 1) more else definers_from x (at + 1) more

-- the blocks that define a variable
abbrev pub definers : List BlockNames → List ℕ → List ℕ
definers blocks x = definers_from x 0 blocks

-- the blocks on which that of a variable depends, itself one of them: a way to a block needs no more steps than there are blocks
abbrev pub depended_on : List BlockNames → List ℕ → List ℕ
depended_on blocks x = within blocks blocks (definers blocks x)

-- the variable is used in a block on which its own depends
abbrev pub is_circular : List BlockNames → List ℕ → Bool
is_circular blocks x = list_any (uses_name_at blocks x) (depended_on blocks x)

-- the least of these variables by bytes
abbrev pub least_circular : List BlockNames → Option (List ℕ)
least_circular blocks = find (is_circular blocks) (ascending text_cmp (flat_map (λ block. block.defined) blocks))
