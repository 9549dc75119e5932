-- Where blocks of packed numbers begin.
use Rattle.std.specs.Prelude.{◌≡◌, ℕ, zero, suc, ◌+◌, ◌-◌, ◌^◌, ◌<◌, List, [], ◌∷◌, length}
use Rattle.std.specs.Ordering.{nat_cmp}
use Rattle.std.specs.List.{AllByRecursion}
use Rattle.dg_values.specs.Ascending.{Ascends}
use Rattle.dg_base.specs.declared.packing.Start.{Start}
use Rattle.dg_base.specs.Packed.{groups, packed}
use Rattle.dg_base.specs.Unpacked.{unpacked}

-- the blocks that begin in the bytes of numbers behind a last one, where these bytes stand at a place
abbrev pub starts_after : ℕ → ℕ → ℕ → List ℕ → List Start
starts_after at last room [] = []
starts_after at last zero (x ∷ xs) = record { first = x; at = at } ∷ starts_after (at + 9) x 127 xs
starts_after at last (suc room) (x ∷ xs) = starts_after (at + length (groups 9 (x - last))) x room xs

-- the blocks of packed numbers
abbrev pub starts_of : List ℕ → List Start
starts_of xs = starts_after 0 0 0 xs

-- the bytes are those of ascending numbers, with where their blocks begin and how many they are
pub record IsHeld (bytes : List ℕ) (starts : List Start) (count : ℕ) : Type 0 where
  pub packs : bytes ≡ packed (unpacked bytes)
  pub begin : starts ≡ starts_of (unpacked bytes)
  pub counts : count ≡ length (unpacked bytes)
  pub ascend : Ascends nat_cmp (unpacked bytes)
  pub fit : AllByRecursion (λ x. x < 2 ^ 64) (unpacked bytes)
