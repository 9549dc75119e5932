-- The blocks to which others lead by what they need.
use Rattle.std.specs.Prelude.{◌≡◌, ℕ, List, [], ◌∷◌, ◌++◌, true, if◌then◌else◌, Option, Some, None}
use Rattle.dg_check.specs.Cycles.{is_place_in}
use Rattle.dg_check.specs.RunOrder.{deps_at}

-- these blocks, and behind them those of the others that aren't there yet
abbrev pub with_new : List ℕ → List ℕ → List ℕ
with_new some [] = some
with_new some (place ∷ places) = with_new (if is_place_in some place then some else some ++ place ∷ []) places

-- all these are among the others
abbrev pub Among : List ℕ → List ℕ → Type 0
Among xs ys = (at : ℕ) → is_place_in xs at ≡ true → is_place_in ys at ≡ true

-- the needs of a block, where there is one
abbrev pub needs_in : Option (List ℕ) → List ℕ
needs_in None = []
needs_in (Some needs) = needs

-- what these blocks need is among them
abbrev pub IsClosed : List (List ℕ) → List ℕ → Type 0
IsClosed deps all = (at need : ℕ) → is_place_in all at ≡ true → is_place_in (deps_at deps at) need ≡ true → is_place_in all need ≡ true
