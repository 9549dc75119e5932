-- Numbers that are drawn one after another from a seed.
use Rattle.std.specs.Prelude.{ℕ, zero, suc, ◌+◌, ◌*◌, ◌/◌, ◌%◌}

-- the state behind a state
abbrev pub next_state : ℕ → ℕ
next_state x = (x * 1103515245 + 12345) % 2147483648

-- the state after so many draws
abbrev pub state_after : ℕ → ℕ → ℕ
state_after seed zero = seed
state_after seed (suc n) = next_state (state_after seed n)

-- what a state gives below a bound
abbrev pub below : ℕ → ℕ → ℕ
below bound x = (x / 65536) % bound

-- what is drawn below a bound, behind so many draws
abbrev pub drawn : ℕ → ℕ → ℕ → ℕ
drawn seed made bound = below bound (state_after seed (suc made))

-- a seed, and how many draws were made
pub record Drawing : Type 0 where
  pub seed : ℕ
  pub made : ℕ
