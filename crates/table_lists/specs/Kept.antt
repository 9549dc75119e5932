-- What is known of posting lists and stores between rows.
use Rattle.std.specs.Prelude.{ℕ, ◌≤◌}
use Rattle.std.specs.List.{AllByRecursion}
use Rattle.dg_list.specs.Lists.{Layered}
use Rattle.dg_store.specs.Stores.{Lists}

-- the base is at or below one timestamp, and each layer at or below another
pub record IsWithin (rolled newest : ℕ) (list : Layered) : Type 0 where
  pub base : list.base_ts ≤ rolled
  pub layers : AllByRecursion (λ layer. layer.ts ≤ newest) list.layers
  pub order : rolled ≤ newest

-- each list of a store is so
pub record AreWithin (rolled newest : ℕ) (lists : Lists) : Type 0 where
  pub each : AllByRecursion (λ e. IsWithin rolled newest e.1) lists
  pub order : rolled ≤ newest
