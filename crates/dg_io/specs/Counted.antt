-- A reader or a writer of std, and how often it has failed.
use Rattle.std.specs.Prelude.{ℕ}

-- the reader or writer, and the count of its faults
pub record Counted (T : Type 0) : Type 0 where
  pub inner : T
  pub faults : ℕ
