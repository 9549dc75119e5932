-- Layers of operations.
use Rattle.std.specs.Prelude.{ℕ, List}
use Rattle.dg_delta.specs.declared.op.Op.{Op}

-- the operations of one commit on one list, and its timestamp
pub record Changes : Type 0 where
  pub ts : ℕ
  pub ops : List Op
