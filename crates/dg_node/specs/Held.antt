-- What the engine is seen as.
use Rattle.std.specs.Prelude.{ℕ, List}
use Rattle.dg_zero.specs.States.{Zero}
use Rattle.dg_txn.specs.Own.{Transaction}

-- an open transaction, and its session
pub record Opened : Type 0 where
  pub sid : ℕ
  pub txn : Transaction

-- Zero's state, and the open transactions in the order in which they began
pub record Held : Type 0 where
  pub zero : Zero
  pub opened : List Opened
