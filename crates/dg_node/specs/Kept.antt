-- What the engine keeps of itself: Zero's history is legal, and the transactions of its slots are the active ones.
use Rattle.std.specs.Prelude.{◌≡◌, ◌≢◌, ℕ, if◌then◌else◌, List, [], ◌∷◌, ◌++◌, Option, Some, None, is_some, IsSome, flat_map}
use Rattle.std.specs.List.{AllByRecursion, remove}
use Rattle.dg_zero.specs.Counters.{active}
use Rattle.dg_zero.specs.Legal.{IsLegal}
use Rattle.dg_zero.specs.States.{Zero}
use Rattle.dg_txn.specs.Own.{Transaction}
use Rattle.dg_node.specs.declared.engine.Slot.{Slot}
use Rattle.dg_node.specs.Held.{Opened}
use Rattle.dg_node.specs.Sessions.{IsSession, own_start}

-- no two have the same number
abbrev pub AreApart : {X : Type 0} → (X → ℕ) → List X → Type 0
AreApart f [] = Unit {0}
AreApart f (x ∷ xs) = AllByRecursion (λ y. f y ≢ f x) xs × AreApart f xs

-- a session's open transaction, where it has one
abbrev pub opened_in : ℕ → Option Transaction → List Opened
opened_in sid None = []
opened_in sid (Some txn) = (record { sid = sid; txn = txn }) ∷ []

-- the open transactions of slots
abbrev pub opened_of : List Slot → List Opened
opened_of slots = flat_map (λ s. opened_in s.sid s.txn) slots

-- the slots without the one at a place, where its session has no transaction
abbrev pub unless_open : List Slot → ℕ → Option Slot → List Slot
unless_open slots place None = slots
unless_open slots place (Some slot) = if is_some slot.txn then slots else remove slots place

-- the slots, and a session behind them, where it has a transaction
abbrev pub with_opened : List Slot → ℕ → Option Transaction → List Slot
with_opened slots sid None = slots
with_opened slots sid (Some txn) = slots ++ (record { sid = sid; txn = Some txn }) ∷ []

-- Each slot has a transaction; these are the active ones, and no two have the same session.
pub record IsKept (zero : Zero) (slots : List Slot) : Type 0 where
  pub legal : IsLegal zero.groups zero.history
  pub active_are : active zero.history ≡ flat_map (λ s. own_start 0 s.txn) slots
  pub apart : AreApart (λ s. s.sid) slots
  pub full : AllByRecursion (λ s. IsSome s.txn) slots
  pub each : AllByRecursion (λ s. IsSession zero 0 s.txn) slots
