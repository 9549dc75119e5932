-- What each step on a word tells its seat: of the step, the seat before, the number found and the seat after.
use Rattle.std.specs.Prelude.{◌≡◌, ◌≢◌, ℕ, ◌%◌, ◌^◌, List, [], ◌∷◌, Option, Some}
use mathlib.Core.List.{IsPrefix}
use Rattle.atomic_table.specs.Table.{Step}
use Rattle.dg_turn.specs.History.{places_of}
use Rattle.dg_turn.specs.Rule.{Placed}
use Rattle.dg_turn.specs.Seats.{Seated, waiting, entering, leaving, learning}

module _ {S E : Type 0} where
  -- a ticket was drawn, of which the ticket word held the number modulo 2^64
  abbrev pub drew : Step (Option S) → Seated S E → ℕ → Seated S E → Type 0
  drew st m found n = (t : ℕ) × (found ≡ t % 2 ^ 64) × (n ≡ (waiting m.0 t, m.1))

  module _ (history : S → List E) (author : E → ℕ) where
    -- the seat n has the slot with the state in hand, and has seen its whole history, which begins with what m had seen
    abbrev pub Enters : Seated S E → Seated S E → Type 0
    Enters m n = (x : S) × (n ≡ (entering m.0 (history x), (0, Some x) ∷ m.1)) × IsPrefix m.0.seen (history x) × Placed (places_of author (history x)) m.0.numbers

    -- the serving word was read: at its own ticket the seat is in turn, and else stays as it was
    abbrev pub loaded : Step (Option S) → Seated S E → ℕ → Seated S E → Type 0
    loaded st m found n = (found ≡ m.0.ticket % 2 ^ 64 → Enters m n) × (found ≢ m.0.ticket % 2 ^ 64 → n ≡ m)

    -- the turn was ended, and the slot given back with the state that was in it
    abbrev pub added : Step (Option S) → Seated S E → ℕ → Seated S E → Type 0
    added st m found n = (x : S) → m.1 ≡ (0, Some x) ∷ [] → n ≡ (leaving m.0 (history x), [])

    -- after a join: the longer history is seen, and the shorter begins it
    abbrev pub learned : Step (Option S) → Seated S E → ℕ → Seated S E → Type 0
    learned st m found n = (n ≡ (learning m.0, m.1)) × ((log : List E) × IsPrefix m.0.seen log × IsPrefix m.0.told log × Placed (places_of author log) m.0.numbers)

  -- nothing, since the step can't be made
  abbrev pub never : Step (Option S) → Seated S E → ℕ → Seated S E → Type 0
  never st m found n = ⊥
