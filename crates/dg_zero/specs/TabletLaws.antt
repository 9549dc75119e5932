-- What holds of tablets and copies in legal histories.
use Rattle.std.specs.Prelude.{◌≡◌, ℕ, ◌≤◌, true, false, List, [], ◌∷◌, ◌++◌, None, IfSome, IsSomeAnd}
use Rattle.std.specs.List.{AllByRecursion, list_any}
use Rattle.dg_schema.specs.declared.definition.PredDef.{PredDef}
use Rattle.dg_schema.specs.Definitions.{is_declared}
use Rattle.dg_keys.specs.declared.record.Tablet.{Tablet}
use Rattle.dg_zero.specs.declared.entry.Entry.{Entry}
use Rattle.dg_zero.specs.declared.entry.Event.TheVariants.{Begin}
use Rattle.dg_zero.specs.declared.tablets.Place.{Place}
use Rattle.dg_zero.specs.Counters.{active, is_active_of, line}
use Rattle.dg_zero.specs.Legal.{IsLegal}
use Rattle.dg_zero.specs.Places.{Copy, copies, copy_at, is_copy_at, is_place_of, tablets}
use Rattle.dg_zero.specs.States.{owners}
use Rattle.dg_zero.specs.Worlds.{schema}

-- no two tablets are of one predicate
abbrev pub AreOnce : List Place → Type 0
AreOnce [] = Unit {0}
AreOnce (t ∷ more) = AllByRecursion (λ u. is_place_of t.pred u ≡ false) more × AreOnce more

-- the tablets are those of the declared predicates, one of each
pub record AreTablets (declared : List PredDef) (places : List Place) : Type 0 where
  pub named : (pred : List ℕ) → list_any (is_place_of pred) places ≡ is_declared declared pred
  pub once : AreOnce places

-- so they are in every legal history
abbrev pub TabletsAreDeclared : Type 0
TabletsAreDeclared = (n : ℕ) (history : List Entry) → IsLegal n history → AreTablets (schema history) (tablets history)

-- the group has a copy of the predicate's tablet that may be read without an end
abbrev pub HasCopy : List Copy → List ℕ → ℕ → Type 0
HasCopy cs pred group = IsSomeAnd (copy_at cs pred group) (λ c. c.until ≡ None)

-- each tablet's owner has one
abbrev pub OwnersHaveCopies : Type 0
OwnersHaveCopies = (n : ℕ) (history : List Entry) → IsLegal n history → AllByRecursion (λ t. HasCopy (copies history) t.pred t.group) (tablets history)

-- no two copies are of one predicate at one group
abbrev pub AreApart : List Copy → Type 0
AreApart [] = Unit {0}
AreApart (c ∷ more) = AllByRecursion (λ d. is_copy_at c.pred c.group d ≡ false) more × AreApart more

-- so they are in every legal history
abbrev pub CopiesAreApart : Type 0
CopiesAreApart = (n : ℕ) (history : List Entry) → IsLegal n history → AreApart (copies history)

-- the copy is of a predicate that has a tablet, and was merged up to the line at most
pub record IsOfTablet (history : List Entry) (c : Copy) : Type 0 where
  pub there : list_any (is_place_of c.pred) (tablets history) ≡ true
  pub low : c.mark ≤ line history

-- so each copy is
abbrev pub CopiesAreOfTablets : Type 0
CopiesAreOfTablets = (n : ℕ) (history : List Entry) → IsLegal n history → AllByRecursion (IsOfTablet history) (copies history)

-- the copy can be read at a timestamp: it was merged up to there at most, and its end isn't before
pub record IsReadableAt (at : ℕ) (c : Copy) : Type 0 where
  pub merged : c.mark ≤ at
  pub lasts : IfSome c.until (λ until. at ≤ until)

-- an author begins a transaction
abbrev pub begin_of : ℕ → ℕ → Entry
begin_of author start = record { author = author; event = Begin start }

-- while a start is active, the owners' copies that were there when it began can be read at it, whatever came after
abbrev pub SharedCopiesStay : Type 0
SharedCopiesStay = (n : ℕ) (history more : List Entry) (author start : ℕ) → IsLegal n (history ++ begin_of author start ∷ more) → is_active_of (active (history ++ begin_of author start ∷ more)) start author ≡ true → AllByRecursion (λ (t : Tablet). IsSomeAnd (copy_at (copies (history ++ begin_of author start ∷ more)) t.pred t.group) (IsReadableAt start)) (owners history)
