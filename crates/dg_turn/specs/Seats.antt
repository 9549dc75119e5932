-- What a seat of the lock knows, before and after a step.
use Rattle.std.specs.Prelude.{◌≡◌, ℕ, ◌%◌, ◌^◌, List, [], ◌∷◌, ◌++◌, length, Option}
use mathlib.Core.List.{IsPrefix}
use Rattle.atomic_table.specs.Table.{Me}
use Rattle.dg_turn.specs.History.{places_of, longer, AuthorsBelow}
use Rattle.dg_turn.specs.Rule.{OwnPlaces, Placed, view_of, idle, count_of, in_range}
use Rattle.dg_turn.specs.Values.{CallerValue, BeginsWithEach}
use Rattle.dg_turn.specs.declared.view.View.{View}
use Rattle.dg_turn.specs.declared.view.Stage.TheVariants.{Idle, Waiting, InTurn}

-- the view of a seat, with the slots that it has in hand
abbrev pub Seated : Type 0 → Type 0 → Type 0
Seated S E = Me (Option S) (View E)

-- the view of the caller k
abbrev pub caller_view : {E : Type 0} → List E → ℕ → List ℕ → View E
caller_view seen k mine = idle seen ((k, mine) ∷ [])

-- the view of a seat that waits with the ticket t
abbrev pub waiting : {E : Type 0} → View E → ℕ → View E
waiting v t = view_of v.seen [] v.numbers Waiting t

-- the view of the seat whose turn it is, which has seen the whole history
abbrev pub entering : {E : Type 0} → View E → List E → View E
entering v log = view_of log [] v.numbers InTurn v.ticket

-- one place more, with the first number
abbrev pub with_place : List OwnPlaces → ℕ → List OwnPlaces
with_place [] i = []
with_place (p ∷ ps) i = (p.0, p.1 ++ i ∷ []) ∷ ps

-- the view of a seat whose turn has ended with one entry more
abbrev pub leaving : {E : Type 0} → View E → List E → View E
leaving v log = idle log (with_place v.numbers (length v.seen))

-- what the seat was told is seen, where it is longer
abbrev pub learning : {E : Type 0} → View E → View E
learning v = idle (longer v.seen v.told) v.numbers

-- the view of a note: what was seen, and no number
abbrev pub noted : {E : Type 0} → View E → View E
noted v = idle v.seen []

-- all but the first, and the first alone, where there is one
abbrev pub tail_of : List OwnPlaces → List OwnPlaces
tail_of [] = []
tail_of (p ∷ ps) = ps

abbrev pub head_of : List OwnPlaces → List OwnPlaces
head_of [] = []
head_of (p ∷ ps) = p ∷ []

-- the view without its first number
abbrev pub without_first : {E : Type 0} → View E → View E
without_first v = idle v.seen (tail_of v.numbers)

-- the view with its first number alone
abbrev pub first_only : {E : Type 0} → View E → View E
first_only v = idle v.seen (head_of v.numbers)

-- the first seat is told what the second has seen, and has its numbers too
abbrev pub joined : {E : Type 0} → View E → View E → View E
joined v w = view_of v.seen w.seen (w.numbers ++ v.numbers) Idle 0

-- what is left of the second
abbrev pub spent : {E : Type 0} → View E
spent = idle [] []

-- the seat waits with this ticket
abbrev pub IsWaiting : {S E : Type 0} → Seated S E → ℕ → Type 0
IsWaiting m ticket = (m ≡ (view_of m.0.seen [] m.0.numbers Waiting m.0.ticket, [])) × (ticket ≡ m.0.ticket % 2 ^ 64)

-- the seat has no ticket, no slot in hand, and nothing to learn
abbrev pub IsIdle : {S E : Type 0} → Seated S E → Type 0
IsIdle m = m ≡ (idle m.0.seen m.0.numbers, [])

-- the seat n has seen the longer of what m and o had, which both begin, and has the numbers of both with their places
abbrev pub Merged : {S E : Type 0} → (E → ℕ) → Seated S E → Seated S E → Seated S E → Type 0
Merged {E = E} author m o n = (n ≡ (idle (longer m.0.seen o.0.seen) (o.0.numbers ++ m.0.numbers), [])) × ((log : List E) × IsPrefix m.0.seen log × IsPrefix o.0.seen log × Placed (places_of author log) (o.0.numbers ++ m.0.numbers))

-- the numbers of callers, each with its places
abbrev pub numbers_of : {E : Type 0} → List (CallerValue E) → List OwnPlaces
numbers_of [] = []
numbers_of (c ∷ cs) = (c.number, c.mine) ∷ numbers_of cs

-- the seat n has seen all that m and the callers had, and has the numbers of all of them
abbrev pub Gathered : {S E : Type 0} → Seated S E → List (CallerValue E) → Seated S E → Type 0
Gathered m cs n = IsIdle n × (n.0.numbers ≡ numbers_of cs ++ m.0.numbers) × IsPrefix m.0.seen n.0.seen × BeginsWithEach n.0.seen cs

-- the state at the end, for a seat with every number: its history begins with what the seat has seen, its entries are by callers, and with each number stand its places
abbrev pub Ends : {S E : Type 0} → (S → List E) → (E → ℕ) → ℕ → Seated S E → S → Type 0
Ends history author callers m y = IsPrefix m.0.seen (history y) × Placed (places_of author (history y)) m.0.numbers × AuthorsBelow author callers (history y) × ((k : ℕ) → count_of k m.0.numbers ≡ in_range 0 callers k)

-- a view that the rule leaves no seat: it is in turn, and has no number
abbrev pub impossible : {E : Type 0} → View E
impossible = view_of [] [] [] InTurn 0
