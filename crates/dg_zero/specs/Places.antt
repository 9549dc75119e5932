-- Where tablets are: owners, moves and copies.
use Rattle.std.specs.Prelude.{ℕ, zero, suc, ◌+◌, Bool, true, false, ◌&&◌, ◌==◌, not, nat_lt, if◌then◌else◌, List, [], ◌∷◌, ◌++◌, Option, Some, None, fold, map, filter, find, count_by, option_map, unwrap_or, codes}
use Rattle.std.specs.List.{list_any}
use Rattle.dg_values.specs.Order.{same_text}
use Rattle.dg_schema.specs.declared.definition.PredDef.{PredDef}
use Rattle.dg_keys.specs.declared.record.Tablet.{Tablet}
use Rattle.dg_zero.specs.declared.entry.Entry.{Entry}
use Rattle.dg_zero.specs.declared.entry.Event.{Event}
use Rattle.dg_zero.specs.declared.entry.Event.TheVariants.{Alter, Line, Rolled, MoveStart, MoveCopied, MoveHold, Flip, MoveOff}
use Rattle.dg_zero.specs.declared.tablets.Phase.{Phase}
use Rattle.dg_zero.specs.declared.tablets.Phase.TheVariants.{Idle, Started, Copied, Held}
use Rattle.dg_zero.specs.declared.tablets.Place.{Place}

-- a group's copy of a tablet: up to where it was merged, and the last timestamp at which an old copy is read
pub record Copy : Type 0 where
  pub pred : List ℕ
  pub group : ℕ
  pub mark : ℕ
  pub until : Option ℕ

-- all tablets, in the order in which they were declared, and all copies
pub record Places : Type 0 where
  pub tablets : List Place
  pub copies : List Copy

-- the tablet is of this predicate
abbrev pub is_place_of : List ℕ → Place → Bool
is_place_of pred place = same_text place.pred pred

-- the tablet of a predicate, where it has one
abbrev pub place_of : List Place → List ℕ → Option Place
place_of tablets pred = find (is_place_of pred) tablets

-- the copy is of this predicate, at this group
abbrev pub is_copy_at : List ℕ → ℕ → Copy → Bool
is_copy_at pred group copy = same_text copy.pred pred && (copy.group == group)

-- a group's copy of a tablet, where it has one
abbrev pub copy_at : List Copy → List ℕ → ℕ → Option Copy
copy_at copies pred group = find (is_copy_at pred group) copies

-- the mark of a group's copy, 0 where there is none
abbrev pub mark_at : List Copy → List ℕ → ℕ → ℕ
mark_at copies pred group = unwrap_or (option_map (λ c. c.mark) (copy_at copies pred group)) 0

-- the tablet of this predicate changed, and the others as they are
abbrev pub on_place : List ℕ → (Place → Place) → List Place → List Place
on_place pred change tablets = map (λ t. if is_place_of pred t then change t else t) tablets

-- the group's copy changed, and the others as they are
abbrev pub on_copy : List ℕ → ℕ → (Copy → Copy) → List Copy → List Copy
on_copy pred group change copies = map (λ c. if is_copy_at pred group c then change c else c) copies

-- the tablet at rest at a group
abbrev pub at_rest : List ℕ → ℕ → Place
at_rest pred group = record { pred = pred; group = group; phase = Idle; to = group }

-- the tablet in a phase of its move, on the way to a group
abbrev pub in_phase : Phase → ℕ → Place → Place
in_phase phase to t = record { pred = t.pred; group = t.group; phase = phase; to = to }

-- the image has been given to the new group
abbrev pub has_image : Phase → Bool
has_image Idle = false
has_image Started = false
has_image Copied = true
has_image Held = true

-- a copy that is kept when the line comes here
abbrev pub is_kept_by : ℕ → Option ℕ → Bool
is_kept_by line None = true
is_kept_by line (Some until) = nat_lt line until

-- a new tablet is at rest at its group
abbrev pub fresh_place : Tablet → Place
fresh_place t = at_rest t.pred t.group

-- and its group has a copy, merged up to nothing
abbrev pub fresh_copy : Tablet → Copy
fresh_copy t = record { pred = t.pred; group = t.group; mark = 0; until = None }

-- a copy at the new group, with the owner's mark
abbrev pub with_image : List Copy → Option Place → List Copy
with_image copies None = copies
with_image copies (Some t) = copies ++ (record { pred = t.pred; group = t.to; mark = mark_at copies t.pred t.group; until = None }) ∷ []

-- the old owner's copy has its until
abbrev pub with_until : List Copy → Option Place → ℕ → List Copy
with_until copies None until = copies
with_until copies (Some t) until = on_copy t.pred t.group (λ c. record { pred = c.pred; group = c.group; mark = c.mark; until = Some until }) copies

-- without the copy that a cancelled move brought
abbrev pub without_image : List Copy → Option Place → List Copy
without_image copies None = copies
without_image copies (Some t) = if has_image t.phase then filter (λ c. not (is_copy_at t.pred t.to c)) copies else copies

-- where tablets are after an event
abbrev pub places_after : Places → Event → Places
places_after s (Alter start newer written) = record { tablets = s.tablets ++ map fresh_place written.fresh; copies = s.copies ++ map fresh_copy written.fresh }
places_after s (MoveStart pred group) = record { tablets = on_place pred (in_phase Started group) s.tablets; copies = s.copies }
places_after s (MoveCopied pred) = record { tablets = on_place pred (λ t. in_phase Copied t.to t) s.tablets; copies = with_image s.copies (place_of s.tablets pred) }
places_after s (MoveHold pred) = record { tablets = on_place pred (λ t. in_phase Held t.to t) s.tablets; copies = s.copies }
places_after s (Flip pred until) = record { tablets = on_place pred (λ t. at_rest t.pred t.to) s.tablets; copies = with_until s.copies (place_of s.tablets pred) until }
places_after s (MoveOff pred) = record { tablets = on_place pred (λ t. at_rest t.pred t.group) s.tablets; copies = without_image s.copies (place_of s.tablets pred) }
places_after s (Rolled pred group upto) = record { tablets = s.tablets; copies = on_copy pred group (λ c. record { pred = c.pred; group = c.group; mark = upto; until = c.until }) s.copies }
places_after s (Line line) = record { tablets = s.tablets; copies = filter (λ c. is_kept_by line c.until) s.copies }
places_after s event = s

-- where tablets and copies are after a history
abbrev pub places : List Entry → Places
places history = fold (λ s e. places_after s e.event) (record { tablets = []; copies = [] }) history

-- the tablets after a history
abbrev pub tablets : List Entry → List Place
tablets history = (places history).tablets

-- the copies after a history
abbrev pub copies : List Entry → List Copy
copies history = (places history).copies

-- the group that owns the tablet of a predicate, where it has one
abbrev pub owner : List Entry → List ℕ → Option ℕ
owner history pred = option_map (λ t. t.group) (place_of (tablets history) pred)

-- the word for a phase
abbrev pub phase_text : Phase → List ℕ
phase_text Idle = codes "none"
phase_text Started = codes "started"
phase_text Copied = codes "copied"
phase_text Held = codes "held"

-- the phase of a tablet; one that isn't there isn't moving
abbrev pub phase_by : Option Place → Phase
phase_by None = Idle
phase_by (Some t) = t.phase

-- the phase of the tablet of a predicate
abbrev pub phase : List Entry → List ℕ → Phase
phase history pred = phase_by (place_of (tablets history) pred)

-- commits are refused in this phase
abbrev pub is_held_phase : Phase → Bool
is_held_phase Held = true
is_held_phase phase = false

-- the tablet of a predicate is held
abbrev pub is_held : List Place → List ℕ → Bool
is_held tablets pred = is_held_phase (phase_by (place_of tablets pred))

-- 1 to n
abbrev pub groups : ℕ → List ℕ
groups zero = []
groups (suc n) = groups n ++ (n + 1) ∷ []

-- how many tablets a group owns
abbrev pub owned : List Place → ℕ → ℕ
owned tablets group = count_by (λ t. t.group == group) tablets

-- how many tablets each of n groups owns
abbrev pub tally : ℕ → List Place → List ℕ
tally n tablets = map (owned tablets) (groups n)

-- the group with the fewest tablets, of those the lowest
abbrev pub fewest : List Place → List ℕ → ℕ
fewest tablets numbers = fold (λ best group. if nat_lt (owned tablets group) (owned tablets best) then group else best) 1 numbers

-- the tablets of new predicates, in the order of the definitions, each at the group with the fewest
abbrev pub fresh : ℕ → List Place → List PredDef → List Tablet
fresh n tablets [] = []
fresh n tablets (def ∷ defs) =
    if list_any (is_place_of def.name) tablets then fresh n tablets defs
    else (record { pred = def.name; group = fewest tablets (groups n) }) ∷ fresh n (tablets ++ at_rest def.name (fewest tablets (groups n)) ∷ []) defs
