-- When the lists of a group agree with a history.
use Rattle.std.specs.Prelude.{◌≡◌, ◌≢◌, ℕ, ◌<◌, ◌≤◌, ◌⊎◌, Bool, true, ◌&&◌, ◌==◌, nat_le, nat_lt, if◌then◌else◌, List, [], ◌∷◌, Option, Some, None, filter, option_map}
use Rattle.std.specs.List.{AllByRecursion, list_any}
use Rattle.dg_values.specs.Ascending.{Ascends}
use Rattle.dg_values.specs.Order.{same_text}
use Rattle.dg_values.specs.declared.value.Posting.{Posting}
use Rattle.dg_delta.specs.Ops.{after_ops}
use Rattle.dg_delta.specs.Layers.{Changes}
use Rattle.dg_keys.specs.declared.key.Key.{Key}
use Rattle.dg_keys.specs.declared.record.Record.{Record}
use Rattle.dg_keys.specs.declared.record.Tablet.{Tablet}
use Rattle.dg_keys.specs.Keys.{pred_of}
use Rattle.dg_list.specs.Lists.{after_layers, reading}
use Rattle.dg_store.specs.Stores.{list_at}
use Rattle.dg_zero.specs.declared.entry.Entry.{Entry}
use Rattle.dg_zero.specs.Counters.{next}
use Rattle.dg_zero.specs.Worlds.{schema_at, graph_at}
use Rattle.dg_zero.specs.Listings.{listing}
use Rattle.dg_zero.specs.Places.{Copy, copies, copy_at, fresh_copy}
use Rattle.dg_zero.specs.Records.{records, records_between}
use Rattle.dg_group.specs.declared.copied.Copied.{Copied}
use Rattle.dg_group.specs.Groups.{Group, copied_cmp, copy_of, is_open_at, IsKept}

-- ---- readable

-- no record of the history lies above one timestamp and at or below another
abbrev pub NoneBetween : List Entry → ℕ → ℕ → Type 0
NoneBetween history from upto = records_between history from upto ≡ []

-- all records at or below a timestamp were applied: it is at or below the last one, or it was handed out and none lies between
abbrev pub IsReached : List Entry → ℕ → ℕ → Type 0
IsReached history last at = (at ≤ last) ⊎ ((at < next history) × NoneBetween history last at)

-- the copy can be read at a timestamp
pub record IsReadable (history : List Entry) (last : ℕ) (copy : Copied) (at : ℕ) : Type 0 where
  pub from : copy.mark ≤ at
  pub open_is : is_open_at copy.until at ≡ true
  pub reached : IsReached history last at

-- ---- one copy

-- each layer changes the list that it is applied to
abbrev pub EachChanges : List Posting → List Changes → Type 0
EachChanges base [] = Unit {0}
EachChanges base (layer ∷ older) = (after_ops (after_layers layer.ts older base) layer.ops ≢ after_layers layer.ts older base) × EachChanges base older

-- at each timestamp at which the copy can be read, each key's list is what the key lists in the graph there
abbrev pub IsListed : List Entry → ℕ → Copied → Type 0
IsListed history last copy =
    (at : ℕ) → IsReadable history last copy at
    → (key : Key) → same_text (pred_of key) copy.pred ≡ true
    → reading (list_at key copy.store) at ≡ listing (schema_at history at) (graph_at history at []) key

-- the lists of a copy agree with the history
pub record CopyStands (history : List Entry) (last : ℕ) (copy : Copied) : Type 0 where
  pub listed : IsListed history last copy
  pub kept : IsKept last copy
  pub changing : AllByRecursion (λ e. EachChanges e.1.base e.1.layers) copy.store
  pub marked : NoneBetween history last copy.mark

-- ---- a group

-- the timestamp is that of a record, or 0
abbrev pub IsLast : List Entry → ℕ → Type 0
IsLast history last = (last ≡ 0) ⊎ (list_any (λ r. r.ts == last) (records history) ≡ true)

-- one of the tablets is of this predicate
abbrev pub has_tablet : List ℕ → List Tablet → Bool
has_tablet pred tablets = list_any (λ t. same_text t.pred pred) tablets

-- the record that brought the tablet of a predicate is at or below a timestamp
abbrev pub is_brought : List Entry → ℕ → List ℕ → Bool
is_brought history last pred = list_any (λ r. nat_le r.ts last && has_tablet pred r.fresh) (records history)

-- the mark and the until of a copy
pub record Standing : Type 0 where
  pub mark : ℕ
  pub until : Option ℕ

abbrev pub standing_of : Copied → Standing
standing_of copy = record { mark = copy.mark; until = copy.until }

abbrev pub standing_in : Copy → Standing
standing_in copy = record { mark = copy.mark; until = copy.until }

-- the copy that a group has by the history, once it applied the record that brought the tablet
abbrev pub standing_at : List Entry → ℕ → ℕ → List ℕ → Option Standing
standing_at history number last pred =
    if is_brought history last pred then option_map standing_in (copy_at (copies history) pred number) else None

-- the lists of a group agree with the history: it applied the records up to its last one, and its copies are those of the
-- history, each of which agrees
pub record Stands (group : Group) (history : List Entry) : Type 0 where
  pub applied : IsLast history group.last
  pub copies_are : (pred : List ℕ) → option_map standing_of (copy_of group.copies pred) ≡ standing_at history group.number group.last pred
  pub each : AllByRecursion (CopyStands history group.last) group.copies

-- ---- what has to hold besides, so that the next record keeps it

-- the records that a group hasn't applied
abbrev pub records_above : List Entry → ℕ → List Record
records_above history last = filter (λ r. nat_lt last r.ts) (records history)

-- a tablet's copy at a group is as the tablet came: at its own group, with nothing merged
abbrev pub IsAsItCame : List Entry → ℕ → Tablet → Type 0
IsAsItCame history number t = copy_at (copies history) t.pred number ≡ if t.group == number then Some (fresh_copy t) else None

-- the group agrees, its marks were handed out, and what it hasn't applied yet was neither merged nor moved
pub record IsInStep (group : Group) (history : List Entry) : Type 0 where
  pub stands : Stands group history
  pub ascend : Ascends copied_cmp group.copies
  pub drawn : AllByRecursion (λ copy. copy.mark < next history) group.copies
  pub unmet : AllByRecursion (λ r. AllByRecursion (IsAsItCame history group.number) r.fresh) (records_above history group.last)
