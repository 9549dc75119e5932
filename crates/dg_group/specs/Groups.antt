-- A group as its copies of tablets, and what a record makes of it.
use Rattle.std.specs.Prelude.{◌≡◌, ℕ, ◌<◌, ◌≤◌, Bool, true, ◌==◌, nat_le, if◌then◌else◌, false, List, [], ◌∷◌, Option, Some, None, map, filter, find, fold, length, get_or, slice_set}
use Rattle.std.specs.List.{AllByRecursion, insert}
use Rattle.std.specs.declared.cmp.Ordering.{Ordering}
use Rattle.dg_values.specs.Order.{text_cmp, same_text}
use Rattle.dg_values.specs.Ascending.{Ascends, with_one}
use Rattle.dg_keys.specs.declared.record.Record.{Record}
use Rattle.dg_keys.specs.declared.record.Tablet.{Tablet}
use Rattle.dg_keys.specs.Keys.{pred_of, AreParts}
use Rattle.dg_list.specs.Lists.{Layered}
use Rattle.dg_store.specs.Stores.{held_parts, after_parts}
use Rattle.dg_group.specs.declared.copied.Copied.{Copied}

-- what a group is seen as: its number, the timestamp of the last record that it applied (0 before the first), and its
-- copies of tablets, ascending by predicate
pub record Group : Type 0 where
  pub number : ℕ
  pub last : ℕ
  pub copies : List Copied

-- copies in the order of their predicates
abbrev pub copied_cmp : Copied → Copied → Ordering
copied_cmp a b = text_cmp a.pred b.pred

-- the copy is of this predicate
abbrev pub is_copy_of : List ℕ → Copied → Bool
is_copy_of pred copy = same_text copy.pred pred

-- the copy of a predicate, where there is one
abbrev pub copy_of : List Copied → List ℕ → Option Copied
copy_of copies pred = find (is_copy_of pred) copies

-- the copy of a predicate stands at this place, and no other is of it: what leaves the others as they are changes this one alone
pub record IsOnly (pred : List ℕ) (copies : List Copied) (place : ℕ) : Type 0 where
  pub within : place < length copies
  pub own : (d : Copied) → is_copy_of pred (get_or copies place d) ≡ true
  pub others : (f : Copied → Copied) → ((c : Copied) → is_copy_of pred c ≡ false → f c ≡ c) → (d : Copied) → map f copies ≡ slice_set copies place (f (get_or copies place d))

-- a copy belongs at this place
pub record Belongs (copies : List Copied) (copy : Copied) (place : ℕ) : Type 0 where
  pub within : place ≤ length copies
  pub put : with_one copied_cmp copies copy ≡ insert copies place copy

-- a copy that isn't read any more takes no more layers: the timestamp is above its until
abbrev pub is_open_at : Option ℕ → ℕ → Bool
is_open_at None ts = true
is_open_at (Some until) ts = nat_le ts until

-- the copy of a new tablet: nothing is merged, and there are no lists
abbrev pub new_copy : Tablet → Copied
new_copy t = record { pred = t.pred; mark = 0; until = None; store = [] }

-- the tablets of a record that are given to this group
abbrev pub fresh_at : ℕ → Record → List Tablet
fresh_at number rec = filter (λ t. t.group == number) rec.fresh

-- a copy after a record: one more layer for each part of its predicate
abbrev pub copy_after : Record → Copied → Copied
copy_after rec copy = record {
  pred = copy.pred;
  mark = copy.mark;
  until = copy.until;
  store = if is_open_at copy.until rec.ts then after_parts rec.ts copy.store (held_parts (copy.pred ∷ []) rec.parts) else copy.store;
}

-- copies, and those of new tablets, each at its place
abbrev pub with_fresh : List Copied → List Tablet → List Copied
with_fresh copies fresh = fold (with_one copied_cmp) copies (map new_copy fresh)

-- a group after a record
abbrev pub group_after : Group → Record → Group
group_after group rec = record {
  number = group.number;
  last = rec.ts;
  copies = map (copy_after rec) (with_fresh group.copies (fresh_at group.number rec));
}

-- a list of a copy: its base is at or below the mark, and its layers are above it and were applied
pub record IsLaid (mark last : ℕ) (list : Layered) : Type 0 where
  pub base : list.base_ts ≤ mark
  pub layers : AllByRecursion (λ layer. (mark < layer.ts) × (layer.ts ≤ last)) list.layers

-- a copy has keys of its predicate alone, and its lists are laid above its mark
pub record IsKept (last : ℕ) (copy : Copied) : Type 0 where
  pub own : AllByRecursion (λ e. same_text (pred_of e.0) copy.pred ≡ true) copy.store
  pub laid : AllByRecursion (λ e. IsLaid copy.mark last e.1) copy.store

-- what every group keeps
pub record IsWhole (group : Group) : Type 0 where
  pub ascend : Ascends copied_cmp group.copies
  pub each : AllByRecursion (IsKept group.last) group.copies

-- a record that can be applied next: it is above all that was applied and merged
pub record CanApply (group : Group) (rec : Record) : Type 0 where
  pub parts : AreParts rec.parts
  pub newer : group.last < rec.ts
  pub above : AllByRecursion (λ copy. copy.mark < rec.ts) group.copies
