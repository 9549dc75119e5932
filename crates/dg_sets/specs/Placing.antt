-- Where an item is among items that ascend, or where it belongs.
use Rattle.std.specs.Prelude.{◌≡◌, ℕ, ◌<◌, ◌≤◌, true, false, List, Some, slice_get, length}
use Rattle.std.specs.List.{insert, remove}
use Rattle.std.specs.declared.cmp.Ordering.{Ordering}
use Rattle.dg_values.specs.Ascending.{has, with_one, without_one}

-- the item stands at this place: it is there, putting it in changes nothing, and it goes by taking out what stands there
pub record StandsAt {X : Type 0} (cmp : X → X → Ordering) (items : List X) (item : X) (place : ℕ) : Type 0 where
  pub within : place < length items
  pub item_is : slice_get items place ≡ Some item
  pub there : has cmp items item ≡ true
  pub put : with_one cmp items item ≡ items
  pub taken : without_one cmp items item ≡ remove items place

-- the item isn't there, and is put in at this place
pub record BelongsAt {X : Type 0} (cmp : X → X → Ordering) (items : List X) (item : X) (place : ℕ) : Type 0 where
  pub within : place ≤ length items
  pub missing : has cmp items item ≡ false
  pub put : with_one cmp items item ≡ insert items place item
  pub taken : without_one cmp items item ≡ items
