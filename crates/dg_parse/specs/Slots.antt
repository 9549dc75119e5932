-- Where the fields of a list stand by their keys: groups of slots, of which the hash of a key picks one.
use Rattle.std.specs.Prelude.{ℕ, zero, suc, ◌*◌, ◌/◌, ◌%◌, ◌^◌, ◌≤◌, ◌≡◌, Bool, false, ◌||◌, ◌&&◌, ◌==◌, List, length, Option, Some, None, slice_get, if◌then◌else◌}
use Rattle.std.specs.BTreeSet.{BTreeSet, contains_by}
use Rattle.std.specs.Hash.FoldHasher as folding
use Rattle.std.specs.List.{list_any}
use Rattle.std.specs.Str.{bytes_eq}
use Rattle.dg_values.specs.Order.{text_cmp}
use Rattle.dg_parse.specs.declared.query.QField.{QField}
use Rattle.dg_parse.specs.declared.query.QItem.TheOpen.{QItem-F}
use Rattle.dg_parse.specs.declared.query.QItem.TheViews.{out-QItem}
use Rattle.dg_parse.specs.declared.slots.Slot.{Slot}
use Rattle.dg_parse.specs.Keys.{is_key}

-- the key of an item that is the name of a predicate, whatever stands for the fields in its braces
abbrev pub plain_shown : {A B : Type 0} → QItem-F A B → Option (List ℕ)
plain_shown QItem-F.Uid = None
plain_shown QItem-F.CountUid = None
plain_shown (QItem-F.Count e) = None
plain_shown (QItem-F.Val x) = None
plain_shown (QItem-F.Agg op x) = None
plain_shown (QItem-F.Edge e args dirs fields) = if e.back then None else Some e.pred

-- an alias, or else such a key
abbrev pub alias_or : Option (List ℕ) → Option (List ℕ) → Option (List ℕ)
alias_or None key = key
alias_or (Some alias) key = Some alias

-- the key of a field that is a text of the field
abbrev pub plain_key : QField → Option (List ℕ)
plain_key f = alias_or f.alias (plain_shown (out-QItem f.item))

-- a key is this text
abbrev pub is_same : List ℕ → Option (List ℕ) → Bool
is_same key None = false
is_same key (Some own) = bytes_eq key own

-- the hash of a key
unfoldable pub hash : List ℕ → ℕ
hash key = folding.finish (folding.write folding.initial key)

-- the part of a hash that a slot keeps
abbrev pub tag_of : ℕ → ℕ
tag_of hash = hash % 2 ^ 32

-- the group of so many that a hash picks
abbrev pub group_of : ℕ → ℕ → ℕ
group_of count hash = (((hash / 2 ^ 32) * count) % 2 ^ 64) / 2 ^ 32

-- the field of a slot, if there is one, has this key
abbrev pub is_at : List ℕ → Option QField → Bool
is_at key None = false
is_at key (Some f) = is_same key (plain_key f)

-- the field of this number, counted from 1, has this key
abbrev pub is_numbered : List QField → ℕ → List ℕ → Bool
is_numbered fields zero key = false
is_numbered fields (suc i) key = is_at key (slice_get fields i)

-- a slot is that of this key
abbrev pub holds : List QField → List ℕ → Slot → Bool
holds fields key s = (s.tag == tag_of (hash key)) && is_numbered fields s.number key

-- a slot of a group is that of this key
abbrev pub is_in_group : List QField → List ℕ → Option (List Slot) → Bool
is_in_group fields key None = false
is_in_group fields key (Some group) = list_any (holds fields key) group

-- a slot of the group that the hash of this key picks is that of this key
abbrev pub is_in : List QField → List (List Slot) → List ℕ → Bool
is_in fields groups key = is_in_group fields key (slice_get groups (group_of (length groups) (hash key)))

-- no slot has a greater number
abbrev pub AreWithin : ℕ → List (List Slot) → Type 0
AreWithin count groups = (i j : ℕ) (group : List Slot) (s : Slot) → slice_get groups i ≡ Some group → slice_get group j ≡ Some s → s.number ≤ count

-- the keys of the fields are those in slots and these others
abbrev pub AreIndexed : List QField → List (List Slot) → BTreeSet (List ℕ) → Type 0
AreIndexed fields groups others =
    AreWithin (length fields) groups
    × ((key : List ℕ) → (is_in fields groups key || contains_by (text_cmp key) others) ≡ is_key fields key)
