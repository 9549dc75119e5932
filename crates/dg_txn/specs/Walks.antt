-- What walks over keys find.
use Rattle.std.specs.Prelude.{◌≡◌, ◌≤◌, ℕ, Bool, true, false, cond, List, [], ◌∷◌, ◌++◌, Option, Some, None, IfSome, map, filter_map}
use Rattle.std.specs.List.{AllByRecursion}
use Rattle.std.specs.Ordering.{nat_cmp, is_le, is_eq}
use Rattle.std.specs.declared.cmp.Ordering.{Ordering}
use Rattle.std.specs.declared.cmp.Ordering.TheVariants.{Equal}
use Rattle.dg_values.specs.Ascending.{has}
use Rattle.dg_values.specs.declared.value.Posting.{Posting}
use Rattle.dg_graph.specs.Lookups.{node_in}
use Rattle.dg_keys.specs.declared.key.Key.{Key}
use Rattle.dg_keys.specs.declared.key.Key.TheVariants.{Data}
use Rattle.dg_keys.specs.declared.record.Part.{Part}
use Rattle.dg_keys.specs.Keys.{key_cmp, pred_of}
use Rattle.dg_list.specs.Lists.{Layered, reading}
use Rattle.dg_pages.specs.Entries.{entries_above}
use Rattle.dg_store.specs.Stores.{Lists, list_under, list_at}
use Rattle.dg_txn.specs.declared.span.Span.{Span}
use Rattle.dg_txn.specs.Spans.{place}

-- the nodes that a key shows by its list: a subject's key the subject where the list isn't empty, and each other the list's nodes
abbrev pub shown : Key → List Posting → List ℕ
shown (Data p s) [] = []
shown (Data p s) (o ∷ list) = s ∷ []
shown key list = filter_map node_in list

-- the same where the key is in the span, and none where it isn't
abbrev pub shown_at : Ordering → Key → List Posting → List ℕ
shown_at Equal key list = shown key list
shown_at other key list = []

-- the keys of a store
abbrev pub stored_keys : Option Lists → List Key
stored_keys None = []
stored_keys (Some store) = map (λ e. e.0) store

-- the keys of parts
abbrev pub part_keys : List Part → List Key
part_keys parts = map (λ part. part.key) parts

-- the key is at or above one that was found
abbrev pub reaches : Option Key → Key → Bool
reaches None key = false
reaches (Some next) key = is_le (key_cmp next key)

-- the least of the keys that pass
pub record IsLeast (passes : Key → Bool) (keys : List Key) (next : Option Key) : Type 0 where
  pub passes_too : IfSome next (λ key. passes key ≡ true)
  pub one : IfSome next (λ key. has key_cmp keys key ≡ true)
  pub least : (key : Key) → passes key ≡ true → has key_cmp keys key ≡ true → reaches next key ≡ true

-- a key of the span that isn't among these lists nothing
abbrev pub NoneElse : Span → (Key → List Posting) → List Key → Type 0
NoneElse span lists keys = (key : Key) → place span key ≡ Equal → has key_cmp keys key ≡ false → lists key ≡ []

-- a key of the predicate that isn't in the store lists nothing
abbrev pub HoldsAll : List ℕ → Option Lists → (Key → List Posting) → Type 0
HoldsAll pred store lists = (key : Key) → pred_of key ≡ pred → has key_cmp (stored_keys store) key ≡ false → lists key ≡ []

-- the lists of a predicate's keys in a store, read at a timestamp, are those
pub record ReadsAs (at : ℕ) (pred : List ℕ) (lists : Key → List Posting) (store : Lists) : Type 0 where
  pub based : AllByRecursion (λ e. e.1.base_ts ≤ at) store
  pub read : (key : Key) → pred_of key ≡ pred → reading (list_at key store) at ≡ lists key

-- one of the parts is of the key
abbrev pub is_changed : List Part → Key → Bool
is_changed parts key = has key_cmp (part_keys parts) key

-- what keys list of which there is a part
abbrev pub changed_lists : (Key → List Posting) → List Part → Key → List Posting
changed_lists lists parts key = cond (is_changed parts key) (lists key) []

-- what keys list of which there is none
abbrev pub other_lists : (Key → List Posting) → List Part → Key → List Posting
other_lists lists parts key = cond (is_changed parts key) [] (lists key)

-- what an entry of a store shows at a timestamp: nothing where it isn't in the span, or there is a part of its key
abbrev pub entry_shows : Span → ℕ → List Part → Key × Layered → List ℕ
entry_shows span at parts e = cond (is_eq (place span e.0)) (cond (is_changed parts e.0) [] (shown e.0 (reading e.1 at))) []

-- the entry of a key with this list, where it has one
abbrev pub entry_with : Key → Option Layered → Lists
entry_with key None = []
entry_with key (Some list) = (key, list) ∷ []

-- the entries of a store from a key on
abbrev pub entries_from : Key → Lists → Lists
entries_from key store = entry_with key (list_under key store) ++ entries_above key_cmp key store

-- a key of the span shows the node
abbrev pub Shows : Span → (Key → List Posting) → ℕ → Type 0
Shows span lists n = (key : Key) × (place span key ≡ Equal) × (has nat_cmp (shown key (lists key)) n ≡ true)

-- these are the nodes that the keys of the span show, in any order and maybe more than once
pub record AreShown (span : Span) (lists : Key → List Posting) (found : List ℕ) : Type 0 where
  pub sound : (n : ℕ) → has nat_cmp found n ≡ true → Shows span lists n
  pub all : (key : Key) (n : ℕ) → place span key ≡ Equal → has nat_cmp (shown key (lists key)) n ≡ true → has nat_cmp found n ≡ true
