-- A store as a map from keys to posting lists.
use Rattle.std.specs.Prelude.{ℕ, Bool, List, [], fold, filter, map, Option, unwrap_or}
use Rattle.std.specs.Arc.{arc_value}
use Rattle.std.specs.declared.sync.Arc.{Arc}
use Rattle.std.specs.declared.alloc.Global.{Global}
use Rattle.std.specs.Map.{lookup}
use Rattle.std.specs.Ordering.{eq_by_cmp}
use Rattle.dg_values.specs.Order.{text_cmp}
use Rattle.dg_values.specs.Ascending.{has}
use Rattle.dg_values.specs.declared.value.Posting.{Posting}
use Rattle.dg_keys.specs.Keys.{key_cmp, pred_of}
use Rattle.dg_keys.specs.declared.key.Key.{Key}
use Rattle.dg_keys.specs.declared.record.Part.{Part}
use Rattle.dg_pages.specs.Entries.{with_entry}
use Rattle.dg_list.specs.Lists.{Layered, with_layer, with_base}

-- the lists by their keys, in the order of the keys
abbrev pub Lists : Type 0
Lists = List (Key × Layered)

-- the list of a key, where it has one
abbrev pub list_under : Key → Lists → Option Layered
list_under key lists = lookup (eq_by_cmp key_cmp key) lists

-- what a key without a list lists
abbrev pub no_list : Layered
no_list = record { base_ts = 0; base = []; layers = [] }

-- the list of a key
abbrev pub list_at : Key → Lists → Layered
list_at key lists = unwrap_or (list_under key lists) no_list

-- the predicate of a part is one of these
abbrev pub is_held : List (List ℕ) → Part → Bool
is_held held part = has text_cmp held (pred_of part.key)

-- the parts whose predicates are held
abbrev pub held_parts : List (List ℕ) → List Part → List Part
held_parts held parts = filter (is_held held) parts

-- the list of a part's key, with the part as its newest layer
abbrev pub with_part : ℕ → Lists → Part → Layered
with_part ts lists part = with_layer (list_at part.key lists) (record { ts = ts; ops = part.ops })

-- the lists after one part
abbrev pub after_part : ℕ → Lists → Part → Lists
after_part ts lists part = with_entry key_cmp part.key (with_part ts lists part) lists

-- the lists after parts in turn
abbrev pub after_parts : ℕ → Lists → List Part → Lists
after_parts ts lists parts = fold (after_part ts) lists parts

-- the base that a pair of pointers stands for, with its key
abbrev pub base_of : Arc Key Global × Arc (List Posting) Global → Key × List Posting
base_of b = (arc_value b.0, arc_value b.1)

-- the bases that pairs stand for
abbrev pub bases_of : List (Arc Key Global × Arc (List Posting) Global) → List (Key × List Posting)
bases_of bs = map base_of bs

-- the lists after one base
abbrev pub after_base : ℕ → Lists → Key × List Posting → Lists
after_base upto lists b = with_entry key_cmp b.0 (with_base (list_at b.0 lists) b.1 upto) lists

-- the lists after bases in turn
abbrev pub after_bases : ℕ → Lists → List (Key × List Posting) → Lists
after_bases upto lists bases = fold (after_base upto) lists bases
