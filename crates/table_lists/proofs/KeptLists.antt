-- Every list of a store stays below a timestamp.
use Rattle.std.proofs.Common.{◌<◌, ◌+◌, arith, ℕ, List, [], ◌∷◌, Bool, true, false, cond}
use Rattle.std.specs.Prelude.{Some, unwrap_or}
use Rattle.std.specs.List.{AllByRecursion}
use Rattle.std.specs.declared.cmp.Ordering.{Ordering}
use Rattle.std.specs.declared.cmp.Ordering.TheVariants.{Less, Equal, Greater}
use Rattle.std.specs.Ordering.{match_ordering, eq_by_cmp}
use Rattle.dg_keys.specs.Keys.{key_cmp}
use Rattle.dg_keys.specs.declared.key.Key.{Key}
use Rattle.dg_keys.specs.declared.record.Part.{Part}
use Rattle.dg_pages.specs.Entries.{with_entry}
use Rattle.dg_list.specs.Lists.{Layered, newest_ts}
use Rattle.dg_store.specs.Stores.{Lists, list_under, list_at, no_list, with_part, after_part, after_parts}

abbrev pub AllBelow : ℕ → Lists → Type 0
AllBelow ts lists = AllByRecursion (λ e. newest_ts e.1 < ts) lists

-- the list of a key is below what all are below
pub one_below : (ts : ℕ) (key : Key) (lists : Lists) → 0 < ts → AllBelow ts lists → newest_ts (list_at key lists) < ts
one_below ts key [] some b = some
one_below ts key (e ∷ es) some b = by (eq_by_cmp key_cmp key e.0) (one_below ts key es some b.1)
  where
    by : (here : Bool) → newest_ts (list_at key es) < ts → newest_ts (unwrap_or (cond here (Some e.1) (list_under key es)) no_list) < ts
    by true later = b.0
    by false later = later

-- so are those of all parts
pub parts_below : (ts : ℕ) (lists : Lists) (parts : List Part) → 0 < ts → AllBelow ts lists → AllByRecursion (λ part. newest_ts (list_at part.key lists) < ts) parts
parts_below ts lists [] some b = tt
parts_below ts lists (part ∷ parts) some b = (one_below ts part.key lists some b, parts_below ts lists parts some b)

-- a list below it keeps all below it
pub entry_below : (ts : ℕ) (key : Key) (list : Layered) (lists : Lists) → newest_ts list < ts → AllBelow ts lists → AllBelow ts (with_entry key_cmp key list lists)
entry_below ts key list [] new b = (new, tt)
entry_below ts key list (e ∷ es) new b = by (key_cmp key e.0) (entry_below ts key list es new b.1)
  where
    by : (v : Ordering) → AllBelow ts (with_entry key_cmp key list es) → AllBelow ts (match_ordering v ((key, list) ∷ e ∷ es) ((key, list) ∷ es) (e ∷ with_entry key_cmp key list es))
    by Less rest = (new, b)
    by Equal rest = (new, b.1)
    by Greater rest = (b.0, rest)

-- after parts at a timestamp all are below the next
pub after_below : (ts : ℕ) (lists : Lists) (parts : List Part) → AllBelow (1 + ts) lists → AllBelow (1 + ts) (after_parts ts lists parts)
after_below ts lists [] b = b
after_below ts lists (part ∷ parts) b = after_below ts (after_part ts lists part) parts (entry_below (1 + ts) part.key (with_part ts lists part) lists (omega arith) b)

-- what is below a timestamp is below the next
pub next_below : (ts : ℕ) (lists : Lists) → AllBelow ts lists → AllBelow (1 + ts) lists
next_below ts [] b = tt
next_below ts (e ∷ es) b = (let here : newest_ts e.1 < ts = b.0 in omega (arith, here), next_below ts es b.1)
