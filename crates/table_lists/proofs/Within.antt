-- Posting lists and stores stay within their timestamps.
use Rattle.std.proofs.Common.{◌≡◌, ◌<◌, ◌≤◌, arith, ℕ, List, [], ◌∷◌, ◌++◌, Bool, true, false, cond}
use Rattle.std.specs.Prelude.{Some, unwrap_or, filter, nat_lt}
use Rattle.std.specs.List.{AllByRecursion}
use Rattle.std.specs.declared.cmp.Ordering.{Ordering}
use Rattle.std.specs.declared.cmp.Ordering.TheVariants.{Less, Equal, Greater}
use Rattle.std.specs.Ordering.{match_ordering, eq_by_cmp, on}
use Rattle.std.specs.Arc.{arc_value}
use Rattle.std.specs.declared.sync.Arc.{Arc}
use Rattle.std.specs.declared.alloc.Global.{Global}
use Rattle.dg_values.specs.Ascending.{Ascends}
use Rattle.dg_values.specs.declared.value.Posting.{Posting}
use Rattle.dg_delta.specs.Layers.{Changes}
use Rattle.dg_keys.specs.Keys.{key_cmp}
use Rattle.dg_keys.specs.declared.key.Key.{Key}
use Rattle.dg_keys.specs.declared.record.Part.{Part}
use Rattle.dg_pages.specs.Entries.{with_entry}
use Rattle.dg_list.specs.Lists.{Layered, newest_of, newest_ts, with_layer, with_base}
use Rattle.dg_store.specs.Stores.{Lists, list_under, list_at, no_list, with_part, after_part, after_parts, base_of, bases_of, after_base, after_bases}
use Rattle.table_lists.specs.Kept.{IsWithin, AreWithin}

-- ---- one list

abbrev AllUpto : ℕ → List Changes → Type 0
AllUpto newest layers = AllByRecursion (λ layer. layer.ts ≤ newest) layers

newest_of_upto : (from newest : ℕ) (layers : List Changes) → from ≤ newest → AllUpto newest layers → newest_of from layers ≤ newest
newest_of_upto from newest [] base all = base
newest_of_upto from newest (layer ∷ older) base all = all.0

-- the newest timestamp of a list within two
pub newest_within : (rolled newest : ℕ) (list : Layered) → IsWithin rolled newest list → newest_ts list ≤ newest
newest_within rolled newest list w = newest_of_upto list.base_ts newest list.layers (omega (arith, w.base, w.order)) w.layers

all_later : (newest later : ℕ) (layers : List Changes) → newest ≤ later → AllUpto newest layers → AllUpto later layers
all_later newest later [] le all = tt
all_later newest later (layer ∷ older) le all = (omega (arith, all.0), all_later newest later older le all.1)

all_above : (upto newest : ℕ) (layers : List Changes) → AllUpto newest layers → AllUpto newest (filter (λ layer. nat_lt upto layer.ts) layers)
all_above upto newest [] all = tt
all_above upto newest (layer ∷ older) all = by (nat_lt upto layer.ts) (all_above upto newest older all.1)
  where
    by : (b : Bool) → AllUpto newest (filter (λ l. nat_lt upto l.ts) older) → AllUpto newest (cond b (layer ∷ filter (λ l. nat_lt upto l.ts) older) (filter (λ l. nat_lt upto l.ts) older))
    by true rest = (all.0, rest)
    by false rest = rest

-- a list within two timestamps is within later ones
pub later_within : (rolled later_rolled newest later : ℕ) (list : Layered) → rolled ≤ later_rolled → newest ≤ later → later_rolled ≤ later → IsWithin rolled newest list → IsWithin later_rolled later list
later_within rolled later_rolled newest later list a b c w = record { base = omega (arith, w.base); layers = all_later newest later list.layers b w.layers; order = c }

-- a list with a newer layer
pub layer_within : (rolled newest : ℕ) (list : Layered) (layer : Changes) → newest ≤ layer.ts → IsWithin rolled newest list → IsWithin rolled layer.ts (with_layer list layer)
layer_within rolled newest list layer le w = record { base = w.base; layers = (omega arith, all_later newest layer.ts list.layers le w.layers); order = omega (arith, w.order) }

-- a list over a base of what is at or below a timestamp
pub base_within : (rolled newest upto later : ℕ) (list : Layered) (base : List Posting) → newest ≤ later → upto ≤ later → IsWithin rolled newest list → IsWithin upto later (with_base list base upto)
base_within rolled newest upto later list base a b w = record { base = omega arith; layers = all_above upto later list.layers (all_later newest later list.layers a w.layers); order = b }

-- ---- the lists of a store

abbrev EachWithin : ℕ → ℕ → Lists → Type 0
EachWithin rolled newest lists = AllByRecursion (λ e. IsWithin rolled newest e.1) lists

each_later : (rolled later_rolled newest later : ℕ) (lists : Lists) → rolled ≤ later_rolled → newest ≤ later → later_rolled ≤ later → EachWithin rolled newest lists → EachWithin later_rolled later lists
each_later rolled later_rolled newest later [] a b c all = tt
each_later rolled later_rolled newest later (e ∷ es) a b c all = (later_within rolled later_rolled newest later e.1 a b c all.0, each_later rolled later_rolled newest later es a b c all.1)

at_within : (rolled newest : ℕ) (key : Key) (lists : Lists) → rolled ≤ newest → EachWithin rolled newest lists → IsWithin rolled newest (list_at key lists)
at_within rolled newest key [] order all = record { base = omega arith; layers = tt; order = order }
at_within rolled newest key (e ∷ es) order all = by (eq_by_cmp key_cmp key e.0) (at_within rolled newest key es order all.1)
  where
    by : (b : Bool) → IsWithin rolled newest (list_at key es) → IsWithin rolled newest (unwrap_or (cond b (Some e.1) (list_under key es)) no_list)
    by true rest = all.0
    by false rest = rest

put_within : (rolled newest : ℕ) (key : Key) (list : Layered) (lists : Lists) → IsWithin rolled newest list → EachWithin rolled newest lists → EachWithin rolled newest (with_entry key_cmp key list lists)
put_within rolled newest key list [] new all = (new, tt)
put_within rolled newest key list (e ∷ es) new all = by (key_cmp key e.0) (put_within rolled newest key list es new all.1)
  where
    by : (v : Ordering) → EachWithin rolled newest (with_entry key_cmp key list es) → EachWithin rolled newest (match_ordering v ((key, list) ∷ e ∷ es) ((key, list) ∷ es) (e ∷ with_entry key_cmp key list es))
    by Less rest = (new, all)
    by Equal rest = (new, all.1)
    by Greater rest = (all.0, rest)

parts_within : (rolled ts : ℕ) (lists : Lists) (parts : List Part) → rolled ≤ ts → EachWithin rolled ts lists → EachWithin rolled ts (after_parts ts lists parts)
parts_within rolled ts lists [] order all = all
parts_within rolled ts lists (part ∷ parts) order all =
    let new = layer_within rolled ts (list_at part.key lists) (record { ts = ts; ops = part.ops }) (omega arith) (at_within rolled ts part.key lists order all) in
    parts_within rolled ts (after_part ts lists part) parts order (put_within rolled ts part.key (with_part ts lists part) lists new all)

-- the list of a key of a store within two timestamps
pub found_within : (rolled newest : ℕ) (key : Key) (lists : Lists) → AreWithin rolled newest lists → IsWithin rolled newest (list_at key lists)
found_within rolled newest key lists w = at_within rolled newest key lists w.order w.each

-- a record above the newest timestamp is newer than the list of each of its parts
pub parts_newer : (rolled newest ts : ℕ) (lists : Lists) (parts : List Part) → newest < ts → AreWithin rolled newest lists → AllByRecursion (λ part. newest_ts (list_at part.key lists) < ts) parts
parts_newer rolled newest ts lists [] lt w = tt
parts_newer rolled newest ts lists (part ∷ parts) lt w =
    let below = newest_within rolled newest (list_at part.key lists) (found_within rolled newest part.key lists w) in
    (omega (arith, below), parts_newer rolled newest ts lists parts lt w)

-- a store after the parts of such a record
pub record_within : (rolled newest ts : ℕ) (lists : Lists) (parts : List Part) → newest < ts → AreWithin rolled newest lists → AreWithin rolled ts (after_parts ts lists parts)
record_within rolled newest ts lists parts lt w =
    let order : rolled ≤ ts = omega (arith, w.order) in
    record { each = parts_within rolled ts lists parts order (each_later rolled rolled newest ts lists (omega arith) (omega arith) order w.each); order = order }

-- a store with a new base under the list of a key
pub rolled_within : (rolled newest upto later : ℕ) (key : Key) (base : List Posting) (lists : Lists) → rolled ≤ upto → newest ≤ later → upto ≤ later → AreWithin rolled newest lists → AreWithin upto later (with_entry key_cmp key (with_base (list_at key lists) base upto) lists)
rolled_within rolled newest upto later key base lists a b c w =
    let new = base_within rolled newest upto later (list_at key lists) base b c (found_within rolled newest key lists w) in
    record { each = put_within upto later key (with_base (list_at key lists) base upto) lists new (each_later rolled upto newest later lists a b c w.each); order = c }

-- bases in turn, at a timestamp that no base is above
bases_upto : (upto later : ℕ) (lists : Lists) (bases : List (Key × List Posting)) → upto ≤ later → AreWithin upto later lists → AreWithin upto later (after_bases upto lists bases)
bases_upto upto later lists [] le w = w
bases_upto upto later lists (b ∷ bases) le w = bases_upto upto later (after_base upto lists b) bases le (rolled_within upto later upto later b.0 b.1 lists (omega arith) (omega arith) le w)

-- a store with new bases under lists
pub bases_within : (rolled newest upto later : ℕ) (lists : Lists) (bases : List (Key × List Posting)) → rolled ≤ upto → newest ≤ later → upto ≤ later → AreWithin rolled newest lists → AreWithin upto later (after_bases upto lists bases)
bases_within rolled newest upto later lists bases a b c w = bases_upto upto later lists bases c (record { each = each_later rolled upto newest later lists a b c w.each; order = c })

-- no base of a store is above a later timestamp
pub bases_below : (rolled newest upto : ℕ) (lists : Lists) (bases : List (Key × List Posting)) → rolled ≤ upto → AreWithin rolled newest lists → AllByRecursion (λ b. (list_at b.0 lists).base_ts ≤ upto) bases
bases_below rolled newest upto lists [] le w = tt
bases_below rolled newest upto lists (b ∷ bases) le w =
    let found = found_within rolled newest b.0 lists w in
    (omega (arith, found.base), bases_below rolled newest upto lists bases le w)

-- ---- bases by their pointers

abbrev pub base_key : Arc Key Global × Arc (List Posting) Global → Key
base_key b = arc_value b.0

all_keys : (key : Key) (bs : List (Arc Key Global × Arc (List Posting) Global)) → AllByRecursion (λ b. key_cmp key (base_key b) ≡ Less) bs → AllByRecursion (λ b. key_cmp key b.0 ≡ Less) (bases_of bs)
all_keys key [] a = tt
all_keys key (b ∷ bs) a = (a.0, all_keys key bs a.1)

pub keys_ascend : (bs : List (Arc Key Global × Arc (List Posting) Global)) → Ascends (on base_key key_cmp) bs → Ascends (on (λ b. b.0) key_cmp) (bases_of bs)
keys_ascend [] a = tt
keys_ascend (b ∷ bs) a = (all_keys (base_key b) bs a.0, keys_ascend bs a.1)

all_pointers : (key : Key) (bs : List (Arc Key Global × Arc (List Posting) Global)) → AllByRecursion (λ b. key_cmp key b.0 ≡ Less) (bases_of bs) → AllByRecursion (λ b. key_cmp key (base_key b) ≡ Less) bs
all_pointers key [] a = tt
all_pointers key (b ∷ bs) a = (a.0, all_pointers key bs a.1)

pub pointers_ascend : (bs : List (Arc Key Global × Arc (List Posting) Global)) → Ascends (on (λ b. b.0) key_cmp) (bases_of bs) → Ascends (on base_key key_cmp) bs
pointers_ascend [] a = tt
pointers_ascend (b ∷ bs) a = (all_pointers (base_key b) bs a.0, pointers_ascend bs a.1)

-- one more base that is as the others are
pub one_more : (P : Key × List Posting → Type 0) (bs : List (Arc Key Global × Arc (List Posting) Global)) (b : Arc Key Global × Arc (List Posting) Global) → AllByRecursion P (bases_of bs) → P (base_of b) → AllByRecursion P (bases_of (bs ++ b ∷ []))
one_more P [] b a p = (p, tt)
one_more P (x ∷ bs) b a p = (a.0, one_more P bs b a.1 p)
