-- The parts of a record, each on the list of its own key.
use Rattle.std.proofs.Common.{◌≡◌, ◌<◌, ◌∙◌, sym, ap, subst, arith, refl, ℕ, zero, suc, length, get_or, List, [], ◌∷◌, Bool, true, false, cond, map, fold}
use Rattle.std.specs.Prelude.{Option, Some, None, unwrap_or, filter}
use Rattle.std.specs.declared.sync.Arc.{Arc}
use Rattle.std.specs.declared.alloc.Global.{Global}
use Rattle.std.specs.List.{AllByRecursion}
use Rattle.std.specs.declared.cmp.Ordering.{Ordering}
use Rattle.std.specs.declared.cmp.Ordering.TheVariants.{Less, Equal, Greater}
use Rattle.std.specs.Ordering.{is_eq, is_le, match_ordering, ordering_reverse, on}
use Rattle.dg_values.specs.Ascending.{Ascends}
use Rattle.dg_values.specs.declared.value.Posting.{Posting}
use Rattle.dg_sets.proofs.Sets.{all_passed, back}
use Rattle.dg_keys.specs.Keys.{key_cmp, part_cmp}
use Rattle.dg_keys.specs.KeyOrder.{key_order}
use Rattle.dg_keys.specs.declared.key.Key.{Key}
use Rattle.dg_keys.specs.declared.record.Part.{Part}
use Rattle.dg_pages.specs.Entries.{IsMap, with_entry, entry_from, changed_all}
use Rattle.dg_list.specs.Lists.{Layered, with_layer, with_base}
use Rattle.dg_store.specs.Stores.{Lists, list_under, list_at, no_list, is_held, held_parts, with_part, after_parts, base_of, bases_of, after_bases}

-- the change that a part makes
abbrev pub part_change : ℕ → Lists → Part → Key × Option Layered
part_change ts lists part = (part.key, Some (with_part ts lists part))

-- the change that a base makes
abbrev pub base_change : ℕ → Lists → Key × List Posting → Key × Option Layered
base_change upto lists b = (b.0, Some (with_base (list_at b.0 lists) b.1 upto))

-- another key's value stays
other_stays : (key : Key) (list : Layered) (other : Key) (lists : Lists) → is_eq (key_cmp other key) ≡ false → list_under other (with_entry key_cmp key list lists) ≡ list_under other lists
other_stays key list other [] apart = ap (λ b. cond b (Some list) None) apart
other_stays key list other (e ∷ es) apart = by (key_cmp key e.0) refl (other_stays key list other es apart)
  where
    by : (v : Ordering) → key_cmp key e.0 ≡ v → list_under other (with_entry key_cmp key list es) ≡ list_under other es → list_under other (match_ordering v ((key, list) ∷ e ∷ es) ((key, list) ∷ es) (e ∷ with_entry key_cmp key list es)) ≡ list_under other (e ∷ es)
    by Less p rest = ap (λ b. cond b (Some list) (list_under other (e ∷ es))) apart
    by Equal p rest =
        let same : key ≡ e.0 = key_order.same key e.0 p in
        let no : is_eq (key_cmp other e.0) ≡ false = sym (ap (λ k. is_eq (key_cmp other k)) same) ∙ apart in
        ap (λ b. cond b (Some list) (list_under other es)) apart ∙ sym (ap (λ b. cond b (Some e.1) (list_under other es)) no)
    by Greater p rest = ap (λ o. cond (is_eq (key_cmp other e.0)) (Some e.1) o) rest

-- items that each change the list of their own key, where the keys ascend
module _ {X : Type 0} (key : X → Key) (h : X → Layered → Layered) (start : Lists) where
  abbrev AsBefore : Lists → List X → Type 0
  AsBefore lists xs = AllByRecursion (λ x. list_at (key x) lists ≡ list_at (key x) start) xs

  abbrev pub one_change : X → Key × Option Layered
  one_change x = (key x, Some (h x (list_at (key x) start)))

  abbrev pub after_one : Lists → X → Lists
  after_one lists x = with_entry key_cmp (key x) (h x (list_at (key x) lists)) lists

  -- those on keys above one whose list changed find their lists as before
  still : (first : X) (list : Layered) (lists : Lists) (xs : List X) → AllByRecursion (λ x. key_cmp (key first) (key x) ≡ Less) xs → AsBefore lists xs → AsBefore (with_entry key_cmp (key first) list lists) xs
  still first list lists [] a b = tt
  still first list lists (x ∷ xs) a b =
      let apart : is_eq (key_cmp (key x) (key first)) ≡ false = ap is_eq (back key_cmp key_order (key first) (key x) a.0) in
      (ap (λ o. unwrap_or o no_list) (other_stays (key first) list (key x) lists apart) ∙ b.0, still first list lists xs a.1 b.1)

  in_turn : (lists : Lists) (xs : List X) → Ascends (on key key_cmp) xs → AsBefore lists xs → changed_all key_cmp lists (map one_change xs) ≡ fold after_one lists xs
  in_turn lists [] a b = refl
  in_turn lists (x ∷ xs) a b =
      let list = h x (list_at (key x) start) in
      let next = with_entry key_cmp (key x) list lists in
      let same : next ≡ after_one lists x = ap (λ l. with_entry key_cmp (key x) (h x l) lists) (sym b.0) in
      in_turn next xs a.1 (still x list lists xs a.0 b.1) ∙ ap (λ l. fold after_one l xs) same

  all_before : (xs : List X) → AsBefore start xs
  all_before [] = tt
  all_before (x ∷ xs) = (refl, all_before xs)

  pub all_in_turn : (xs : List X) → Ascends (on key key_cmp) xs → changed_all key_cmp start (map one_change xs) ≡ fold after_one start xs
  all_in_turn xs a = in_turn start xs a (all_before xs)

-- parts in turn
pub parts_in_turn : (ts : ℕ) (start : Lists) (parts : List Part) → Ascends part_cmp parts → changed_all key_cmp start (map (part_change ts start) parts) ≡ after_parts ts start parts
parts_in_turn ts start parts a = all_in_turn (λ (part : Part). part.key) (λ part list. with_layer list (record { ts = ts; ops = part.ops })) start parts a

pub held_ascend : (held : List (List ℕ)) (parts : List Part) → Ascends part_cmp parts → Ascends part_cmp (held_parts held parts)
held_ascend held [] a = tt
held_ascend held (part ∷ parts) a = by (is_held held part) (held_ascend held parts a.1)
  where
    by : (v : Bool) → Ascends part_cmp (held_parts held parts) → Ascends part_cmp (cond v (part ∷ held_parts held parts) (held_parts held parts))
    by true rest = (all_passed (λ p. part_cmp part p ≡ Less) (is_held held) parts a.0, rest)
    by false rest = rest

-- bases in turn
pub bases_in_turn : (upto : ℕ) (start : Lists) (bases : List (Key × List Posting)) → Ascends (on (λ b. b.0) key_cmp) bases → changed_all key_cmp start (map (base_change upto start) bases) ≡ after_bases upto start bases
bases_in_turn upto start bases a = all_in_turn (λ (b : Key × List Posting). b.0) (λ b list. with_base list b.1 upto) start bases a

-- what holds of all that pass holds of one that does
pub passed_at : {X : Type 0} (P : X → Type 0) (test : X → Bool) (xs : List X) (i : ℕ) (x : X) → i < length xs → x ≡ get_or xs i x → test x ≡ true → AllByRecursion P (filter test xs) → P x
passed_at P test [] i x lt e t a = absurd (omega arith)
passed_at P test (y ∷ ys) zero x lt e t a =
    let yes : test y ≡ true = sym (ap test e) ∙ t in
    subst P (sym e) (subst (λ b. AllByRecursion P (cond b (y ∷ filter test ys) (filter test ys))) yes a).0
passed_at P test (y ∷ ys) (suc i) x lt e t a = passed_at P test ys i x (omega arith) e t (later (test y) a)
  where
    later : (b : Bool) → AllByRecursion P (cond b (y ∷ filter test ys) (filter test ys)) → AllByRecursion P (filter test ys)
    later true a = a.1
    later false a = a

-- what holds of all bases holds of each
pub base_at : (P : Key × List Posting → Type 0) (bs : List (Arc Key Global × Arc (List Posting) Global)) (i : ℕ) (b : Arc Key Global × Arc (List Posting) Global) → i < length bs → b ≡ get_or bs i b → AllByRecursion P (bases_of bs) → P (base_of b)
base_at P [] i b lt e a = absurd (omega arith)
base_at P (x ∷ bs) zero b lt e a = subst (λ y. P (base_of y)) (sym e) a.0
base_at P (x ∷ bs) (suc i) b lt e a = base_at P bs i b (omega arith) e a.1

-- ---- a key is looked for by the least at or above it

-- the list of the entry that is found, where it is the key's own
abbrev pub own_list : Key → Option (Key × Layered) → Option Layered
own_list key None = None
own_list key (Some e) = cond (is_eq (key_cmp e.0 key)) (Some e.1) None

none_behind : (key : Key) (x : Key × Layered) (es : Lists) → key_cmp key x.0 ≡ Less → AllByRecursion (λ e. key_cmp x.0 e.0 ≡ Less) es → list_under key es ≡ None
none_behind key x [] p a = refl
none_behind key x (e ∷ es) p a = ap (λ t. cond (is_eq t) (Some e.1) (list_under key es)) (key_order.trans key x.0 e.0 p a.0) ∙ none_behind key x es p a.1

pub found_is : (key : Key) (es : Lists) → IsMap key_cmp es → own_list key (entry_from key_cmp key es) ≡ list_under key es
found_is key [] a = refl
found_is key (x ∷ es) a = by (key_cmp key x.0) refl (found_is key es a.1)
  where
    by : (v : Ordering) → key_cmp key x.0 ≡ v → own_list key (entry_from key_cmp key es) ≡ list_under key es → own_list key (cond (is_le v) (Some x) (entry_from key_cmp key es)) ≡ cond (is_eq v) (Some x.1) (list_under key es)
    by Less p rest = ap (λ t. cond (is_eq t) (Some x.1) None) (back key_cmp key_order key x.0 p) ∙ sym (none_behind key x es p a.0)
    by Equal p rest = ap (λ t. cond (is_eq t) (Some x.1) None) (key_order.antisymm x.0 key ∙ ap ordering_reverse p)
    by Greater p rest = rest
