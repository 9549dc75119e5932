-- The lists of a store after parts, at each timestamp.
use Rattle.std.proofs.Common.{◌≡◌, ◌≢◌, ◌<◌, ◌≤◌, ◌∙◌, sym, ap, subst, arith, refl, ℕ, List, [], ◌∷◌, ◌++◌, Bool, true, false, cond, flat_map}
use Rattle.std.specs.Prelude.{Some, None, unwrap_or, filter, ◌||◌}
use Rattle.std.specs.List.{AllByRecursion}
use Rattle.std.proofs.lemmas.List.{append-nil}
use Rattle.std.proofs.lemmas.List.Sums.{fold-append}
use Rattle.std.proofs.lemmas.Bool.{both_ways}
use Rattle.std.specs.declared.cmp.Ordering.{Ordering}
use Rattle.std.specs.declared.cmp.Ordering.TheVariants.{Less, Equal, Greater}
use Rattle.std.specs.Ordering.{is_eq, match_ordering}
use Rattle.dg_values.specs.declared.value.Posting.{Posting}
use Rattle.dg_values.specs.Ascending.{Ascends}
use Rattle.dg_values.specs.Order.{text_cmp, same_text}
use Rattle.dg_sets.proofs.MadeOrders.{text_order}
use Rattle.dg_sets.proofs.Sets.{is_one, is_itself, eq_turn, back, all_with, all_passed}
use Rattle.dg_delta.specs.Ops.{after_op, after_ops}
use Rattle.dg_keys.specs.Keys.{key_cmp, part_cmp, pred_of, ops_at}
use Rattle.dg_keys.specs.KeyOrder.{key_order}
use Rattle.dg_keys.specs.declared.key.Key.{Key}
use Rattle.dg_keys.specs.declared.record.Part.{Part}
use Rattle.dg_pages.specs.Entries.{with_entry}
use Rattle.dg_pages.proofs.Cases.{at_order}
use Rattle.dg_delta.specs.Layers.{Changes}
use Rattle.dg_list.specs.Lists.{Layered, after_layers, reading}
use Rattle.dg_list.proofs.ListLemmas.{read_over, read_past}
use Rattle.dg_store.specs.Stores.{Lists, list_under, list_at, no_list, with_part, after_part, after_parts, is_held, held_parts}
use Rattle.dg_group.specs.Groups.{IsLaid}
use Rattle.dg_group.specs.Stands.{EachChanges}

-- ---- one entry put in

pub other_stays : (key : Key) (list : Layered) (other : Key) (lists : Lists) → is_eq (key_cmp other key) ≡ false → list_under other (with_entry key_cmp key list lists) ≡ list_under other lists
other_stays key list other [] apart = ap (λ b. cond b (Some list) None) apart
other_stays key list other (e ∷ es) apart = by (key_cmp key e.0) refl (other_stays key list other es apart)
  where
    by : (v : Ordering) → key_cmp key e.0 ≡ v → list_under other (with_entry key_cmp key list es) ≡ list_under other es → list_under other (match_ordering v ((key, list) ∷ e ∷ es) ((key, list) ∷ es) (e ∷ with_entry key_cmp key list es)) ≡ list_under other (e ∷ es)
    by Less p rest = ap (λ b. cond b (Some list) (list_under other (e ∷ es))) apart
    by Equal p rest =
        let same : key ≡ e.0 = key_order.same key e.0 p in
        let no : is_eq (key_cmp other e.0) ≡ false = sym (ap (λ k. is_eq (key_cmp other k)) same) ∙ apart in
        ap (λ b. cond b (Some list) (list_under other es)) apart ∙ sym (ap (λ b. cond b (Some e.1) (list_under other es)) no)
    by Greater p rest = ap (λ o. cond (is_eq (key_cmp other e.0)) (Some e.1) o) rest

pub own_is : (key : Key) (list : Layered) (lists : Lists) → list_under key (with_entry key_cmp key list lists) ≡ Some list
own_is key list [] = ap (λ b. cond b (Some list) None) (is_itself key_cmp key_order key)
own_is key list (e ∷ es) = by (key_cmp key e.0) refl (own_is key list es)
  where
    by : (v : Ordering) → key_cmp key e.0 ≡ v → list_under key (with_entry key_cmp key list es) ≡ Some list → list_under key (match_ordering v ((key, list) ∷ e ∷ es) ((key, list) ∷ es) (e ∷ with_entry key_cmp key list es)) ≡ Some list
    by Less p rest = ap (λ b. cond b (Some list) (list_under key (e ∷ es))) (is_itself key_cmp key_order key)
    by Equal p rest = ap (λ b. cond b (Some list) (list_under key es)) (is_itself key_cmp key_order key)
    by Greater p rest = ap (λ b. cond b (Some e.1) (list_under key (with_entry key_cmp key list es))) (ap is_eq p) ∙ rest

-- what holds of all entries, and of the one that is put in
pub all_put : (P : Key × Layered → Type 0) (key : Key) (list : Layered) (lists : Lists) → P (key, list) → AllByRecursion P lists → AllByRecursion P (with_entry key_cmp key list lists)
all_put P key list [] p a = (p, tt)
all_put P key list (e ∷ es) p a = at_order (AllByRecursion P) (key_cmp key e.0) _ _ _ (λ _. (p, a)) (λ _. (p, a.1)) (λ _. (a.0, all_put P key list es p a.1))

-- what holds of all lists, and of none, holds of the one of a key
pub all_at : (P : Layered → Type 0) (key : Key) (lists : Lists) → P no_list → AllByRecursion (λ e. P e.1) lists → P (list_at key lists)
all_at P key [] n a = n
all_at P key (e ∷ es) n a = by (is_eq (key_cmp key e.0)) (all_at P key es n a.1)
  where
    by : (b : Bool) → P (list_at key es) → P (unwrap_or (cond b (Some e.1) (list_under key es)) no_list)
    by true rest = a.0
    by false rest = rest

-- ---- the lists after parts

-- the reading of a key's list after one part
reading_after_part : (ts : ℕ) (lists : Lists) (part : Part) (key : Key) (at : ℕ) → ts ≤ at → reading (list_at key (after_part ts lists part)) at ≡ after_ops (reading (list_at key lists) at) (cond (is_eq (key_cmp part.key key)) part.ops [])
reading_after_part ts lists part key at le = by (is_eq (key_cmp part.key key)) refl
  where
    by : (v : Bool) → is_eq (key_cmp part.key key) ≡ v → reading (list_at key (after_part ts lists part)) at ≡ after_ops (reading (list_at key lists) at) (cond v part.ops [])
    by true e =
        let same : part.key ≡ key = is_one key_cmp key_order part.key key e in
        subst (λ (k : Key). reading (list_at k (after_part ts lists part)) at ≡ after_ops (reading (list_at k lists) at) part.ops) same
        (ap (λ o. reading (unwrap_or o no_list) at) (own_is part.key (with_part ts lists part) lists)
        ∙ read_over at (record { ts = ts; ops = part.ops }) (list_at part.key lists).layers (list_at part.key lists).base le)
    by false e =
        ap (λ o. reading (unwrap_or o no_list) at) (other_stays part.key (with_part ts lists part) key lists (eq_turn key_cmp key_order key part.key ∙ e))

-- at or above the timestamp, a key's list has also the operations at the key
pub reading_after : (ts : ℕ) (lists : Lists) (parts : List Part) (key : Key) (at : ℕ) → ts ≤ at → reading (list_at key (after_parts ts lists parts)) at ≡ after_ops (reading (list_at key lists) at) (ops_at parts key)
reading_after ts lists [] key at le = refl
reading_after ts lists (part ∷ parts) key at le =
    reading_after ts (after_part ts lists part) parts key at le
    ∙ ap (λ xs. after_ops xs (ops_at parts key)) (reading_after_part ts lists part key at le)
    ∙ by (is_eq (key_cmp part.key key))
  where
    by : (v : Bool) → after_ops (after_ops (reading (list_at key lists) at) (cond v part.ops [])) (ops_at parts key) ≡ after_ops (reading (list_at key lists) at) (flat_map (λ (p : Part). p.ops) (cond v (part ∷ filter (λ (p : Part). is_eq (key_cmp p.key key)) parts) (filter (λ (p : Part). is_eq (key_cmp p.key key)) parts)))
    by true = sym (fold-append after_op (reading (list_at key lists) at) part.ops (ops_at parts key))
    by false = refl

-- below it, it is as it was
reading_before_part : (ts : ℕ) (lists : Lists) (part : Part) (key : Key) (at : ℕ) → at < ts → reading (list_at key (after_part ts lists part)) at ≡ reading (list_at key lists) at
reading_before_part ts lists part key at lt = by (is_eq (key_cmp part.key key)) refl
  where
    by : (v : Bool) → is_eq (key_cmp part.key key) ≡ v → reading (list_at key (after_part ts lists part)) at ≡ reading (list_at key lists) at
    by true e =
        let same : part.key ≡ key = is_one key_cmp key_order part.key key e in
        subst (λ (k : Key). reading (list_at k (after_part ts lists part)) at ≡ reading (list_at k lists) at) same
        (ap (λ o. reading (unwrap_or o no_list) at) (own_is part.key (with_part ts lists part) lists)
        ∙ read_past at (record { ts = ts; ops = part.ops }) (list_at part.key lists).layers (list_at part.key lists).base lt)
    by false e =
        ap (λ o. reading (unwrap_or o no_list) at) (other_stays part.key (with_part ts lists part) key lists (eq_turn key_cmp key_order key part.key ∙ e))

pub reading_before : (ts : ℕ) (lists : Lists) (parts : List Part) (key : Key) (at : ℕ) → at < ts → reading (list_at key (after_parts ts lists parts)) at ≡ reading (list_at key lists) at
reading_before ts lists [] key at lt = refl
reading_before ts lists (part ∷ parts) key at lt = reading_before ts (after_part ts lists part) parts key at lt ∙ reading_before_part ts lists part key at lt

-- ---- what holds of each list after parts

raised : (mark last ts : ℕ) (lists : Lists) → last ≤ ts → AllByRecursion (λ (e : Key × Layered). IsLaid mark last e.1) lists → AllByRecursion (λ (e : Key × Layered). IsLaid mark ts e.1) lists
raised mark last ts lists le a =
    all_with (λ e. IsLaid mark last e.1) (λ e. IsLaid mark ts e.1) lists
    (λ e l. record { base = l.base; layers = all_with (λ layer. (mark < layer.ts) × (layer.ts ≤ last)) (λ layer. (mark < layer.ts) × (layer.ts ≤ ts)) e.1.layers (λ layer b. (b.0, omega (arith, b.1))) l.layers }) a

none_laid : (mark last : ℕ) → IsLaid mark last no_list
none_laid mark last = record { base = omega arith; layers = tt }

pub laid_at : (mark last : ℕ) (key : Key) (lists : Lists) → AllByRecursion (λ (e : Key × Layered). IsLaid mark last e.1) lists → IsLaid mark last (list_at key lists)
laid_at mark last key lists a = all_at (IsLaid mark last) key lists (none_laid mark last) a

laid_more : (mark ts : ℕ) (lists : Lists) (parts : List Part) → mark < ts → AllByRecursion (λ (e : Key × Layered). IsLaid mark ts e.1) lists → AllByRecursion (λ (e : Key × Layered). IsLaid mark ts e.1) (after_parts ts lists parts)
laid_more mark ts lists [] lt a = a
laid_more mark ts lists (part ∷ parts) lt a =
    let l = laid_at mark ts part.key lists a in
    laid_more mark ts (after_part ts lists part) parts lt
    (all_put (λ e. IsLaid mark ts e.1) part.key (with_part ts lists part) lists (record { base = l.base; layers = ((lt, omega arith), l.layers) }) a)

pub laid_after : (mark last ts : ℕ) (lists : Lists) (parts : List Part) → mark < ts → last ≤ ts → AllByRecursion (λ (e : Key × Layered). IsLaid mark last e.1) lists → AllByRecursion (λ (e : Key × Layered). IsLaid mark ts e.1) (after_parts ts lists parts)
laid_after mark last ts lists parts lt le a = laid_more mark ts lists parts lt (raised mark last ts lists le a)

pub raised_to : (mark last ts : ℕ) (lists : Lists) → last ≤ ts → AllByRecursion (λ (e : Key × Layered). IsLaid mark last e.1) lists → AllByRecursion (λ (e : Key × Layered). IsLaid mark ts e.1) lists
raised_to mark last ts lists le a = raised mark last ts lists le a

-- the keys are of a predicate
pub own_after : (pred : List ℕ) (ts : ℕ) (lists : Lists) (parts : List Part) → AllByRecursion (λ (p : Part). same_text (pred_of p.key) pred ≡ true) parts → AllByRecursion (λ (e : Key × Layered). same_text (pred_of e.0) pred ≡ true) lists → AllByRecursion (λ (e : Key × Layered). same_text (pred_of e.0) pred ≡ true) (after_parts ts lists parts)
own_after pred ts lists [] o a = a
own_after pred ts lists (part ∷ parts) o a =
    own_after pred ts (after_part ts lists part) parts o.1 (all_put (λ e. same_text (pred_of e.0) pred ≡ true) part.key (with_part ts lists part) lists o.0 a)

-- a part changes the list of its key
abbrev pub PartChanges : ℕ → Lists → Part → Type 0
PartChanges ts lists part = after_ops (reading (list_at part.key lists) ts) part.ops ≢ reading (list_at part.key lists) ts

-- parts on keys above one whose list changed
still_change : (ts : ℕ) (lists : Lists) (first : Part) (parts : List Part) → AllByRecursion (λ (q : Part). part_cmp first q ≡ Less) parts → AllByRecursion (PartChanges ts lists) parts → AllByRecursion (PartChanges ts (after_part ts lists first)) parts
still_change ts lists first [] a b = tt
still_change ts lists first (q ∷ parts) a b =
    let apart : is_eq (key_cmp q.key first.key) ≡ false = ap is_eq (back key_cmp key_order first.key q.key a.0) in
    let same : list_at q.key (after_part ts lists first) ≡ list_at q.key lists = ap (λ o. unwrap_or o no_list) (other_stays first.key (with_part ts lists first) q.key lists apart) in
    (subst (λ (l : Layered). after_ops (reading l ts) q.ops ≢ reading l ts) (sym same) b.0, still_change ts lists first parts a.1 b.1)

pub changing_after : (ts : ℕ) (lists : Lists) (parts : List Part) → Ascends part_cmp parts → AllByRecursion (PartChanges ts lists) parts → AllByRecursion (λ (e : Key × Layered). EachChanges e.1.base e.1.layers) lists → AllByRecursion (λ (e : Key × Layered). EachChanges e.1.base e.1.layers) (after_parts ts lists parts)
changing_after ts lists [] s c a = a
changing_after ts lists (part ∷ parts) s c a =
    let old : EachChanges (list_at part.key lists).base (list_at part.key lists).layers = all_at (λ l. EachChanges l.base l.layers) part.key lists tt a in
    changing_after ts (after_part ts lists part) parts s.1 (still_change ts lists part parts s.0 c.1)
    (all_put (λ e. EachChanges e.1.base e.1.layers) part.key (with_part ts lists part) lists (c.0, old) a)

-- ---- a list whose layers were all applied reads alike from there on

settled_layers : (mark last a b : ℕ) (layers : List Changes) (base : List Posting) → last ≤ a → last ≤ b → AllByRecursion (λ (l : Changes). (mark < l.ts) × (l.ts ≤ last)) layers → after_layers a layers base ≡ after_layers b layers base
settled_layers mark last a b [] base p q l = refl
settled_layers mark last a b (layer ∷ layers) base p q l =
    read_over a layer layers base (omega (arith, l.0.1))
    ∙ ap (λ xs. after_ops xs layer.ops) (settled_layers mark last a b layers base p q l.1)
    ∙ sym (read_over b layer layers base (omega (arith, l.0.1)))

pub settled : (mark last a b : ℕ) (list : Layered) → last ≤ a → last ≤ b → IsLaid mark last list → reading list a ≡ reading list b
settled mark last a b list p q l = settled_layers mark last a b list.layers list.base p q l.layers

-- ---- the parts of one predicate

held_one : (pred : List ℕ) (part : Part) → is_held (pred ∷ []) part ≡ same_text (pred_of part.key) pred
held_one pred part = no_more (is_eq (text_cmp pred (pred_of part.key))) ∙ eq_turn text_cmp text_order pred (pred_of part.key)
  where
    no_more : (b : Bool) → (b || false) ≡ b
    no_more true = refl
    no_more false = refl

pub held_own : (pred : List ℕ) (parts : List Part) → AllByRecursion (λ (p : Part). same_text (pred_of p.key) pred ≡ true) (held_parts (pred ∷ []) parts)
held_own pred [] = tt
held_own pred (part ∷ parts) = by (is_held (pred ∷ []) part) refl (held_own pred parts)
  where
    by : (v : Bool) → is_held (pred ∷ []) part ≡ v → AllByRecursion (λ (p : Part). same_text (pred_of p.key) pred ≡ true) (held_parts (pred ∷ []) parts) → AllByRecursion (λ (p : Part). same_text (pred_of p.key) pred ≡ true) (cond v (part ∷ held_parts (pred ∷ []) parts) (held_parts (pred ∷ []) parts))
    by true e rest = (sym (held_one pred part) ∙ e, rest)
    by false e rest = rest

-- at a key of the predicate the parts that are held have the operations of all
pub held_ops : (pred : List ℕ) (parts : List Part) (key : Key) → same_text (pred_of key) pred ≡ true → ops_at (held_parts (pred ∷ []) parts) key ≡ ops_at parts key
held_ops pred [] key own = refl
held_ops pred (part ∷ parts) key own = by (is_held (pred ∷ []) part) (is_eq (key_cmp part.key key)) refl refl (held_ops pred parts key own)
  where
    rest_of : List Part
    rest_of = filter (λ (p : Part). is_eq (key_cmp p.key key)) parts

    by : (v w : Bool) → is_held (pred ∷ []) part ≡ v → is_eq (key_cmp part.key key) ≡ w → ops_at (held_parts (pred ∷ []) parts) key ≡ ops_at parts key → ops_at (cond v (part ∷ held_parts (pred ∷ []) parts) (held_parts (pred ∷ []) parts)) key ≡ flat_map (λ (p : Part). p.ops) (cond w (part ∷ filter (λ (p : Part). is_eq (key_cmp p.key key)) parts) (filter (λ (p : Part). is_eq (key_cmp p.key key)) parts))
    by true true e f rest = (λ i. flat_map (λ (p : Part). p.ops) (cond (f i) (part ∷ filter (λ (p : Part). is_eq (key_cmp p.key key)) (held_parts (pred ∷ []) parts)) (filter (λ (p : Part). is_eq (key_cmp p.key key)) (held_parts (pred ∷ []) parts)))) ∙ ap (λ ops. part.ops ++ ops) rest
    by true false e f rest = (λ i. flat_map (λ (p : Part). p.ops) (cond (f i) (part ∷ filter (λ (p : Part). is_eq (key_cmp p.key key)) (held_parts (pred ∷ []) parts)) (filter (λ (p : Part). is_eq (key_cmp p.key key)) (held_parts (pred ∷ []) parts)))) ∙ rest
    by false true e f rest =
        let same : part.key ≡ key = is_one key_cmp key_order part.key key f in
        absurd (both_ways (is_held (pred ∷ []) part) e (held_one pred part ∙ (ap (λ k. same_text (pred_of k) pred) same ∙ own)))
    by false false e f rest = rest

pub held_ascend : (held : List (List ℕ)) (parts : List Part) → Ascends part_cmp parts → Ascends part_cmp (held_parts held parts)
held_ascend held [] a = tt
held_ascend held (part ∷ parts) a = by (is_held held part) (held_ascend held parts a.1)
  where
    by : (v : Bool) → Ascends part_cmp (held_parts held parts) → Ascends part_cmp (cond v (part ∷ held_parts held parts) (held_parts held parts))
    by true rest = (all_passed (λ p. part_cmp part p ≡ Less) (is_held held) parts a.0, rest)
    by false rest = rest

-- a part's operations are those at its key
pub none_at : (key : Key) (parts : List Part) → AllByRecursion (λ (p : Part). key_cmp key p.key ≡ Less) parts → ops_at parts key ≡ []
none_at key [] a = refl
none_at key (part ∷ parts) a = by (is_eq (key_cmp part.key key)) (ap is_eq (back key_cmp key_order key part.key a.0)) (none_at key parts a.1)
  where
    by : (v : Bool) → v ≡ false → ops_at parts key ≡ [] → flat_map (λ (p : Part). p.ops) (cond v (part ∷ filter (λ (p : Part). is_eq (key_cmp p.key key)) parts) (filter (λ (p : Part). is_eq (key_cmp p.key key)) parts)) ≡ []
    by true e rest = absurd (cc)
    by false e rest = rest

pub first_at : (part : Part) (parts : List Part) → AllByRecursion (λ (p : Part). key_cmp part.key p.key ≡ Less) parts → ops_at (part ∷ parts) part.key ≡ part.ops
first_at part parts a = by (is_eq (key_cmp part.key part.key)) (is_itself key_cmp key_order part.key) (none_at part.key parts a)
  where
    by : (v : Bool) → v ≡ true → ops_at parts part.key ≡ [] → flat_map (λ (p : Part). p.ops) (cond v (part ∷ filter (λ (p : Part). is_eq (key_cmp p.key part.key)) parts) (filter (λ (p : Part). is_eq (key_cmp p.key part.key)) parts)) ≡ part.ops
    by true e rest = (λ i. part.ops ++ rest i) ∙ append-nil part.ops
    by false e rest = absurd (cc)

later_at : (part : Part) (parts more : List Part) → AllByRecursion (λ (p : Part). key_cmp part.key p.key ≡ Less) more → AllByRecursion (λ (p : Part). ops_at parts p.key ≡ p.ops) more → AllByRecursion (λ (p : Part). ops_at (part ∷ parts) p.key ≡ p.ops) more
later_at part parts [] a b = tt
later_at part parts (p ∷ more) a b = (by (is_eq (key_cmp part.key p.key)) (ap is_eq a.0) b.0, later_at part parts more a.1 b.1)
  where
    by : (v : Bool) → v ≡ false → ops_at parts p.key ≡ p.ops → flat_map (λ (q : Part). q.ops) (cond v (part ∷ filter (λ (q : Part). is_eq (key_cmp q.key p.key)) parts) (filter (λ (q : Part). is_eq (key_cmp q.key p.key)) parts)) ≡ p.ops
    by true e rest = absurd (cc)
    by false e rest = rest

pub own_ops : (parts : List Part) → Ascends part_cmp parts → AllByRecursion (λ (p : Part). ops_at parts p.key ≡ p.ops) parts
own_ops [] a = tt
own_ops (part ∷ parts) a = (first_at part parts a.0, later_at part parts parts a.0 (own_ops parts a.1))
