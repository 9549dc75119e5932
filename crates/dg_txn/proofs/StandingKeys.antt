-- Which keys stand in a store and among parts, and that what stands in neither lists nothing.
use Rattle.std.proofs.Common.{◌≡◌, ◌∙◌, sym, ap, subst, refl, ℕ, Bool, true, false, cond, List, [], ◌∷◌, Option, Some, None, map}
use Rattle.std.specs.Prelude.{◌||◌, find, filter, flat_map, unwrap_or, is_some, IfSome, IsSomeAnd}
use Rattle.std.specs.List.{AllByRecursion}
use Rattle.std.specs.Map.{lookup}
use Rattle.std.specs.Option.{option_map, option_and_then}
use Rattle.std.specs.declared.cmp.Ordering.TheVariants.{Less}
use Rattle.std.specs.Ordering.{eq_by_cmp, is_eq}
use Rattle.dg_values.specs.Ascending.{Ascends, has}
use Rattle.dg_sets.proofs.Sets.{eq_turn}
use Rattle.dg_delta.specs.declared.op.Op.{Op}
use Rattle.dg_values.specs.Order.{same_text}
use Rattle.dg_schema.proofs.Names.{same_text-equal, same_text-itself}
use Rattle.dg_schema.specs.declared.definition.PredDef.{PredDef}
use Rattle.dg_graph.specs.declared.change.Triple.{Triple}
use Rattle.dg_keys.specs.declared.key.Key.{Key}
use Rattle.dg_keys.specs.declared.record.Part.{Part}
use Rattle.dg_keys.specs.declared.record.Tablet.{Tablet}
use Rattle.dg_keys.specs.Keys.{key_cmp, pred_of, ops_at}
use Rattle.dg_keys.specs.KeyOrder.{key_order}
use Rattle.dg_list.specs.Lists.{Layered, reading}
use Rattle.dg_pages.specs.Entries.{IsMap}
use Rattle.dg_store.specs.Stores.{Lists, list_at, no_list}
use Rattle.dg_zero.specs.Listings.{listing}
use Rattle.dg_group.proofs.Between.{found_at, found_is}
use Rattle.dg_group.specs.declared.copied.Copied.{Copied}
use Rattle.dg_group.specs.Groups.{Group}
use Rattle.dg_txn.specs.Gains.{parts_from}
use Rattle.dg_txn.specs.Pins.{copy_for, read_in, tablet_of, pinned_copy, IsCopyOf, ArePinsOf}
use Rattle.dg_txn.specs.Walks.{stored_keys, part_keys, is_changed, IsLeast, HoldsAll, ReadsAs}
use Rattle.dg_txn.proofs.PinLaws.{pins_read}
use Rattle.dg_txn.proofs.Walking.{least_found}

-- ---- the keys of a map's entries

module _ {V : Type 0} where
  keys_above : (key : Key) (es : List (Key × V)) → AllByRecursion (λ e. key_cmp key e.0 ≡ Less) es → AllByRecursion (λ k. key_cmp key k ≡ Less) (map (λ e. e.0) es)
  keys_above key [] a = tt
  keys_above key (e ∷ es) a = (a.0, keys_above key es a.1)

  keys_ascend : (es : List (Key × V)) → IsMap key_cmp es → Ascends key_cmp (map (λ e. e.0) es)
  keys_ascend [] a = tt
  keys_ascend (e ∷ es) a = (keys_above e.0 es a.0, keys_ascend es a.1)

  find_keys : (passes : Key → Bool) (es : List (Key × V)) → option_map (λ e. e.0) (find (λ (e : Key × V). passes e.0) es) ≡ find passes (map (λ e. e.0) es)
  find_keys passes [] = refl
  find_keys passes (e ∷ es) = by (passes e.0) (find_keys passes es)
    where
      by : (v : Bool) → option_map (λ e. e.0) (find (λ (e : Key × V). passes e.0) es) ≡ find passes (map (λ e. e.0) es) → option_map (λ e. e.0) (cond v (Some e) (find (λ (e : Key × V). passes e.0) es)) ≡ cond v (Some e.0) (find passes (map (λ e. e.0) es))
      by true rest = refl
      by false rest = rest

  -- the entry that is found has the least key that passes
  pub least_entry : (passes : Key → Bool) (es : List (Key × V)) → IsMap key_cmp es → IsLeast passes (map (λ e. e.0) es) (option_map (λ e. e.0) (find (λ (e : Key × V). passes e.0) es))
  least_entry passes es a = subst (IsLeast passes (map (λ e. e.0) es)) (sym (find_keys passes es)) (least_found passes (map (λ e. e.0) es) (keys_ascend es a))

  none_under : (key : Key) (es : List (Key × V)) → has key_cmp (map (λ e. e.0) es) key ≡ false → lookup (eq_by_cmp key_cmp key) es ≡ None
  none_under key [] h = refl
  none_under key (e ∷ es) h = by (is_eq (key_cmp e.0 key)) (eq_turn key_cmp key_order key e.0) h (λ k. none_under key es k)
    where
      by : (v : Bool) → is_eq (key_cmp key e.0) ≡ v → (v || has key_cmp (map (λ e. e.0) es) key) ≡ false → (has key_cmp (map (λ e. e.0) es) key ≡ false → lookup (eq_by_cmp key_cmp key) es ≡ None) → cond (is_eq (key_cmp key e.0)) (Some e.1) (lookup (eq_by_cmp key_cmp key) es) ≡ None
      by true q k rest = absurd (cc)
      by false q k rest = ap (λ (b : Bool). cond b (Some e.1) (lookup (eq_by_cmp key_cmp key) es)) q ∙ rest k

-- the keys of parts that are made of entries
pub made_keys : (es : List (Key × List Op)) → map (λ e. e.0) es ≡ part_keys (parts_from es)
made_keys [] = refl
made_keys (e ∷ es) = ap (λ (keys : List Key). e.0 ∷ keys) (made_keys es)

-- ---- what stands in neither

nothing_in : (at : ℕ) (key : Key) (store : Lists) → has key_cmp (map (λ e. e.0) store) key ≡ false → reading (list_at key store) at ≡ []
nothing_in at key store h = ap (λ (o : Option Layered). reading (unwrap_or o no_list) at) (none_under key store h)

nothing_read : (at : ℕ) (key : Key) (c : Option Copied) → has key_cmp (stored_keys (option_map (λ (copy : Copied). copy.store) c)) key ≡ false → read_in at key c ≡ []
nothing_read at key None h = refl
nothing_read at key (Some copy) h = nothing_in at key copy.store h

-- the store of a predicate has all its lists that aren't empty
pub store_holds : (at : ℕ) (schema : List PredDef) (owners : List Tablet) (pins : List Group) (graph : List Triple) (pred : List ℕ) (store : Option Lists) → ArePinsOf at schema owners pins graph → store ≡ option_map (λ (copy : Copied). copy.store) (copy_for owners pins pred) → HoldsAll pred store (listing schema graph)
store_holds at schema owners pins graph pred store are is key own h =
    sym (pins_read at schema owners pins graph key are)
    ∙ nothing_read at key (copy_for owners pins (pred_of key)) ((λ i. has key_cmp (stored_keys (option_map (λ (copy : Copied). copy.store) (copy_for owners pins (own i)))) key) ∙ ((λ i. has key_cmp (stored_keys (sym is i)) key) ∙ h))

pub no_ops : (parts : List Part) (key : Key) → has key_cmp (part_keys parts) key ≡ false → ops_at parts key ≡ []
no_ops [] key h = refl
no_ops (part ∷ parts) key h = by (is_eq (key_cmp part.key key)) h (λ k. no_ops parts key k)
  where
    by : (v : Bool) → (v || has key_cmp (part_keys parts) key) ≡ false → (has key_cmp (part_keys parts) key ≡ false → ops_at parts key ≡ []) → flat_map (λ (q : Part). q.ops) (cond v (part ∷ filter (λ (q : Part). is_eq (key_cmp q.key key)) parts) (filter (λ (q : Part). is_eq (key_cmp q.key key)) parts)) ≡ []
    by true k rest = absurd (cc)
    by false k rest = rest k

same_text-of : (a b : List ℕ) → a ≡ b → same_text a b ≡ true
same_text-of a b e = ap (same_text a) (sym e) ∙ same_text-itself a

-- the lists of a predicate's store are those of the graph
pub store_reads : (at : ℕ) (schema : List PredDef) (owners : List Tablet) (pins : List Group) (graph : List Triple) (pred : List ℕ) (store : Option Lists) → ArePinsOf at schema owners pins graph → store ≡ option_map (λ (copy : Copied). copy.store) (copy_for owners pins pred) → IfSome store (ReadsAs at pred (listing schema graph))
store_reads at schema owners pins graph pred store are is = subst (λ (s : Option Lists). IfSome s (ReadsAs at pred (listing schema graph))) (sym is) (by (tablet_of owners pred) refl)
  where
    of_it : (own : List ℕ) (o : Option Copied) → own ≡ pred → IsSomeAnd o (IsCopyOf at schema graph own) → IfSome (option_map (λ (copy : Copied). copy.store) o) (ReadsAs at pred (listing schema graph))
    of_it own None e h = absurd (h)
    of_it own (Some copy) e h = record { based = h.bases; read = λ key is. h.lists key (same_text-of (pred_of key) own (is ∙ sym e)) }

    by : (o : Option Tablet) → tablet_of owners pred ≡ o → IfSome (option_map (λ (copy : Copied). copy.store) (option_and_then (pinned_copy pins) o)) (ReadsAs at pred (listing schema graph))
    by None e = tt
    by (Some t) e =
        of_it t.pred (pinned_copy pins t) (same_text-equal t.pred pred (found_is (λ t. same_text t.pred pred) owners t e)) (found_at (λ t. IsSomeAnd (pinned_copy pins t) (IsCopyOf at schema graph t.pred)) (λ t. same_text t.pred pred) owners t e are.held)

-- ---- what is found among parts

module _ {V : Type 0} where
  -- a key has an entry where it is among the keys
  pub under_has : (key : Key) (es : List (Key × V)) → is_some (lookup (eq_by_cmp key_cmp key) es) ≡ has key_cmp (map (λ e. e.0) es) key
  under_has key [] = refl
  under_has key (e ∷ es) = by (is_eq (key_cmp e.0 key)) (eq_turn key_cmp key_order key e.0) (under_has key es)
    where
      by : (v : Bool) → is_eq (key_cmp key e.0) ≡ v → is_some (lookup (eq_by_cmp key_cmp key) es) ≡ has key_cmp (map (λ e. e.0) es) key → is_some (cond (is_eq (key_cmp key e.0)) (Some e.1) (lookup (eq_by_cmp key_cmp key) es)) ≡ (v || has key_cmp (map (λ e. e.0) es) key)
      by true q rest = ap (λ (b : Bool). is_some (cond b (Some e.1) (lookup (eq_by_cmp key_cmp key) es))) q
      by false q rest = ap (λ (b : Bool). is_some (cond b (Some e.1) (lookup (eq_by_cmp key_cmp key) es))) q ∙ rest

pub gained_has : (key : Key) (es : List (Key × List Op)) (parts : List Part) → parts_from es ≡ parts → is_some (lookup (eq_by_cmp key_cmp key) es) ≡ is_changed parts key
gained_has key es parts made = under_has key es ∙ ap (λ (keys : List Key). has key_cmp keys key) (made_keys es ∙ ap part_keys made)

pub gained_least : (passes : Key → Bool) (es : List (Key × List Op)) (parts : List Part) (o : Option (Key × List Op)) → IsMap key_cmp es → parts_from es ≡ parts → o ≡ find (λ e. passes e.0) es → IsLeast passes (part_keys parts) (option_map (λ e. e.0) o)
gained_least passes es parts o m made is =
    subst (λ (keys : List Key). IsLeast passes keys (option_map (λ e. e.0) o)) (made_keys es ∙ ap part_keys made)
    (subst (λ (found : Option (Key × List Op)). IsLeast passes (map (λ e. e.0) es) (option_map (λ e. e.0) found)) (sym is) (least_entry passes es m))
