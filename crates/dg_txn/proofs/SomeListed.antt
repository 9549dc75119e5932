-- Which lists show that a predicate has a triple, and how they are gone through.
use Rattle.std.proofs.Common.{◌≡◌, ◌∙◌, sym, ap, subst, refl, arith, ℕ, Bool, true, false, cond, List, [], ◌∷◌, length, Option, Some, None}
use Rattle.std.specs.Prelude.{◌≤◌, ◌||◌, ◌&&◌, nat_lt, unwrap_or, IsSomeAnd}
use Rattle.std.proofs.lemmas.Grind.{common_steps}
use Rattle.std.specs.List.{AllByRecursion, list_any}
use Rattle.std.specs.Option.{option_map, option_and_then}
use Rattle.std.specs.declared.cmp.Ordering.TheVariants.{Less}
use Rattle.std.specs.Ordering.{is_eq, ordering_reverse}
use Rattle.dg_values.specs.Order.{posting_cmp, same_text}
use Rattle.dg_values.specs.Ascending.{has}
use Rattle.dg_values.specs.declared.value.Posting.{Posting}
use Rattle.dg_values.proofs.OrderLaws.{posting_order}
use Rattle.dg_sets.proofs.Sets.{is_one, is_itself, any_at}
use Rattle.dg_schema.specs.declared.definition.PredDef.{PredDef}
use Rattle.dg_schema.proofs.Names.{same_text-equal, same_text-itself}
use Rattle.dg_graph.specs.declared.change.Triple.{Triple}
use Rattle.dg_graph.specs.Changes.{has_triple}
use Rattle.dg_graph.specs.Graphs.{triple_cmp, is_of}
use Rattle.dg_graph.proofs.GraphLaws.{triple_order}
use Rattle.dg_keys.specs.declared.key.Key.{Key}
use Rattle.dg_keys.specs.declared.key.Key.TheVariants.{Data, Index, Reverse, Count, RCount}
use Rattle.dg_keys.specs.declared.record.Tablet.{Tablet}
use Rattle.dg_keys.specs.Keys.{key_cmp}
use Rattle.dg_keys.specs.KeyOrder.{key_order}
use Rattle.dg_list.specs.Lists.{Layered, reading}
use Rattle.dg_pages.specs.Entries.{IsMap}
use Rattle.dg_store.specs.Stores.{Lists, list_under, list_at, no_list}
use Rattle.dg_edges.proofs.EdgeLaws.{listed_by}
use Rattle.dg_group.specs.declared.copied.Copied.{Copied}
use Rattle.dg_group.specs.Groups.{Group}
use Rattle.dg_group.proofs.Between.{found_at}
use Rattle.dg_txn.specs.Existing.{is_data_of, lists_some}
use Rattle.dg_txn.specs.Pins.{tablet_of, pinned_copy, copy_for, read_in, IsCopyOf, ArePinsOf}
use Rattle.dg_txn.proofs.PinLaws.{pins_read}

-- ---- truths

or_true : (a b : Bool) → a ≡ true → (a || b) ≡ true
or_true true b e = refl
or_true false b e = absurd (cc)

or_later : (a b : Bool) → b ≡ true → (a || b) ≡ true
or_later true b e = refl
or_later false b e = e

both : (a b : Bool) → a ≡ true → b ≡ true → (a && b) ≡ true
both true b e f = f
both false b e f = absurd (cc)

left_of : (a b : Bool) → (a && b) ≡ true → a ≡ true
left_of true b e = refl
left_of false b e = e

right_of : (a b : Bool) → (a && b) ≡ true → b ≡ true
right_of true b e = e
right_of false b e = absurd (cc)

same_bools : (a b : Bool) → (a ≡ true → b ≡ true) → (b ≡ true → a ≡ true) → a ≡ b
same_bools true b f g = sym (f refl)
same_bools false true f g = g refl
same_bools false false f g = refl

-- ---- lists with a posting

has_some : (os : List Posting) (o : Posting) → has posting_cmp os o ≡ true → nat_lt 0 (length os) ≡ true
has_some [] o e = absurd (cc)
has_some (x ∷ os) o e = grind (arith, common_steps)

-- a list that isn't empty has a posting
some_has : {G : Type 0} (os : List Posting) → nat_lt 0 (length os) ≡ true → ((o : Posting) → has posting_cmp os o ≡ true → G) → G
some_has [] e g = absurd (cc)
some_has (o ∷ os) e g = g o (or_true (is_eq (posting_cmp o o)) (has posting_cmp os o) (is_itself posting_cmp posting_order o))

-- a triple that passes is among the triples
any_there : {G : Type 0} (f : Triple → Bool) (ts : List Triple) → ((t : Triple) → f t ≡ true → has triple_cmp ts t ≡ true → G) → list_any f ts ≡ true → G
any_there f [] g e = absurd (cc)
any_there {G = G} f (t ∷ ts) g e = by (f t) refl e (λ k. any_there f ts (λ u h i. g u h (or_later (is_eq (triple_cmp t u)) (has triple_cmp ts u) i)) k)
  where
    by : (v : Bool) → f t ≡ v → (v || list_any f ts) ≡ true → (list_any f ts ≡ true → G) → G
    by true q k rest = g t q (or_true (is_eq (triple_cmp t t)) (has triple_cmp ts t) (is_itself triple_cmp triple_order t))
    by false q k rest = rest k

-- each entry of a map is found under its key
other_key : (a b : Key) → key_cmp a b ≡ Less → is_eq (key_cmp b a) ≡ false
other_key a b e = ap is_eq (key_order.antisymm b a ∙ ap ordering_reverse e)

own_lists : (store : Lists) → IsMap key_cmp store → AllByRecursion (λ e. list_at e.0 store ≡ e.1) store
own_lists [] a = tt
own_lists (e ∷ es) a = (
  ap (λ (b : Bool). unwrap_or (cond b (Some e.1) (list_under e.0 es)) no_list) (is_itself key_cmp key_order e.0),
  others es a.0 (own_lists es a.1),
)
  where
    others : (xs : Lists) → AllByRecursion (λ y. key_cmp e.0 y.0 ≡ Less) xs → AllByRecursion (λ y. list_at y.0 es ≡ y.1) xs → AllByRecursion (λ y. list_at y.0 (e ∷ es) ≡ y.1) xs
    others [] l a = tt
    others (y ∷ xs) l a = (
      ap (λ (b : Bool). unwrap_or (cond b (Some e.1) (list_under y.0 es)) no_list) (other_key e.0 y.0 l.0) ∙ a.0,
      others xs l.1 a.1,
    )

module _ (pred : List ℕ) (at : ℕ) where
  abbrev shows : Key × Layered → Bool
  shows e = lists_some pred at e

  -- a subject's list that has a posting shows
  to_store : (s : ℕ) (o : Posting) (store : Lists) → has posting_cmp (reading (list_at (Data pred s) store) at) o ≡ true → list_any shows store ≡ true
  to_store s o [] e = absurd (cc)
  to_store s o (x ∷ store) e = by (is_eq (key_cmp (Data pred s) x.0)) refl e (λ k. to_store s o store k)
    where
      shown : is_eq (key_cmp (Data pred s) x.0) ≡ true → has posting_cmp (reading x.1 at) o ≡ true → shows x ≡ true
      shown q e =
          let same : Data pred s ≡ x.0 = is_one key_cmp key_order (Data pred s) x.0 q in
          both (is_data_of pred x.0) (nat_lt 0 (length (reading x.1 at))) (ap (is_data_of pred) (sym same) ∙ same_text-itself pred) (has_some (reading x.1 at) o e)

      by : (v : Bool) → is_eq (key_cmp (Data pred s) x.0) ≡ v → has posting_cmp (reading (unwrap_or (cond v (Some x.1) (list_under (Data pred s) store)) no_list) at) o ≡ true → (has posting_cmp (reading (list_at (Data pred s) store) at) o ≡ true → list_any shows store ≡ true) → (shows x || list_any shows store) ≡ true
      by true q e rest = or_true (shows x) (list_any shows store) (shown q e)
      by false q e rest = or_later (shows x) (list_any shows store) (rest e)

  -- a key of a subject's list
  of_subject : {G : Type 0} (key : Key) → is_data_of pred key ≡ true → ((s : ℕ) → Data pred s ≡ key → G) → G
  of_subject (Data p s) e g = g s (ap (λ (q : List ℕ). Data q s) (sym (same_text-equal p pred e)))
  of_subject (Index p t) e g = absurd (cc)
  of_subject (Reverse p o) e g = absurd (cc)
  of_subject (Count p n) e g = absurd (cc)
  of_subject (RCount p n) e g = absurd (cc)

  -- an entry that shows is a subject's list with a posting
  from_store : {G : Type 0} (store xs : Lists) → AllByRecursion (λ e. list_at e.0 store ≡ e.1) xs → ((s : ℕ) (o : Posting) → has posting_cmp (reading (list_at (Data pred s) store) at) o ≡ true → G) → list_any shows xs ≡ true → G
  from_store store [] a g e = absurd (cc)
  from_store {G = G} store (x ∷ xs) a g e = by (shows x) refl e (λ k. from_store store xs a.1 g k)
    where
      found : shows x ≡ true → G
      found q =
          some_has (reading x.1 at) (right_of (is_data_of pred x.0) (nat_lt 0 (length (reading x.1 at))) q)
          (λ o h.
          of_subject x.0 (left_of (is_data_of pred x.0) (nat_lt 0 (length (reading x.1 at))) q)
          (λ s same. g s o (ap (λ (list : Layered). has posting_cmp (reading list at) o) (ap (λ (key : Key). list_at key store) same ∙ a.0) ∙ h)))

      by : (v : Bool) → shows x ≡ v → (v || list_any shows xs) ≡ true → (list_any shows xs ≡ true → G) → G
      by true q k rest = found q
      by false q k rest = rest k

  module _ (schema : List PredDef) (owners : List Tablet) (pins : List Group) (graph : List Triple) (are : ArePinsOf at schema owners pins graph) where
    abbrev triple : ℕ → Posting → Triple
    triple s o = record { s = s; p = pred; o = o }

    -- what is read for a subject of a predicate that has this copy
    read_as : (c : Option Copied) → copy_for owners pins pred ≡ c → (s : ℕ) (o : Posting) → has posting_cmp (read_in at (Data pred s) c) o ≡ has_triple graph (triple s o)
    read_as c is s o =
        ap (λ (c : Option Copied). has posting_cmp (read_in at (Data pred s) c) o) (sym is)
        ∙ ap (λ (os : List Posting). has posting_cmp os o) (pins_read at schema owners pins graph (Data pred s) are)
        ∙ listed_by schema graph pred s o are.lawful

    from_graph : {G : Type 0} → ((s : ℕ) (o : Posting) → has_triple graph (triple s o) ≡ true → G) → list_any (is_of pred) graph ≡ true → G
    from_graph g e =
        any_there (is_of pred) graph
        (λ t p h. g t.s t.o (ap (λ (q : List ℕ). has_triple graph (record { s = t.s; p = q; o = t.o })) (sym (same_text-equal t.p pred p)) ∙ h))
        e

    none_there : copy_for owners pins pred ≡ None → false ≡ list_any (is_of pred) graph
    none_there is =
        same_bools false (list_any (is_of pred) graph) (λ e. absurd (cc))
        (λ e. from_graph (λ s o h. read_as None is s o ∙ h) e)

    some_there : (copy : Copied) → copy_for owners pins pred ≡ Some copy → IsMap key_cmp copy.store → list_any shows copy.store ≡ list_any (is_of pred) graph
    some_there copy is m =
        same_bools (list_any shows copy.store) (list_any (is_of pred) graph)
        (λ e. from_store copy.store copy.store (own_lists copy.store m) (λ s o h. any_at triple_cmp triple_order (is_of pred) graph (triple s o) (same_text-itself pred) (sym (read_as (Some copy) is s o) ∙ h)) e)
        (λ e. from_graph (λ s o h. to_store s o copy.store (read_as (Some copy) is s o ∙ h)) e)

    -- the copy's bases are at or below the timestamp
    based : (copy : Copied) → copy_for owners pins pred ≡ Some copy → AllByRecursion (λ e. e.1.base_ts ≤ at) copy.store
    based copy is = by (tablet_of owners pred) refl is
      where
        of_it : (p : List ℕ) (c : Option Copied) → IsSomeAnd c (IsCopyOf at schema graph p) → c ≡ Some copy → AllByRecursion (λ e. e.1.base_ts ≤ at) copy.store
        of_it p None h e = absurd (h)
        of_it p (Some c) h e =
            let same : c ≡ copy = cc in
            subst (λ (c : Copied). AllByRecursion (λ e. e.1.base_ts ≤ at) c.store) same h.bases

        by : (t : Option Tablet) → tablet_of owners pred ≡ t → option_and_then (pinned_copy pins) t ≡ Some copy → AllByRecursion (λ e. e.1.base_ts ≤ at) copy.store
        by None e is = absurd (cc)
        by (Some t) e is =
            of_it t.pred (pinned_copy pins t) (found_at (λ t. IsSomeAnd (pinned_copy pins t) (IsCopyOf at schema graph t.pred)) (λ t. same_text t.pred pred) owners t e are.held) is

    -- ---- by the store that is found

    abbrev found : Option Lists
    found = option_map (λ (copy : Copied). copy.store) (copy_for owners pins pred)

    of_found : {G : Type 0} (store : Lists) (c : Option Copied) → copy_for owners pins pred ≡ c → Some store ≡ option_map (λ (copy : Copied). copy.store) c → ((copy : Copied) → copy_for owners pins pred ≡ Some copy → copy.store ≡ store → G) → G
    of_found store None is e g = absurd (cc)
    of_found store (Some copy) is e g = let same : copy.store ≡ store = cc in g copy is same

    pub store_based : (store : Lists) → Some store ≡ found → AllByRecursion (λ e. e.1.base_ts ≤ at) store
    store_based store e =
        of_found store (copy_for owners pins pred) refl e (λ copy is same. subst (AllByRecursion (λ e. e.1.base_ts ≤ at)) same (based copy is))

    pub store_shows : (store : Lists) → Some store ≡ found → IsMap key_cmp store → list_any shows store ≡ list_any (is_of pred) graph
    store_shows store e m =
        of_found store (copy_for owners pins pred) refl e (λ copy is same. ap (list_any shows) (sym same) ∙ some_there copy is (subst (IsMap key_cmp) (sym same) m))

    pub no_store : None ≡ found → false ≡ list_any (is_of pred) graph
    no_store e = by (copy_for owners pins pred) refl e
      where
        by : (c : Option Copied) → copy_for owners pins pred ≡ c → None ≡ option_map (λ (copy : Copied). copy.store) c → false ≡ list_any (is_of pred) graph
        by None is e = none_there is
        by (Some copy) is e = absurd (cc)
