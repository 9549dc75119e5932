-- The graph that is read from pins.
use Rattle.std.proofs.Common.{◌≡◌, ◌≤◌, ◌∙◌, sym, ap, refl, ℕ, List, [], ◌∷◌, Bool, true, false, cond, map, flat_map}
use Rattle.std.specs.Prelude.{◌||◌, Option, Some, None, find, is_some, unwrap_or, IsSomeAnd, filter}
use Rattle.std.specs.List.{AllByRecursion, list_any}
use Rattle.std.specs.Option.{option_and_then, option_map}
use Rattle.std.specs.Ordering.{is_eq}
use Rattle.dg_values.specs.Order.{posting_cmp, same_text}
use Rattle.dg_values.specs.Ascending.{Ascends, has}
use Rattle.dg_values.specs.declared.value.Posting.{Posting}
use Rattle.dg_values.proofs.OrderLaws.{posting_order}
use Rattle.dg_sets.proofs.Sets.{is_one, one_list, has_more, ascends_more, has_joined}
use Rattle.dg_schema.specs.declared.definition.PredDef.{PredDef}
use Rattle.dg_schema.specs.Definitions.{definition_of}
use Rattle.dg_schema.proofs.Names.{same_text-equal, same_text-turned}
use Rattle.dg_delta.specs.Ops.{AreOps, op_cmp, after_ops}
use Rattle.dg_graph.specs.declared.change.Change.{Change}
use Rattle.dg_graph.specs.declared.change.Triple.{Triple}
use Rattle.dg_graph.specs.Graphs.{triple_cmp, objects, after_changes, IsLawful}
use Rattle.dg_graph.proofs.GraphLaws.{triple_order, known_by_triples, changes_ascend}
use Rattle.dg_graph.proofs.ObjectLaws.{is_triple, objects_are, objects_ascend}
use Rattle.dg_keys.specs.declared.key.Key.{Key}
use Rattle.dg_keys.specs.declared.key.Key.TheVariants.{Data, Index, Reverse, Count, RCount}
use Rattle.dg_keys.specs.declared.record.Tablet.{Tablet}
use Rattle.dg_keys.specs.Keys.{key_cmp, part_cmp, pred_of, ops_at}
use Rattle.dg_keys.specs.declared.record.Part.{Part}
use Rattle.dg_keys.specs.KeyOrder.{key_order}
use Rattle.dg_list.specs.Lists.{Layered, reading}
use Rattle.dg_store.specs.Stores.{Lists, list_under, list_at, no_list}
use Rattle.dg_zero.specs.Listings.{listing, listing_by}
use Rattle.dg_edges.proofs.EdgeLaws.{listed_by}
use Rattle.dg_group.specs.declared.copied.Copied.{Copied}
use Rattle.dg_group.specs.Groups.{Group, copy_of}
use Rattle.dg_group.proofs.Between.{found_at, found_is, found_any}
use Rattle.dg_group.proofs.Leads.{between_leads, none_between, listing_ascends}
use Rattle.dg_group.proofs.Lists.{own_ops}
use Rattle.dg_edges.proofs.OfferLaws.{lawful_goal}
use Rattle.dg_txn.specs.Pins.{pin_of, pinned_copy, tablet_of, copy_for, read_in, read_from, list_for, triples_at, triples_of, graph_of, IsCopyOf, ArePinsOf}
use Rattle.dg_txn.specs.Own.{AreOwn}
use Rattle.dg_txn.specs.Laws.{PinsRead, PinsHaveOne, OwnRead}

-- ---- what is read

-- where none is found, none passes
none_any : {X : Type 0} (f : X → Bool) (xs : List X) → find f xs ≡ None → list_any f xs ≡ false
none_any f [] e = refl
none_any f (x ∷ xs) e = by (f x) e (λ k. none_any f xs k)
  where
    by : (v : Bool) → cond v (Some x) (find f xs) ≡ None → (find f xs ≡ None → list_any f xs ≡ false) → (v || list_any f xs) ≡ false
    by true e rest = absurd (cc)
    by false e rest = rest e

undeclared : (d : Option PredDef) (graph : List Triple) (key : Key) → is_some d ≡ false → [] ≡ listing_by d graph key
undeclared None graph key e = refl
undeclared (Some def) graph key e = absurd (cc)

of_copy : (at : ℕ) (schema : List PredDef) (graph : List Triple) (key : Key) (pred : List ℕ) (o : Option Copied) → same_text (pred_of key) pred ≡ true → IsSomeAnd o (IsCopyOf at schema graph pred) → read_in at key o ≡ listing schema graph key
of_copy at schema graph key pred None own h = absurd (h)
of_copy at schema graph key pred (Some copy) own h = h.lists key own

pub pins_read : PinsRead
pins_read at schema owners pins graph key a = by (tablet_of owners (pred_of key)) refl
  where
    by : (o : Option Tablet) → tablet_of owners (pred_of key) ≡ o → read_in at key (option_and_then (pinned_copy pins) o) ≡ listing schema graph key
    by None e = undeclared (definition_of schema (pred_of key)) graph key (sym (a.named (pred_of key)) ∙ none_any (λ t. same_text t.pred (pred_of key)) owners e)
    by (Some t) e =
        of_copy at schema graph key t.pred (pinned_copy pins t) (same_text-turned (pred_of key) t.pred ∙ found_is (λ t. same_text t.pred (pred_of key)) owners t e)
        (found_at (λ t. IsSomeAnd (pinned_copy pins t) (IsCopyOf at schema graph t.pred)) (λ t. same_text t.pred (pred_of key)) owners t e a.held)

-- the copy of a predicate at the group of this number
abbrev pub copy_at : List Group → List ℕ → ℕ → Option Copied
copy_at pins pred number = option_and_then (λ (pin : Group). copy_of pin.copies pred) (pin_of pins number)

-- the copy that is asked for a predicate is that at the group that owns it
pub copy_by_group : (owners : List Tablet) (pins : List Group) (pred : List ℕ) → copy_for owners pins pred ≡ option_and_then (copy_at pins pred) (option_map (λ (t : Tablet). t.group) (find (λ t. same_text t.pred pred) owners))
copy_by_group owners pins pred = by (tablet_of owners pred) refl
  where
    by : (o : Option Tablet) → tablet_of owners pred ≡ o → option_and_then (pinned_copy pins) o ≡ option_and_then (copy_at pins pred) (option_map (λ (t : Tablet). t.group) o)
    by None e = refl
    by (Some t) e = ap (λ (p : List ℕ). copy_at pins p t.group) (same_text-equal t.pred pred (found_is (λ t. same_text t.pred pred) owners t e))

-- the list that is found, and what it is at a timestamp
abbrev pub read_of : ℕ → Option Layered → List Posting
read_of at None = []
read_of at (Some list) = reading list at

pub found_reads : (at : ℕ) (owners : List Tablet) (pins : List Group) (key : Key) → read_of at (list_for owners pins key) ≡ read_from at owners pins key
found_reads at owners pins key = by (copy_for owners pins (pred_of key))
  where
    found : (o : Option Layered) → read_of at o ≡ reading (unwrap_or o no_list) at
    found None = refl
    found (Some list) = refl

    by : (o : Option Copied) → read_of at (option_and_then (λ (copy : Copied). list_under key copy.store) o) ≡ read_in at key o
    by None = refl
    by (Some copy) = found (list_under key copy.store)

-- its base is at or below the timestamp
abbrev pub IsBased : ℕ → Option Layered → Type 0
IsBased at None = Unit {0}
IsBased at (Some list) = list.base_ts ≤ at

pub based_in : (at : ℕ) (key : Key) (store : Lists) → AllByRecursion (λ (e : Key × Layered). e.1.base_ts ≤ at) store → IsBased at (list_under key store)
based_in at key [] a = tt
based_in at key (e ∷ es) a = by (is_eq (key_cmp key e.0)) (based_in at key es a.1)
  where
    by : (v : Bool) → IsBased at (list_under key es) → IsBased at (cond v (Some e.1) (list_under key es))
    by true rest = a.0
    by false rest = rest

pub found_based : (at : ℕ) (schema : List PredDef) (owners : List Tablet) (pins : List Group) (graph : List Triple) (key : Key) → ArePinsOf at schema owners pins graph → IsBased at (list_for owners pins key)
found_based at schema owners pins graph key a = by (tablet_of owners (pred_of key)) refl
  where
    of_it : (pred : List ℕ) (o : Option Copied) → IsSomeAnd o (IsCopyOf at schema graph pred) → IsBased at (option_and_then (λ (copy : Copied). list_under key copy.store) o)
    of_it pred None h = absurd (h)
    of_it pred (Some copy) h = based_in at key copy.store h.bases

    by : (o : Option Tablet) → tablet_of owners (pred_of key) ≡ o → IsBased at (option_and_then (λ (copy : Copied). list_under key copy.store) (option_and_then (pinned_copy pins) o))
    by None e = tt
    by (Some t) e =
        of_it t.pred (pinned_copy pins t) (found_at (λ t. IsSomeAnd (pinned_copy pins t) (IsCopyOf at schema graph t.pred)) (λ t. same_text t.pred (pred_of key)) owners t e a.held)

-- what a subject's key lists in a lawful graph is its objects
pub data_listing : (schema : List PredDef) (graph : List Triple) (p : List ℕ) (s : ℕ) → IsLawful schema graph → listing schema graph (Data p s) ≡ objects graph p s
data_listing schema graph p s l =
    one_list posting_cmp posting_order (listing schema graph (Data p s)) (objects graph p s) (listing_ascends schema graph (Data p s) l.ascend) (objects_ascend graph p s l.ascend) (λ o. listed_by schema graph p s o l ∙ sym (objects_are graph p s o))

-- ---- one graph

has_flat : {X : Type 0} (f : X → List Triple) (xs : List X) (u : Triple) → has triple_cmp (flat_map f xs) u ≡ list_any (λ x. has triple_cmp (f x) u) xs
has_flat f [] u = refl
has_flat f (x ∷ xs) u = has_joined triple_cmp triple_order (f x) (flat_map f xs) u ∙ ap (λ (b : Bool). has triple_cmp (f x) u || b) (has_flat f xs u)

any_gives : {X G : Type 0} (f : X → Bool) (xs : List X) → ((x : X) → f x ≡ true → G) → list_any f xs ≡ true → G
any_gives {G = G} f [] g e = absurd (cc)
any_gives {G = G} f (x ∷ xs) g e = by (f x) refl e (λ k. any_gives f xs g k)
  where
    by : (v : Bool) → f x ≡ v → (v || list_any f xs) ≡ true → (list_any f xs ≡ true → G) → G
    by true p e rest = g x p
    by false p e rest = rest e

-- the triples of a subject
own_triples : (p : List ℕ) (s : ℕ) (os : List Posting) (o : Posting) → has triple_cmp (map (λ (o : Posting). record { s = s; p = p; o = o }) os) (record { s = s; p = p; o = o }) ≡ has posting_cmp os o
own_triples p s [] o = refl
own_triples p s (q ∷ os) o = λ i. is_triple (record { s = s; p = p; o = q }) (record { s = s; p = p; o = o }) refl refl i || own_triples p s os o i

-- and of no other
record IsOfSubject (p : List ℕ) (s : ℕ) (u : Triple) : Type 0 where
  pred_is : p ≡ u.p
  subject_is : s ≡ u.s

of_that : (p : List ℕ) (s : ℕ) (os : List Posting) (u : Triple) → has triple_cmp (map (λ (o : Posting). record { s = s; p = p; o = o }) os) u ≡ true → IsOfSubject p s u
of_that p s [] u e = absurd (cc)
of_that p s (o ∷ os) u e = by (is_eq (triple_cmp (record { s = s; p = p; o = o }) u)) refl e (λ k. of_that p s os u k)
  where
    by : (v : Bool) → is_eq (triple_cmp (record { s = s; p = p; o = o }) u) ≡ v → (v || has triple_cmp (map (λ (o : Posting). record { s = s; p = p; o = o }) os) u) ≡ true → (has triple_cmp (map (λ (o : Posting). record { s = s; p = p; o = o }) os) u ≡ true → IsOfSubject p s u) → IsOfSubject p s u
    by true q e rest =
        let same = is_one triple_cmp triple_order (record { s = s; p = p; o = o }) u q in
        record { pred_is = ap (λ (t : Triple). t.p) same; subject_is = ap (λ (t : Triple). t.s) same }
    by false q e rest = rest e

module _ (at : ℕ) (owners : List Tablet) (pins : List Group) (u : Triple) where
  abbrev read : List Posting
  read = read_from at owners pins (Data u.p u.s)

  abbrev holds : Key → Bool
  holds k = has triple_cmp (triples_at at owners pins k) u

  from_key : (k : Key) → holds k ≡ true → has posting_cmp read u.o ≡ true
  from_key (Data p s) e =
      let is = of_that p s (read_from at owners pins (Data p s)) u e in
      sym (own_triples u.p u.s read u.o) ∙ ((λ i. has triple_cmp (map (λ (o : Posting). record { s = sym is.subject_is i; p = sym is.pred_is i; o = o }) (read_from at owners pins (Data (sym is.pred_is i) (sym is.subject_is i)))) u) ∙ e)
  from_key (Index p t) e = absurd (cc)
  from_key (Reverse p o) e = absurd (cc)
  from_key (Count p n) e = absurd (cc)
  from_key (RCount p n) e = absurd (cc)

  from_copy : (o : Option Copied) → has triple_cmp (triples_of at owners pins o) u ≡ true → has posting_cmp read u.o ≡ true
  from_copy None e = absurd (cc)
  from_copy (Some copy) e = any_gives (λ e. holds e.0) copy.store (λ e h. from_key e.0 h) (sym (has_flat (λ e. triples_at at owners pins e.0) copy.store u) ∙ e)

  from_graph : has triple_cmp (flat_map (λ t. triples_of at owners pins (pinned_copy pins t)) owners) u ≡ true → has posting_cmp read u.o ≡ true
  from_graph e =
      any_gives (λ t. has triple_cmp (triples_of at owners pins (pinned_copy pins t)) u) owners (λ t h. from_copy (pinned_copy pins t) h) (sym (has_flat (λ t. triples_of at owners pins (pinned_copy pins t)) owners u) ∙ e)

  own_key : has posting_cmp read u.o ≡ true → holds (Data u.p u.s) ≡ true
  own_key e = own_triples u.p u.s read u.o ∙ e

  -- a list with a posting has an entry
  to_store : (store : Lists) → has posting_cmp (reading (list_at (Data u.p u.s) store) at) u.o ≡ true → holds (Data u.p u.s) ≡ true → list_any (λ e. holds e.0) store ≡ true
  to_store [] e h = absurd (cc)
  to_store (x ∷ store) e h = by (is_eq (key_cmp (Data u.p u.s) x.0)) refl e (λ k. to_store store k h)
    where
      first : (v w : Bool) → v ≡ true → (v || w) ≡ true
      first true w e = refl
      first false w e = absurd (cc)

      later : (v w : Bool) → w ≡ true → (v || w) ≡ true
      later true w e = refl
      later false w e = e

      by : (v : Bool) → is_eq (key_cmp (Data u.p u.s) x.0) ≡ v → has posting_cmp (reading (unwrap_or (cond v (Some x.1) (list_under (Data u.p u.s) store)) no_list) at) u.o ≡ true → (has posting_cmp (reading (list_at (Data u.p u.s) store) at) u.o ≡ true → list_any (λ e. holds e.0) store ≡ true) → (holds x.0 || list_any (λ e. holds e.0) store) ≡ true
      by true q e rest = first (holds x.0) (list_any (λ e. holds e.0) store) (ap holds (sym (is_one key_cmp key_order (Data u.p u.s) x.0 q)) ∙ h)
      by false q e rest = later (holds x.0) (list_any (λ e. holds e.0) store) (rest e)

  to_copy : (o : Option Copied) → has posting_cmp (read_in at (Data u.p u.s) o) u.o ≡ true → holds (Data u.p u.s) ≡ true → has triple_cmp (triples_of at owners pins o) u ≡ true
  to_copy None e h = absurd (cc)
  to_copy (Some copy) e h = has_flat (λ e. triples_at at owners pins e.0) copy.store u ∙ to_store copy.store e h

  to_graph : has posting_cmp read u.o ≡ true → has triple_cmp (flat_map (λ t. triples_of at owners pins (pinned_copy pins t)) owners) u ≡ true
  to_graph e = by (tablet_of owners u.p) refl e
    where
      by : (o : Option Tablet) → tablet_of owners u.p ≡ o → has posting_cmp (read_in at (Data u.p u.s) (option_and_then (pinned_copy pins) o)) u.o ≡ true → has triple_cmp (flat_map (λ t. triples_of at owners pins (pinned_copy pins t)) owners) u ≡ true
      by None q e = absurd (cc)
      by (Some t) q f =
          has_flat (λ t. triples_of at owners pins (pinned_copy pins t)) owners u
          ∙ found_any (λ t. same_text t.pred u.p) (λ t. has triple_cmp (triples_of at owners pins (pinned_copy pins t)) u) owners t q (to_copy (pinned_copy pins t) f (own_key e))

same_bools : (a b : Bool) → (a ≡ true → b ≡ true) → (b ≡ true → a ≡ true) → a ≡ b
same_bools true b f g = sym (f refl)
same_bools false true f g = g refl
same_bools false false f g = refl

pub pins_have_one : PinsHaveOne
pins_have_one at schema owners pins graph a =
    let found = flat_map (λ (t : Tablet). triples_of at owners pins (pinned_copy pins t)) owners in
    known_by_triples (graph_of at owners pins) graph (ascends_more triple_cmp triple_order [] found tt) a.lawful.ascend
    (λ u.
    has_more triple_cmp triple_order [] found u
    ∙ same_bools (has triple_cmp found u) (has posting_cmp (read_from at owners pins (Data u.p u.s)) u.o) (from_graph at owners pins u) (to_graph at owners pins u)
    ∙ ap (λ (os : List Posting). has posting_cmp os u.o) (pins_read at schema owners pins graph (Data u.p u.s) a)
    ∙ listed_by schema graph u.p u.s u.o a.lawful)

-- ---- own changes

pub own_read : OwnRead
own_read schema base own parts key a =
    ap (after_ops (listing schema base key)) (a.exact.exact key)
    ∙ between_leads (listing schema base key) (listing schema (after_changes schema base own) key) (listing_ascends schema base key a.lawful.ascend) (listing_ascends schema (after_changes schema base own) key (changes_ascend schema base own a.lawful.ascend))

-- ---- the operations at a key

pub found_ops : (parts : List Part) (key : Key) (part : Part) → Ascends part_cmp parts → find (λ (q : Part). is_eq (key_cmp q.key key)) parts ≡ Some part → part.ops ≡ ops_at parts key
found_ops parts key part a e =
    let own : ops_at parts part.key ≡ part.ops = found_at (λ (q : Part). ops_at parts q.key ≡ q.ops) (λ (q : Part). is_eq (key_cmp q.key key)) parts part e (own_ops parts a) in
    let same : part.key ≡ key = is_one key_cmp key_order part.key key (found_is (λ (q : Part). is_eq (key_cmp q.key key)) parts part e) in
    sym own ∙ ap (ops_at parts) same

pub found_ascend : (parts : List Part) (key : Key) (part : Part) → AllByRecursion (λ (q : Part). AreOps q.ops) parts → find (λ (q : Part). is_eq (key_cmp q.key key)) parts ≡ Some part → Ascends op_cmp part.ops
found_ascend parts key part a e = (found_at (λ (q : Part). AreOps q.ops) (λ (q : Part). is_eq (key_cmp q.key key)) parts part e a).ascend

pub none_ops : (parts : List Part) (key : Key) → find (λ (q : Part). is_eq (key_cmp q.key key)) parts ≡ None → [] ≡ ops_at parts key
none_ops [] key e = refl
none_ops (p ∷ parts) key e = by (is_eq (key_cmp p.key key)) e (λ k. none_ops parts key k)
  where
    by : (v : Bool) → cond v (Some p) (find (λ (q : Part). is_eq (key_cmp q.key key)) parts) ≡ None → (find (λ (q : Part). is_eq (key_cmp q.key key)) parts ≡ None → [] ≡ ops_at parts key) → [] ≡ flat_map (λ (q : Part). q.ops) (cond v (p ∷ filter (λ (q : Part). is_eq (key_cmp q.key key)) parts) (filter (λ (q : Part). is_eq (key_cmp q.key key)) parts))
    by true e rest = absurd (cc)
    by false e rest = rest e

-- ---- no changes, and a subject's objects after some

pub own_none : (schema : List PredDef) (base : List Triple) → IsLawful schema base → AreOwn schema base [] []
own_none schema base l = record {
  lawful = l;
  fitting = tt;
  exact = record { parts_are = record { ascend = tt; each = tt }; exact = λ key. sym (none_between (listing schema base key)) };
}

pub own_objects : (schema : List PredDef) (base : List Triple) (own : List Change) (parts : List Part) (p : List ℕ) (s : ℕ) → AreOwn schema base own parts → after_ops (listing schema base (Data p s)) (ops_at parts (Data p s)) ≡ objects (after_changes schema base own) p s
own_objects schema base own parts p s a = own_read schema base own parts (Data p s) a ∙ data_listing schema (after_changes schema base own) p s (lawful_goal schema base own a.fitting a.lawful)
