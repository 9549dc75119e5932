-- The parts of filings under two schemas are exactly what lists gain and lose from one to the other.
use Rattle.std.proofs.Common.{◌≡◌, ℕ, ◌≤◌, nat_le, Bool, true, false, List, [], ◌++◌, length, map, refl, ap, subst, sym, ◌∙◌, ◌⊎◌, inl, inr}
use Rattle.std.specs.Prelude.{◌==◌, ◌&&◌}
use Rattle.std.specs.List.{AllByRecursion}
use Rattle.std.specs.List.Sorted.{IsPermutation}
use Rattle.std.proofs.lemmas.Bool.{or_parts}
use Rattle.std.proofs.lemmas.List.{append-nil}
use Rattle.std.proofs.lemmas.List.Elements.{All-from_recursion, recursion_from_All, filter-append}
use Rattle.std.proofs.lemmas.List.Sorted.{All-permutation}
use Rattle.std.specs.Ordering.{is_eq, nat_cmp}
use Rattle.dg_values.specs.Ascending.{Ascends, has}
use Rattle.dg_values.specs.Order.{posting_cmp}
use Rattle.dg_values.specs.declared.value.Posting.{Posting}
use Rattle.dg_values.specs.declared.value.Posting.TheVariants.{Uid, Val}
use Rattle.dg_values.proofs.OrderLaws.{posting_order}
use Rattle.dg_sets.proofs.Sets.{one_list}
use Rattle.dg_delta.specs.Ops.{AreOps, changes_between}
use Rattle.dg_schema.specs.declared.definition.PredDef.{PredDef}
use Rattle.dg_schema.specs.Definitions.{definition_of}
use Rattle.dg_graph.specs.declared.change.Triple.{Triple}
use Rattle.dg_graph.specs.Graphs.{triple_cmp, objects}
use Rattle.dg_graph.specs.Lookups.{subjects_of}
use Rattle.dg_keys.specs.declared.key.Key.{Key}
use Rattle.dg_keys.specs.declared.key.Key.TheVariants as keys
use Rattle.dg_keys.specs.declared.record.Part.{Part}
use Rattle.dg_keys.specs.Keys.{key_cmp, part_cmp, pred_of, kind_rank, ops_at, AreParts}
use Rattle.dg_zero.specs.Listings.{AreGainsAndLosses, listing}
use Rattle.dg_edges.specs.Altering.{filed_under_schema, numbers_from, altered_parts}
use Rattle.dg_edges.specs.Filing.{nodes_under, filed_keys, filed_parts, is_counted_by}
use Rattle.dg_edges.specs.declared.filing.Filed.{Filed}
use Rattle.dg_edges.specs.Lists.{objects_at}
use Rattle.dg_edges.proofs.AlterLaws.{no_zero, off, listed_none, never_data, never_number, AreAlike, AreRead, has_long, none_long}
use Rattle.dg_edges.proofs.EdgeLaws.{listing_ascends}
use Rattle.dg_edges.proofs.FiledParts.{IsFiled, filed_ops, filed_ops_at, filed_are_parts, filed_keys_have, none_under, no_nodes, listed_own, no_value_listed, unfiled}
use Rattle.dg_edges.proofs.FilingLaws.{has_nodes, nodes_ascend, listed_under, IsOfSubject, filed_list, no_value_filed}
use Rattle.dg_edges.proofs.JoinLaws.{AreApart, parts_of_key}
use Rattle.dg_edges.proofs.NumberParts.{as_many, back_listed, numbered_list}
use Rattle.dg_edges.proofs.Members.{unlisted}
use Rattle.dg_edges.proofs.OpLaws.{none_between}
use Rattle.dg_edges.proofs.PartLaws.{all_joined}
use Rattle.dg_edges.proofs.PartsStay.{DifferAlike, both_alike, neither_changed, same_changes}
use Rattle.dg_edges.proofs.WholeParts.{lone_at, none_there, ops_joined}

module _ (schema later : List PredDef) (g : List Triple) (ks : List Key) (subjects : AllByRecursion IsOfSubject ks) (up : Ascends triple_cmp g) (settled : (p : List ℕ) → AreAlike (definition_of schema p) (definition_of later p) ⊎ AreRead g ks p) (stays : (p : List ℕ) (s : ℕ) → listing schema g (keys.Data p s) ≡ listing later g (keys.Data p s)) where
  -- a node that a key lists by its filings, and in the graph
  filed_has : (s : List PredDef) (key : Key) (u : ℕ) → has posting_cmp (nodes_under (filed_under_schema s g ks) key) (Uid u) ≡ (has key_cmp ks (keys.Data (pred_of key) u) && listed_under (definition_of s (pred_of key)) key (objects g (pred_of key) u))
  filed_has s key u = has_nodes key (filed_under_schema s g ks) (Uid u) ∙ filed_list s (objects_at g) ks key u subjects

  filed_no_value : (s : List PredDef) (key : Key) (o : Posting) → ((u : ℕ) → o ≡ Uid u → ⊥) → has posting_cmp (nodes_under (filed_under_schema s g ks) key) o ≡ false
  filed_no_value s key (Uid u) n = absurd (n u refl)
  filed_no_value s key (Val v) n = has_nodes key (filed_under_schema s g ks) (Val v) ∙ no_value_filed key (filed_under_schema s g ks) v

  -- a subject that isn't read is listed alike
  unread_alike : (key : Key) (u : ℕ) → has key_cmp ks (keys.Data (pred_of key) u) ≡ false → listed_under (definition_of schema (pred_of key)) key (objects g (pred_of key) u) ≡ listed_under (definition_of later (pred_of key)) key (objects g (pred_of key) u)
  unread_alike key u e = by (settled (pred_of key))
    where
      by : (AreAlike (definition_of schema (pred_of key)) (definition_of later (pred_of key)) ⊎ AreRead g ks (pred_of key)) → listed_under (definition_of schema (pred_of key)) key (objects g (pred_of key) u) ≡ listed_under (definition_of later (pred_of key)) key (objects g (pred_of key) u)
      by (inl a) = a.listed key (objects g (pred_of key) u)
      by (inr r) =
          (λ i. listed_under (definition_of schema (pred_of key)) key (r u e i))
          ∙ (listed_none (definition_of schema (pred_of key)) key
          ∙ sym ((λ i. listed_under (definition_of later (pred_of key)) key (r u e i)) ∙ listed_none (definition_of later (pred_of key)) key))

  -- ---- lists of tokens, nodes and numbers of objects

  posting_alike : (key : Key) (o : Posting) → IsFiled key → DifferAlike (has posting_cmp (nodes_under (filed_under_schema schema g ks) key) o) (has posting_cmp (nodes_under (filed_under_schema later g ks) key) o) (has posting_cmp (listing schema g key) o) (has posting_cmp (listing later g key) o)
  posting_alike key (Val v) it =
      neither_changed (has posting_cmp (nodes_under (filed_under_schema schema g ks) key) (Val v)) (has posting_cmp (nodes_under (filed_under_schema later g ks) key) (Val v)) (has posting_cmp (listing schema g key) (Val v)) (has posting_cmp (listing later g key) (Val v))
      (filed_no_value schema key (Val v) (λ u e. cc) ∙ sym (filed_no_value later key (Val v) (λ u e. cc)))
      (no_value_listed schema g key (Val v) it (λ u e. cc) ∙ sym (no_value_listed later g key (Val v) it (λ u e. cc)))
  posting_alike key (Uid u) it = by (has key_cmp ks (keys.Data (pred_of key) u)) refl
    where
      in_graph : (s : List PredDef) → has posting_cmp (listing s g key) (Uid u) ≡ listed_under (definition_of s (pred_of key)) key (objects g (pred_of key) u)
      in_graph s = listed_own (definition_of s (pred_of key)) g key u it

      by : (v : Bool) → has key_cmp ks (keys.Data (pred_of key) u) ≡ v → DifferAlike (has posting_cmp (nodes_under (filed_under_schema schema g ks) key) (Uid u)) (has posting_cmp (nodes_under (filed_under_schema later g ks) key) (Uid u)) (has posting_cmp (listing schema g key) (Uid u)) (has posting_cmp (listing later g key) (Uid u))
      by true e =
          both_alike (has posting_cmp (nodes_under (filed_under_schema schema g ks) key) (Uid u)) (has posting_cmp (nodes_under (filed_under_schema later g ks) key) (Uid u)) (has posting_cmp (listing schema g key) (Uid u)) (has posting_cmp (listing later g key) (Uid u))
          (filed_has schema key u ∙ ((λ i. e i && listed_under (definition_of schema (pred_of key)) key (objects g (pred_of key) u)) ∙ sym (in_graph schema)))
          (filed_has later key u ∙ ((λ i. e i && listed_under (definition_of later (pred_of key)) key (objects g (pred_of key) u)) ∙ sym (in_graph later)))
      by false e =
          neither_changed (has posting_cmp (nodes_under (filed_under_schema schema g ks) key) (Uid u)) (has posting_cmp (nodes_under (filed_under_schema later g ks) key) (Uid u)) (has posting_cmp (listing schema g key) (Uid u)) (has posting_cmp (listing later g key) (Uid u))
          (filed_has schema key u ∙ ((λ i. e i && listed_under (definition_of schema (pred_of key)) key (objects g (pred_of key) u)) ∙ sym (filed_has later key u ∙ λ i. e i && listed_under (definition_of later (pred_of key)) key (objects g (pred_of key) u))))
          (in_graph schema ∙ (unread_alike key u e ∙ sym (in_graph later)))

  filed_changes : (key : Key) → IsFiled key → filed_ops (filed_under_schema schema g ks) (filed_under_schema later g ks) key ≡ changes_between (listing schema g key) (listing later g key)
  filed_changes key it =
      same_changes (nodes_under (filed_under_schema schema g ks) key) (nodes_under (filed_under_schema later g ks) key) (listing schema g key) (listing later g key)
      (nodes_ascend key (filed_under_schema schema g ks)) (nodes_ascend key (filed_under_schema later g ks)) (listing_ascends schema g key up) (listing_ascends later g key up)
      (λ o. posting_alike key o it)

  -- ---- lists of numbers of subjects

  -- the subjects of a node by the filings
  abbrev back : List PredDef → List ℕ → ℕ → List Posting
  back s q u = nodes_under (filed_under_schema s g ks) (keys.Reverse q u)

  -- the keys of the filings
  abbrev all : List Key
  all = filed_keys (filed_under_schema schema g ks) (filed_under_schema later g ks)

  -- the filings under the numbers of subjects
  abbrev numbers : List PredDef → List Filed
  numbers s = numbers_from s all (filed_under_schema s g ks)

  -- where they are counted and read, they are the node's subjects
  back_are : (s : List PredDef) (q : List ℕ) (u : ℕ) → is_counted_by (definition_of s q) ≡ true → AreRead g ks q → length (back s q u) ≡ length (subjects_of g q (Uid u))
  back_are s q u c r =
      ap (λ (os : List Posting). length os) (one_list posting_cmp posting_order (back s q u) (listing s g (keys.Reverse q u)) (nodes_ascend (keys.Reverse q u) (filed_under_schema s g ks)) (listing_ascends s g (keys.Reverse q u) up) each ∙ back_listed s g q u c)
      ∙ as_many (subjects_of g q (Uid u))
    where
      own : (w : ℕ) (v : Bool) → has key_cmp ks (keys.Data q w) ≡ v → (v && listed_under (definition_of s q) (keys.Reverse q u) (objects g q w)) ≡ listed_under (definition_of s q) (keys.Reverse q u) (objects g q w)
      own w true e = refl
      own w false e = sym ((λ i. listed_under (definition_of s q) (keys.Reverse q u) (r w e i)) ∙ listed_none (definition_of s q) (keys.Reverse q u))

      each : (o : Posting) → has posting_cmp (back s q u) o ≡ has posting_cmp (listing s g (keys.Reverse q u)) o
      each (Uid w) = filed_has s (keys.Reverse q u) w ∙ (own w (has key_cmp ks (keys.Data q w)) refl ∙ sym (listed_own (definition_of s q) g (keys.Reverse q u) w tt))
      each (Val v) = filed_no_value s (keys.Reverse q u) (Val v) (λ w e. cc) ∙ sym (no_value_listed s g (keys.Reverse q u) (Val v) tt (λ w e. cc))

  -- where definitions are alike, they are the same
  back_same : (q : List ℕ) (u : ℕ) → AreAlike (definition_of schema q) (definition_of later q) → back schema q u ≡ back later q u
  back_same q u a =
      one_list posting_cmp posting_order (back schema q u) (back later q u) (nodes_ascend (keys.Reverse q u) (filed_under_schema schema g ks)) (nodes_ascend (keys.Reverse q u) (filed_under_schema later g ks)) each
    where
      each : (o : Posting) → has posting_cmp (back schema q u) o ≡ has posting_cmp (back later q u) o
      each (Uid w) = filed_has schema (keys.Reverse q u) w ∙ ((λ i. has key_cmp ks (keys.Data q w) && a.listed (keys.Reverse q u) (objects g q w) i) ∙ sym (filed_has later (keys.Reverse q u) w))
      each (Val v) = filed_no_value schema (keys.Reverse q u) (Val v) (λ w e. cc) ∙ sym (filed_no_value later (keys.Reverse q u) (Val v) (λ w e. cc))

  -- a node under a number, by these filings
  number_has : (s : List PredDef) (q : List ℕ) (n u : ℕ) → has posting_cmp (nodes_under (numbers s) (keys.RCount q n)) (Uid u) ≡ (has key_cmp all (keys.Reverse q u) && (is_counted_by (definition_of s q) && (nat_le 1 n && (length (back s q u) == n))))
  number_has s q n u = has_nodes (keys.RCount q n) (numbers s) (Uid u) ∙ has_long s g (filed_under_schema s g ks) q n u all

  -- at a key that no filing has
  none_back : (s : List PredDef) (q : List ℕ) (u : ℕ) → has key_cmp (map (λ (f : Filed). f.key) (filed_under_schema s g ks)) (keys.Reverse q u) ≡ false → back s q u ≡ []
  none_back s q u e = no_nodes (keys.Reverse q u) (filed_under_schema s g ks) (λ o. none_under (keys.Reverse q u) (filed_under_schema s g ks) o e)

  number_read : (s : List PredDef) (q : List ℕ) (n u : ℕ) → (has key_cmp all (keys.Reverse q u) ≡ false → back s q u ≡ []) → AreRead g ks q → has posting_cmp (nodes_under (numbers s) (keys.RCount q n)) (Uid u) ≡ has posting_cmp (listing s g (keys.RCount q n)) (Uid u)
  number_read s q n u none r =
      number_has s q n u ∙ (by (has key_cmp all (keys.Reverse q u)) (is_counted_by (definition_of s q)) refl refl ∙ sym (numbered_list (definition_of s q) g q n u))
    where
      by : (v w : Bool) → has key_cmp all (keys.Reverse q u) ≡ v → is_counted_by (definition_of s q) ≡ w → (v && (w && (nat_le 1 n && (length (back s q u) == n)))) ≡ (w && (nat_le 1 n && (length (subjects_of g q (Uid u)) == n)))
      by v false e c = off v
      by true true e c = λ i. nat_le 1 n && (back_are s q u c r i == n)
      by false true e c =
          let long : length (subjects_of g q (Uid u)) ≡ 0 = sym (back_are s q u c r) ∙ ap (λ (os : List Posting). length os) (none e) in
          sym ((λ i. nat_le 1 n && (long i == n)) ∙ no_zero n)

  none_there_is : (q : List ℕ) (u : ℕ) → has key_cmp all (keys.Reverse q u) ≡ false → (back schema q u ≡ []) × (back later q u ≡ [])
  none_there_is q u e =
      let both = or_parts (has key_cmp (map (λ (f : Filed). f.key) (filed_under_schema schema g ks)) (keys.Reverse q u)) (has key_cmp (map (λ (f : Filed). f.key) (filed_under_schema later g ks)) (keys.Reverse q u)) (sym (filed_keys_have (filed_under_schema schema g ks) (filed_under_schema later g ks) (keys.Reverse q u)) ∙ e) in
      (none_back schema q u both.0, none_back later q u both.1)

  number_alike : (q : List ℕ) (n : ℕ) (o : Posting) → DifferAlike (has posting_cmp (nodes_under (numbers schema) (keys.RCount q n)) o) (has posting_cmp (nodes_under (numbers later) (keys.RCount q n)) o) (has posting_cmp (listing schema g (keys.RCount q n)) o) (has posting_cmp (listing later g (keys.RCount q n)) o)
  number_alike q n (Val v) =
      neither_changed (has posting_cmp (nodes_under (numbers schema) (keys.RCount q n)) (Val v)) (has posting_cmp (nodes_under (numbers later) (keys.RCount q n)) (Val v)) (has posting_cmp (listing schema g (keys.RCount q n)) (Val v)) (has posting_cmp (listing later g (keys.RCount q n)) (Val v))
      ((has_nodes (keys.RCount q n) (numbers schema) (Val v) ∙ no_value_filed (keys.RCount q n) (numbers schema) v) ∙ sym (has_nodes (keys.RCount q n) (numbers later) (Val v) ∙ no_value_filed (keys.RCount q n) (numbers later) v))
      (unlisted schema g (keys.RCount q n) (Val v) refl ∙ sym (unlisted later g (keys.RCount q n) (Val v) refl))
  number_alike q n (Uid u) = by (settled q)
    where
      by : (AreAlike (definition_of schema q) (definition_of later q) ⊎ AreRead g ks q) → DifferAlike (has posting_cmp (nodes_under (numbers schema) (keys.RCount q n)) (Uid u)) (has posting_cmp (nodes_under (numbers later) (keys.RCount q n)) (Uid u)) (has posting_cmp (listing schema g (keys.RCount q n)) (Uid u)) (has posting_cmp (listing later g (keys.RCount q n)) (Uid u))
      by (inl a) =
          neither_changed (has posting_cmp (nodes_under (numbers schema) (keys.RCount q n)) (Uid u)) (has posting_cmp (nodes_under (numbers later) (keys.RCount q n)) (Uid u)) (has posting_cmp (listing schema g (keys.RCount q n)) (Uid u)) (has posting_cmp (listing later g (keys.RCount q n)) (Uid u))
          (number_has schema q n u ∙ ((λ i. has key_cmp all (keys.Reverse q u) && (a.counted i && (nat_le 1 n && (length (back_same q u a i) == n)))) ∙ sym (number_has later q n u)))
          (numbered_list (definition_of schema q) g q n u ∙ ((λ i. a.counted i && (nat_le 1 n && (length (subjects_of g q (Uid u)) == n))) ∙ sym (numbered_list (definition_of later q) g q n u)))
      by (inr r) =
          both_alike (has posting_cmp (nodes_under (numbers schema) (keys.RCount q n)) (Uid u)) (has posting_cmp (nodes_under (numbers later) (keys.RCount q n)) (Uid u)) (has posting_cmp (listing schema g (keys.RCount q n)) (Uid u)) (has posting_cmp (listing later g (keys.RCount q n)) (Uid u))
          (number_read schema q n u (λ e. (none_there_is q u e).0) r) (number_read later q n u (λ e. (none_there_is q u e).1) r)

  number_changes : (q : List ℕ) (n : ℕ) → filed_ops (numbers schema) (numbers later) (keys.RCount q n) ≡ changes_between (listing schema g (keys.RCount q n)) (listing later g (keys.RCount q n))
  number_changes q n =
      same_changes (nodes_under (numbers schema) (keys.RCount q n)) (nodes_under (numbers later) (keys.RCount q n)) (listing schema g (keys.RCount q n)) (listing later g (keys.RCount q n))
      (nodes_ascend (keys.RCount q n) (numbers schema)) (nodes_ascend (keys.RCount q n) (numbers later)) (listing_ascends schema g (keys.RCount q n) up) (listing_ascends later g (keys.RCount q n) up)
      (number_alike q n)

  -- ---- the parts of both

  abbrev listed_parts : List Part
  listed_parts = filed_parts (filed_under_schema schema g ks) (filed_under_schema later g ks)

  abbrev numbered_parts : List Part
  numbered_parts = filed_parts (numbers schema) (numbers later)

  abbrev pub both_parts : List Part
  both_parts = altered_parts schema later (filed_under_schema schema g ks) (filed_under_schema later g ks)

  listed_at : (key : Key) → IsFiled key → ops_at listed_parts key ≡ changes_between (listing schema g key) (listing later g key)
  listed_at key it = filed_ops_at (filed_under_schema schema g ks) (filed_under_schema later g ks) key ∙ filed_changes key it

  -- a key of subjects or of numbers of subjects has no part of the first
  not_listed : (key : Key) → ((s : List PredDef) (os : List Posting) → listed_under (definition_of s (pred_of key)) key os ≡ false) → ops_at listed_parts key ≡ []
  not_listed key never =
      filed_ops_at (filed_under_schema schema g ks) (filed_under_schema later g ks) key
      ∙ λ i. changes_between (unfiled schema g g ks subjects (λ p s e. refl) g key (never schema) i) (unfiled later g g ks subjects (λ p s e. refl) g key (never later) i)

  no_data : (p : List ℕ) (s : ℕ) → ops_at listed_parts (keys.Data p s) ≡ []
  no_data p s = not_listed (keys.Data p s) (λ f os. never_data (definition_of f p) p s os)

  no_rcount : (p : List ℕ) (n : ℕ) → ops_at listed_parts (keys.RCount p n) ≡ []
  no_rcount p n = not_listed (keys.RCount p n) (λ f os. never_number (definition_of f p) p n os)

  -- and one of another kind none of the second
  no_number : (key : Key) → is_eq (nat_cmp (kind_rank key) 5) ≡ false → ops_at numbered_parts key ≡ []
  no_number key e =
      filed_ops_at (numbers schema) (numbers later) key
      ∙ λ i. changes_between (none_long schema g (filed_under_schema schema g ks) key all e i) (none_long later g (filed_under_schema later g ks) key all e i)

  whole_at : (key : Key) → ops_at both_parts key ≡ ops_at listed_parts key ++ ops_at numbered_parts key
  whole_at key = ops_joined listed_parts numbered_parts key

  first_alone : (key : Key) → IsFiled key → is_eq (nat_cmp (kind_rank key) 5) ≡ false → ops_at both_parts key ≡ changes_between (listing schema g key) (listing later g key)
  first_alone key it e = whole_at key ∙ ((λ i. ops_at listed_parts key ++ no_number key e i) ∙ (append-nil (ops_at listed_parts key) ∙ listed_at key it))

  both_exact : (key : Key) → ops_at both_parts key ≡ changes_between (listing schema g key) (listing later g key)
  both_exact (keys.Data p s) =
      whole_at (keys.Data p s)
      ∙ ((λ i. no_data p s i ++ no_number (keys.Data p s) refl i)
      ∙ sym ((λ i. changes_between (stays p s i) (listing later g (keys.Data p s))) ∙ none_between (listing later g (keys.Data p s))))
  both_exact (keys.Index p t) = first_alone (keys.Index p t) tt refl
  both_exact (keys.Reverse p o) = first_alone (keys.Reverse p o) tt refl
  both_exact (keys.Count p n) = first_alone (keys.Count p n) tt refl
  both_exact (keys.RCount p n) =
      whole_at (keys.RCount p n)
      ∙ ((λ i. no_rcount p n i ++ ops_at numbered_parts (keys.RCount p n))
      ∙ (filed_ops_at (numbers schema) (numbers later) (keys.RCount p n) ∙ number_changes p n))

  listed_are : AreParts listed_parts
  listed_are = filed_are_parts (filed_under_schema schema g ks) (filed_under_schema later g ks)

  numbered_are : AreParts numbered_parts
  numbered_are = filed_are_parts (numbers schema) (numbers later)

  places : (key : Key) → parts_of_key both_parts key ≡ parts_of_key listed_parts key ++ parts_of_key numbered_parts key
  places key = filter-append (λ part. is_eq (key_cmp part.key key)) listed_parts numbered_parts

  apart_first : (key : Key) → ops_at numbered_parts key ≡ [] → length (parts_of_key both_parts key) ≤ 1
  apart_first key e =
      subst (λ (ps : List Part). length ps ≤ 1)
      (sym (places key ∙ ((λ i. parts_of_key listed_parts key ++ none_there numbered_parts key numbered_are.each e i) ∙ append-nil (parts_of_key listed_parts key))))
      (lone_at listed_parts key listed_are.ascend)

  -- no two have one key
  pub both_apart : AreApart both_parts
  both_apart (keys.Data p s) = apart_first (keys.Data p s) (no_number (keys.Data p s) refl)
  both_apart (keys.Index p t) = apart_first (keys.Index p t) (no_number (keys.Index p t) refl)
  both_apart (keys.Reverse p o) = apart_first (keys.Reverse p o) (no_number (keys.Reverse p o) refl)
  both_apart (keys.Count p n) = apart_first (keys.Count p n) (no_number (keys.Count p n) refl)
  both_apart (keys.RCount p n) =
      subst (λ (ps : List Part). length ps ≤ 1)
      (sym (places (keys.RCount p n) ∙ λ i. none_there listed_parts (keys.RCount p n) listed_are.each (no_rcount p n) i ++ parts_of_key numbered_parts (keys.RCount p n)))
      (lone_at numbered_parts (keys.RCount p n) numbered_are.ascend)

  both_each : AllByRecursion (λ part. AreOps part.ops) both_parts
  both_each = all_joined (λ part. AreOps part.ops) listed_parts numbered_parts listed_are.each numbered_are.each

  -- in order they are what lists gain and lose
  pub both_gains : (parts : List Part) → IsPermutation both_parts parts → Ascends part_cmp parts → ((key : Key) → ops_at parts key ≡ ops_at both_parts key) → AreGainsAndLosses schema g later g parts
  both_gains parts moved ascend same = record {
    parts_are = record {
      ascend = ascend;
      each = recursion_from_All (λ part. AreOps part.ops) parts (All-permutation (λ part. AreOps part.ops) both_parts parts moved (All-from_recursion (λ part. AreOps part.ops) both_parts both_each));
    };
    exact = λ key. same key ∙ both_exact key;
  }
