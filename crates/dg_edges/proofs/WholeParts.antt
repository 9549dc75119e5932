-- The parts of all kinds of lists, in one order, are exactly what lists gain and lose by changes.
use Rattle.std.proofs.Common.{◌≡◌, ℕ, ◌≤◌, Bool, true, false, cond, List, [], ◌∷◌, ◌++◌, length, map, flat_map, refl, ap, subst, sym, ◌∙◌, arith, append_assoc}
use Rattle.std.specs.List.{AllByRecursion}
use Rattle.std.specs.List.Sorted.{IsPermutation}
use Rattle.std.proofs.lemmas.Bool.{both_ways}
use Rattle.std.proofs.lemmas.List.{append-nil}
use Rattle.std.proofs.lemmas.List.Elements.{All-from_recursion, recursion_from_All, filter-append}
use Rattle.std.proofs.lemmas.List.Sorted.{All-permutation, sum_by-IsPermutation}
use Rattle.std.proofs.lemmas.List.Sums.{sum_by-append, sum_by-cons}
use Rattle.std.specs.declared.cmp.Ordering.TheVariants.{Less}
use Rattle.std.specs.Ordering.{is_eq, nat_cmp}
use Rattle.dg_values.specs.Ascending.{Ascends, has}
use Rattle.dg_sets.proofs.Sets.{at, from_each, has_more, is_one, is_itself}
use Rattle.dg_delta.specs.declared.op.Op.{Op}
use Rattle.dg_delta.specs.Ops.{AreOps, changes_between}
use Rattle.dg_schema.specs.declared.definition.PredDef.{PredDef}
use Rattle.dg_graph.specs.declared.change.Triple.{Triple}
use Rattle.dg_graph.specs.declared.change.Change.{Change}
use Rattle.dg_graph.specs.Graphs.{objects, after_changes, IsLawful}
use Rattle.dg_keys.specs.declared.key.Key.{Key}
use Rattle.dg_keys.specs.declared.key.Key.TheVariants as keys
use Rattle.dg_keys.specs.declared.record.Part.{Part}
use Rattle.dg_keys.specs.Keys.{key_cmp, part_cmp, kind_rank, ops_at, AreParts}
use Rattle.dg_keys.specs.KeyOrder.{key_order}
use Rattle.dg_zero.specs.Listings.{AreGainsAndLosses}
use Rattle.dg_edges.specs.Deltas.{parts_at, gains, data_key, data_keys, AreFitting}
use Rattle.dg_edges.specs.Filing.{filed_keys, filed_parts, filed_after, counted_reads, counted_parts}
use Rattle.dg_edges.specs.Lists.{objects_at}
use Rattle.dg_edges.proofs.EdgeLaws.{data_keys_ascend, keeps_objects}
use Rattle.dg_edges.proofs.FiledParts.{IsFiled, filed_ops, filed_ops_at, filed_are_parts, filed_gains, no_data_filed, no_number_filed}
use Rattle.dg_edges.proofs.FilingLaws.{IsOfSubject, filed_all}
use Rattle.dg_edges.proofs.JoinLaws.{AreApart, parts_of_key}
use Rattle.dg_edges.proofs.ListLaws.{data_gains, objects_at_ascend}
use Rattle.dg_edges.proofs.NumberParts.{numbers_in, number_gains, no_others_numbered, numbers_after}
use Rattle.dg_edges.proofs.OfferLaws.{lawful_goal}
use Rattle.dg_edges.proofs.OpLaws.{between_ascends, none_between}
use Rattle.dg_edges.proofs.PartLaws.{all_parts, are_parts, ops_at_parts, all_joined}

-- ---- parts at a key, in lists side by side

-- at most one in a list that ascends
none_above : (part : Part) (key : Key) (parts : List Part) → is_eq (key_cmp part.key key) ≡ true → AllByRecursion (λ p. key_cmp part.key p.key ≡ Less) parts → parts_of_key parts key ≡ []
none_above part key [] e a = refl
none_above part key (p ∷ parts) e a = by (is_eq (key_cmp p.key key)) refl (none_above part key parts e a.1)
  where
    by : (v : Bool) → is_eq (key_cmp p.key key) ≡ v → parts_of_key parts key ≡ [] → cond v (p ∷ parts_of_key parts key) (parts_of_key parts key) ≡ []
    by true f rest =
        let same : part.key ≡ p.key = is_one key_cmp key_order part.key key e ∙ sym (is_one key_cmp key_order p.key key f) in
        absurd (both_ways (is_eq (key_cmp part.key p.key)) (ap is_eq a.0) (subst (λ (k : Key). is_eq (key_cmp part.key k) ≡ true) same (is_itself key_cmp key_order part.key)))
    by false f rest = rest

pub lone_at : (parts : List Part) (key : Key) → Ascends part_cmp parts → length (parts_of_key parts key) ≤ 1
lone_at [] key a = omega arith
lone_at (p ∷ parts) key a = by (is_eq (key_cmp p.key key)) refl (lone_at parts key a.1)
  where
    by : (v : Bool) → is_eq (key_cmp p.key key) ≡ v → length (parts_of_key parts key) ≤ 1 → length (cond v (p ∷ parts_of_key parts key) (parts_of_key parts key)) ≤ 1
    by true e rest = let none : length (parts_of_key parts key) ≡ 0 = ap (λ (ps : List Part). length ps) (none_above p key parts e a.0) in omega (arith, none)
    by false e rest = rest

-- none where there are no operations
pub none_there : (parts : List Part) (key : Key) → AllByRecursion (λ part. AreOps part.ops) parts → ops_at parts key ≡ [] → parts_of_key parts key ≡ []
none_there [] key a e = refl
none_there (p ∷ parts) key a e = by (is_eq (key_cmp p.key key)) e (λ f. none_there parts key a.1 f)
  where
    none : (xs ys : List Op) → xs ++ ys ≡ [] → xs ≡ []
    none [] ys f = refl
    none (x ∷ xs) ys f = absurd (cc)

    by : (v : Bool) → flat_map (λ part. part.ops) (cond v (p ∷ parts_of_key parts key) (parts_of_key parts key)) ≡ [] → (ops_at parts key ≡ [] → parts_of_key parts key ≡ []) → cond v (p ∷ parts_of_key parts key) (parts_of_key parts key) ≡ []
    by true f rest = absurd (a.0.some (none p.ops (ops_at parts key) f))
    by false f rest = rest f

pub ops_joined : (xs ys : List Part) (key : Key) → ops_at (xs ++ ys) key ≡ ops_at xs key ++ ops_at ys key
ops_joined [] ys key = refl
ops_joined (x ∷ xs) ys key = by (is_eq (key_cmp x.key key)) (ops_joined xs ys key)
  where
    by : (v : Bool) → ops_at (xs ++ ys) key ≡ ops_at xs key ++ ops_at ys key → flat_map (λ part. part.ops) (cond v (x ∷ parts_of_key (xs ++ ys) key) (parts_of_key (xs ++ ys) key)) ≡ flat_map (λ part. part.ops) (cond v (x ∷ parts_of_key xs key) (parts_of_key xs key)) ++ ops_at ys key
    by true e = (λ i. x.ops ++ e i) ∙ sym (append_assoc x.ops (ops_at xs key) (ops_at ys key))
    by false e = e

-- ---- the parts of each kind

-- of the objects of subjects
abbrev pub data_ops : List Triple → List Triple → Key → List Op
data_ops g h key = changes_between (objects_at g key) (objects_at h key)

abbrev pub data_parts : List Key → List Triple → List Triple → List Part
data_parts ks g h = parts_at (data_ops g h) ks

-- of tokens, nodes and numbers of objects
abbrev pub listed_parts : List PredDef → List Key → List Triple → List Triple → List Part
listed_parts schema ks g h = filed_parts (filed_all schema (objects_at g) ks) (filed_all schema (objects_at h) ks)

-- of numbers of subjects
abbrev pub numbered_parts : List PredDef → List Key → List Triple → List Triple → List Part
numbered_parts schema ks g h = filed_parts (numbers_in schema g (listed_parts schema ks g h)) (numbers_in schema h (listed_parts schema ks g h))

-- all of them
abbrev pub whole_parts : List PredDef → List Key → List Triple → List Triple → List Part
whole_parts schema ks g h = (data_parts ks g h ++ listed_parts schema ks g h) ++ numbered_parts schema ks g h

-- the subjects that are changed
pub of_subjects : (cs : List Change) → AllByRecursion IsOfSubject (data_keys cs)
of_subjects cs =
    from_each key_cmp key_order IsOfSubject (data_keys cs)
    (λ key h. at key_cmp key_order IsOfSubject (map data_key cs) key (each cs) (sym (has_more key_cmp key_order [] (map data_key cs) key) ∙ h))
  where
    each : (ds : List Change) → AllByRecursion IsOfSubject (map data_key ds)
    each [] = tt
    each (d ∷ ds) = (tt, each ds)

-- a list that neither gains nor loses, and one that does
alone_first : (xs : List Op) (ys zs : List Op) → ys ≡ [] → zs ≡ [] → (xs ++ ys) ++ zs ≡ xs
alone_first xs ys zs e f = (λ i. (xs ++ e i) ++ f i) ∙ (append-nil (xs ++ []) ∙ append-nil xs)

alone_second : (xs : List Op) (ys zs : List Op) → xs ≡ [] → zs ≡ [] → (xs ++ ys) ++ zs ≡ ys
alone_second xs ys zs e f = (λ i. (e i ++ ys) ++ f i) ∙ append-nil ys

module _ (schema : List PredDef) (g h : List Triple) (ks : List Key) (up : Ascends key_cmp ks) (subjects : AllByRecursion IsOfSubject ks) (others : (p : List ℕ) (s : ℕ) → has key_cmp ks (keys.Data p s) ≡ false → objects g p s ≡ objects h p s) (l : IsLawful schema g) (m : IsLawful schema h) where
  -- data
  data_at : (key : Key) → ops_at (data_parts ks g h) key ≡ data_ops g h key
  data_at key = ops_at_parts (data_ops g h) ks key up ∙ by key (has key_cmp ks key) refl
    where
      by : (k : Key) (v : Bool) → has key_cmp ks k ≡ v → cond v (data_ops g h k) [] ≡ data_ops g h k
      by k true e = refl
      by (keys.Data p s) false e = sym ((λ i. changes_between (others p s e i) (objects h p s)) ∙ none_between (objects h p s))
      by (keys.Index p t) false e = refl
      by (keys.Reverse p o) false e = refl
      by (keys.Count p n) false e = refl
      by (keys.RCount p n) false e = refl

  data_are : AreParts (data_parts ks g h)
  data_are = are_parts (data_ops g h) ks up (λ key. between_ascends (objects_at g key) (objects_at h key) (objects_at_ascend g key l.ascend))

  -- tokens, nodes and numbers of objects
  listed_at : (key : Key) → IsFiled key → ops_at (listed_parts schema ks g h) key ≡ gains schema g h key
  listed_at key it = filed_ops_at (filed_all schema (objects_at g) ks) (filed_all schema (objects_at h) ks) key ∙ filed_gains schema g h ks subjects others key it l.ascend m.ascend

  not_listed : (key : Key) → filed_ops (filed_all schema (objects_at g) ks) (filed_all schema (objects_at h) ks) key ≡ [] → ops_at (listed_parts schema ks g h) key ≡ []
  not_listed key e = filed_ops_at (filed_all schema (objects_at g) ks) (filed_all schema (objects_at h) ks) key ∙ e

  listed_are : AreParts (listed_parts schema ks g h)
  listed_are = filed_are_parts (filed_all schema (objects_at g) ks) (filed_all schema (objects_at h) ks)

  -- numbers of subjects
  reverse_at : (p : List ℕ) (o : ℕ) → ops_at (listed_parts schema ks g h) (keys.Reverse p o) ≡ gains schema g h (keys.Reverse p o)
  reverse_at p o = listed_at (keys.Reverse p o) tt

  numbered_at : (p : List ℕ) (n : ℕ) → ops_at (numbered_parts schema ks g h) (keys.RCount p n) ≡ gains schema g h (keys.RCount p n)
  numbered_at p n =
      filed_ops_at (numbers_in schema g (listed_parts schema ks g h)) (numbers_in schema h (listed_parts schema ks g h)) (keys.RCount p n)
      ∙ number_gains schema g h (listed_parts schema ks g h) l.ascend m.ascend reverse_at p n

  not_numbered : (key : Key) → filed_ops (numbers_in schema g (listed_parts schema ks g h)) (numbers_in schema h (listed_parts schema ks g h)) key ≡ [] → ops_at (numbered_parts schema ks g h) key ≡ []
  not_numbered key e = filed_ops_at (numbers_in schema g (listed_parts schema ks g h)) (numbers_in schema h (listed_parts schema ks g h)) key ∙ e

  numbered_are : AreParts (numbered_parts schema ks g h)
  numbered_are = filed_are_parts (numbers_in schema g (listed_parts schema ks g h)) (numbers_in schema h (listed_parts schema ks g h))

  -- which of them a key has
  whole_at : (key : Key) → ops_at (whole_parts schema ks g h) key ≡ (ops_at (data_parts ks g h) key ++ ops_at (listed_parts schema ks g h) key) ++ ops_at (numbered_parts schema ks g h) key
  whole_at key =
      ops_joined (data_parts ks g h ++ listed_parts schema ks g h) (numbered_parts schema ks g h) key
      ∙ λ i. ops_joined (data_parts ks g h) (listed_parts schema ks g h) key i ++ ops_at (numbered_parts schema ks g h) key

  no_number : (key : Key) → is_eq (nat_cmp (kind_rank key) 5) ≡ false → ops_at (numbered_parts schema ks g h) key ≡ []
  no_number key e = not_numbered key (no_others_numbered schema g h (listed_parts schema ks g h) l.ascend m.ascend reverse_at key e)

  no_data_listed : (p : List ℕ) (s : ℕ) → ops_at (listed_parts schema ks g h) (keys.Data p s) ≡ []
  no_data_listed p s = not_listed (keys.Data p s) (no_data_filed schema g h ks subjects others p s)

  no_number_listed : (p : List ℕ) (n : ℕ) → ops_at (listed_parts schema ks g h) (keys.RCount p n) ≡ []
  no_number_listed p n = not_listed (keys.RCount p n) (no_number_filed schema g h ks subjects others p n)

  pub whole_exact : (key : Key) → ops_at (whole_parts schema ks g h) key ≡ gains schema g h key
  whole_exact (keys.Data p s) =
      whole_at (keys.Data p s)
      ∙ (alone_first (ops_at (data_parts ks g h) (keys.Data p s)) (ops_at (listed_parts schema ks g h) (keys.Data p s)) (ops_at (numbered_parts schema ks g h) (keys.Data p s)) (no_data_listed p s) (no_number (keys.Data p s) refl)
      ∙ (data_at (keys.Data p s) ∙ data_gains schema g h p s l m))
  whole_exact (keys.Index p t) =
      whole_at (keys.Index p t)
      ∙ (alone_second (ops_at (data_parts ks g h) (keys.Index p t)) (ops_at (listed_parts schema ks g h) (keys.Index p t)) (ops_at (numbered_parts schema ks g h) (keys.Index p t)) (data_at (keys.Index p t)) (no_number (keys.Index p t) refl)
      ∙ listed_at (keys.Index p t) tt)
  whole_exact (keys.Reverse p o) =
      whole_at (keys.Reverse p o)
      ∙ (alone_second (ops_at (data_parts ks g h) (keys.Reverse p o)) (ops_at (listed_parts schema ks g h) (keys.Reverse p o)) (ops_at (numbered_parts schema ks g h) (keys.Reverse p o)) (data_at (keys.Reverse p o)) (no_number (keys.Reverse p o) refl)
      ∙ listed_at (keys.Reverse p o) tt)
  whole_exact (keys.Count p n) =
      whole_at (keys.Count p n)
      ∙ (alone_second (ops_at (data_parts ks g h) (keys.Count p n)) (ops_at (listed_parts schema ks g h) (keys.Count p n)) (ops_at (numbered_parts schema ks g h) (keys.Count p n)) (data_at (keys.Count p n)) (no_number (keys.Count p n) refl)
      ∙ listed_at (keys.Count p n) tt)
  whole_exact (keys.RCount p n) =
      whole_at (keys.RCount p n)
      ∙ ((λ i. (data_at (keys.RCount p n) i ++ no_number_listed p n i) ++ ops_at (numbered_parts schema ks g h) (keys.RCount p n))
      ∙ numbered_at p n)

  -- no two of them have one key
  places : (key : Key) → parts_of_key (whole_parts schema ks g h) key ≡ (parts_of_key (data_parts ks g h) key ++ parts_of_key (listed_parts schema ks g h) key) ++ parts_of_key (numbered_parts schema ks g h) key
  places key =
      filter-append (λ part. is_eq (key_cmp part.key key)) (data_parts ks g h ++ listed_parts schema ks g h) (numbered_parts schema ks g h)
      ∙ λ i. filter-append (λ part. is_eq (key_cmp part.key key)) (data_parts ks g h) (listed_parts schema ks g h) i ++ parts_of_key (numbered_parts schema ks g h) key

  apart_listed : (key : Key) → ops_at (data_parts ks g h) key ≡ [] → ops_at (numbered_parts schema ks g h) key ≡ [] → length (parts_of_key (whole_parts schema ks g h) key) ≤ 1
  apart_listed key e f =
      subst (λ (ps : List Part). length ps ≤ 1)
      (sym (places key ∙ ((λ i. (none_there (data_parts ks g h) key data_are.each e i ++ parts_of_key (listed_parts schema ks g h) key) ++ none_there (numbered_parts schema ks g h) key numbered_are.each f i) ∙ append-nil (parts_of_key (listed_parts schema ks g h) key))))
      (lone_at (listed_parts schema ks g h) key listed_are.ascend)

  pub whole_apart : AreApart (whole_parts schema ks g h)
  whole_apart (keys.Data p s) =
      subst (λ (ps : List Part). length ps ≤ 1)
      (sym (places (keys.Data p s) ∙ ((λ i. (parts_of_key (data_parts ks g h) (keys.Data p s) ++ none_there (listed_parts schema ks g h) (keys.Data p s) listed_are.each (no_data_listed p s) i) ++ none_there (numbered_parts schema ks g h) (keys.Data p s) numbered_are.each (no_number (keys.Data p s) refl) i)
      ∙ (append-nil (parts_of_key (data_parts ks g h) (keys.Data p s) ++ []) ∙ append-nil (parts_of_key (data_parts ks g h) (keys.Data p s))))))
      (lone_at (data_parts ks g h) (keys.Data p s) data_are.ascend)
  whole_apart (keys.Index p t) = apart_listed (keys.Index p t) (data_at (keys.Index p t)) (no_number (keys.Index p t) refl)
  whole_apart (keys.Reverse p o) = apart_listed (keys.Reverse p o) (data_at (keys.Reverse p o)) (no_number (keys.Reverse p o) refl)
  whole_apart (keys.Count p n) = apart_listed (keys.Count p n) (data_at (keys.Count p n)) (no_number (keys.Count p n) refl)
  whole_apart (keys.RCount p n) =
      subst (λ (ps : List Part). length ps ≤ 1)
      (sym (places (keys.RCount p n) ∙ λ i. (none_there (data_parts ks g h) (keys.RCount p n) data_are.each (data_at (keys.RCount p n)) i ++ none_there (listed_parts schema ks g h) (keys.RCount p n) listed_are.each (no_number_listed p n) i) ++ parts_of_key (numbered_parts schema ks g h) (keys.RCount p n)))
      (lone_at (numbered_parts schema ks g h) (keys.RCount p n) numbered_are.ascend)

  -- each has operations
  pub whole_each : AllByRecursion (λ part. AreOps part.ops) (whole_parts schema ks g h)
  whole_each =
      all_joined (λ part. AreOps part.ops) (data_parts ks g h ++ listed_parts schema ks g h) (numbered_parts schema ks g h)
      (all_joined (λ part. AreOps part.ops) (data_parts ks g h) (listed_parts schema ks g h) data_are.each listed_are.each)
      numbered_are.each

  -- in order they are what lists gain and lose
  pub sorted_gains : (parts : List Part) → IsPermutation (whole_parts schema ks g h) parts → Ascends part_cmp parts → ((key : Key) → ops_at parts key ≡ ops_at (whole_parts schema ks g h) key) → AreGainsAndLosses schema g schema h parts
  sorted_gains parts moved ascend same = record {
    parts_are = record {
      ascend = ascend;
      each = recursion_from_All (λ part. AreOps part.ops) parts (All-permutation (λ part. AreOps part.ops) (whole_parts schema ks g h) parts moved (All-from_recursion (λ part. AreOps part.ops) (whole_parts schema ks g h) whole_each));
    };
    exact = λ key. same key ∙ whole_exact key;
  }

  -- only those of tokens, nodes and numbers are of nodes whose subjects are counted
  no_reads : (f : Key → List Op) (all : List Key) → ((p : List ℕ) (o : ℕ) → f (keys.Reverse p o) ≡ []) → counted_parts schema (parts_at f all) ≡ 0
  no_reads f all none = none_counted (parts_at f all) (all_parts (λ part. counted_reads schema part.key ≡ 0) f all (λ key op ops there e. unread key (f key) e (none_at key)))
    where
      none_at : (key : Key) (p : List ℕ) (o : ℕ) → key ≡ keys.Reverse p o → f key ≡ []
      none_at key p o is = ap f is ∙ none p o

      unread : (key : Key) {op : Op} {ops : List Op} (os : List Op) → os ≡ op ∷ ops → ((p : List ℕ) (o : ℕ) → key ≡ keys.Reverse p o → os ≡ []) → counted_reads schema key ≡ 0
      unread (keys.Data p s) os e n = refl
      unread (keys.Index p t) os e n = refl
      unread (keys.Reverse p o) os e n = let bad = n p o refl in absurd (cc)
      unread (keys.Count p t) os e n = refl
      unread (keys.RCount p t) os e n = refl

      none_counted : (parts : List Part) → AllByRecursion (λ part. counted_reads schema part.key ≡ 0) parts → counted_parts schema parts ≡ 0
      none_counted [] a = refl
      none_counted (part ∷ parts) a = let rest = none_counted parts a.1 in let first = sum_by-cons (λ (p : Part). counted_reads schema p.key) part parts in omega (arith, rest, first, a.0)

  pub whole_counted : (parts : List Part) → IsPermutation (whole_parts schema ks g h) parts → counted_parts schema parts ≡ counted_parts schema (listed_parts schema ks g h)
  whole_counted parts moved =
      let all = sum_by-IsPermutation (λ (p : Part). counted_reads schema p.key) (whole_parts schema ks g h) parts moved in
      let outer = sum_by-append (λ (p : Part). counted_reads schema p.key) (data_parts ks g h ++ listed_parts schema ks g h) (numbered_parts schema ks g h) in
      let inner = sum_by-append (λ (p : Part). counted_reads schema p.key) (data_parts ks g h) (listed_parts schema ks g h) in
      let first = no_reads (data_ops g h) ks (λ p o. refl) in
      let last = no_reads (filed_ops (numbers_in schema g (listed_parts schema ks g h)) (numbers_in schema h (listed_parts schema ks g h))) (filed_keys (numbers_in schema g (listed_parts schema ks g h)) (numbers_in schema h (listed_parts schema ks g h))) (λ p o. no_others_numbered schema g h (listed_parts schema ks g h) l.ascend m.ascend reverse_at (keys.Reverse p o) refl) in
      omega (arith, all, outer, inner, first, last)

  -- the nodes of parts under the numbers that their operations lead to
  pub numbers_then : flat_map (λ part. filed_after schema g part.key part.ops) (listed_parts schema ks g h) ≡ numbers_in schema h (listed_parts schema ks g h)
  numbers_then = numbers_after schema g h (listed_parts schema ks g h) l.ascend m.ascend reverse_at listed_are.ascend

-- ---- by changes

-- these are the parts of all kinds by changes
abbrev pub IsWhole : List PredDef → List Triple → List Change → List Part → Type 0
IsWhole schema g cs whole = whole ≡ whole_parts schema (data_keys cs) g (after_changes schema g cs)

module _ (schema : List PredDef) (g : List Triple) (cs : List Change) (fit : AreFitting schema cs) (l : IsLawful schema g) where
  others_stay : (p : List ℕ) (s : ℕ) → has key_cmp (data_keys cs) (keys.Data p s) ≡ false → objects g p s ≡ objects (after_changes schema g cs) p s
  others_stay p s e = keeps_objects schema g cs p s l.ascend e

  pub changed_numbers : flat_map (λ part. filed_after schema g part.key part.ops) (listed_parts schema (data_keys cs) g (after_changes schema g cs)) ≡ numbers_in schema (after_changes schema g cs) (listed_parts schema (data_keys cs) g (after_changes schema g cs))
  changed_numbers = numbers_then schema g (after_changes schema g cs) (data_keys cs) (data_keys_ascend cs) (of_subjects cs) others_stay l (lawful_goal schema g cs fit l)

  pub changed_apart : (whole : List Part) → IsWhole schema g cs whole → AreApart whole
  changed_apart whole is = subst AreApart (sym is) (whole_apart schema g (after_changes schema g cs) (data_keys cs) (data_keys_ascend cs) (of_subjects cs) others_stay l (lawful_goal schema g cs fit l))

  pub changed_exact : (whole parts : List Part) → IsWhole schema g cs whole → IsPermutation whole parts → Ascends part_cmp parts → ((key : Key) → ops_at parts key ≡ ops_at whole key) → AreGainsAndLosses schema g schema (after_changes schema g cs) parts
  changed_exact whole parts is moved up same =
      sorted_gains schema g (after_changes schema g cs) (data_keys cs) (data_keys_ascend cs) (of_subjects cs) others_stay l (lawful_goal schema g cs fit l) parts
      (subst (λ (ps : List Part). IsPermutation ps parts) is moved) up (λ key. same key ∙ ap (λ (ps : List Part). ops_at ps key) is)

  pub changed_counted : (whole parts : List Part) → IsWhole schema g cs whole → IsPermutation whole parts → counted_parts schema parts ≡ counted_parts schema (listed_parts schema (data_keys cs) g (after_changes schema g cs))
  changed_counted whole parts is moved =
      whole_counted schema g (after_changes schema g cs) (data_keys cs) (data_keys_ascend cs) (of_subjects cs) others_stay l (lawful_goal schema g cs fit l) parts
      (subst (λ (ps : List Part). IsPermutation ps parts) is moved)
