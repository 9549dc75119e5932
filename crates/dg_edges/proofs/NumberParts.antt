-- What the lists of nodes by the numbers of their subjects gain and lose.
use Rattle.std.proofs.Common.{◌≡◌, ℕ, zero, suc, ◌+◌, ◌≤◌, nat_le, Bool, true, false, cond, List, [], ◌∷◌, ◌++◌, Option, Some, None, length, map, flat_map, refl, ap, subst, sym, ◌∙◌, arith}
use Rattle.std.specs.Prelude.{◌==◌, ◌&&◌, ◌||◌, sum_by, filter}
use Rattle.std.specs.List.{AllByRecursion, list_any}
use Rattle.std.proofs.lemmas.Bool.{both_ways, or_parts, eqb-true}
use Rattle.std.proofs.lemmas.List.Folds.{list_any-append}
use Rattle.std.proofs.lemmas.List.Sums.{sum_by-cons}
use Rattle.std.specs.declared.cmp.Ordering.{Ordering}
use Rattle.std.specs.declared.cmp.Ordering.TheVariants.{Less, Equal, Greater}
use Rattle.std.specs.Ordering.{is_eq, nat_cmp}
use Rattle.dg_values.specs.Ascending.{Ascends, has}
use Rattle.dg_values.specs.Order.{text_cmp, posting_cmp}
use Rattle.dg_values.specs.declared.value.Posting.{Posting}
use Rattle.dg_values.specs.declared.value.Posting.TheVariants.{Uid, Val}
use Rattle.dg_values.proofs.OrderLaws.{posting_order}
use Rattle.dg_sets.proofs.MadeOrders.{nat_order, text_order}
use Rattle.dg_sets.proofs.Sets.{is_one, eq_turn, one_list, all_with, forth}
use Rattle.dg_delta.specs.declared.op.Op.{Op}
use Rattle.dg_delta.specs.declared.op.Op.TheVariants.{Set, Del}
use Rattle.dg_delta.specs.Ops.{posting_of, changes_between}
use Rattle.dg_schema.specs.declared.definition.PredDef.{PredDef}
use Rattle.dg_schema.specs.Definitions.{definition_of}
use Rattle.dg_graph.specs.declared.change.Triple.{Triple}
use Rattle.dg_graph.specs.Graphs.{triple_cmp}
use Rattle.dg_graph.specs.Lookups.{subjects_of, with_subjects}
use Rattle.dg_graph.proofs.LookUpLaws.{with_subjects_are}
use Rattle.dg_graph.proofs.ObjectLaws.{subjects_ascend}
use Rattle.dg_keys.specs.declared.key.Key.{Key}
use Rattle.dg_keys.specs.declared.key.Key.TheVariants as keys
use Rattle.dg_keys.specs.declared.record.Part.{Part}
use Rattle.dg_keys.specs.Keys.{key_cmp, part_cmp, pred_of, kind_rank, field_cmp, ops_at}
use Rattle.dg_zero.specs.Listings.{nodes, listing, listing_by}
use Rattle.dg_edges.specs.Deltas.{gains}
use Rattle.dg_edges.specs.Filing.{nodes_under, is_counted_by, is_counted, filed_subjects, added_by, taken_by, number_after, filed_before, filed_after}
use Rattle.dg_edges.specs.declared.filing.Filed.{Filed}
use Rattle.dg_edges.proofs.BetweenLaws.{IsBelow, below_all, lost_first, gained_first, kept_first, all_lost, all_gained}
use Rattle.dg_edges.proofs.EdgeLaws.{listing_ascends}
use Rattle.dg_edges.proofs.FiledParts.{filed_ops, no_nodes}
use Rattle.dg_edges.proofs.FilingLaws.{is_at, parts_equal, at_own, IsOwn, apart_by, has_nodes, nodes_ascend, none_any, no_value_filed, equal_numbers}
use Rattle.dg_edges.proofs.Members.{has_node, unlisted}
use Rattle.dg_edges.proofs.OpLaws.{between_covers}
use Rattle.dg_edges.proofs.PartsStay.{DifferAlike, both_alike, neither_changed, same_changes}
use Rattle.dg_edges.proofs.PartLaws.{own_ops}

-- ---- how long a list is after the operations that lead to it

-- as many as before, and those that were added, without those that were taken away
abbrev IsBalanced : List Posting → List Posting → List Op → Type 0
IsBalanced old new ops = length old + sum_by added_by ops ≡ length new + sum_by taken_by ops

added_all : (os : List Posting) → (sum_by added_by (map Set os) ≡ length os) × (sum_by taken_by (map Set os) ≡ 0)
added_all [] = (refl, refl)
added_all (o ∷ os) =
    let rest = added_all os in
    let first = sum_by-cons added_by (Set o) (map Set os) in
    let other = sum_by-cons taken_by (Set o) (map Set os) in
    (omega (arith, rest.0, first), omega (arith, rest.1, other))

taken_all : (os : List Posting) → (sum_by added_by (map Del os) ≡ 0) × (sum_by taken_by (map Del os) ≡ length os)
taken_all [] = (refl, refl)
taken_all (o ∷ os) =
    let rest = taken_all os in
    let first = sum_by-cons added_by (Del o) (map Del os) in
    let other = sum_by-cons taken_by (Del o) (map Del os) in
    (omega (arith, rest.0, first), omega (arith, rest.1, other))

one_lost : (o : Posting) (old new : List Posting) (ops : List Op) → IsBalanced old new ops → IsBalanced (o ∷ old) new (Del o ∷ ops)
one_lost o old new ops b =
    let first = sum_by-cons added_by (Del o) ops in
    let other = sum_by-cons taken_by (Del o) ops in
    omega (arith, b, first, other)

one_gained : (o : Posting) (old new : List Posting) (ops : List Op) → IsBalanced old new ops → IsBalanced old (o ∷ new) (Set o ∷ ops)
one_gained o old new ops b =
    let first = sum_by-cons added_by (Set o) ops in
    let other = sum_by-cons taken_by (Set o) ops in
    omega (arith, b, first, other)

one_kept : (o n : Posting) (old new : List Posting) (ops : List Op) → IsBalanced old new ops → IsBalanced (o ∷ old) (n ∷ new) ops
one_kept o n old new ops b = omega (arith, b)

one_step : (o n : Posting) (old new : List Posting) → Ascends posting_cmp (o ∷ old) → Ascends posting_cmp (n ∷ new) → IsBalanced old (n ∷ new) (changes_between old (n ∷ new)) → IsBalanced (o ∷ old) new (changes_between (o ∷ old) new) → IsBalanced old new (changes_between old new) → IsBalanced (o ∷ old) (n ∷ new) (changes_between (o ∷ old) (n ∷ new))
one_step o n old new a b lost gained kept = by (posting_cmp o n) refl
  where
    by : (v : Ordering) → posting_cmp o n ≡ v → IsBalanced (o ∷ old) (n ∷ new) (changes_between (o ∷ old) (n ∷ new))
    by Less e =
        subst (IsBalanced (o ∷ old) (n ∷ new)) (sym (lost_first o old (n ∷ new) a.0 (below_all o n new e b.0)))
        (one_lost o old (n ∷ new) (changes_between old (n ∷ new)) lost)
    by Greater e =
        subst (IsBalanced (o ∷ old) (n ∷ new)) (sym (gained_first n (o ∷ old) new (below_all n o old (forth posting_cmp posting_order o n e) a.0) b.0))
        (one_gained n (o ∷ old) new (changes_between (o ∷ old) new) gained)
    by Equal e =
        let same : n ≡ o = sym (posting_order.same o n e) in
        subst (IsBalanced (o ∷ old) (n ∷ new)) (sym ((λ i. changes_between (o ∷ old) (same i ∷ new)) ∙ kept_first o old new a.0 (subst (λ (p : Posting). IsBelow p new) same b.0)))
        (one_kept o n old new (changes_between old new) kept)

balanced_to : (most : ℕ) (old new : List Posting) → length old + length new ≤ most → Ascends posting_cmp old → Ascends posting_cmp new → IsBalanced old new (changes_between old new)
balanced_to most [] new le a b =
    subst (IsBalanced [] new) (sym (all_gained new b)) (let all = added_all new in omega (arith, all.0, all.1))
balanced_to most (o ∷ old) [] le a b =
    subst (IsBalanced (o ∷ old) []) (sym (all_lost (o ∷ old) a)) (let all = taken_all (o ∷ old) in omega (arith, all.0, all.1))
balanced_to zero (o ∷ old) (n ∷ new) le a b = absurd (omega (arith, le))
balanced_to (suc most) (o ∷ old) (n ∷ new) le a b =
    one_step o n old new a b (balanced_to most old (n ∷ new) (omega (arith, le)) a.1 b) (balanced_to most (o ∷ old) new (omega (arith, le)) a b.1) (balanced_to most old new (omega (arith, le)) a.1 b.1)

pub long_after : (old new : List Posting) → Ascends posting_cmp old → Ascends posting_cmp new → number_after (length old) (changes_between old new) ≡ length new
long_after old new a b = let balance = balanced_to (length old + length new) old new (omega arith) a b in omega (arith, balance)

-- ---- the number of a node's subjects

pub as_many : (ns : List ℕ) → length (nodes ns) ≡ length ns
as_many [] = refl
as_many (n ∷ ns) = ap suc (as_many ns)

pub back_listed : (schema : List PredDef) (g : List Triple) (p : List ℕ) (o : ℕ) → is_counted schema p ≡ true → listing schema g (keys.Reverse p o) ≡ nodes (subjects_of g p (Uid o))
back_listed schema g p o e = by (definition_of schema p) e
  where
    first : (v w : Bool) → (v && w) ≡ true → v ≡ true
    first true w f = refl
    first false w f = absurd (cc)

    by : (d : Option PredDef) → is_counted_by d ≡ true → listing_by d g (keys.Reverse p o) ≡ nodes (subjects_of g p (Uid o))
    by None f = absurd (cc)
    by (Some def) f = λ i. cond (first def.reverse def.count f i) (nodes (subjects_of g p (Uid o))) []

-- after the operations on their list
pub subjects_after : (schema : List PredDef) (g h : List Triple) (p : List ℕ) (o : ℕ) → Ascends triple_cmp g → Ascends triple_cmp h → is_counted schema p ≡ true → number_after (length (subjects_of g p (Uid o))) (gains schema g h (keys.Reverse p o)) ≡ length (subjects_of h p (Uid o))
subjects_after schema g h p o a b e =
    let old = back_listed schema g p o e in
    let new = back_listed schema h p o e in
    (λ i. number_after ((sym (as_many (subjects_of g p (Uid o))) ∙ ap (λ (os : List Posting). length os) (sym old)) i) (gains schema g h (keys.Reverse p o)))
    ∙ (long_after (listing schema g (keys.Reverse p o)) (listing schema h (keys.Reverse p o)) (listing_ascends schema g (keys.Reverse p o) a) (listing_ascends schema h (keys.Reverse p o) b)
    ∙ (ap (λ (os : List Posting). length os) new ∙ as_many (subjects_of h p (Uid o))))

pub filed_then : (schema : List PredDef) (g h : List Triple) (key : Key) (ops : List Op) → Ascends triple_cmp g → Ascends triple_cmp h → ((p : List ℕ) (o : ℕ) → key ≡ keys.Reverse p o → ops ≡ gains schema g h key) → filed_after schema g key ops ≡ filed_before schema h key
filed_then schema g h (keys.Data p s) ops a b e = refl
filed_then schema g h (keys.Index p s) ops a b e = refl
filed_then schema g h (keys.Count p s) ops a b e = refl
filed_then schema g h (keys.RCount p s) ops a b e = refl
filed_then schema g h (keys.Reverse p o) ops a b e = by (is_counted schema p) refl
  where
    by : (v : Bool) → is_counted schema p ≡ v → cond v (filed_subjects p o (number_after (length (subjects_of g p (Uid o))) ops)) [] ≡ cond v (filed_subjects p o (length (subjects_of h p (Uid o)))) []
    by true f = ap (filed_subjects p o) ((λ i. number_after (length (subjects_of g p (Uid o))) (e p o refl i)) ∙ subjects_after schema g h p o a b f)
    by false f = refl

-- ---- where the nodes of parts are filed

-- all of them
abbrev pub numbers_in : List PredDef → List Triple → List Part → List Filed
numbers_in schema g parts = flat_map (λ part. filed_before schema g part.key) parts

-- a node is listed under the number of its subjects
abbrev pub is_numbered : Option PredDef → List Triple → List ℕ → ℕ → ℕ → Bool
is_numbered d g p n o = is_counted_by d && (nat_le 1 n && (length (subjects_of g p (Uid o)) == n))

module _ (schema : List PredDef) (g : List Triple) where
  -- the filings of one node
  pub own_number : (q p : List ℕ) (n u o m : ℕ) → is_eq (text_cmp q p) ≡ true → is_eq (nat_cmp o u) ≡ true → list_any (is_at (keys.RCount q n) (Uid u)) (filed_subjects p o m) ≡ (nat_le 1 n && (m == n))
  own_number q p n u o m e f = by (m == n) refl
    where
      or_nothing : (b : Bool) → (b || false) ≡ b
      or_nothing true = refl
      or_nothing false = refl

      own : (v : Bool) → list_any (is_at (keys.RCount q n) (Uid u)) (cond v ((record { key = keys.RCount p m; node = o }) ∷ []) []) ≡ (v && (m == n))
      own true = or_nothing (is_at (keys.RCount q n) (Uid u) (record { key = keys.RCount p m; node = o })) ∙ (at_own (keys.RCount q n) u (keys.RCount p m) o e f ∙ equal_numbers m n)
      own false = refl

      off : (a b : Bool) → b ≡ false → (a && b) ≡ false
      off true b h = h
      off false b h = refl

      by : (w : Bool) → (m == n) ≡ w → list_any (is_at (keys.RCount q n) (Uid u)) (filed_subjects p o m) ≡ (nat_le 1 n && (m == n))
      by true h = own (nat_le 1 m) ∙ λ i. nat_le 1 (eqb-true m n h i) && (m == n)
      by false h = own (nat_le 1 m) ∙ (off (nat_le 1 m) (m == n) h ∙ sym (off (nat_le 1 n) (m == n) h))

  pub own_filed : (p : List ℕ) (o m : ℕ) → AllByRecursion (IsOwn p o) (filed_subjects p o m)
  own_filed p o m = by (nat_le 1 m)
    where
      by : (v : Bool) → AllByRecursion (IsOwn p o) (cond v ((record { key = keys.RCount p m; node = o }) ∷ []) [])
      by true = (record { pred = refl; node = refl }, tt)
      by false = tt

  -- keys of other kinds have none
  other_number : (q : List ℕ) (n u : ℕ) (l : Key) → is_eq (nat_cmp (kind_rank l) 3) ≡ false → false ≡ (is_eq (key_cmp l (keys.Reverse q u)) && is_numbered (definition_of schema q) g q n u)
  other_number q n u l e = sym ((λ i. (parts_equal l (keys.Reverse q u) ∙ (λ j. is_eq (text_cmp (pred_of l) q) && (e j && is_eq (field_cmp l (keys.Reverse q u))))) i && is_numbered (definition_of schema q) g q n u) ∙ off (is_eq (text_cmp (pred_of l) q)) (is_numbered (definition_of schema q) g q n u))
    where
      off : (a b : Bool) → ((a && false) && b) ≡ false
      off true b = refl
      off false b = refl

  -- of the node of one key
  one_number : (q : List ℕ) (n u : ℕ) (l : Key) → list_any (is_at (keys.RCount q n) (Uid u)) (filed_before schema g l) ≡ (is_eq (key_cmp l (keys.Reverse q u)) && is_numbered (definition_of schema q) g q n u)
  one_number q n u (keys.Data p s) = other_number q n u (keys.Data p s) refl
  one_number q n u (keys.Index p t) = other_number q n u (keys.Index p t) refl
  one_number q n u (keys.Count p m) = other_number q n u (keys.Count p m) refl
  one_number q n u (keys.RCount p m) = other_number q n u (keys.RCount p m) refl
  one_number q n u (keys.Reverse p o) = by (is_eq (text_cmp q p) && is_eq (nat_cmp o u)) refl
    where
      its : is_eq (key_cmp (keys.Reverse p o) (keys.Reverse q u)) ≡ (is_eq (text_cmp q p) && is_eq (nat_cmp o u))
      its = parts_equal (keys.Reverse p o) (keys.Reverse q u) ∙ λ i. eq_turn text_cmp text_order p q i && is_eq (nat_cmp o u)

      parts : (a b : Bool) → (a && b) ≡ true → (a ≡ true) × (b ≡ true)
      parts true true e = (refl, refl)
      parts true false e = absurd (cc)
      parts false b e = absurd (cc)

      by : (v : Bool) → (is_eq (text_cmp q p) && is_eq (nat_cmp o u)) ≡ v → list_any (is_at (keys.RCount q n) (Uid u)) (cond (is_counted schema p) (filed_subjects p o (length (subjects_of g p (Uid o)))) []) ≡ (is_eq (key_cmp (keys.Reverse p o) (keys.Reverse q u)) && is_numbered (definition_of schema q) g q n u)
      by true e =
          let both = parts (is_eq (text_cmp q p)) (is_eq (nat_cmp o u)) e in
          let pred : p ≡ q = sym (is_one text_cmp text_order q p both.0) in
          let node : o ≡ u = is_one nat_cmp nat_order o u both.1 in
          counted (is_counted schema p)
          ∙ ((λ i. is_counted_by (definition_of schema (pred i)) && (nat_le 1 n && (length (subjects_of g (pred i) (Uid (node i))) == n)))
          ∙ λ i. sym (its ∙ e) i && is_numbered (definition_of schema q) g q n u)
        where
          both : (is_eq (text_cmp q p) ≡ true) × (is_eq (nat_cmp o u) ≡ true)
          both = parts (is_eq (text_cmp q p)) (is_eq (nat_cmp o u)) e

          counted : (w : Bool) → list_any (is_at (keys.RCount q n) (Uid u)) (cond w (filed_subjects p o (length (subjects_of g p (Uid o)))) []) ≡ (w && (nat_le 1 n && (length (subjects_of g p (Uid o)) == n)))
          counted true = own_number q p n u o (length (subjects_of g p (Uid o))) both.0 both.1
          counted false = refl
      by false e =
          none (is_counted schema p)
          ∙ λ i. sym (its ∙ e) i && is_numbered (definition_of schema q) g q n u
        where
          none : (w : Bool) → list_any (is_at (keys.RCount q n) (Uid u)) (cond w (filed_subjects p o (length (subjects_of g p (Uid o)))) []) ≡ false
          none true = none_any (is_at (keys.RCount q n) (Uid u)) (filed_subjects p o (length (subjects_of g p (Uid o)))) (all_with (IsOwn p o) (λ f. is_at (keys.RCount q n) (Uid u) f ≡ false) (filed_subjects p o (length (subjects_of g p (Uid o)))) (λ f own. apart_by (keys.RCount q n) u p o f e own) (own_filed p o (length (subjects_of g p (Uid o)))))
          none false = refl

  pub has_numbers : (q : List ℕ) (n u : ℕ) (parts : List Part) → list_any (is_at (keys.RCount q n) (Uid u)) (numbers_in schema g parts) ≡ (list_any (λ part. is_eq (key_cmp part.key (keys.Reverse q u))) parts && is_numbered (definition_of schema q) g q n u)
  has_numbers q n u [] = refl
  has_numbers q n u (part ∷ parts) =
      list_any-append (is_at (keys.RCount q n) (Uid u)) (filed_before schema g part.key) (numbers_in schema g parts)
      ∙ ((λ i. one_number q n u part.key i || has_numbers q n u parts i)
      ∙ gathered (is_eq (key_cmp part.key (keys.Reverse q u))) (list_any (λ p. is_eq (key_cmp p.key (keys.Reverse q u))) parts) (is_numbered (definition_of schema q) g q n u))
    where
      gathered : (a b h : Bool) → ((a && h) || (b && h)) ≡ ((a || b) && h)
      gathered true true true = refl
      gathered true true false = refl
      gathered true false true = refl
      gathered true false false = refl
      gathered false b h = refl

  -- filed under no key of another kind
  pub other_kind : (key : Key) (f : Filed) → is_eq (nat_cmp (kind_rank key) 5) ≡ false → kind_rank f.key ≡ 5 → (o : Posting) → is_at key o f ≡ false
  other_kind key f e k o =
      (λ i. (parts_equal key f.key ∙ (λ j. is_eq (text_cmp (pred_of key) (pred_of f.key)) && (is_eq (nat_cmp (kind_rank key) (k j)) && is_eq (field_cmp key f.key)))) i && is_eq (posting_cmp (Uid f.node) o))
      ∙ ((λ i. (is_eq (text_cmp (pred_of key) (pred_of f.key)) && (e i && is_eq (field_cmp key f.key))) && is_eq (posting_cmp (Uid f.node) o))
      ∙ off (is_eq (text_cmp (pred_of key) (pred_of f.key))) (is_eq (posting_cmp (Uid f.node) o)))
    where
      off : (a b : Bool) → ((a && false) && b) ≡ false
      off true b = refl
      off false b = refl

  numbers_by : (key : Key) (l : Key) (o : Posting) → is_eq (nat_cmp (kind_rank key) 5) ≡ false → list_any (is_at key o) (filed_before schema g l) ≡ false
  numbers_by key (keys.Data p s) o e = refl
  numbers_by key (keys.Index p s) o e = refl
  numbers_by key (keys.Count p s) o e = refl
  numbers_by key (keys.RCount p s) o e = refl
  numbers_by key (keys.Reverse p m) o e = by (is_counted schema p) (nat_le 1 (length (subjects_of g p (Uid m))))
    where
      by : (v w : Bool) → list_any (is_at key o) (cond v (cond w ((record { key = keys.RCount p (length (subjects_of g p (Uid m))); node = m }) ∷ []) []) []) ≡ false
      by true true = λ i. other_kind key (record { key = keys.RCount p (length (subjects_of g p (Uid m))); node = m }) e refl o i || false
      by true false = refl
      by false w = refl

  no_others : (key : Key) (parts : List Part) (o : Posting) → is_eq (nat_cmp (kind_rank key) 5) ≡ false → list_any (is_at key o) (numbers_in schema g parts) ≡ false
  no_others key [] o e = refl
  no_others key (part ∷ parts) o e =
      list_any-append (is_at key o) (filed_before schema g part.key) (numbers_in schema g parts)
      ∙ λ i. numbers_by key part.key o e i || no_others key parts o e i

  pub no_nodes_numbered : (key : Key) (parts : List Part) → is_eq (nat_cmp (kind_rank key) 5) ≡ false → nodes_under (numbers_in schema g parts) key ≡ []
  no_nodes_numbered key parts e = no_nodes key (numbers_in schema g parts) (λ o. no_others key parts o e)

-- ---- what such keys list

pub numbered_list : (d : Option PredDef) (g : List Triple) (q : List ℕ) (n u : ℕ) → has posting_cmp (listing_by d g (keys.RCount q n)) (Uid u) ≡ is_numbered d g q n u
numbered_list None g q n u = refl
numbered_list (Some def) g q n u = by def.reverse def.count (nat_le 1 n) refl
  where
    turned : (a b : Bool) → (a && b) ≡ (b && a)
    turned true true = refl
    turned true false = refl
    turned false true = refl
    turned false false = refl

    by : (v w z : Bool) → nat_le 1 n ≡ z → has posting_cmp (cond (v && (w && z)) (with_subjects g q n) []) (Uid u) ≡ ((v && w) && (z && (length (subjects_of g q (Uid u)) == n)))
    by true true true e = with_subjects_are g q n (Uid u) ∙ (turned (length (subjects_of g q (Uid u)) == n) (nat_le 1 n) ∙ λ i. e i && (length (subjects_of g q (Uid u)) == n))
    by true true false e = refl
    by true false z e = refl
    by false w z e = refl

-- ---- two graphs, and the parts of the nodes whose subjects differ

module _ (schema : List PredDef) (g h : List Triple) (parts : List Part) (a : Ascends triple_cmp g) (b : Ascends triple_cmp h) (exact : (p : List ℕ) (o : ℕ) → ops_at parts (keys.Reverse p o) ≡ gains schema g h (keys.Reverse p o)) where
  -- no part, no operation
  none_at : (key : Key) (ps : List Part) → list_any (λ part. is_eq (key_cmp part.key key)) ps ≡ false → ops_at ps key ≡ []
  none_at key [] e = refl
  none_at key (p ∷ ps) e =
      let both = or_parts (is_eq (key_cmp p.key key)) (list_any (λ part. is_eq (key_cmp part.key key)) ps) e in
      (λ i. flat_map (λ (part : Part). part.ops) (cond (both.0 i) (p ∷ filter (λ (part : Part). is_eq (key_cmp part.key key)) ps) (filter (λ (part : Part). is_eq (key_cmp part.key key)) ps))) ∙ none_at key ps both.1

  -- lists without operations are the same
  same_lists : (old new : List Posting) → changes_between old new ≡ [] → (o : Posting) → has posting_cmp old o ≡ has posting_cmp new o
  same_lists old new e o = by (has posting_cmp old o) (has posting_cmp new o) refl refl
    where
      covered : (has posting_cmp old o ≡ has posting_cmp new o → ⊥) → false ≡ true
      covered ne = sym (ap (λ (ops : List Op). has posting_cmp (map posting_of ops) o) e) ∙ between_covers old new o ne

      by : (v w : Bool) → has posting_cmp old o ≡ v → has posting_cmp new o ≡ w → v ≡ w
      by true true x y = refl
      by true false x y = absurd (both_ways false refl (covered (λ f. both_ways (has posting_cmp new o) y (sym f ∙ x))))
      by false true x y = absurd (both_ways false refl (covered (λ f. both_ways (has posting_cmp old o) x (f ∙ y))))
      by false false x y = refl

  same_subjects : (p : List ℕ) (o : ℕ) → is_counted schema p ≡ true → list_any (λ part. is_eq (key_cmp part.key (keys.Reverse p o))) parts ≡ false → subjects_of g p (Uid o) ≡ subjects_of h p (Uid o)
  same_subjects p o e none =
      one_list nat_cmp nat_order (subjects_of g p (Uid o)) (subjects_of h p (Uid o)) (subjects_ascend g p (Uid o)) (subjects_ascend h p (Uid o))
      (λ s. sym (has_node (subjects_of g p (Uid o)) s) ∙ (ap (λ (os : List Posting). has posting_cmp os (Uid s)) (sym (back_listed schema g p o e))
      ∙ (same_lists (listing schema g (keys.Reverse p o)) (listing schema h (keys.Reverse p o)) (sym (exact p o) ∙ none_at (keys.Reverse p o) parts none) (Uid s)
      ∙ (ap (λ (os : List Posting). has posting_cmp os (Uid s)) (back_listed schema h p o e) ∙ has_node (subjects_of h p (Uid o)) s))))

  same_number : (d : Option PredDef) (p : List ℕ) (n o : ℕ) → definition_of schema p ≡ d → list_any (λ part. is_eq (key_cmp part.key (keys.Reverse p o))) parts ≡ false → is_numbered d g p n o ≡ is_numbered d h p n o
  same_number d p n o is none = by (is_counted_by d) (ap is_counted_by is)
    where
      by : (v : Bool) → is_counted schema p ≡ v → (v && (nat_le 1 n && (length (subjects_of g p (Uid o)) == n))) ≡ (v && (nat_le 1 n && (length (subjects_of h p (Uid o)) == n)))
      by true e = λ i. nat_le 1 n && (length (same_subjects p o e none i) == n)
      by false e = refl

  number_alike : (q : List ℕ) (n : ℕ) (o : Posting) → DifferAlike (has posting_cmp (nodes_under (numbers_in schema g parts) (keys.RCount q n)) o) (has posting_cmp (nodes_under (numbers_in schema h parts) (keys.RCount q n)) o) (has posting_cmp (listing schema g (keys.RCount q n)) o) (has posting_cmp (listing schema h (keys.RCount q n)) o)
  number_alike q n (Val v) =
      neither_changed (has posting_cmp (nodes_under (numbers_in schema g parts) (keys.RCount q n)) (Val v)) (has posting_cmp (nodes_under (numbers_in schema h parts) (keys.RCount q n)) (Val v)) (has posting_cmp (listing schema g (keys.RCount q n)) (Val v)) (has posting_cmp (listing schema h (keys.RCount q n)) (Val v))
      ((has_nodes (keys.RCount q n) (numbers_in schema g parts) (Val v) ∙ no_value_filed (keys.RCount q n) (numbers_in schema g parts) v) ∙ sym (has_nodes (keys.RCount q n) (numbers_in schema h parts) (Val v) ∙ no_value_filed (keys.RCount q n) (numbers_in schema h parts) v))
      (unlisted schema g (keys.RCount q n) (Val v) refl ∙ sym (unlisted schema h (keys.RCount q n) (Val v) refl))
  number_alike q n (Uid u) = by (list_any (λ part. is_eq (key_cmp part.key (keys.Reverse q u))) parts) refl
    where
      filed : (f : List Triple) → has posting_cmp (nodes_under (numbers_in schema f parts) (keys.RCount q n)) (Uid u) ≡ (list_any (λ part. is_eq (key_cmp part.key (keys.Reverse q u))) parts && is_numbered (definition_of schema q) f q n u)
      filed f = has_nodes (keys.RCount q n) (numbers_in schema f parts) (Uid u) ∙ has_numbers schema f q n u parts

      by : (v : Bool) → list_any (λ part. is_eq (key_cmp part.key (keys.Reverse q u))) parts ≡ v → DifferAlike (has posting_cmp (nodes_under (numbers_in schema g parts) (keys.RCount q n)) (Uid u)) (has posting_cmp (nodes_under (numbers_in schema h parts) (keys.RCount q n)) (Uid u)) (has posting_cmp (listing schema g (keys.RCount q n)) (Uid u)) (has posting_cmp (listing schema h (keys.RCount q n)) (Uid u))
      by true e =
          both_alike (has posting_cmp (nodes_under (numbers_in schema g parts) (keys.RCount q n)) (Uid u)) (has posting_cmp (nodes_under (numbers_in schema h parts) (keys.RCount q n)) (Uid u)) (has posting_cmp (listing schema g (keys.RCount q n)) (Uid u)) (has posting_cmp (listing schema h (keys.RCount q n)) (Uid u))
          (filed g ∙ ((λ i. e i && is_numbered (definition_of schema q) g q n u) ∙ sym (numbered_list (definition_of schema q) g q n u)))
          (filed h ∙ ((λ i. e i && is_numbered (definition_of schema q) h q n u) ∙ sym (numbered_list (definition_of schema q) h q n u)))
      by false e =
          neither_changed (has posting_cmp (nodes_under (numbers_in schema g parts) (keys.RCount q n)) (Uid u)) (has posting_cmp (nodes_under (numbers_in schema h parts) (keys.RCount q n)) (Uid u)) (has posting_cmp (listing schema g (keys.RCount q n)) (Uid u)) (has posting_cmp (listing schema h (keys.RCount q n)) (Uid u))
          (filed g ∙ ((λ i. e i && is_numbered (definition_of schema q) g q n u) ∙ sym (filed h ∙ λ i. e i && is_numbered (definition_of schema q) h q n u)))
          (numbered_list (definition_of schema q) g q n u ∙ (same_number (definition_of schema q) q n u refl e ∙ sym (numbered_list (definition_of schema q) h q n u)))

  -- the lists gain and lose what the filings do
  pub number_gains : (q : List ℕ) (n : ℕ) → filed_ops (numbers_in schema g parts) (numbers_in schema h parts) (keys.RCount q n) ≡ gains schema g h (keys.RCount q n)
  number_gains q n =
      same_changes (nodes_under (numbers_in schema g parts) (keys.RCount q n)) (nodes_under (numbers_in schema h parts) (keys.RCount q n)) (listing schema g (keys.RCount q n)) (listing schema h (keys.RCount q n))
      (nodes_ascend (keys.RCount q n) (numbers_in schema g parts)) (nodes_ascend (keys.RCount q n) (numbers_in schema h parts)) (listing_ascends schema g (keys.RCount q n) a) (listing_ascends schema h (keys.RCount q n) b)
      (number_alike q n)

  -- and others have none
  pub no_others_numbered : (key : Key) → is_eq (nat_cmp (kind_rank key) 5) ≡ false → filed_ops (numbers_in schema g parts) (numbers_in schema h parts) key ≡ []
  no_others_numbered key e = λ i. changes_between (no_nodes_numbered schema g key parts e i) (no_nodes_numbered schema h key parts e i)

  -- the numbers after the operations of parts are those of the new graph
  pub numbers_after : Ascends part_cmp parts → flat_map (λ part. filed_after schema g part.key part.ops) parts ≡ numbers_in schema h parts
  numbers_after up = all_same parts (own_ops parts up)
    where
      reverse_ops : (part : Part) → ops_at parts part.key ≡ part.ops → (p : List ℕ) (o : ℕ) → part.key ≡ keys.Reverse p o → part.ops ≡ gains schema g h part.key
      reverse_ops part own p o is = subst (λ (k : Key). part.ops ≡ gains schema g h k) (sym is) (sym own ∙ (ap (ops_at parts) is ∙ exact p o))

      all_same : (ps : List Part) → AllByRecursion (λ part. ops_at parts part.key ≡ part.ops) ps → flat_map (λ part. filed_after schema g part.key part.ops) ps ≡ numbers_in schema h ps
      all_same [] q = refl
      all_same (part ∷ ps) q = λ i. filed_then schema g h part.key part.ops a b (reverse_ops part q.0) i ++ all_same ps q.1 i
