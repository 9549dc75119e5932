-- Whether a key lists a posting depends on the triples of one conflict key.
use Rattle.std.proofs.Common.{◌≡◌, ℕ, nat_le, Bool, true, false, cond, List, [], ◌∷◌, Option, Some, None, length, refl, subst, sym, ◌∙◌}
use Rattle.std.specs.Prelude.{◌==◌, ◌&&◌, ◌||◌}
use Rattle.std.specs.Ordering.{is_eq, nat_cmp}
use Rattle.dg_values.specs.Ascending.{Ascends, has}
use Rattle.dg_values.specs.Order.{posting_cmp}
use Rattle.dg_values.specs.declared.value.Value.{Value}
use Rattle.dg_values.specs.declared.value.Posting.{Posting}
use Rattle.dg_values.specs.declared.value.Posting.TheVariants.{Uid, Val}
use Rattle.dg_values.proofs.OrderLaws.{posting_order}
use Rattle.dg_sets.proofs.MadeOrders.{nat_order}
use Rattle.dg_sets.proofs.Sets.{one_list}
use Rattle.dg_schema.specs.declared.definition.PredDef.{PredDef}
use Rattle.dg_schema.specs.Definitions.{definition_of}
use Rattle.dg_tokens.specs.declared.tokens.IndexToken.{IndexToken}
use Rattle.dg_graph.specs.declared.change.Triple.{Triple}
use Rattle.dg_graph.specs.Graphs.{triple_cmp, objects}
use Rattle.dg_graph.specs.Changes.{has_triple}
use Rattle.dg_graph.specs.Lookups.{has_token, has_tokenizer, subjects_where, subjects_of, with_objects, with_subjects}
use Rattle.dg_graph.proofs.Passing.{any_same}
use Rattle.dg_graph.proofs.LookUpLaws.{where_are, with_objects_are, with_subjects_are}
use Rattle.dg_graph.proofs.ObjectLaws.{objects_are, objects_ascend, subjects_are, subjects_ascend}
use Rattle.dg_keys.specs.declared.key.Key.{Key}
use Rattle.dg_keys.specs.declared.key.Key.TheVariants as keys
use Rattle.dg_keys.specs.declared.conflict.ConflictKey.{ConflictKey}
use Rattle.dg_keys.specs.declared.conflict.ConflictKey.TheVariants as conflicts
use Rattle.dg_zero.specs.Listings.{nodes, listing, listing_by}
use Rattle.dg_edges.specs.Deltas.{data_conflict}
use Rattle.dg_edges.specs.Regions.{AgreeIn, listing_conflict}
use Rattle.dg_edges.specs.Laws.{ListsByKeys, OthersUnlisted}
use Rattle.dg_edges.proofs.TripleKeys.{data_in, token_in, count_in, rcount_in}

-- ---- nodes as postings

pub has_node : (ns : List ℕ) (s : ℕ) → has posting_cmp (nodes ns) (Uid s) ≡ has nat_cmp ns s
has_node [] s = refl
has_node (n ∷ ns) s = λ i. is_eq (nat_cmp n s) || has_node ns s i

pub no_value : (ns : List ℕ) (v : Value) → has posting_cmp (nodes ns) (Val v) ≡ false
no_value [] v = refl
no_value (n ∷ ns) v = no_value ns v

if_value : (b : Bool) (ns : List ℕ) (v : Value) → has posting_cmp (cond b (nodes ns) []) (Val v) ≡ false
if_value true ns v = no_value ns v
if_value false ns v = refl

-- ---- two graphs that have the same triples of a key

module _ (schema : List PredDef) (g h : List Triple) where
  -- a triple's own key
  same_triple : (u : Triple) (def : PredDef) → definition_of schema u.p ≡ Some def → AgreeIn schema (data_conflict schema u) g h → has_triple g u ≡ has_triple h u
  same_triple u def e agree = agree u (data_in schema u def e)

  data_same : (p : List ℕ) (s : ℕ) (o : Posting) (d : Option PredDef) → definition_of schema p ≡ d → AgreeIn schema (data_conflict schema (record { s = s; p = p; o = o })) g h → has posting_cmp (listing_by d g (keys.Data p s)) o ≡ has posting_cmp (listing_by d h (keys.Data p s)) o
  data_same p s o None e agree = refl
  data_same p s o (Some def) e agree = objects_are g p s o ∙ (same_triple (record { s = s; p = p; o = o }) def e agree ∙ sym (objects_are h p s o))

  reverse_same : (p : List ℕ) (o s : ℕ) (d : Option PredDef) → definition_of schema p ≡ d → AgreeIn schema (data_conflict schema (record { s = s; p = p; o = Uid o })) g h → has posting_cmp (listing_by d g (keys.Reverse p o)) (Uid s) ≡ has posting_cmp (listing_by d h (keys.Reverse p o)) (Uid s)
  reverse_same p o s None e agree = refl
  reverse_same p o s (Some def) e agree = by def.reverse
    where
      by : (v : Bool) → has posting_cmp (cond v (nodes (subjects_of g p (Uid o))) []) (Uid s) ≡ has posting_cmp (cond v (nodes (subjects_of h p (Uid o))) []) (Uid s)
      by true =
          has_node (subjects_of g p (Uid o)) s ∙ (subjects_are g p s (Uid o) ∙ (same_triple (record { s = s; p = p; o = Uid o }) def e agree
          ∙ sym (has_node (subjects_of h p (Uid o)) s ∙ subjects_are h p s (Uid o))))
      by false = refl

  index_same : (p : List ℕ) (t : IndexToken) (s : ℕ) (d : Option PredDef) → definition_of schema p ≡ d → AgreeIn schema (conflicts.Index p t (Some s)) g h → has posting_cmp (listing_by d g (keys.Index p t)) (Uid s) ≡ has posting_cmp (listing_by d h (keys.Index p t)) (Uid s)
  index_same p t s None e agree = refl
  index_same p t s (Some def) e agree = by (has_tokenizer def t.tokenizer) refl
    where
      object : has_tokenizer def t.tokenizer ≡ true → (o : Posting) → has_token t o ≡ true → has posting_cmp (objects g p s) o ≡ has posting_cmp (objects h p s) o
      object indexed o found = objects_are g p s o ∙ (agree (record { s = s; p = p; o = o }) (token_in schema (record { s = s; p = p; o = o }) def e t indexed found) ∙ sym (objects_are h p s o))

      by : (v : Bool) → has_tokenizer def t.tokenizer ≡ v → has posting_cmp (cond v (nodes (subjects_where (has_token t) g p)) []) (Uid s) ≡ has posting_cmp (cond v (nodes (subjects_where (has_token t) h p)) []) (Uid s)
      by true indexed =
          has_node (subjects_where (has_token t) g p) s ∙ (where_are (has_token t) g p s ∙ (any_same posting_cmp posting_order (has_token t) (objects g p s) (objects h p s) (object indexed)
          ∙ sym (has_node (subjects_where (has_token t) h p) s ∙ where_are (has_token t) h p s)))
      by false indexed = refl

  count_same : (p : List ℕ) (n s : ℕ) (d : Option PredDef) → definition_of schema p ≡ d → Ascends triple_cmp g → Ascends triple_cmp h → AgreeIn schema (conflicts.Count p s) g h → has posting_cmp (listing_by d g (keys.Count p n)) (Uid s) ≡ has posting_cmp (listing_by d h (keys.Count p n)) (Uid s)
  count_same p n s None e a b agree = refl
  count_same p n s (Some def) e a b agree = by def.count (nat_le 1 n) refl
    where
      same : def.count ≡ true → objects g p s ≡ objects h p s
      same counted =
          one_list posting_cmp posting_order (objects g p s) (objects h p s) (objects_ascend g p s a) (objects_ascend h p s b)
          (λ o. objects_are g p s o ∙ (agree (record { s = s; p = p; o = o }) (count_in schema (record { s = s; p = p; o = o }) def e counted) ∙ sym (objects_are h p s o)))

      counts : (f : List Triple) → has posting_cmp (nodes (with_objects f p n)) (Uid s) ≡ ((length (objects f p s) == n) && nat_le 1 n)
      counts f = has_node (with_objects f p n) s ∙ with_objects_are f p n s

      by : (v w : Bool) → def.count ≡ v → has posting_cmp (cond (v && w) (nodes (with_objects g p n)) []) (Uid s) ≡ has posting_cmp (cond (v && w) (nodes (with_objects h p n)) []) (Uid s)
      by true true counted = counts g ∙ ((λ i. (length (same counted i) == n) && nat_le 1 n) ∙ sym (counts h))
      by true false counted = refl
      by false w counted = refl

  rcount_same : (p : List ℕ) (n o : ℕ) (d : Option PredDef) → definition_of schema p ≡ d → AgreeIn schema (conflicts.RCount p o) g h → has posting_cmp (listing_by d g (keys.RCount p n)) (Uid o) ≡ has posting_cmp (listing_by d h (keys.RCount p n)) (Uid o)
  rcount_same p n o None e agree = refl
  rcount_same p n o (Some def) e agree = by def.reverse def.count (nat_le 1 n) refl refl
    where
      each : def.reverse ≡ true → def.count ≡ true → (s : ℕ) → has_triple g (record { s = s; p = p; o = Uid o }) ≡ has_triple h (record { s = s; p = p; o = Uid o })
      each reversed counted s = agree (record { s = s; p = p; o = Uid o }) (rcount_in schema (record { s = s; p = p; o = Uid o }) def e o refl reversed counted)

      subjects : def.reverse ≡ true → def.count ≡ true → subjects_of g p (Uid o) ≡ subjects_of h p (Uid o)
      subjects reversed counted =
          one_list nat_cmp nat_order (subjects_of g p (Uid o)) (subjects_of h p (Uid o)) (subjects_ascend g p (Uid o)) (subjects_ascend h p (Uid o))
          (λ s. subjects_are g p s (Uid o) ∙ (each reversed counted s ∙ sym (subjects_are h p s (Uid o))))

      by : (u v w : Bool) → def.reverse ≡ u → def.count ≡ v → has posting_cmp (cond (u && (v && w)) (with_subjects g p n) []) (Uid o) ≡ has posting_cmp (cond (u && (v && w)) (with_subjects h p n) []) (Uid o)
      by true true true reversed counted =
          with_subjects_are g p n (Uid o) ∙ ((λ i. (length (subjects reversed counted i) == n) && nat_le 1 n) ∙ sym (with_subjects_are h p n (Uid o)))
      by true true false reversed counted = refl
      by true false w reversed counted = refl
      by false v w reversed counted = refl

-- lists hold a posting alike, in graphs that have the same triples of the key that it depends on
pub lists_by_keys : ListsByKeys
lists_by_keys schema g h key x c l m e agree = by key x e
  where
    key_is : (d : ConflictKey) → Some d ≡ Some c → d ≡ c
    key_is d f = cc

    with_key : (d : ConflictKey) → Some d ≡ Some c → AgreeIn schema d g h
    with_key d f = subst (λ (k : ConflictKey). AgreeIn schema k g h) (sym (key_is d f)) agree

    by : (k : Key) (y : Posting) → listing_conflict schema k y ≡ Some c → has posting_cmp (listing schema g k) y ≡ has posting_cmp (listing schema h k) y
    by (keys.Data p s) o f = data_same schema g h p s o (definition_of schema p) refl (with_key (data_conflict schema (record { s = s; p = p; o = o })) f)
    by (keys.Index p t) (Uid s) f = index_same schema g h p t s (definition_of schema p) refl (with_key (conflicts.Index p t (Some s)) f)
    by (keys.Index p t) (Val v) f = absurd (cc)
    by (keys.Reverse p o) (Uid s) f = reverse_same schema g h p o s (definition_of schema p) refl (with_key (data_conflict schema (record { s = s; p = p; o = Uid o })) f)
    by (keys.Reverse p o) (Val v) f = absurd (cc)
    by (keys.Count p n) (Uid s) f = count_same schema g h p n s (definition_of schema p) refl l.ascend m.ascend (with_key (conflicts.Count p s) f)
    by (keys.Count p n) (Val v) f = absurd (cc)
    by (keys.RCount p n) (Uid o) f = rcount_same schema g h p n o (definition_of schema p) refl (with_key (conflicts.RCount p o) f)
    by (keys.RCount p n) (Val v) f = absurd (cc)

-- ---- what no key lists

-- a value is counted by no key
rcount_none : (g : List Triple) (p : List ℕ) (n : ℕ) (v : Value) (d : Option PredDef) → has posting_cmp (listing_by d g (keys.RCount p n)) (Val v) ≡ false
rcount_none g p n v None = refl
rcount_none g p n v (Some def) = by (def.reverse && (def.count && nat_le 1 n))
  where
    by : (w : Bool) → has posting_cmp (cond w (with_subjects g p n) []) (Val v) ≡ false
    by true = with_subjects_are g p n (Val v)
    by false = refl

-- a posting on which no key depends isn't listed
pub unlisted : OthersUnlisted
unlisted schema g (keys.Data p s) o e = absurd (cc)
unlisted schema g (keys.Index p t) (Uid s) e = absurd (cc)
unlisted schema g (keys.Index p t) (Val v) e = by (definition_of schema p)
  where
    by : (d : Option PredDef) → has posting_cmp (listing_by d g (keys.Index p t)) (Val v) ≡ false
    by None = refl
    by (Some def) = if_value (has_tokenizer def t.tokenizer) (subjects_where (has_token t) g p) v
unlisted schema g (keys.Reverse p o) (Uid s) e = absurd (cc)
unlisted schema g (keys.Reverse p o) (Val v) e = by (definition_of schema p)
  where
    by : (d : Option PredDef) → has posting_cmp (listing_by d g (keys.Reverse p o)) (Val v) ≡ false
    by None = refl
    by (Some def) = if_value def.reverse (subjects_of g p (Uid o)) v
unlisted schema g (keys.Count p n) (Uid s) e = absurd (cc)
unlisted schema g (keys.Count p n) (Val v) e = by (definition_of schema p)
  where
    by : (d : Option PredDef) → has posting_cmp (listing_by d g (keys.Count p n)) (Val v) ≡ false
    by None = refl
    by (Some def) = if_value (def.count && nat_le 1 n) (with_objects g p n) v
unlisted schema g (keys.RCount p n) (Uid o) e = absurd (cc)
unlisted schema g (keys.RCount p n) (Val v) e = rcount_none g p n v (definition_of schema p)
