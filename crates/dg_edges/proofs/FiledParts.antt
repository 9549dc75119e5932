-- What the lists of tokens, nodes and numbers gain and lose, from the filings of the subjects that change.
use Rattle.std.proofs.Common.{◌≡◌, ℕ, nat_le, Bool, true, false, cond, List, [], ◌∷◌, ◌++◌, Option, Some, None, length, map, refl, sym, ◌∙◌}
use Rattle.std.specs.Prelude.{◌==◌, ◌&&◌, ◌||◌}
use Rattle.std.specs.List.{AllByRecursion, list_any}
use Rattle.std.proofs.lemmas.Bool.{or_parts}
use Rattle.std.specs.Ordering.{is_eq}
use Rattle.dg_values.specs.Ascending.{Ascends, has}
use Rattle.dg_values.specs.Order.{posting_cmp}
use Rattle.dg_values.specs.declared.value.Posting.{Posting}
use Rattle.dg_values.specs.declared.value.Posting.TheVariants.{Uid, Val}
use Rattle.dg_sets.proofs.Sets.{eq_turn, has_more, has_joined, ascends_more}
use Rattle.dg_delta.specs.declared.op.Op.{Op}
use Rattle.dg_delta.specs.Ops.{changes_between}
use Rattle.dg_schema.specs.declared.definition.PredDef.{PredDef}
use Rattle.dg_schema.specs.Definitions.{definition_of}
use Rattle.dg_graph.specs.declared.change.Triple.{Triple}
use Rattle.dg_graph.specs.Graphs.{triple_cmp, objects}
use Rattle.dg_graph.specs.Lookups.{has_token, has_tokenizer, subjects_where, subjects_of, with_objects}
use Rattle.dg_graph.proofs.LookUpLaws.{where_are, with_objects_are}
use Rattle.dg_keys.specs.declared.key.Key.{Key}
use Rattle.dg_keys.specs.declared.key.Key.TheVariants as keys
use Rattle.dg_keys.specs.Keys.{key_cmp, pred_of, ops_at, AreParts}
use Rattle.dg_keys.specs.KeyOrder.{key_order}
use Rattle.dg_zero.specs.Listings.{nodes, listing, listing_by}
use Rattle.dg_edges.specs.Deltas.{gains}
use Rattle.dg_edges.specs.Filing.{nodes_under, filed_keys, filed_parts}
use Rattle.dg_edges.specs.Lists.{objects_at}
use Rattle.dg_edges.specs.declared.filing.Filed.{Filed}
use Rattle.dg_edges.proofs.EdgeLaws.{listing_ascends}
use Rattle.dg_edges.proofs.FilingLaws.{is_at, has_nodes, nodes_ascend, listed_under, IsOfSubject, filed_all, filed_list, no_value_filed}
use Rattle.dg_edges.proofs.Members.{has_node, unlisted}
use Rattle.dg_edges.proofs.OpLaws.{between_ascends, nothing}
use Rattle.dg_edges.proofs.PartLaws.{are_parts, ops_at_parts}
use Rattle.dg_edges.proofs.PartsStay.{DifferAlike, both_alike, neither_changed, same_changes}

-- ---- filings make parts

-- at a key that no filing has
pub none_under : (key : Key) (filed : List Filed) (o : Posting) → has key_cmp (map (λ f. f.key) filed) key ≡ false → list_any (is_at key o) filed ≡ false
none_under key [] o e = refl
none_under key (f ∷ filed) o e =
    let both = or_parts (is_eq (key_cmp f.key key)) (has key_cmp (map (λ g. g.key) filed) key) e in
    (λ i. ((eq_turn key_cmp key_order key f.key ∙ both.0) i && is_eq (posting_cmp (Uid f.node) o)) || list_any (is_at key o) filed) ∙ none_under key filed o both.1

pub no_nodes : (key : Key) (filed : List Filed) → ((o : Posting) → list_any (is_at key o) filed ≡ false) → nodes_under filed key ≡ []
no_nodes key filed e = nothing (nodes_under filed key) (λ o. has_nodes key filed o ∙ e o)

pub filed_keys_have : (before after : List Filed) (key : Key) → has key_cmp (filed_keys before after) key ≡ (has key_cmp (map (λ f. f.key) before) key || has key_cmp (map (λ f. f.key) after) key)
filed_keys_have before after key = has_more key_cmp key_order [] (map (λ f. f.key) before ++ map (λ f. f.key) after) key ∙ has_joined key_cmp key_order (map (λ f. f.key) before) (map (λ f. f.key) after) key

pub filed_keys_ascend : (before after : List Filed) → Ascends key_cmp (filed_keys before after)
filed_keys_ascend before after = ascends_more key_cmp key_order [] (map (λ f. f.key) before ++ map (λ f. f.key) after) tt

-- the operations that these make of a key's list
abbrev pub filed_ops : List Filed → List Filed → Key → List Op
filed_ops before after key = changes_between (nodes_under before key) (nodes_under after key)

pub filed_ops_at : (before after : List Filed) (key : Key) → ops_at (filed_parts before after) key ≡ filed_ops before after key
filed_ops_at before after key =
    ops_at_parts (filed_ops before after) (filed_keys before after) key (filed_keys_ascend before after) ∙ by (has key_cmp (filed_keys before after) key) refl
  where
    by : (v : Bool) → has key_cmp (filed_keys before after) key ≡ v → cond v (filed_ops before after key) [] ≡ filed_ops before after key
    by true e = refl
    by false e =
        let both = or_parts (has key_cmp (map (λ f. f.key) before) key) (has key_cmp (map (λ f. f.key) after) key) (sym (filed_keys_have before after key) ∙ e) in
        sym (λ i. changes_between (no_nodes key before (λ o. none_under key before o both.0) i) (no_nodes key after (λ o. none_under key after o both.1) i))

pub filed_are_parts : (before after : List Filed) → AreParts (filed_parts before after)
filed_are_parts before after =
    are_parts (filed_ops before after) (filed_keys before after) (filed_keys_ascend before after)
    (λ key. between_ascends (nodes_under before key) (nodes_under after key) (nodes_ascend key before))

-- ---- what keys list, subject by subject

-- the key is of tokens, nodes or numbers of objects
abbrev pub IsFiled : Key → Type 0
IsFiled (keys.Data p s) = ⊥
IsFiled (keys.Index p t) = Unit {0}
IsFiled (keys.Reverse p o) = Unit {0}
IsFiled (keys.Count p n) = Unit {0}
IsFiled (keys.RCount p n) = ⊥

and_true : (b : Bool) → (b && true) ≡ b
and_true true = refl
and_true false = refl

pub listed_own : (d : Option PredDef) (g : List Triple) (key : Key) (u : ℕ) → IsFiled key → has posting_cmp (listing_by d g key) (Uid u) ≡ listed_under d key (objects g (pred_of key) u)
listed_own None g (keys.Data p s) u it = absurd it
listed_own None g (keys.Index p t) u it = refl
listed_own None g (keys.Reverse p o) u it = refl
listed_own None g (keys.Count p n) u it = refl
listed_own None g (keys.RCount p n) u it = absurd it
listed_own (Some def) g (keys.Data p s) u it = absurd it
listed_own (Some def) g (keys.Index p t) u it = by (has_tokenizer def t.tokenizer)
  where
    by : (v : Bool) → has posting_cmp (cond v (nodes (subjects_where (has_token t) g p)) []) (Uid u) ≡ (v && list_any (has_token t) (objects g p u))
    by true = has_node (subjects_where (has_token t) g p) u ∙ where_are (has_token t) g p u
    by false = refl
listed_own (Some def) g (keys.Reverse p o) u it = by def.reverse
  where
    by : (v : Bool) → has posting_cmp (cond v (nodes (subjects_of g p (Uid o))) []) (Uid u) ≡ (v && has posting_cmp (objects g p u) (Uid o))
    by true = has_node (subjects_of g p (Uid o)) u ∙ where_are (λ object. is_eq (posting_cmp object (Uid o))) g p u
    by false = refl
listed_own (Some def) g (keys.Count p n) u it = by def.count (nat_le 1 n) refl
  where
    by : (v w : Bool) → nat_le 1 n ≡ w → has posting_cmp (cond (v && w) (nodes (with_objects g p n)) []) (Uid u) ≡ (v && (w && (length (objects g p u) == n)))
    by true true e =
        has_node (with_objects g p n) u
        ∙ (with_objects_are g p n u
        ∙ ((λ i. (length (objects g p u) == n) && e i) ∙ and_true (length (objects g p u) == n)))
    by true false e = refl
    by false w e = refl
listed_own (Some def) g (keys.RCount p n) u it = absurd it

-- ---- two graphs whose other subjects are the same

-- the key is of no value
pub no_value_listed : (schema : List PredDef) (g : List Triple) (key : Key) (o : Posting) → IsFiled key → ((u : ℕ) → o ≡ Uid u → ⊥) → has posting_cmp (listing schema g key) o ≡ false
no_value_listed schema g (keys.Data p s) o it n = absurd it
no_value_listed schema g (keys.Index p t) (Uid u) it n = absurd (n u refl)
no_value_listed schema g (keys.Index p t) (Val v) it n = unlisted schema g (keys.Index p t) (Val v) refl
no_value_listed schema g (keys.Reverse p m) (Uid u) it n = absurd (n u refl)
no_value_listed schema g (keys.Reverse p m) (Val v) it n = unlisted schema g (keys.Reverse p m) (Val v) refl
no_value_listed schema g (keys.Count p m) (Uid u) it n = absurd (n u refl)
no_value_listed schema g (keys.Count p m) (Val v) it n = unlisted schema g (keys.Count p m) (Val v) refl
no_value_listed schema g (keys.RCount p m) o it n = absurd it

module _ (schema : List PredDef) (g h : List Triple) (ks : List Key) (subjects : AllByRecursion IsOfSubject ks) (others : (p : List ℕ) (s : ℕ) → has key_cmp ks (keys.Data p s) ≡ false → objects g p s ≡ objects h p s) where
  abbrev pub before : List Filed
  before = filed_all schema (objects_at g) ks

  abbrev pub after : List Filed
  after = filed_all schema (objects_at h) ks

  node_alike : (key : Key) (u : ℕ) → IsFiled key → DifferAlike (has posting_cmp (nodes_under before key) (Uid u)) (has posting_cmp (nodes_under after key) (Uid u)) (has posting_cmp (listing schema g key) (Uid u)) (has posting_cmp (listing schema h key) (Uid u))
  node_alike key u it = by (has key_cmp ks (keys.Data (pred_of key) u)) refl
    where
      old : has posting_cmp (nodes_under before key) (Uid u) ≡ (has key_cmp ks (keys.Data (pred_of key) u) && listed_under (definition_of schema (pred_of key)) key (objects g (pred_of key) u))
      old = has_nodes key before (Uid u) ∙ filed_list schema (objects_at g) ks key u subjects

      new : has posting_cmp (nodes_under after key) (Uid u) ≡ (has key_cmp ks (keys.Data (pred_of key) u) && listed_under (definition_of schema (pred_of key)) key (objects h (pred_of key) u))
      new = has_nodes key after (Uid u) ∙ filed_list schema (objects_at h) ks key u subjects

      was : has posting_cmp (listing schema g key) (Uid u) ≡ listed_under (definition_of schema (pred_of key)) key (objects g (pred_of key) u)
      was = listed_own (definition_of schema (pred_of key)) g key u it

      is : has posting_cmp (listing schema h key) (Uid u) ≡ listed_under (definition_of schema (pred_of key)) key (objects h (pred_of key) u)
      is = listed_own (definition_of schema (pred_of key)) h key u it

      by : (v : Bool) → has key_cmp ks (keys.Data (pred_of key) u) ≡ v → DifferAlike (has posting_cmp (nodes_under before key) (Uid u)) (has posting_cmp (nodes_under after key) (Uid u)) (has posting_cmp (listing schema g key) (Uid u)) (has posting_cmp (listing schema h key) (Uid u))
      by true e =
          both_alike (has posting_cmp (nodes_under before key) (Uid u)) (has posting_cmp (nodes_under after key) (Uid u)) (has posting_cmp (listing schema g key) (Uid u)) (has posting_cmp (listing schema h key) (Uid u))
          (old ∙ ((λ i. e i && listed_under (definition_of schema (pred_of key)) key (objects g (pred_of key) u)) ∙ sym was))
          (new ∙ ((λ i. e i && listed_under (definition_of schema (pred_of key)) key (objects h (pred_of key) u)) ∙ sym is))
      by false e =
          neither_changed (has posting_cmp (nodes_under before key) (Uid u)) (has posting_cmp (nodes_under after key) (Uid u)) (has posting_cmp (listing schema g key) (Uid u)) (has posting_cmp (listing schema h key) (Uid u))
          (old ∙ ((λ i. e i && listed_under (definition_of schema (pred_of key)) key (objects g (pred_of key) u)) ∙ sym (new ∙ λ i. e i && listed_under (definition_of schema (pred_of key)) key (objects h (pred_of key) u))))
          (was ∙ ((λ i. listed_under (definition_of schema (pred_of key)) key (others (pred_of key) u e i)) ∙ sym is))

  posting_alike : (key : Key) (o : Posting) → IsFiled key → DifferAlike (has posting_cmp (nodes_under before key) o) (has posting_cmp (nodes_under after key) o) (has posting_cmp (listing schema g key) o) (has posting_cmp (listing schema h key) o)
  posting_alike key (Uid u) it = node_alike key u it
  posting_alike key (Val v) it =
      neither_changed (has posting_cmp (nodes_under before key) (Val v)) (has posting_cmp (nodes_under after key) (Val v)) (has posting_cmp (listing schema g key) (Val v)) (has posting_cmp (listing schema h key) (Val v))
      ((has_nodes key before (Val v) ∙ no_value_filed key before v) ∙ sym (has_nodes key after (Val v) ∙ no_value_filed key after v))
      (no_value_listed schema g key (Val v) it (λ u e. cc) ∙ sym (no_value_listed schema h key (Val v) it (λ u e. cc)))

  -- lists of tokens, nodes and numbers gain and lose what the filings do
  pub filed_gains : (key : Key) → IsFiled key → Ascends triple_cmp g → Ascends triple_cmp h → filed_ops before after key ≡ gains schema g h key
  filed_gains key it a b =
      same_changes (nodes_under before key) (nodes_under after key) (listing schema g key) (listing schema h key)
      (nodes_ascend key before) (nodes_ascend key after) (listing_ascends schema g key a) (listing_ascends schema h key b)
      (λ o. posting_alike key o it)

  -- and no others do
  pub unfiled : (gr : List Triple) (key : Key) → ((os : List Posting) → listed_under (definition_of schema (pred_of key)) key os ≡ false) → nodes_under (filed_all schema (objects_at gr) ks) key ≡ []
  unfiled gr key never = no_nodes key (filed_all schema (objects_at gr) ks) each
    where
      off : (b : Bool) → (b && false) ≡ false
      off true = refl
      off false = refl

      each : (o : Posting) → list_any (is_at key o) (filed_all schema (objects_at gr) ks) ≡ false
      each (Uid u) = filed_list schema (objects_at gr) ks key u subjects ∙ ((λ i. has key_cmp ks (keys.Data (pred_of key) u) && never (objects gr (pred_of key) u) i) ∙ off (has key_cmp ks (keys.Data (pred_of key) u)))
      each (Val v) = no_value_filed key (filed_all schema (objects_at gr) ks) v

  pub no_data_filed : (p : List ℕ) (s : ℕ) → filed_ops before after (keys.Data p s) ≡ []
  no_data_filed p s = λ i. changes_between (unfiled g (keys.Data p s) (λ os. never (definition_of schema p) os) i) (unfiled h (keys.Data p s) (λ os. never (definition_of schema p) os) i)
    where
      never : (d : Option PredDef) (os : List Posting) → listed_under d (keys.Data p s) os ≡ false
      never None os = refl
      never (Some def) os = refl

  pub no_number_filed : (p : List ℕ) (n : ℕ) → filed_ops before after (keys.RCount p n) ≡ []
  no_number_filed p n = λ i. changes_between (unfiled g (keys.RCount p n) (λ os. never (definition_of schema p) os) i) (unfiled h (keys.RCount p n) (λ os. never (definition_of schema p) os) i)
    where
      never : (d : Option PredDef) (os : List Posting) → listed_under d (keys.RCount p n) os ≡ false
      never None os = refl
      never (Some def) os = refl
