-- The parts and the keys of changes.
use Rattle.std.proofs.Common.{◌≡◌, ℕ, nat_le, Bool, true, false, cond, List, [], ◌∷◌, Option, Some, None, fold, map, filter, length, refl, ap, subst, sym, ◌∙◌}
use Rattle.std.specs.Prelude.{◌&&◌, ◌==◌}
use Rattle.std.specs.List.{AllByRecursion}
use Rattle.std.proofs.lemmas.Bool.{both_ways, or_parts}
use Rattle.std.specs.declared.cmp.Ordering.TheVariants.{Less}
use Rattle.std.specs.Ordering.{is_eq, nat_cmp}
use Rattle.dg_values.specs.Ascending.{Ascends, has}
use Rattle.dg_values.specs.Order.{posting_cmp}
use Rattle.dg_values.specs.declared.value.Posting.{Posting}
use Rattle.dg_values.specs.declared.value.Posting.TheVariants.{Uid}
use Rattle.dg_values.proofs.OrderLaws.{posting_order}
use Rattle.dg_sets.proofs.MadeOrders.{nat_order}
use Rattle.dg_sets.proofs.Sets.{is_itself, at, has_more, ascends_more, ascends_passed}
use Rattle.dg_delta.specs.Ops.{changes_between}
use Rattle.dg_edges.proofs.OpLaws.{none_between}
use Rattle.dg_schema.specs.declared.definition.PredDef.{PredDef}
use Rattle.dg_schema.specs.Definitions.{definition_of, is_named}
use Rattle.dg_graph.specs.declared.change.Triple.{Triple}
use Rattle.dg_graph.specs.declared.change.Change.{Change}
use Rattle.dg_graph.specs.Graphs.{triple_cmp, is_of, is_of_subject, objects, fits, fits_by, after_changes, IsLawful}
use Rattle.dg_graph.specs.Changes.{has_triple, changed, own_objects_after, objects_after}
use Rattle.dg_graph.specs.Lookups.{has_token, has_tokenizer, subjects_where, subjects_of, all_objects, with_objects, with_subjects, is_node}
use Rattle.dg_graph.proofs.GraphLaws.{triple_order, same_subject}
use Rattle.dg_graph.proofs.ObjectLaws.{objects_are, objects_ascend, objects_after_all}
use Rattle.dg_keys.specs.declared.key.Key.{Key}
use Rattle.dg_keys.specs.declared.key.Key.TheVariants as keys
use Rattle.dg_keys.specs.Keys.{key_cmp, pred_of}
use Rattle.dg_zero.specs.Listings.{nodes, listing, listing_by}
use Rattle.dg_keys.specs.KeyOrder.{key_order}
use Rattle.dg_edges.specs.Deltas.{gains, data_key, data_keys}

-- ---- lists of a lawful graph

-- a subject's list has the graph's triples, whether its predicate is declared or not
pub listed_by : (schema : List PredDef) (graph : List Triple) (p : List ℕ) (s : ℕ) (o : Posting) → IsLawful schema graph → has posting_cmp (listing schema graph (keys.Data p s)) o ≡ has_triple graph (record { s = s; p = p; o = o })
listed_by schema graph p s o l = by (definition_of schema p) refl
  where
    none : (v : Bool) → has_triple graph (record { s = s; p = p; o = o }) ≡ v → definition_of schema p ≡ None → false ≡ v
    none true h e =
        let f = at triple_cmp triple_order (λ t. fits schema t ≡ true) graph (record { s = s; p = p; o = o }) l.fit h in
        let g : fits schema (record { s = s; p = p; o = o }) ≡ false = ap (λ (d : Option PredDef). fits_by d (record { s = s; p = p; o = o })) e in
        absurd (both_ways (fits schema (record { s = s; p = p; o = o })) g f)
    none false h e = refl

    by : (d : Option PredDef) → definition_of schema p ≡ d → has posting_cmp (listing_by d graph (keys.Data p s)) o ≡ has_triple graph (record { s = s; p = p; o = o })
    by None e = none (has_triple graph (record { s = s; p = p; o = o })) refl e
    by (Some def) e = objects_are graph p s o

-- ---- what a key lists ascends

nodes_above : (n : ℕ) (ns : List ℕ) → AllByRecursion (λ m. nat_cmp n m ≡ Less) ns → AllByRecursion (λ o. posting_cmp (Uid n) o ≡ Less) (nodes ns)
nodes_above n [] a = tt
nodes_above n (m ∷ ns) a = (a.0, nodes_above n ns a.1)

nodes_ascend : (ns : List ℕ) → Ascends nat_cmp ns → Ascends posting_cmp (nodes ns)
nodes_ascend [] a = tt
nodes_ascend (n ∷ ns) a = (nodes_above n ns a.0, nodes_ascend ns a.1)

subjects_ascend : (test : Posting → Bool) (graph : List Triple) (p : List ℕ) → Ascends nat_cmp (subjects_where test graph p)
subjects_ascend test graph p = ascends_more nat_cmp nat_order [] (map (λ (t : Triple). t.s) (filter (λ t. is_of p t && test t.o) graph)) tt

if_ascends : (b : Bool) (os : List Posting) → Ascends posting_cmp os → Ascends posting_cmp (cond b os [])
if_ascends true os a = a
if_ascends false os a = tt

pub listing_ascends : (schema : List PredDef) (graph : List Triple) (key : Key) → Ascends triple_cmp graph → Ascends posting_cmp (listing schema graph key)
listing_ascends schema graph key a = by (definition_of schema (pred_of key)) key
  where
    by : (d : Option PredDef) (k : Key) → Ascends posting_cmp (listing_by d graph k)
    by None k = tt
    by (Some def) (keys.Data p s) = objects_ascend graph p s a
    by (Some def) (keys.Index p t) = if_ascends (has_tokenizer def t.tokenizer) (nodes (subjects_where (has_token t) graph p)) (nodes_ascend (subjects_where (has_token t) graph p) (subjects_ascend (has_token t) graph p))
    by (Some def) (keys.Reverse p o) = if_ascends def.reverse (nodes (subjects_of graph p (Uid o))) (nodes_ascend (subjects_of graph p (Uid o)) (subjects_ascend (λ object. is_eq (posting_cmp object (Uid o))) graph p))
    by (Some def) (keys.Count p n) =
        if_ascends (def.count && nat_le 1 n) (nodes (with_objects graph p n)) (nodes_ascend (with_objects graph p n) (ascends_passed nat_cmp nat_order (λ (s : ℕ). length (objects graph p s) == n) (subjects_where (λ o. true) graph p) (subjects_ascend (λ o. true) graph p)))
    by (Some def) (keys.RCount p n) =
        if_ascends (def.reverse && (def.count && nat_le 1 n)) (with_subjects graph p n) (ascends_passed posting_cmp posting_order (λ (o : Posting). is_node o && (length (subjects_of graph p o) == n)) (all_objects graph p) (ascends_more posting_cmp posting_order [] (map (λ (t : Triple). t.o) (filter (is_of p) graph)) tt))

-- ---- a key that no change has keeps its list

no_change : (schema : List PredDef) (p : List ℕ) (s : ℕ) (os : List Posting) (cs : List Change) → has key_cmp (map data_key cs) (keys.Data p s) ≡ false → fold (objects_after schema p s) os cs ≡ os
no_change schema p s os [] h = refl
no_change schema p s os (c ∷ cs) h =
    let both = or_parts (is_eq (key_cmp (data_key c) (keys.Data p s))) (has key_cmp (map data_key cs) (keys.Data p s)) h in
    no_change schema p s (objects_after schema p s os c) cs both.1 ∙ by (is_of_subject p s (changed c)) refl both.0
  where
    by : (v : Bool) → is_of_subject p s (changed c) ≡ v → is_eq (key_cmp (data_key c) (keys.Data p s)) ≡ false → cond v (own_objects_after schema os c) os ≡ os
    by true e f =
        let b = same_subject p s (changed c) e in
        let one = is_itself key_cmp key_order (keys.Data p s) in
        let up : is_eq (key_cmp (data_key c) (keys.Data p s)) ≡ is_eq (key_cmp (keys.Data p s) (keys.Data p s)) = λ i. is_eq (key_cmp (keys.Data (b.0 i) (b.1 i)) (keys.Data p s)) in
        absurd (both_ways (is_eq (key_cmp (data_key c) (keys.Data p s))) f (up ∙ one))
    by false e f = refl

-- the keys of changes, as they come
pub keys_are : (cs : List Change) (key : Key) → has key_cmp (data_keys cs) key ≡ has key_cmp (map data_key cs) key
keys_are cs key = has_more key_cmp key_order [] (map data_key cs) key

data_same : (d : Option PredDef) (graph later : List Triple) (p : List ℕ) (s : ℕ) → objects graph p s ≡ objects later p s → listing_by d graph (keys.Data p s) ≡ listing_by d later (keys.Data p s)
data_same None graph later p s e = refl
data_same (Some def) graph later p s e = e

pub keeps_objects : (schema : List PredDef) (graph : List Triple) (cs : List Change) (p : List ℕ) (s : ℕ) → Ascends triple_cmp graph → has key_cmp (data_keys cs) (keys.Data p s) ≡ false → objects graph p s ≡ objects (after_changes schema graph cs) p s
keeps_objects schema graph cs p s a h = sym (objects_after_all schema graph cs p s a ∙ no_change schema p s (objects graph p s) cs (sym (keys_are cs (keys.Data p s)) ∙ h))

pub keeps_data : (schema : List PredDef) (graph : List Triple) (cs : List Change) (p : List ℕ) (s : ℕ) → Ascends triple_cmp graph → has key_cmp (data_keys cs) (keys.Data p s) ≡ false → listing schema graph (keys.Data p s) ≡ listing schema (after_changes schema graph cs) (keys.Data p s)
keeps_data schema graph cs p s a h = data_same (definition_of schema p) graph (after_changes schema graph cs) p s (keeps_objects schema graph cs p s a h)

-- ---- a list that stays gains and loses nothing

pub gains_none : (schema : List PredDef) (graph later : List Triple) (key : Key) → listing schema graph key ≡ listing schema later key → gains schema graph later key ≡ []
gains_none schema graph later key e = (λ i. changes_between (e i) (listing schema later key)) ∙ none_between (listing schema later key)

pub data_keys_ascend : (cs : List Change) → Ascends key_cmp (data_keys cs)
data_keys_ascend cs = ascends_more key_cmp key_order [] (map data_key cs) tt

-- a predicate that no triple of a graph fits has no object
pub none_listed : (schema : List PredDef) (graph : List Triple) (p : List ℕ) (s : ℕ) → definition_of schema p ≡ None → AllByRecursion (λ t. fits schema t ≡ true) graph → objects graph p s ≡ []
none_listed schema [] p s none a = refl
none_listed schema (t ∷ graph) p s none a =
    let other : is_of_subject p s t ≡ false = by (is_of_subject p s t) refl in
    rw other (none_listed schema graph p s none a.1)
  where
    by : (v : Bool) → is_of_subject p s t ≡ v → v ≡ false
    by true e =
        let missing : definition_of schema t.p ≡ None = ap (definition_of schema) (same_subject p s t e).0 ∙ none in
        let no : fits_by None t ≡ true = subst (λ (o : Option PredDef). fits_by o t ≡ true) missing a.0 in
        absurd (cc)
    by false e = refl
