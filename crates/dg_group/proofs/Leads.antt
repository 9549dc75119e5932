-- The operations between two lists lead from the one to the other, and what a key lists ascends.
use Rattle.std.proofs.Common.{◌≡◌, ◌∙◌, sym, refl, ℕ, List, [], ◌∷◌, Bool, true, false, cond, not, map, fold}
use Rattle.std.specs.Prelude.{◌&&◌, ◌||◌, ◌==◌, nat_le, length, Option, Some, None, filter}
use Rattle.std.specs.List.{AllByRecursion}
use Rattle.std.specs.declared.cmp.Ordering.TheVariants.{Less}
use Rattle.std.specs.Ordering.{is_eq, nat_cmp}
use Rattle.dg_values.specs.Ascending.{Ascends, has, with_one}
use Rattle.dg_values.specs.Order.{posting_cmp}
use Rattle.dg_values.specs.declared.value.Posting.{Posting}
use Rattle.dg_values.specs.declared.value.Posting.TheVariants.{Uid}
use Rattle.dg_values.proofs.OrderLaws.{posting_order}
use Rattle.dg_sets.proofs.MadeOrders.{nat_order}
use Rattle.dg_sets.proofs.Sets.{is_itself, one_list, has_passed, ascends_passed, ascends_more}
use Rattle.dg_sets.proofs.Merges.{joined}
use Rattle.dg_delta.specs.declared.op.Op.{Op}
use Rattle.dg_delta.specs.declared.op.Op.TheVariants.{Set, Del}
use Rattle.dg_delta.specs.Ops.{op_cmp, after_ops, missing, changes_between}
use Rattle.dg_delta.proofs.OpLaws.{there_after, hits, has_after, ascends_after, joined_says}
use Rattle.dg_schema.specs.declared.definition.PredDef.{PredDef}
use Rattle.dg_schema.specs.Definitions.{definition_of}
use Rattle.dg_graph.specs.declared.change.Triple.{Triple}
use Rattle.dg_graph.specs.Graphs.{triple_cmp, is_of, objects}
use Rattle.dg_graph.specs.Lookups.{subjects_where, subjects_of, all_objects, with_objects, with_subjects, is_node, has_token, has_tokenizer}
use Rattle.dg_graph.proofs.ObjectLaws.{objects_ascend}
use Rattle.dg_keys.specs.declared.key.Key.{Key}
use Rattle.dg_keys.specs.declared.key.Key.TheVariants.{Data, Index, Reverse, Count, RCount}
use Rattle.dg_keys.specs.Keys.{pred_of}
use Rattle.dg_zero.specs.Listings.{listing, listing_by, nodes}

-- ---- what runs of one kind of operation say

sets_say : (os : List Posting) (q : Posting) (was : Bool) → there_after (map Set os) q was ≡ (has posting_cmp os q || was)
sets_say [] q was = refl
sets_say (o ∷ os) q was = sets_say os q (cond (hits (Set o) q) true was) ∙ by (is_eq (posting_cmp o q)) (has posting_cmp os q)
  where
    by : (a b : Bool) → (b || cond a true was) ≡ ((a || b) || was)
    by true true = refl
    by true false = refl
    by false b = refl

dels_say : (os : List Posting) (q : Posting) (was : Bool) → there_after (map Del os) q was ≡ (not (has posting_cmp os q) && was)
dels_say [] q was = refl
dels_say (o ∷ os) q was = dels_say os q (cond (hits (Del o) q) false was) ∙ by (is_eq (posting_cmp o q)) (has posting_cmp os q)
  where
    by : (a b : Bool) → (not b && cond a false was) ≡ (not (a || b) && was)
    by true true = refl
    by true false = refl
    by false b = refl

-- ---- sets of an ascending list ascend

sets_above : (o : Posting) (os : List Posting) → AllByRecursion (λ p. posting_cmp o p ≡ Less) os → AllByRecursion (λ op. op_cmp (Set o) op ≡ Less) (map Set os)
sets_above o [] a = tt
sets_above o (p ∷ os) a = (a.0, sets_above o os a.1)

sets_ascend : (os : List Posting) → Ascends posting_cmp os → Ascends op_cmp (map Set os)
sets_ascend [] a = tt
sets_ascend (o ∷ os) a = (sets_above o os a.0, sets_ascend os a.1)

joined_is : (ops base : List Op) → joined op_cmp ops base ≡ fold (with_one op_cmp) base ops
joined_is [] base = refl
joined_is (op ∷ ops) base = joined_is ops (with_one op_cmp base op)

-- ---- they lead there

lacks : (have want : List Posting) (q : Posting) → has posting_cmp (missing have want) q ≡ (not (has posting_cmp have q) && has posting_cmp want q)
lacks have want q = has_passed posting_cmp posting_order (λ w. not (has posting_cmp have w)) want q

says_between : (old new : List Posting) (q : Posting) → Ascends posting_cmp new → has posting_cmp (after_ops old (changes_between old new)) q ≡ has posting_cmp new q
says_between old new q b =
    has_after (changes_between old new) old q
    ∙ (λ i. there_after (sym (joined_is (map Set (missing old new)) (map Del (missing new old))) i) q (has posting_cmp old q))
    ∙ joined_says (map Set (missing old new)) (map Del (missing new old)) q (has posting_cmp old q) (sets_ascend (missing old new) (ascends_passed posting_cmp posting_order (λ w. not (has posting_cmp old w)) new b))
    ∙ dels_say (missing new old) q (there_after (map Set (missing old new)) q (has posting_cmp old q))
    ∙ (λ i. not (lacks new old q i) && sets_say (missing old new) q (has posting_cmp old q) i)
    ∙ (λ i. not (not (has posting_cmp new q) && has posting_cmp old q) && (lacks old new q i || has posting_cmp old q))
    ∙ by (has posting_cmp new q) (has posting_cmp old q)
  where
    by : (n o : Bool) → (not (not n && o) && ((not o && n) || o)) ≡ n
    by true true = refl
    by true false = refl
    by false true = refl
    by false false = refl

pub between_leads : (old new : List Posting) → Ascends posting_cmp old → Ascends posting_cmp new → after_ops old (changes_between old new) ≡ new
between_leads old new a b =
    one_list posting_cmp posting_order (after_ops old (changes_between old new)) new (ascends_after (changes_between old new) old a) b (λ q. says_between old new q b)

-- nothing leads from a list to itself
nothing : (os : List Posting) → ((o : Posting) → has posting_cmp os o ≡ false) → os ≡ []
nothing [] f = refl
nothing (o ∷ os) f = absurd (none (is_eq (posting_cmp o o)) (has posting_cmp os o) (is_itself posting_cmp posting_order o) (f o))
  where
    none : (a b : Bool) → a ≡ true → (a || b) ≡ false → ⊥
    none true b e f = cc
    none false b e f = cc

none_missing : (os : List Posting) → missing os os ≡ []
none_missing os = nothing (missing os os) (λ o. lacks os os o ∙ never (has posting_cmp os o))
  where
    never : (b : Bool) → (not b && b) ≡ false
    never true = refl
    never false = refl

pub none_between : (os : List Posting) → changes_between os os ≡ []
none_between os = λ i. fold (with_one op_cmp) (map Del (none_missing os i)) (map Set (none_missing os i))

-- ---- what a key lists ascends

nodes_above : (n : ℕ) (ns : List ℕ) → AllByRecursion (λ m. nat_cmp n m ≡ Less) ns → AllByRecursion (λ o. posting_cmp (Uid n) o ≡ Less) (nodes ns)
nodes_above n [] a = tt
nodes_above n (m ∷ ns) a = (a.0, nodes_above n ns a.1)

nodes_ascend : (ns : List ℕ) → Ascends nat_cmp ns → Ascends posting_cmp (nodes ns)
nodes_ascend [] a = tt
nodes_ascend (n ∷ ns) a = (nodes_above n ns a.0, nodes_ascend ns a.1)

subjects_ascend : (test : Posting → Bool) (graph : List Triple) (p : List ℕ) → Ascends nat_cmp (subjects_where test graph p)
subjects_ascend test graph p = ascends_more nat_cmp nat_order [] (map (λ (t : Triple). t.s) (filter (λ t. is_of p t && test t.o) graph)) tt

if_ascends : (b : Bool) (os : List Posting) → Ascends posting_cmp os → Ascends posting_cmp (cond b os [])
if_ascends true os a = a
if_ascends false os a = tt

pub listing_ascends : (schema : List PredDef) (graph : List Triple) (key : Key) → Ascends triple_cmp graph → Ascends posting_cmp (listing schema graph key)
listing_ascends schema graph key a = by (definition_of schema (pred_of key)) key
  where
    by : (d : Option PredDef) (k : Key) → Ascends posting_cmp (listing_by d graph k)
    by None k = tt
    by (Some def) (Data p s) = objects_ascend graph p s a
    by (Some def) (Index p t) = if_ascends (has_tokenizer def t.tokenizer) (nodes (subjects_where (has_token t) graph p)) (nodes_ascend (subjects_where (has_token t) graph p) (subjects_ascend (has_token t) graph p))
    by (Some def) (Reverse p o) = if_ascends def.reverse (nodes (subjects_of graph p (Uid o))) (nodes_ascend (subjects_of graph p (Uid o)) (subjects_ascend (λ object. is_eq (posting_cmp object (Uid o))) graph p))
    by (Some def) (Count p n) =
        if_ascends (def.count && nat_le 1 n) (nodes (with_objects graph p n)) (nodes_ascend (with_objects graph p n) (ascends_passed nat_cmp nat_order (λ (s : ℕ). length (objects graph p s) == n) (subjects_where (λ o. true) graph p) (subjects_ascend (λ o. true) graph p)))
    by (Some def) (RCount p n) =
        if_ascends (def.reverse && (def.count && nat_le 1 n)) (with_subjects graph p n) (ascends_passed posting_cmp posting_order (λ (o : Posting). is_node o && (length (subjects_of graph p o) == n)) (all_objects graph p) (ascends_more posting_cmp posting_order [] (map (λ (t : Triple). t.o) (filter (is_of p) graph)) tt))
