-- An offer over written lists is sound where tests that compute say so.
use Rattle.std.proofs.Common.{◌≡◌, ◌≢◌, ℕ, Bool, true, false, List, [], ◌∷◌, sym, subst, map, true≢false}
use Rattle.std.specs.List.{AllByRecursion}
use Rattle.std.specs.declared.cmp.Ordering.{Ordering}
use Rattle.std.specs.declared.cmp.Ordering.TheVariants.{Less}
use Rattle.dg_values.specs.Ascending.{Ascends, has, ascending}
use Rattle.dg_values.specs.Order.{IsOrder, text_cmp, posting_cmp}
use Rattle.dg_values.specs.declared.value.Posting.{Posting}
use Rattle.dg_values.proofs.OrderLaws.{posting_order}
use Rattle.dg_sets.proofs.Sets.{ascends_more}
use Rattle.dg_delta.specs.declared.op.Op.{Op}
use Rattle.dg_delta.specs.Ops.{posting_of, AreOps}
use Rattle.dg_schema.specs.declared.definition.PredDef.{PredDef}
use Rattle.dg_graph.specs.declared.change.Triple.{Triple}
use Rattle.dg_graph.specs.Graphs.{triple_cmp, fits, has_single_objects, after_changes}
use Rattle.dg_graph.proofs.GraphLaws.{triple_order}
use Rattle.dg_keys.specs.declared.conflict.ConflictKey.{ConflictKey}
use Rattle.dg_keys.specs.declared.record.Part.{Part}
use Rattle.dg_keys.specs.Keys.{pred_of, key_cmp, ops_at, AreParts}
use Rattle.dg_keys.specs.Conflicts.{conflict_cmp}
use Rattle.dg_keys.specs.KeyOrder.{key_order, conflict_order}
use Rattle.dg_zero.specs.Worlds.{changes_of}
use Rattle.dg_zero.specs.Listings.{conflict_keys, AreGainsAndLosses}
use Rattle.dg_zero.specs.Offers.{IsSound}
use Rattle.dg_zero.proofs.ListedKeys.{keys_between, gains_of, one_map, known_at_keys}

-- a list that sorting leaves as it is ascends
sorted : {X : Type 0} (cmp : X → X → Ordering) → IsOrder cmp → (xs : List X) → ascending cmp xs ≡ xs → Ascends cmp xs
sorted cmp order xs e = subst (Ascends cmp) e (ascends_more cmp order [] xs tt)

-- what is compared by a part of each ascends where these parts do
each_above : {X Y : Type 0} (f : X → Y) (cmp : Y → Y → Ordering) (x : X) (xs : List X) → AllByRecursion (λ y. cmp (f x) y ≡ Less) (map f xs) → AllByRecursion (λ y. cmp (f x) (f y) ≡ Less) xs
each_above f cmp x [] a = tt
each_above f cmp x (y ∷ ys) a = (a.0, each_above f cmp x ys a.1)

by_parts : {X Y : Type 0} (f : X → Y) (cmp : Y → Y → Ordering) (xs : List X) → Ascends cmp (map f xs) → Ascends (λ x y. cmp (f x) (f y)) xs
by_parts f cmp [] a = tt
by_parts f cmp (x ∷ xs) a = (each_above f cmp x xs a.0, by_parts f cmp xs a.1)

-- there is an operation
abbrev pub has_ops : List Op → Bool
has_ops [] = false
has_ops (op ∷ ops) = true

some_ops : (ops : List Op) → has_ops ops ≡ true → ops ≢ []
some_ops [] e = λ f. true≢false (sym e)
some_ops (op ∷ ops) e = λ f. absurd (cc)

-- the postings of a part's operations
abbrev pub postings_of : Part → List Posting
postings_of part = map posting_of part.ops

-- parts and operations ascend, and each part has one
pub record AreSorted (parts : List Part) : Type 0 where
  pub parts_ascend : ascending key_cmp (map (λ part. part.key) parts) ≡ map (λ part. part.key) parts
  pub ops_ascend : map (λ part. ascending posting_cmp (postings_of part)) parts ≡ map postings_of parts
  pub some : map (λ part. has_ops part.ops) parts ≡ map (λ part. true) parts

each_ops : (parts : List Part) → AllByRecursion (λ part. ascending posting_cmp (postings_of part) ≡ postings_of part) parts → AllByRecursion (λ part. has_ops part.ops ≡ true) parts → AllByRecursion (λ part. AreOps part.ops) parts
each_ops [] a b = tt
each_ops (part ∷ parts) a b = (record { some = some_ops part.ops b.0; ascend = by_parts posting_of posting_cmp part.ops (sorted posting_cmp posting_order (postings_of part) a.0) }, each_ops parts a.1 b.1)

are_parts : (parts : List Part) → AreSorted parts → AreParts parts
are_parts parts s = record {
  ascend = by_parts (λ (part : Part). part.key) key_cmp parts (sorted key_cmp key_order (map (λ (part : Part). part.key) parts) s.parts_ascend);
  each = each_ops parts (one_map (λ (part : Part). ascending posting_cmp (postings_of part)) postings_of parts s.ops_ascend) (one_map (λ (part : Part). has_ops part.ops) (λ part. true) parts s.some);
}

-- parts are right at the keys of both graphs and at their own
abbrev pub AreRight : List PredDef → List Triple → List PredDef → List Triple → List Part → Type 0
AreRight schema graph new_schema new_graph parts =
    map (ops_at parts) (keys_between schema graph new_schema new_graph parts) ≡ map (gains_of schema graph new_schema new_graph) (keys_between schema graph new_schema new_graph parts)

-- sorted parts that are right at those keys are right at all
pub are_gains : (schema : List PredDef) (graph : List Triple) (new_schema : List PredDef) (new_graph : List Triple) (parts : List Part) → AreSorted parts → AreRight schema graph new_schema new_graph parts → AreGainsAndLosses schema graph new_schema new_graph parts
are_gains schema graph new_schema new_graph parts s right = known_at_keys schema graph new_schema new_graph parts (are_parts parts s) right

-- what tests say of an offer that leads to a graph
pub record Passes (schema : List PredDef) (graph : List Triple) (preds : List (List ℕ)) (keys : List ConflictKey) (parts : List Part) (new_graph : List Triple) : Type 0 where
  pub leads : after_changes schema graph (changes_of parts) ≡ new_graph
  pub triples : ascending triple_cmp new_graph ≡ new_graph
  pub fit : map (fits schema) new_graph ≡ map (λ t. true) new_graph
  pub single : has_single_objects schema new_graph ≡ true
  pub right : AreRight schema graph schema new_graph parts
  pub ascend : ascending conflict_cmp keys ≡ keys
  pub keys_named : map (has conflict_cmp keys) (conflict_keys schema graph (changes_of parts)) ≡ map (λ k. true) (conflict_keys schema graph (changes_of parts))
  pub preds_named : map (λ part. has text_cmp preds (pred_of part.key)) parts ≡ map (λ part. true) parts

-- an offer that names a predicate and passes is sound
pub passes_sound : (schema : List PredDef) (graph : List Triple) (pred : List ℕ) (preds : List (List ℕ)) (keys : List ConflictKey) (parts : List Part) (new_graph : List Triple) → AreSorted parts → Passes schema graph (pred ∷ preds) keys parts new_graph → IsSound schema graph (pred ∷ preds) keys parts
passes_sound schema graph pred preds keys parts new_graph s p = record {
  some = λ e. absurd (cc);
  lawful = rw p.leads (record {
    ascend = sorted triple_cmp triple_order new_graph p.triples;
    fit = one_map (fits schema) (λ t. true) new_graph p.fit;
    single = p.single;
  });
  parts_are = rw p.leads (are_gains schema graph schema new_graph parts s p.right);
  ascend = sorted conflict_cmp conflict_order keys p.ascend;
  keys_named = one_map (has conflict_cmp keys) (λ k. true) (conflict_keys schema graph (changes_of parts)) p.keys_named;
  preds_named = one_map (λ (part : Part). has text_cmp (pred ∷ preds) (pred_of part.key)) (λ part. true) parts p.preds_named;
}
