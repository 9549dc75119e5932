-- Changes conflict by each key of each triple that they change.
use Rattle.std.proofs.Common.{◌≡◌, ℕ, Bool, true, false, cond, not, List, [], ◌∷◌, ◌++◌, Option, Some, None, refl, ap, subst, sym, ◌∙◌, flat_map, inl, inr}
use Rattle.std.specs.Prelude.{◌&&◌, ◌||◌}
use mathlib.Core.Logic.{◌⊎◌}
use Rattle.std.specs.List.{AllByRecursion}
use Rattle.std.specs.Ordering.{is_eq}
use Rattle.dg_values.specs.Ascending.{has}
use Rattle.dg_values.specs.Order.{posting_cmp, tokenizer_cmp}
use Rattle.dg_values.specs.declared.value.Posting.{Posting}
use Rattle.dg_values.specs.declared.value.Posting.TheVariants.{Uid}
use Rattle.dg_values.proofs.OrderLaws.{posting_order}
use Rattle.dg_sets.proofs.Sets.{is_one, is_itself, at, from_each, has_more}
use Rattle.dg_schema.specs.declared.definition.PredDef.{PredDef}
use Rattle.dg_schema.specs.Definitions.{definition_of, is_single, is_single_by}
use Rattle.dg_tokens.specs.declared.tokens.IndexToken.{IndexToken}
use Rattle.dg_tokens.specs.Orders.{index_token_cmp}
use Rattle.dg_tokens.proofs.TokenOrder.{tokenizer_order, index_token_order}
use Rattle.dg_graph.specs.declared.change.Triple.{Triple}
use Rattle.dg_graph.specs.declared.change.Change.{Change}
use Rattle.dg_graph.specs.declared.change.Change.TheVariants.{Set, Del}
use Rattle.dg_graph.specs.Graphs.{triple_cmp, is_of_subject, objects, after_change, after_changes}
use Rattle.dg_graph.specs.Changes.{has_triple, changed}
use Rattle.dg_graph.specs.Lookups.{tokens_of_object, has_token, has_tokenizer}
use Rattle.dg_graph.proofs.GraphLaws.{triple_order, same_subject, change_by_triple}
use Rattle.dg_graph.proofs.ObjectLaws.{objects_are}
use Rattle.dg_keys.specs.declared.conflict.ConflictKey.{ConflictKey}
use Rattle.dg_keys.specs.declared.conflict.ConflictKey.TheVariants as conflicts
use Rattle.dg_keys.specs.Conflicts.{conflict_cmp}
use Rattle.dg_keys.specs.KeyOrder.{conflict_order}
use Rattle.dg_zero.specs.Listings.{touched, keys_of_token, keys_of_object, reverse_keys, keys_of_change, keys_of_changes, conflict_keys}
use Rattle.dg_edges.specs.Deltas.{data_conflict}
use Rattle.dg_edges.specs.Regions.{triple_keys, IsIn}
use Rattle.dg_edges.specs.Laws.{ChangesAreNamed}
use Rattle.dg_edges.proofs.AgreeLaws.{same_bools}
use Rattle.dg_edges.proofs.AnyKeys.{front, behind, data_key, later_keys}
use Rattle.dg_edges.proofs.PartLaws.{all_joined}

-- ---- what holds of joined lists holds of each

each_of : {X Y : Type 0} (Q : Y → Type 0) (f : X → List Y) (xs : List X) → AllByRecursion Q (flat_map f xs) → AllByRecursion (λ x. AllByRecursion Q (f x)) xs
each_of Q f [] a = tt
each_of Q f (x ∷ xs) a = (front Q (f x) (flat_map f xs) a, each_of Q f xs (behind Q (f x) (flat_map f xs) a))

one_of : {X Y : Type 0} (Q : Y → Type 0) (f : X → List Y) (x : X) → AllByRecursion Q (f x) → AllByRecursion Q (flat_map f (x ∷ []))
one_of Q f x a = all_joined Q (f x) [] a tt

-- of one object among those that are touched
among : (P : ConflictKey → Type 0) (f : Posting → List ConflictKey) (os : List Posting) (o : Posting) → has posting_cmp os o ≡ true → AllByRecursion P (flat_map f os) → AllByRecursion P (flat_map f (o ∷ []))
among P f os o h a = one_of P f o (at posting_cmp posting_order (λ x. AllByRecursion P (f x)) os o (each_of P f os a) h)

-- ---- one change

module _ (P : ConflictKey → Type 0) where
  -- a set conflicts by the keys of each triple whose object it touches
  touched_keys : (def : PredDef) (graph : List Triple) (t : Triple) (o : Posting) → has posting_cmp (touched def graph (Set t)) o ≡ true → P (conflicts.Data t.p t.s (cond def.list (Some o) None)) → AllByRecursion P (keys_of_change (Some def) graph (Set t)) → AllByRecursion P (keys_of_change (Some def) [] (Del (record { s = t.s; p = t.p; o = o })))
  touched_keys def graph t o h own_key a =
      let os : List Posting = touched def graph (Set t) in
      let tokens : List ConflictKey = flat_map (keys_of_object def t) os in
      let counts : List ConflictKey = cond def.count (conflicts.Count t.p t.s ∷ []) [] in
      let nodes : List ConflictKey = cond (def.reverse && def.count) (flat_map (reverse_keys t) os) [] in
      let rest : AllByRecursion P (counts ++ nodes) = behind P tokens (counts ++ nodes) a.1 in (
        own_key,
        all_joined P (flat_map (keys_of_object def t) (o ∷ [])) (counts ++ cond (def.reverse && def.count) (flat_map (reverse_keys t) (o ∷ [])) [])
            (among P (keys_of_object def t) os o h (front P tokens (counts ++ nodes) a.1))
            (all_joined P counts (cond (def.reverse && def.count) (flat_map (reverse_keys t) (o ∷ [])) []) (front P counts nodes rest) (by (def.reverse && def.count) (behind P counts nodes rest))),
      )
    where
      by : (v : Bool) → AllByRecursion P (cond v (flat_map (reverse_keys t) (touched def graph (Set t))) []) → AllByRecursion P (cond v (flat_map (reverse_keys t) (o ∷ [])) [])
      by true b = among P (reverse_keys t) (touched def graph (Set t)) o h b
      by false b = tt

  -- its own triple
  set_keys : (d : Option PredDef) (graph : List Triple) (t : Triple) → AllByRecursion P (keys_of_change d graph (Set t)) → AllByRecursion P (keys_of_change d [] (Del t))
  set_keys None graph t a = tt
  set_keys (Some def) graph t a = touched_keys def graph t t.o (rw (is_itself posting_cmp posting_order t.o) refl) a.0 a

  -- a triple that it takes the place of
  cleared_keys : (d : Option PredDef) (graph : List Triple) (t : Triple) (o : Posting) → is_single_by d ≡ true → has_triple graph (record { s = t.s; p = t.p; o = o }) ≡ true → AllByRecursion P (keys_of_change d graph (Set t)) → AllByRecursion P (keys_of_change d [] (Del (record { s = t.s; p = t.p; o = o })))
  cleared_keys None graph t o one there a = absurd (cc)
  cleared_keys (Some def) graph t o one there a =
      let single : def.list ≡ false = unlisted def.list one in
      let found : has posting_cmp (cond def.list [] (objects graph t.p t.s)) o ≡ true = (λ i. has posting_cmp (cond (single i) [] (objects graph t.p t.s)) o) ∙ (objects_are graph t.p t.s o ∙ there) in
      touched_keys def graph t o (later (is_eq (posting_cmp t.o o)) (has posting_cmp (cond def.list [] (objects graph t.p t.s)) o) found) (same_data def.list single a.0) a
    where
      unlisted : (v : Bool) → not v ≡ true → v ≡ false
      unlisted true e = absurd (cc)
      unlisted false e = refl

      later : (b c : Bool) → c ≡ true → (b || c) ≡ true
      later true c e = refl
      later false c e = e

      same_data : (v : Bool) → v ≡ false → P (conflicts.Data t.p t.s (cond v (Some t.o) None)) → P (conflicts.Data t.p t.s (cond v (Some o) None))
      same_data true e b = absurd (cc)
      same_data false e b = b

  deleted_keys : (d : Option PredDef) (graph : List Triple) (t : Triple) → AllByRecursion P (keys_of_change d graph (Del t)) → AllByRecursion P (keys_of_change d [] (Del t))
  deleted_keys None graph t a = tt
  deleted_keys (Some def) graph t a = a

  -- a triple that one change changes
  one_change : (schema : List PredDef) (graph : List Triple) (c : Change) (u : Triple) → (has_triple graph u ≡ has_triple (after_change schema graph c) u → ⊥) → AllByRecursion P (keys_of_change (definition_of schema (changed c).p) graph c) → AllByRecursion P (triple_keys schema u)
  one_change schema graph (Del t) u differs a = by (is_eq (triple_cmp u t)) refl
    where
      by : (v : Bool) → is_eq (triple_cmp u t) ≡ v → AllByRecursion P (triple_keys schema u)
      by true e = subst (λ (w : Triple). AllByRecursion P (triple_keys schema w)) (sym (is_one triple_cmp triple_order u t e)) (deleted_keys (definition_of schema t.p) graph t a)
      by false e = absurd (differs (sym (change_by_triple schema graph (Del t) u ∙ λ i. not (e i) && has_triple graph u)))
  one_change schema graph (Set t) u differs a = by (is_eq (triple_cmp t u)) (is_single schema t.p) (is_of_subject t.p t.s u) refl refl refl
    where
      was_there : (v : Bool) → has_triple graph u ≡ v → has_triple (after_change schema graph (Set t)) u ≡ false → v ≡ true
      was_there true e f = refl
      was_there false e f = absurd (differs (e ∙ sym f))

      by : (b c d : Bool) → is_eq (triple_cmp t u) ≡ b → is_single schema t.p ≡ c → is_of_subject t.p t.s u ≡ d → AllByRecursion P (triple_keys schema u)
      by true c d x y z = subst (λ (w : Triple). AllByRecursion P (triple_keys schema w)) (is_one triple_cmp triple_order t u x) (set_keys (definition_of schema t.p) graph t a)
      by false true true x y z =
          let both = same_subject t.p t.s u z in
          let w : Triple = record { s = t.s; p = t.p; o = u.o } in
          let same : w ≡ u = λ i. record { s = sym both.1 i; p = sym both.0 i; o = u.o } in
          let gone : has_triple (after_change schema graph (Set t)) u ≡ false = change_by_triple schema graph (Set t) u ∙ λ i. x i || (not (y i && z i) && has_triple graph u) in
          let there : has_triple graph w ≡ true = ap (has_triple graph) same ∙ was_there (has_triple graph u) refl gone in
          subst (λ (v : Triple). AllByRecursion P (triple_keys schema v)) same (cleared_keys (definition_of schema t.p) graph t u.o y there a)
      by false true false x y z = absurd (differs (sym (change_by_triple schema graph (Set t) u ∙ λ i. x i || (not (y i && z i) && has_triple graph u))))
      by false false d x y z = absurd (differs (sym (change_by_triple schema graph (Set t) u ∙ λ i. x i || (not (y i && is_of_subject t.p t.s u) && has_triple graph u))))

  -- the keys of the first of changes
  first_keys : (schema : List PredDef) (graph : List Triple) (c : Change) (cs : List Change) → AllByRecursion P (keys_of_changes schema graph (c ∷ cs)) → AllByRecursion P (keys_of_change (definition_of schema (changed c).p) graph c)
  first_keys schema graph (Set t) cs a = front P (keys_of_change (definition_of schema t.p) graph (Set t)) (keys_of_changes schema (after_change schema graph (Set t)) cs) a
  first_keys schema graph (Del t) cs a = front P (keys_of_change (definition_of schema t.p) graph (Del t)) (keys_of_changes schema (after_change schema graph (Del t)) cs) a

-- ---- changes in turn

-- what holds of all keys of changes holds of those of each triple that they change
pub changed_keys : (P : ConflictKey → Type 0) (schema : List PredDef) (graph : List Triple) (cs : List Change) (u : Triple) → (has_triple graph u ≡ has_triple (after_changes schema graph cs) u → ⊥) → AllByRecursion P (keys_of_changes schema graph cs) → AllByRecursion P (triple_keys schema u)
changed_keys P schema graph [] u differs a = absurd (differs refl)
changed_keys P schema graph (c ∷ cs) u differs a =
    by (same_bools (has_triple graph u) (has_triple (after_change schema graph c) u)) (λ f. changed_keys P schema (after_change schema graph c) cs u f (later_keys P schema graph c cs a))
  where
    by : (has_triple graph u ≡ has_triple (after_change schema graph c) u) ⊎ (has_triple graph u ≡ has_triple (after_change schema graph c) u → ⊥) → ((has_triple (after_change schema graph c) u ≡ has_triple (after_changes schema (after_change schema graph c) cs) u → ⊥) → AllByRecursion P (triple_keys schema u)) → AllByRecursion P (triple_keys schema u)
    by (inl e) rest = rest (λ f. differs (e ∙ f))
    by (inr ne) rest = one_change P schema graph c u ne (first_keys P schema graph c cs a)

pub changes_are_named : ChangesAreNamed
changes_are_named schema graph cs u differs =
    changed_keys (λ k. has conflict_cmp (conflict_keys schema graph cs) k ≡ true) schema graph cs u differs
    (from_each conflict_cmp conflict_order (λ k. has conflict_cmp (conflict_keys schema graph cs) k ≡ true) (keys_of_changes schema graph cs) (λ k there. has_more conflict_cmp conflict_order [] (keys_of_changes schema graph cs) k ∙ there))

-- ---- the keys of a triple of a declared predicate

module _ (schema : List PredDef) (u : Triple) (def : PredDef) (e : definition_of schema u.p ≡ Some def) where
  -- each is one of them
  own : AllByRecursion (λ k. IsIn schema k u) (keys_of_change (Some def) [] (Del u))
  own = subst (λ (d : Option PredDef). AllByRecursion (λ k. IsIn schema k u) (keys_of_change d [] (Del u))) e (from_each conflict_cmp conflict_order (λ k. IsIn schema k u) (triple_keys schema u) (λ k h. h))

  abbrev tokens : List ConflictKey
  tokens = flat_map (keys_of_object def u) (u.o ∷ [])

  abbrev counts : List ConflictKey
  counts = cond def.count (conflicts.Count u.p u.s ∷ []) []

  abbrev nodes : List ConflictKey
  nodes = cond (def.reverse && def.count) (flat_map (reverse_keys u) (u.o ∷ [])) []

  after_tokens : AllByRecursion (λ k. IsIn schema k u) (counts ++ nodes)
  after_tokens = behind (λ k. IsIn schema k u) tokens (counts ++ nodes) own.1

  -- of its data
  pub data_in : IsIn schema (data_conflict schema u) u
  data_in = data_key (λ k. IsIn schema k u) schema [] (Del u) def e own

  -- of its subject, by each token of its object
  pub token_in : (token : IndexToken) → has_tokenizer def token.tokenizer ≡ true → has_token token u.o ≡ true → IsIn schema (conflicts.Index u.p token (Some u.s)) u
  token_in token indexed found =
      let all = each_of (λ k. IsIn schema k u) (keys_of_object def u) (u.o ∷ []) (front (λ k. IsIn schema k u) tokens (counts ++ nodes) own.1) in
      let each = each_of (λ k. IsIn schema k u) (keys_of_token def u) (flat_map (λ tokenizer. tokens_of_object tokenizer u.o) def.tokens) all.0 in
      let by_tokenizer = each_of (λ t. AllByRecursion (λ k. IsIn schema k u) (keys_of_token def u t)) (λ tokenizer. tokens_of_object tokenizer u.o) def.tokens each in
      let its = at tokenizer_cmp tokenizer_order (λ tokenizer. AllByRecursion (λ t. AllByRecursion (λ k. IsIn schema k u) (keys_of_token def u t)) (tokens_of_object tokenizer u.o)) def.tokens token.tokenizer by_tokenizer indexed in
      (at index_token_cmp index_token_order (λ t. AllByRecursion (λ k. IsIn schema k u) (keys_of_token def u t)) (tokens_of_object token.tokenizer u.o) token its found).0

  -- of the number of its subject's objects
  pub count_in : def.count ≡ true → IsIn schema (conflicts.Count u.p u.s) u
  count_in counted = (subst (λ (b : Bool). AllByRecursion (λ k. IsIn schema k u) (cond b (conflicts.Count u.p u.s ∷ []) [])) counted (front (λ k. IsIn schema k u) counts nodes after_tokens)).0

  -- of the number of its object's subjects
  pub rcount_in : (o : ℕ) → u.o ≡ Uid o → def.reverse ≡ true → def.count ≡ true → IsIn schema (conflicts.RCount u.p o) u
  rcount_in o is reversed counted =
      let all = subst (λ (b : Bool). AllByRecursion (λ k. IsIn schema k u) (cond b (flat_map (reverse_keys u) (u.o ∷ [])) [])) (λ i. reversed i && counted i) (behind (λ k. IsIn schema k u) counts nodes after_tokens) in
      (subst (λ (object : Posting). AllByRecursion (λ k. IsIn schema k u) (flat_map (reverse_keys u) (object ∷ []))) is all).0
