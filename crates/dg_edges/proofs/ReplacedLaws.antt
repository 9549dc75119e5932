-- The objects that sets take the place of, and the keys of changes by them.
use Rattle.std.proofs.Common.{◌≡◌, ℕ, zero, suc, Bool, true, false, cond, not, List, [], ◌∷◌, ◌++◌, Option, Some, None, ◌+◌, ◌<◌, length, get_or, take, filter, map, flat_map, refl, ap, subst, sym, ◌∙◌, arith, append-nil, append_assoc}
use Rattle.std.specs.Prelude.{◌&&◌, ◌||◌, sum_by}
use Rattle.std.specs.List.{AllByRecursion}
use Rattle.std.specs.declared.cmp.Ordering.{Ordering}
use Rattle.std.specs.declared.cmp.Ordering.TheVariants.{Less, Equal, Greater}
use Rattle.std.specs.Ordering.{is_eq}
use Rattle.std.proofs.lemmas.List.{take_more}
use Rattle.std.proofs.lemmas.List.Sums.{fold-append}
use Rattle.std.proofs.lemmas.Grind.{flat_map-append}
use Rattle.std.proofs.lemmas.Bool.{both_ways, or_parts}
use Rattle.dg_values.specs.Ascending.{Ascends, ascending, has, placed, with_one, without_one}
use Rattle.dg_values.specs.Order.{posting_cmp}
use Rattle.dg_values.specs.declared.kind.Tokenizer.{Tokenizer}
use Rattle.dg_values.specs.declared.value.Posting.{Posting}
use Rattle.dg_sets.proofs.Sets.{is_one, is_itself, at, from_each, has_more, has_joined, ascends_more}
use Rattle.dg_schema.specs.declared.definition.PredDef.{PredDef}
use Rattle.dg_schema.specs.Definitions.{definition_of, is_single, is_single_by}
use Rattle.dg_graph.specs.declared.change.Triple.{Triple}
use Rattle.dg_graph.specs.declared.change.Change.{Change}
use Rattle.dg_graph.specs.declared.change.Change.TheVariants as changes
use Rattle.dg_graph.specs.Lookups.{tokens_of_object}
use Rattle.dg_graph.specs.Graphs.{triple_cmp, is_of_subject, objects, cleared, after_change, after_changes}
use Rattle.dg_graph.specs.Changes.{changed}
use Rattle.dg_graph.proofs.GraphLaws.{triple_order, same_subject, of_subject}
use Rattle.dg_graph.proofs.ObjectLaws.{is_triple}
use Rattle.dg_keys.specs.declared.key.Key.{Key}
use Rattle.dg_keys.specs.declared.key.Key.TheVariants as keys
use Rattle.dg_keys.specs.declared.conflict.ConflictKey.{ConflictKey}
use Rattle.dg_keys.specs.Keys.{key_cmp}
use Rattle.dg_keys.specs.KeyOrder.{key_order}
use Rattle.dg_zero.specs.Listings.{keys_of_token, keys_of_object, reverse_keys, keys_of_change, keys_of_changes}
use Rattle.dg_edges.specs.Deltas.{data_key}
use Rattle.dg_edges.specs.Lists.{objects_at, reads_at}
use Rattle.dg_edges.specs.Replaced.{is_indexed, keys_replaced, read_by, read_key, read_keys, sole_after, kept_after, counted_keys, keys_of_tokens, keys_of_data, keys_of_count, keys_with, keys_by}
use Rattle.dg_edges.proofs.ListLaws.{all_one}

-- ---- a delete, seen by one subject

-- of the subject's own triples
deleted_own : (g : List Triple) (p : List ℕ) (s : ℕ) (t : Triple) → is_of_subject p s t ≡ true → objects (without_one triple_cmp g t) p s ≡ without_one posting_cmp (objects g p s) t.o
deleted_own [] p s t own = refl
deleted_own (u ∷ g) p s t own = by (is_of_subject p s u) (is_eq (triple_cmp u t)) refl refl (deleted_own g p s t own)
  where
    alike : is_of_subject p s u ≡ true → is_eq (posting_cmp u.o t.o) ≡ is_eq (triple_cmp u t)
    alike e =
        let a = same_subject p s u e in
        let b = same_subject p s t own in
        sym (is_triple u t (a.0 ∙ sym b.0) (a.1 ∙ sym b.1))

    by : (v w : Bool) → is_of_subject p s u ≡ v → is_eq (triple_cmp u t) ≡ w → objects (without_one triple_cmp g t) p s ≡ without_one posting_cmp (objects g p s) t.o → map (λ x. x.o) (filter (is_of_subject p s) (cond (not w) (u ∷ without_one triple_cmp g t) (without_one triple_cmp g t))) ≡ without_one posting_cmp (map (λ x. x.o) (cond v (u ∷ filter (is_of_subject p s) g) (filter (is_of_subject p s) g))) t.o
    by true true e k ih = ih ∙ λ i. cond (not (sym (alike e ∙ k) i)) (u.o ∷ without_one posting_cmp (objects g p s) t.o) (without_one posting_cmp (objects g p s) t.o)
    by true false e k ih =
        (λ i. map (λ x. x.o) (cond (e i) (u ∷ filter (is_of_subject p s) (without_one triple_cmp g t)) (filter (is_of_subject p s) (without_one triple_cmp g t))))
        ∙ ((λ i. u.o ∷ ih i)
        ∙ λ i. cond (not (sym (alike e ∙ k) i)) (u.o ∷ without_one posting_cmp (objects g p s) t.o) (without_one posting_cmp (objects g p s) t.o))
    by false true e k ih = ih
    by false false e k ih =
        (λ i. map (λ x. x.o) (cond (e i) (u ∷ filter (is_of_subject p s) (without_one triple_cmp g t)) (filter (is_of_subject p s) (without_one triple_cmp g t))))
        ∙ ih

-- of others
deleted_other : (g : List Triple) (p : List ℕ) (s : ℕ) (t : Triple) → is_of_subject p s t ≡ false → objects (without_one triple_cmp g t) p s ≡ objects g p s
deleted_other [] p s t other = refl
deleted_other (u ∷ g) p s t other = by (is_eq (triple_cmp u t)) refl (deleted_other g p s t other)
  where
    by : (w : Bool) → is_eq (triple_cmp u t) ≡ w → objects (without_one triple_cmp g t) p s ≡ objects g p s → map (λ x. x.o) (filter (is_of_subject p s) (cond (not w) (u ∷ without_one triple_cmp g t) (without_one triple_cmp g t))) ≡ map (λ x. x.o) (cond (is_of_subject p s u) (u ∷ filter (is_of_subject p s) g) (filter (is_of_subject p s) g))
    by true k ih =
        let out : is_of_subject p s u ≡ false = ap (is_of_subject p s) (is_one triple_cmp triple_order u t k) ∙ other in
        ih ∙ λ i. map (λ x. x.o) (cond (sym out i) (u ∷ filter (is_of_subject p s) g) (filter (is_of_subject p s) g))
    by false k ih =
        elim (is_of_subject p s u) as (λ v. map (λ x. x.o) (cond v (u ∷ filter (is_of_subject p s) (without_one triple_cmp g t)) (filter (is_of_subject p s) (without_one triple_cmp g t))) ≡ map (λ x. x.o) (cond v (u ∷ filter (is_of_subject p s) g) (filter (is_of_subject p s) g)))
        [ true ↦ λ i. u.o ∷ ih i | false ↦ ih ]

-- ---- a set, seen by one subject

put_other : (g : List Triple) (p : List ℕ) (s : ℕ) (t : Triple) → is_of_subject p s t ≡ false → filter (is_of_subject p s) (with_one triple_cmp g t) ≡ filter (is_of_subject p s) g
put_other [] p s t other = λ i. cond (other i) (t ∷ []) []
put_other (u ∷ g) p s t other = by (triple_cmp t u) (put_other g p s t other)
  where
    by : (v : Ordering) → filter (is_of_subject p s) (with_one triple_cmp g t) ≡ filter (is_of_subject p s) g → filter (is_of_subject p s) (placed v t u g (with_one triple_cmp g t)) ≡ filter (is_of_subject p s) (u ∷ g)
    by Less ih = λ i. cond (other i) (t ∷ filter (is_of_subject p s) (u ∷ g)) (filter (is_of_subject p s) (u ∷ g))
    by Equal ih = refl
    by Greater ih = λ i. cond (is_of_subject p s u) (u ∷ ih i) (ih i)

-- what is cleared is of the triple's own subject
cleared_other : (g : List Triple) (p : List ℕ) (s : ℕ) (t : Triple) → is_of_subject p s t ≡ false → filter (is_of_subject p s) (filter (λ u. not (is_of_subject t.p t.s u)) g) ≡ filter (is_of_subject p s) g
cleared_other [] p s t other = refl
cleared_other (u ∷ g) p s t other = by (is_of_subject t.p t.s u) refl (cleared_other g p s t other)
  where
    by : (v : Bool) → is_of_subject t.p t.s u ≡ v → filter (is_of_subject p s) (filter (λ w. not (is_of_subject t.p t.s w)) g) ≡ filter (is_of_subject p s) g → filter (is_of_subject p s) (cond (not v) (u ∷ filter (λ w. not (is_of_subject t.p t.s w)) g) (filter (λ w. not (is_of_subject t.p t.s w)) g)) ≡ cond (is_of_subject p s u) (u ∷ filter (is_of_subject p s) g) (filter (is_of_subject p s) g)
    by true k ih =
        let a = same_subject t.p t.s u k in
        let out : is_of_subject p s u ≡ false = split (is_of_subject p s u) refl in
        ih ∙ λ i. cond (sym out i) (u ∷ filter (is_of_subject p s) g) (filter (is_of_subject p s) g)
      where
        split : (v : Bool) → is_of_subject p s u ≡ v → v ≡ false
        split true e =
            let b = same_subject p s u e in
            let c = same_subject t.p t.s u k in
            absurd (both_ways (is_of_subject p s t) other (of_subject p s t (sym c.0 ∙ b.0) (sym c.1 ∙ b.1)))
        split false e = refl
    by false k ih = λ i. cond (is_of_subject p s u) (u ∷ ih i) (ih i)

-- nothing of the subject is left once it is cleared
none_left : (g : List Triple) (p : List ℕ) (s : ℕ) → AllByRecursion (λ u. is_of_subject p s u ≡ false) (filter (λ u. not (is_of_subject p s u)) g)
none_left [] p s = tt
none_left (u ∷ g) p s = by (is_of_subject p s u) refl (none_left g p s)
  where
    by : (v : Bool) → is_of_subject p s u ≡ v → AllByRecursion (λ u. is_of_subject p s u ≡ false) (filter (λ u. not (is_of_subject p s u)) g) → AllByRecursion (λ u. is_of_subject p s u ≡ false) (cond (not v) (u ∷ filter (λ u. not (is_of_subject p s u)) g) (filter (λ u. not (is_of_subject p s u)) g))
    by true e ih = ih
    by false e ih = (e, ih)

none_of : (g : List Triple) (p : List ℕ) (s : ℕ) → AllByRecursion (λ u. is_of_subject p s u ≡ false) g → filter (is_of_subject p s) g ≡ []
none_of [] p s a = refl
none_of (u ∷ g) p s a = (λ i. cond (a.0 i) (u ∷ filter (is_of_subject p s) g) (filter (is_of_subject p s) g)) ∙ none_of g p s a.1

put_sole : (g : List Triple) (p : List ℕ) (s : ℕ) (t : Triple) → is_of_subject p s t ≡ true → AllByRecursion (λ u. is_of_subject p s u ≡ false) g → filter (is_of_subject p s) (with_one triple_cmp g t) ≡ t ∷ []
put_sole [] p s t own a = λ i. cond (own i) (t ∷ []) []
put_sole (u ∷ g) p s t own a = by (triple_cmp t u) refl (put_sole g p s t own a.1)
  where
    by : (v : Ordering) → triple_cmp t u ≡ v → filter (is_of_subject p s) (with_one triple_cmp g t) ≡ t ∷ [] → filter (is_of_subject p s) (placed v t u g (with_one triple_cmp g t)) ≡ t ∷ []
    by Less e ih = (λ i. cond (own i) (t ∷ filter (is_of_subject p s) (u ∷ g)) (filter (is_of_subject p s) (u ∷ g))) ∙ λ i. t ∷ none_of (u ∷ g) p s a i
    by Equal e ih =
        let same : t ≡ u = is_one triple_cmp triple_order t u (ap is_eq e) in
        absurd (both_ways (is_of_subject p s u) a.0 (sym (ap (is_of_subject p s) same) ∙ own))
    by Greater e ih = (λ i. cond (a.0 i) (u ∷ filter (is_of_subject p s) (with_one triple_cmp g t)) (filter (is_of_subject p s) (with_one triple_cmp g t))) ∙ ih

-- ---- the objects at the key of a subject that has one at most

set_own : (schema : List PredDef) (g : List Triple) (t : Triple) → is_single schema t.p ≡ true → objects (after_change schema g (changes.Set t)) t.p t.s ≡ t.o ∷ []
set_own schema g t single =
    (λ i. map (λ x. x.o) (filter (is_of_subject t.p t.s) (with_one triple_cmp (cond (single i) (filter (λ u. not (is_of_subject t.p t.s u)) g) g) t)))
    ∙ λ i. map (λ x. x.o) (put_sole (filter (λ u. not (is_of_subject t.p t.s u)) g) t.p t.s t (of_subject t.p t.s t refl refl) (none_left g t.p t.s) i)

set_other : (schema : List PredDef) (g : List Triple) (p : List ℕ) (s : ℕ) (t : Triple) → is_of_subject p s t ≡ false → objects (after_change schema g (changes.Set t)) p s ≡ objects g p s
set_other schema g p s t other =
    (λ i. map (λ x. x.o) (put_other (cleared schema g t) p s t other i))
    ∙ elim (is_single schema t.p) as (λ v. map (λ x. x.o) (filter (is_of_subject p s) (cond v (filter (λ u. not (is_of_subject t.p t.s u)) g) g)) ≡ objects g p s)
    [ true ↦ λ i. map (λ x. x.o) (cleared_other g p s t other i) | false ↦ refl ]

kept_one : (schema : List PredDef) (g : List Triple) (p : List ℕ) (s : ℕ) (c : Change) → is_single schema p ≡ true → objects (after_change schema g c) p s ≡ cond (is_of_subject p s (changed c)) (sole_after (objects g p s) c) (objects g p s)
kept_one schema g p s (changes.Set t) single = by (is_of_subject p s t) refl
  where
    by : (v : Bool) → is_of_subject p s t ≡ v → objects (after_change schema g (changes.Set t)) p s ≡ cond v (t.o ∷ []) (objects g p s)
    by true own =
        let b = same_subject p s t own in
        let one = set_own schema g t (ap (is_single schema) b.0 ∙ single) in
        subst (λ (q : List ℕ). objects (after_change schema g (changes.Set t)) q s ≡ t.o ∷ []) b.0 (subst (λ (n : ℕ). objects (after_change schema g (changes.Set t)) t.p n ≡ t.o ∷ []) b.1 one)
    by false other = set_other schema g p s t other
kept_one schema g p s (changes.Del t) single = by (is_of_subject p s t) refl
  where
    by : (v : Bool) → is_of_subject p s t ≡ v → objects (without_one triple_cmp g t) p s ≡ cond v (without_one posting_cmp (objects g p s) t.o) (objects g p s)
    by true own = deleted_own g p s t own
    by false other = deleted_other g p s t other

-- the key is of a subject that has one object at most
abbrev pub IsSole : List PredDef → Key → Type 0
IsSole schema (keys.Data p s) = is_single schema p ≡ true
IsSole schema key = ⊥

kept_at : (schema : List PredDef) (g : List Triple) (c : Change) (k : Key) → IsSole schema k → objects_at (after_change schema g c) k ≡ kept_after c k (objects_at g k)
kept_at schema g c (keys.Data p s) sole = kept_one schema g p s c sole
kept_at schema g c (keys.Index p t) sole = absurd sole
kept_at schema g c (keys.Reverse p o) sole = absurd sole
kept_at schema g c (keys.Count p n) sole = absurd sole
kept_at schema g c (keys.RCount p n) sole = absurd sole

kept_all : (schema : List PredDef) (g : List Triple) (c : Change) (ks : List Key) → AllByRecursion (IsSole schema) ks → map (λ k. kept_after c k (objects_at g k)) ks ≡ map (objects_at (after_change schema g c)) ks
kept_all schema g c [] a = refl
kept_all schema g c (k ∷ ks) a = λ i. sym (kept_at schema g c k a.0) i ∷ kept_all schema g c ks a.1 i

-- a change leaves the objects at other keys
pub kept_other : (c : Change) (k : Key) (os : List Posting) → is_eq (key_cmp k (data_key c)) ≡ false → kept_after c k os ≡ os
kept_other c (keys.Data p s) os e = by (is_of_subject p s (changed c)) refl
  where
    by : (v : Bool) → is_of_subject p s (changed c) ≡ v → cond v (sole_after os c) os ≡ os
    by true own =
        let b = same_subject p s (changed c) own in
        let one = is_itself key_cmp key_order (keys.Data p s) in
        let up : is_eq (key_cmp (keys.Data p s) (data_key c)) ≡ is_eq (key_cmp (keys.Data p s) (keys.Data p s)) = λ i. is_eq (key_cmp (keys.Data p s) (keys.Data (b.0 i) (b.1 i))) in
        absurd (both_ways (is_eq (key_cmp (keys.Data p s) (data_key c))) e (up ∙ one))
    by false own = refl
kept_other c (keys.Index p t) os e = refl
kept_other c (keys.Reverse p o) os e = refl
kept_other c (keys.Count p n) os e = refl
kept_other c (keys.RCount p n) os e = refl

-- and makes those at its own
pub kept_own : (c : Change) (os : List Posting) → sole_after os c ≡ kept_after c (data_key c) os
kept_own c os = λ i. cond (sym (of_subject (changed c).p (changed c).s (changed c) refl refl) i) (sole_after os c) os

-- a change more
pub kept_more : (schema : List PredDef) (g : List Triple) (cs : List Change) (i : ℕ) (c : Change) (ks : List Key) → AllByRecursion (IsSole schema) ks → i < length cs → get_or cs i c ≡ c → map (λ k. kept_after c k (objects_at (after_changes schema g (take i cs)) k)) ks ≡ map (objects_at (after_changes schema g (take (i + 1) cs))) ks
kept_more schema g cs i c ks a lt is =
    let more : take (i + 1) cs ≡ take i cs ++ c ∷ [] = take_more cs i c lt ∙ λ j. take i cs ++ is j ∷ [] in
    kept_all schema (after_changes schema g (take i cs)) c ks a
    ∙ ((λ j. map (objects_at (sym (fold-append (after_change schema) g (take i cs) (c ∷ [])) j)) ks)
    ∙ λ j. map (objects_at (after_changes schema g (sym more j))) ks)

-- ---- the keys of a change, by the objects of its subject

no_tokens : (tokenizers : List Tokenizer) → is_indexed tokenizers ≡ false → tokenizers ≡ []
no_tokens [] e = refl
no_tokens (t ∷ ts) e = absurd (both_ways true e refl)

no_keys : (def : PredDef) (t : Triple) (os : List Posting) → def.tokens ≡ [] → flat_map (keys_of_object def t) os ≡ []
no_keys def t [] e = refl
no_keys def t (o ∷ os) e =
    let none : keys_of_object def t o ≡ [] = ap (λ (ts : List Tokenizer). flat_map (keys_of_token def t) (flat_map (λ tokenizer. tokens_of_object tokenizer o) ts)) e in
    (λ i. none i ++ flat_map (keys_of_object def t) os) ∙ no_keys def t os e

-- objects without keys make no difference
no_difference : (def : PredDef) (t : Triple) (os : List Posting) → (is_indexed def.tokens || (def.reverse && def.count)) ≡ false → keys_with def t [] ≡ keys_with def t os
no_difference def t os e =
    let both = or_parts (is_indexed def.tokens) (def.reverse && def.count) e in
    let tokens = no_tokens def.tokens both.0 in
    let listed : flat_map (keys_of_object def t) (t.o ∷ []) ≡ flat_map (keys_of_object def t) (t.o ∷ os) = no_keys def t (t.o ∷ []) tokens ∙ sym (no_keys def t (t.o ∷ os) tokens) in
    let none : (us : List Posting) → counted_keys def t us ≡ [] = λ us. λ i. cond (both.1 i) (flat_map (reverse_keys t) us) [] in
    λ i. keys_of_data def t ∷ (listed i ++ (keys_of_count def t ++ (none (t.o ∷ []) ∙ sym (none (t.o ∷ os))) i))

pub keys_are : (d : Option PredDef) (g : List Triple) (c : Change) → keys_by d (objects g (changed c).p (changed c).s) c ≡ keys_of_change d g c
keys_are None g c = refl
keys_are (Some def) g (changes.Del t) = refl
keys_are (Some def) g (changes.Set t) = by def.list (is_indexed def.tokens || (def.reverse && def.count)) refl (objects g t.p t.s)
  where
    by : (l b : Bool) → (is_indexed def.tokens || (def.reverse && def.count)) ≡ b → (os : List Posting) → keys_with def t (cond (not l && b) os []) ≡ keys_with def t (cond l [] os)
    by true b e os = refl
    by false true e os = refl
    by false false e os = no_difference def t os e

-- a change knows the objects that it has to know
pub keys_known : (d : Option PredDef) (c : Change) (ks : List Key) (os : List Posting) → AllByRecursion (λ k. has key_cmp ks k ≡ true) (read_by d c) → keys_by d (cond (has key_cmp ks (data_key c)) os []) c ≡ keys_by d os c
keys_known None c ks os a = refl
keys_known (Some def) (changes.Del t) ks os a = refl
keys_known (Some def) (changes.Set t) ks os a = by (keys_replaced def) a
  where
    by : (v : Bool) → AllByRecursion (λ k. has key_cmp ks k ≡ true) (cond v (keys.Data t.p t.s ∷ []) []) → keys_with def t (cond v (cond (has key_cmp ks (keys.Data t.p t.s)) os []) []) ≡ keys_with def t (cond v os [])
    by true b = λ i. keys_with def t (cond (b.0 i) os [])
    by false b = refl

-- the keys of an object, tokenizer by tokenizer
pub keys_by_tokenizers : (def : PredDef) (t : Triple) (o : Posting) → flat_map (keys_of_tokens def t o) def.tokens ≡ keys_of_object def t o
keys_by_tokenizers def t o = each def.tokens
  where
    each : (ts : List Tokenizer) → flat_map (keys_of_tokens def t o) ts ≡ flat_map (keys_of_token def t) (flat_map (λ tokenizer. tokens_of_object tokenizer o) ts)
    each [] = refl
    each (tokenizer ∷ ts) = (λ i. flat_map (keys_of_token def t) (tokens_of_object tokenizer o) ++ each ts i) ∙ sym (flat_map-append (keys_of_token def t) (tokens_of_object tokenizer o) (flat_map (λ tokenizer. tokens_of_object tokenizer o) ts))

-- one tokenizer more
pub tokenizer_more : (f : Tokenizer → List ConflictKey) (ts : List Tokenizer) (i : ℕ) (t : Tokenizer) (old before after : List ConflictKey) → i < length ts → before ≡ old ++ flat_map f (take i ts) → after ≡ before ++ f (get_or ts i t) → after ≡ old ++ flat_map f (take (i + 1) ts)
tokenizer_more f ts i t old before after lt was is =
    let one : flat_map f (get_or ts i t ∷ []) ≡ f (get_or ts i t) = append-nil (f (get_or ts i t)) in
    is
    ∙ ((λ j. was j ++ sym one j)
    ∙ (append_assoc old (flat_map f (take i ts)) (flat_map f (get_or ts i t ∷ []))
    ∙ ((λ j. old ++ sym (flat_map-append f (take i ts) (get_or ts i t ∷ [])) j)
    ∙ λ j. old ++ flat_map f (sym (take_more ts i t lt) j))))

-- ---- the keys of changes in turn

in_turn : (schema : List PredDef) (g : List Triple) (cs : List Change) (c : Change) → keys_of_changes schema g (cs ++ c ∷ []) ≡ keys_of_changes schema g cs ++ keys_of_change (definition_of schema (changed c).p) (after_changes schema g cs) c
in_turn schema g [] (changes.Set t) = append-nil (keys_of_change (definition_of schema t.p) g (changes.Set t))
in_turn schema g [] (changes.Del t) = append-nil (keys_of_change (definition_of schema t.p) g (changes.Del t))
in_turn schema g (changes.Set t ∷ cs) c =
    (λ i. keys_of_change (definition_of schema t.p) g (changes.Set t) ++ in_turn schema (after_change schema g (changes.Set t)) cs c i)
    ∙ sym (append_assoc (keys_of_change (definition_of schema t.p) g (changes.Set t)) (keys_of_changes schema (after_change schema g (changes.Set t)) cs) (keys_of_change (definition_of schema (changed c).p) (after_changes schema (after_change schema g (changes.Set t)) cs) c))
in_turn schema g (changes.Del t ∷ cs) c =
    (λ i. keys_of_change (definition_of schema t.p) g (changes.Del t) ++ in_turn schema (after_change schema g (changes.Del t)) cs c i)
    ∙ sym (append_assoc (keys_of_change (definition_of schema t.p) g (changes.Del t)) (keys_of_changes schema (after_change schema g (changes.Del t)) cs) (keys_of_change (definition_of schema (changed c).p) (after_changes schema (after_change schema g (changes.Del t)) cs) c))

pub keys_more : (schema : List PredDef) (g : List Triple) (cs : List Change) (i : ℕ) (c : Change) → i < length cs → get_or cs i c ≡ c → keys_of_changes schema g (take i cs) ++ keys_by (definition_of schema (changed c).p) (objects_at (after_changes schema g (take i cs)) (data_key c)) c ≡ keys_of_changes schema g (take (i + 1) cs)
keys_more schema g cs i c lt is =
    let more : take (i + 1) cs ≡ take i cs ++ c ∷ [] = take_more cs i c lt ∙ λ j. take i cs ++ is j ∷ [] in
    (λ j. keys_of_changes schema g (take i cs) ++ keys_are (definition_of schema (changed c).p) (after_changes schema g (take i cs)) c j)
    ∙ (sym (in_turn schema g (take i cs) c) ∙ λ j. keys_of_changes schema g (sym more j))

-- ---- the subjects whose objects are read

joined : {X : Type 0} (P : X → Type 0) (xs ys : List X) → AllByRecursion P xs → AllByRecursion P ys → AllByRecursion P (xs ++ ys)
joined P [] ys a b = b
joined P (x ∷ xs) ys a b = (a.0, joined P xs ys a.1 b)

-- what holds of each subject that a change has to know holds of all that are read
all_keys : (P : Key → Type 0) (schema : List PredDef) → ((c : Change) → AllByRecursion P (read_key schema c)) → (cs : List Change) → AllByRecursion P (flat_map (read_key schema) cs)
all_keys P schema f [] = tt
all_keys P schema f (c ∷ cs) = joined P (read_key schema c) (flat_map (read_key schema) cs) (f c) (all_keys P schema f cs)

all_read_keys : (P : Key → Type 0) (schema : List PredDef) → ((c : Change) → AllByRecursion P (read_key schema c)) → (cs : List Change) → AllByRecursion P (read_keys schema cs)
all_read_keys P schema f cs =
    from_each key_cmp key_order P (read_keys schema cs)
    (λ key h. at key_cmp key_order P (flat_map (read_key schema) cs) key (all_keys P schema f cs) (sym (has_more key_cmp key_order [] (flat_map (read_key schema) cs) key) ∙ h))

pub read_keys_ascend : (schema : List PredDef) (cs : List Change) → Ascends key_cmp (read_keys schema cs)
read_keys_ascend schema cs = ascends_more key_cmp key_order [] (flat_map (read_key schema) cs) tt

-- each is of a subject that has one object at most
pub sole_keys : (schema : List PredDef) (cs : List Change) → AllByRecursion (IsSole schema) (read_keys schema cs)
sole_keys schema cs = all_read_keys (IsSole schema) schema (λ c. one (definition_of schema (changed c).p) c refl) cs
  where
    one : (d : Option PredDef) (c : Change) → definition_of schema (changed c).p ≡ d → AllByRecursion (IsSole schema) (read_by d c)
    one None c e = tt
    one (Some def) (changes.Del t) e = tt
    one (Some def) (changes.Set t) e = by def.list (is_indexed def.tokens || (def.reverse && def.count)) refl
      where
        by : (l b : Bool) → def.list ≡ l → AllByRecursion (IsSole schema) (cond (not l && b) (keys.Data t.p t.s ∷ []) [])
        by true b k = tt
        by false true k = (ap is_single_by e ∙ ap not k, tt)
        by false false k = tt

-- each is one list
pub reads_are : (schema : List PredDef) (cs : List Change) → sum_by reads_at (read_keys schema cs) ≡ length (read_keys schema cs)
reads_are schema cs = all_one (read_keys schema cs) (all_read_keys (λ k. reads_at k ≡ 1) schema (λ c. one (definition_of schema (changed c).p) c) cs)
  where
    one : (d : Option PredDef) (c : Change) → AllByRecursion (λ k. reads_at k ≡ 1) (read_by d c)
    one None c = tt
    one (Some def) (changes.Del t) = tt
    one (Some def) (changes.Set t) = elim (keys_replaced def) as (λ v. AllByRecursion (λ k. reads_at k ≡ 1) (cond v (keys.Data t.p t.s ∷ []) [])) [ true ↦ (refl, tt) | false ↦ tt ]

-- each that a change has to know is among them
pub read_keys_there : (schema : List PredDef) (cs : List Change) (i : ℕ) (c : Change) → i < length cs → get_or cs i c ≡ c → AllByRecursion (λ k. has key_cmp (read_keys schema cs) k ≡ true) (read_key schema c)
read_keys_there schema cs i c lt is =
    from_each key_cmp key_order (λ k. has key_cmp (read_keys schema cs) k ≡ true) (read_key schema c)
    (λ k h. has_more key_cmp key_order [] (flat_map (read_key schema) cs) k ∙ found cs i lt is k h)
  where
    first : (xs ys : List Key) (k : Key) → has key_cmp xs k ≡ true → has key_cmp (xs ++ ys) k ≡ true
    first xs ys k h = has_joined key_cmp key_order xs ys k ∙ λ i. h i || has key_cmp ys k

    later : (xs ys : List Key) (k : Key) → has key_cmp ys k ≡ true → has key_cmp (xs ++ ys) k ≡ true
    later xs ys k h = has_joined key_cmp key_order xs ys k ∙ by (has key_cmp xs k) (has key_cmp ys k) h
      where
        by : (a b : Bool) → b ≡ true → (a || b) ≡ true
        by true b e = refl
        by false b e = e

    found : (ds : List Change) (j : ℕ) → j < length ds → get_or ds j c ≡ c → (k : Key) → has key_cmp (read_key schema c) k ≡ true → has key_cmp (flat_map (read_key schema) ds) k ≡ true
    found [] j lt is k h = absurd (omega arith)
    found (d ∷ ds) zero lt is k h = first (read_key schema d) (flat_map (read_key schema) ds) k (ap (λ (e : Change). has key_cmp (read_key schema e) k) is ∙ h)
    found (d ∷ ds) (suc j) lt is k h = later (read_key schema d) (flat_map (read_key schema) ds) k (found ds j (omega arith) is k h)
