-- Laws of graphs and changes.
use Rattle.std.proofs.Common.{◌≡◌, ℕ, Bool, true, false, cond, not, List, [], ◌∷◌, refl, ap, subst, sym, ◌∙◌}
use Rattle.std.specs.Prelude.{◌==◌, ◌&&◌, ◌||◌, filter}
use Rattle.std.specs.List.{AllByRecursion, list_any}
use Rattle.std.proofs.lemmas.Bool.{and_parts, eqb-true, eq-eqb}
use Rattle.std.specs.Ordering.{nat_cmp, ordering_then, is_eq}
use Rattle.dg_values.specs.Order.{text_cmp, posting_cmp, IsOrder}
use Rattle.dg_values.specs.Ascending.{Ascends}
use Rattle.dg_values.specs.declared.value.Posting.{Posting}
use Rattle.dg_values.proofs.OrderLaws.{posting_order}
use Rattle.dg_sets.proofs.MadeOrders.{nat_order, text_order, then_order}
use Rattle.dg_sets.proofs.Sets.{is_one, is_itself, itself, at, from_each, one_list, has_with, ascends_with, has_passed, ascends_passed, any_at, above, all_passed}
use Rattle.dg_schema.specs.declared.definition.PredDef.{PredDef}
use Rattle.dg_schema.specs.Definitions.{is_single}
use Rattle.dg_graph.specs.Graphs.{triple_cmp, is_of, is_of_subject, cleared, after_change, after_changes, fits, stands_alone, has_single_objects, IsLawful}
use Rattle.dg_graph.specs.Changes.{has_triple, is_cleared, there_after, there_after_all, Fits}
use Rattle.dg_graph.specs.Laws.{ChangesByTriple, KnownByTriples, StaysLawful}
use Rattle.dg_graph.specs.declared.change.Triple.{Triple}
use Rattle.dg_graph.specs.declared.change.Change.{Change}
use Rattle.dg_graph.specs.declared.change.Change.TheVariants.{Set, Del}

-- ---- the order of triples

-- a subject and an object
record Place : Type 0 where
  s : ℕ
  o : Posting

pub triple_order : IsOrder triple_cmp
triple_order =
    let places : IsOrder (λ (a b : Place). ordering_then (nat_cmp a.s b.s) (posting_cmp a.o b.o)) = then_order (λ (a : Place). a.s) (λ (a : Place). a.o) nat_cmp posting_cmp nat_order posting_order (λ x y p q. λ i. record { s = p i; o = q i }) in
    then_order (λ (t : Triple). t.p) (λ (t : Triple). (let r : Place = record { s = t.s; o = t.o } in r)) text_cmp (λ (a b : Place). ordering_then (nat_cmp a.s b.s) (posting_cmp a.o b.o)) text_order places (λ x y p q. λ i. record { s = (q i).s; p = p i; o = (q i).o })

pub known_by_triples : KnownByTriples
known_by_triples g h a b e = one_list triple_cmp triple_order g h a b e

-- ---- triples of a subject

pub same_subject : (p : List ℕ) (s : ℕ) (t : Triple) → is_of_subject p s t ≡ true → (t.p ≡ p) × (t.s ≡ s)
same_subject p s t e =
    let b = and_parts (is_of p t) (t.s == s) e in
    (is_one text_cmp text_order t.p p b.0, eqb-true t.s s b.1)

pub of_subject : (p : List ℕ) (s : ℕ) (t : Triple) → t.p ≡ p → t.s ≡ s → is_of_subject p s t ≡ true
of_subject p s t e f = by (is_of p t) (t.s == s) (subst (λ (q : List ℕ). is_eq (text_cmp t.p q) ≡ true) e (is_itself text_cmp text_order t.p)) (eq-eqb t.s s f)
  where
    by : (a b : Bool) → a ≡ true → b ≡ true → (a && b) ≡ true
    by true b e f = f
    by false b e f = e

pub of_own_subject : (t : Triple) → is_of_subject t.p t.s t ≡ true
of_own_subject t = of_subject t.p t.s t refl refl

pub turned_subject : (t u : Triple) → is_of_subject t.p t.s u ≡ true → is_of_subject u.p u.s t ≡ true
turned_subject t u e = let b = same_subject t.p t.s u e in of_subject u.p u.s t (sym b.0) (sym b.1)

-- ---- changes, triple by triple

cleared_triples : (schema : List PredDef) (graph : List Triple) (t u : Triple) → has_triple (cleared schema graph t) u ≡ (not (is_cleared schema t u) && has_triple graph u)
cleared_triples schema graph t u = by (is_single schema t.p)
  where
    by : (v : Bool) → has_triple (cond v (filter (λ w. not (is_of_subject t.p t.s w)) graph) graph) u ≡ (not (v && is_of_subject t.p t.s u) && has_triple graph u)
    by true = has_passed triple_cmp triple_order (λ w. not (is_of_subject t.p t.s w)) graph u
    by false = refl

pub change_by_triple : (schema : List PredDef) (graph : List Triple) (change : Change) (u : Triple) → has_triple (after_change schema graph change) u ≡ there_after schema u (has_triple graph u) change
change_by_triple schema graph (Set t) u =
    has_with triple_cmp triple_order (cleared schema graph t) t u ∙ ap (λ (b : Bool). is_eq (triple_cmp t u) || b) (cleared_triples schema graph t u)
change_by_triple schema graph (Del t) u = has_passed triple_cmp triple_order (λ w. not (is_eq (triple_cmp w t))) graph u

pub changes_by_triple : ChangesByTriple
changes_by_triple schema graph [] u = refl
changes_by_triple schema graph (c ∷ cs) u =
    changes_by_triple schema (after_change schema graph c) cs u ∙ ap (λ (b : Bool). there_after_all schema u b cs) (change_by_triple schema graph c u)

-- ---- a graph goes on ascending

cleared_ascends : (schema : List PredDef) (graph : List Triple) (t : Triple) → Ascends triple_cmp graph → Ascends triple_cmp (cleared schema graph t)
cleared_ascends schema graph t a = elim (is_single schema t.p) as (λ v. Ascends triple_cmp (cond v (filter (λ w. not (is_of_subject t.p t.s w)) graph) graph)) [ true ↦ ascends_passed triple_cmp triple_order (λ w. not (is_of_subject t.p t.s w)) graph a | false ↦ a ]

pub change_ascends : (schema : List PredDef) (graph : List Triple) (change : Change) → Ascends triple_cmp graph → Ascends triple_cmp (after_change schema graph change)
change_ascends schema graph (Set t) a = ascends_with triple_cmp triple_order (cleared schema graph t) t (cleared_ascends schema graph t a)
change_ascends schema graph (Del t) a = ascends_passed triple_cmp triple_order (λ w. not (is_eq (triple_cmp w t))) graph a

pub changes_ascend : (schema : List PredDef) (graph : List Triple) (changes : List Change) → Ascends triple_cmp graph → Ascends triple_cmp (after_changes schema graph changes)
changes_ascend schema graph [] a = a
changes_ascend schema graph (c ∷ cs) a = changes_ascend schema (after_change schema graph c) cs (change_ascends schema graph c a)

-- ---- single objects, pair by pair

pub record IsSingle (schema : List PredDef) (graph : List Triple) : Type 0 where
  pub one : (u v : Triple) → has_triple graph u ≡ true → has_triple graph v ≡ true → is_single schema u.p ≡ true → is_of_subject u.p u.s v ≡ true → u ≡ v

split_alone : (a b c : Bool) → (not (a && b) && c) ≡ true → a ≡ true → (b ≡ false) × (c ≡ true)
split_alone true true c e f = absurd (cc)
split_alone true false c e f = (refl, e)
split_alone false b c e f = absurd (cc)

rest_alone : (a c : Bool) → (a && c) ≡ true → c ≡ true
rest_alone true c e = e
rest_alone false c e = absurd (cc)

single_pairs : (schema : List PredDef) (graph : List Triple) → has_single_objects schema graph ≡ true → (u v : Triple) → has_triple graph u ≡ true → has_triple graph v ≡ true → is_single schema u.p ≡ true → is_of_subject u.p u.s v ≡ true → u ≡ v
single_pairs schema [] h u v p q s e = absurd (cc)
single_pairs schema (t ∷ graph) h u v p q s e =
    by (is_eq (triple_cmp t u)) (is_eq (triple_cmp t v)) refl refl p q (λ m n. single_pairs schema graph (rest_alone (stands_alone schema t graph) (has_single_objects schema graph) h) u v m n s e)
  where
    -- the first triple, and another of its subject further on
    clash : (w : Triple) → is_single schema t.p ≡ true → is_of_subject t.p t.s w ≡ true → has_triple graph w ≡ true → ⊥
    clash w one own m =
        let alone = split_alone (is_single schema t.p) (list_any (is_of_subject t.p t.s) graph) (has_single_objects schema graph) h one in
        let any = any_at triple_cmp triple_order (is_of_subject t.p t.s) graph w own m in
        cc

    by : (a b : Bool) → is_eq (triple_cmp t u) ≡ a → is_eq (triple_cmp t v) ≡ b → (a || has_triple graph u) ≡ true → (b || has_triple graph v) ≡ true → (has_triple graph u ≡ true → has_triple graph v ≡ true → u ≡ v) → u ≡ v
    by true true x y p q rest = sym (is_one triple_cmp triple_order t u x) ∙ is_one triple_cmp triple_order t v y
    by true false x y p q rest =
        let same : u ≡ t = sym (is_one triple_cmp triple_order t u x) in
        absurd (clash v (subst (λ (w : Triple). is_single schema w.p ≡ true) same s) (subst (λ (w : Triple). is_of_subject w.p w.s v ≡ true) same e) q)
    by false true x y p q rest =
        let same : v ≡ t = sym (is_one triple_cmp triple_order t v y) in
        let own : is_of_subject u.p u.s t ≡ true = subst (λ (w : Triple). is_of_subject u.p u.s w ≡ true) same e in
        let both = same_subject u.p u.s t own in
        absurd (clash u (subst (λ (n : List ℕ). is_single schema n ≡ true) (sym both.0) s) (turned_subject u t own) p)
    by false false x y p q rest = rest p q

pub single_from : (schema : List PredDef) (graph : List Triple) → has_single_objects schema graph ≡ true → IsSingle schema graph
single_from schema graph h = record { one = single_pairs schema graph h }

-- one that passes, where some does
pub record Found (f : Triple → Bool) (graph : List Triple) : Type 0 where
  pub t : Triple
  pub there : has_triple graph t ≡ true
  pub passes : f t ≡ true

found : (f : Triple → Bool) (graph : List Triple) → list_any f graph ≡ true → Found f graph
found f [] e = absurd (cc)
found f (t ∷ graph) e = by (f t) refl e (λ k. found f graph k)
  where
    first : (b c : Bool) → b ≡ true → (b || c) ≡ true
    first true c e = refl
    first false c e = absurd (cc)

    later : (b c : Bool) → c ≡ true → (b || c) ≡ true
    later true c e = refl
    later false c e = e

    by : (v : Bool) → f t ≡ v → (v || list_any f graph) ≡ true → (list_any f graph ≡ true → Found f graph) → Found f (t ∷ graph)
    by true p e rest = record { t = t; there = first (is_eq (triple_cmp t t)) (has_triple graph t) (is_itself triple_cmp triple_order t); passes = p }
    by false p e rest = let r = rest e in record { t = r.t; there = later (is_eq (triple_cmp t r.t)) (has_triple graph r.t) r.there; passes = r.passes }

pub single_to : (schema : List PredDef) (graph : List Triple) → Ascends triple_cmp graph → IsSingle schema graph → has_single_objects schema graph ≡ true
single_to schema [] a s = refl
single_to schema (t ∷ graph) a s =
    by (is_single schema t.p) (list_any (is_of_subject t.p t.s) graph) refl refl (single_to schema graph a.1 (record { one = λ u v p q. s.one u v (later (is_eq (triple_cmp t u)) (has_triple graph u) p) (later (is_eq (triple_cmp t v)) (has_triple graph v) q) }))
  where
    first : (b c : Bool) → b ≡ true → (b || c) ≡ true
    first true c e = refl
    first false c e = absurd (cc)

    later : (b c : Bool) → c ≡ true → (b || c) ≡ true
    later true c e = refl
    later false c e = e

    by : (x y : Bool) → is_single schema t.p ≡ x → list_any (is_of_subject t.p t.s) graph ≡ y → has_single_objects schema graph ≡ true → (not (x && y) && has_single_objects schema graph) ≡ true
    by true true e f rest =
        let r = found (is_of_subject t.p t.s) graph f in
        let same = s.one t r.t (first (is_eq (triple_cmp t t)) (has_triple graph t) (is_itself triple_cmp triple_order t)) (later (is_eq (triple_cmp t r.t)) (has_triple graph r.t) r.there) e r.passes in
        let low = above triple_cmp triple_order t r.t graph a.0 r.there in
        let tie = itself triple_cmp triple_order t in
        let up = ap (λ (w : Triple). triple_cmp t w) same in
        absurd (cc)
    by true false e f rest = rest
    by false y e f rest = rest

single_after_change : (schema : List PredDef) (graph : List Triple) (change : Change) → IsSingle schema graph → IsSingle schema (after_change schema graph change)
single_after_change schema graph (Del t) s = record { one = λ u v p q. s.one u v (was u p) (was v q) }
  where
    was : (u : Triple) → has_triple (after_change schema graph (Del t)) u ≡ true → has_triple graph u ≡ true
    was u p = rest_alone (not (is_eq (triple_cmp u t))) (has_triple graph u) (sym (change_by_triple schema graph (Del t) u) ∙ p)
single_after_change schema graph (Set t) s = record { one = λ u v p q one own. by u v (sym (change_by_triple schema graph (Set t) u) ∙ p) (sym (change_by_triple schema graph (Set t) v) ∙ q) one own }
  where
    clash : (a b c : Bool) → a ≡ true → b ≡ true → (not (a && b) && c) ≡ true → ⊥
    clash true true c e f g = cc
    clash true false c e f g = cc
    clash false b c e f g = cc

    split : (u v : Triple) (a b : Bool) → is_eq (triple_cmp t u) ≡ a → is_eq (triple_cmp t v) ≡ b → (a || (not (is_cleared schema t u) && has_triple graph u)) ≡ true → (b || (not (is_cleared schema t v) && has_triple graph v)) ≡ true → is_single schema u.p ≡ true → is_of_subject u.p u.s v ≡ true → u ≡ v
    split u v true true x y p q one own = sym (is_one triple_cmp triple_order t u x) ∙ is_one triple_cmp triple_order t v y
    split u v true false x y p q one own =
        let same : u ≡ t = sym (is_one triple_cmp triple_order t u x) in
        absurd (clash (is_single schema t.p) (is_of_subject t.p t.s v) (has_triple graph v) (subst (λ (w : Triple). is_single schema w.p ≡ true) same one) (subst (λ (w : Triple). is_of_subject w.p w.s v ≡ true) same own) q)
    split u v false true x y p q one own =
        let same : v ≡ t = sym (is_one triple_cmp triple_order t v y) in
        let mine : is_of_subject u.p u.s t ≡ true = subst (λ (w : Triple). is_of_subject u.p u.s w ≡ true) same own in
        let both = same_subject u.p u.s t mine in
        absurd (clash (is_single schema t.p) (is_of_subject t.p t.s u) (has_triple graph u) (subst (λ (n : List ℕ). is_single schema n ≡ true) (sym both.0) one) (turned_subject u t mine) p)
    split u v false false x y p q one own = s.one u v (rest_alone (not (is_cleared schema t u)) (has_triple graph u) p) (rest_alone (not (is_cleared schema t v)) (has_triple graph v) q) one own

    by : (u v : Triple) → there_after schema u (has_triple graph u) (Set t) ≡ true → there_after schema v (has_triple graph v) (Set t) ≡ true → is_single schema u.p ≡ true → is_of_subject u.p u.s v ≡ true → u ≡ v
    by u v p q one own = split u v (is_eq (triple_cmp t u)) (is_eq (triple_cmp t v)) refl refl p q one own

-- ---- a lawful graph stays lawful

fit_after_change : (schema : List PredDef) (graph : List Triple) (change : Change) → Fits schema change → AllByRecursion (λ t. fits schema t ≡ true) graph → AllByRecursion (λ t. fits schema t ≡ true) (after_change schema graph change)
fit_after_change schema graph (Del t) f a = all_passed (λ t. fits schema t ≡ true) (λ w. not (is_eq (triple_cmp w t))) graph a
fit_after_change schema graph (Set t) f a =
    from_each triple_cmp triple_order (λ w. fits schema w ≡ true) (after_change schema graph (Set t)) (λ u p. by u (is_eq (triple_cmp t u)) refl (sym (change_by_triple schema graph (Set t) u) ∙ p))
  where
    by : (u : Triple) (v : Bool) → is_eq (triple_cmp t u) ≡ v → (v || (not (is_cleared schema t u) && has_triple graph u)) ≡ true → fits schema u ≡ true
    by u true e p = subst (λ (w : Triple). fits schema w ≡ true) (is_one triple_cmp triple_order t u e) f
    by u false e p = at triple_cmp triple_order (λ w. fits schema w ≡ true) graph u a (rest_alone (not (is_cleared schema t u)) (has_triple graph u) p)

pub lawful_after : (schema : List PredDef) (graph : List Triple) (change : Change) → Fits schema change → IsLawful schema graph → IsLawful schema (after_change schema graph change)
lawful_after schema graph change f l =
    let up = change_ascends schema graph change l.ascend in
    record {
      ascend = up;
      fit = fit_after_change schema graph change f l.fit;
      single = single_to schema (after_change schema graph change) up (single_after_change schema graph change (single_from schema graph l.single));
    }

pub stays_lawful : StaysLawful
stays_lawful schema graph [] f l = l
stays_lawful schema graph (c ∷ cs) f l = stays_lawful schema (after_change schema graph c) cs f.1 (lawful_after schema graph c f.0 l)
