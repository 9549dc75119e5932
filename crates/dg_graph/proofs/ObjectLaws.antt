-- What a graph lists for a subject and for an object.
use Rattle.std.proofs.Common.{◌≡◌, ℕ, Bool, true, false, cond, not, List, [], ◌∷◌, fold, map, refl, ap, subst, sym, ◌∙◌}
use Rattle.std.specs.Prelude.{◌&&◌, ◌||◌, filter}
use Rattle.std.specs.List.{AllByRecursion}
use Rattle.std.specs.declared.cmp.Ordering.{Ordering}
use Rattle.std.specs.declared.cmp.Ordering.TheVariants.{Less, Equal, Greater}
use Rattle.std.specs.Ordering.{nat_cmp, ordering_then, is_eq}
use Rattle.dg_values.specs.Order.{text_cmp, posting_cmp}
use Rattle.dg_values.specs.Ascending.{Ascends, has, with_one}
use Rattle.dg_values.specs.declared.value.Posting.{Posting}
use Rattle.dg_values.proofs.OrderLaws.{posting_order}
use Rattle.dg_sets.proofs.MadeOrders.{nat_order, text_order}
use Rattle.dg_sets.proofs.Sets.{is_one, itself, eq_turn, one_list, has_with, ascends_with, has_passed, ascends_passed, has_more, ascends_more}
use Rattle.dg_schema.specs.declared.definition.PredDef.{PredDef}
use Rattle.dg_schema.specs.Definitions.{is_single}
use Rattle.dg_graph.specs.Graphs.{triple_cmp, is_of, is_of_subject, objects, after_change}
use Rattle.dg_graph.specs.Changes.{has_triple, there_after, own_objects_after, changed, objects_after}
use Rattle.dg_graph.specs.Laws.{ObjectsAre, SubjectsAre, ObjectsAscend, SubjectsAscend, ObjectsAfter}
use Rattle.dg_graph.proofs.GraphLaws.{triple_order, same_subject, of_subject, change_by_triple, change_ascends}
use Rattle.dg_graph.specs.declared.change.Triple.{Triple}
use Rattle.dg_graph.specs.declared.change.Change.{Change}
use Rattle.dg_graph.specs.declared.change.Change.TheVariants.{Set, Del}

triple : List ℕ → ℕ → Posting → Triple
triple p s o = record { s = s; p = p; o = o }

-- a triple is one with another where subject and object are
pub is_triple : (t u : Triple) → t.p ≡ u.p → t.s ≡ u.s → is_eq (triple_cmp t u) ≡ is_eq (posting_cmp t.o u.o)
is_triple t u e f =
    let a : text_cmp t.p u.p ≡ Equal = subst (λ (q : List ℕ). text_cmp t.p q ≡ Equal) e (itself text_cmp text_order t.p) in
    let b : nat_cmp t.s u.s ≡ Equal = subst (λ (n : ℕ). nat_cmp t.s n ≡ Equal) f (itself nat_cmp nat_order t.s) in
    λ i. is_eq (ordering_then (a i) (ordering_then (b i) (posting_cmp t.o u.o)))

-- a triple of another subject is another
pub is_other : (t u : Triple) → is_of_subject u.p u.s t ≡ false → is_eq (triple_cmp t u) ≡ false
is_other t u e = by (is_eq (triple_cmp t u)) refl
  where
    by : (v : Bool) → is_eq (triple_cmp t u) ≡ v → v ≡ false
    by true p =
        let same = is_one triple_cmp triple_order t u p in
        let own = of_subject u.p u.s t (ap (λ (w : Triple). w.p) same) (ap (λ (w : Triple). w.s) same) in
        cc
    by false p = refl

-- ---- objects

pub objects_are : ObjectsAre
objects_are [] p s o = refl
objects_are (t ∷ graph) p s o = by (is_of_subject p s t) refl (objects_are graph p s o)
  where
    by : (v : Bool) → is_of_subject p s t ≡ v → has posting_cmp (objects graph p s) o ≡ has_triple graph (record { s = s; p = p; o = o }) → has posting_cmp (map (λ w. w.o) (cond v (t ∷ filter (is_of_subject p s) graph) (filter (is_of_subject p s) graph))) o ≡ (is_eq (triple_cmp t (record { s = s; p = p; o = o })) || has_triple graph (record { s = s; p = p; o = o }))
    by true e rest =
        let both = same_subject p s t e in
        let one : is_eq (triple_cmp t (record { s = s; p = p; o = o })) ≡ is_eq (posting_cmp t.o o) = is_triple t (record { s = s; p = p; o = o }) both.0 both.1 in
        λ i. sym one i || rest i
    by false e rest =
        let none : is_eq (triple_cmp t (record { s = s; p = p; o = o })) ≡ false = is_other t (record { s = s; p = p; o = o }) e in
        rest ∙ λ i. sym none i || has_triple graph (record { s = s; p = p; o = o })

pub objects_ascend : ObjectsAscend
objects_ascend [] p s a = tt
objects_ascend (t ∷ graph) p s a = by (is_of_subject p s t) refl (objects_ascend graph p s a.1)
  where
    rise : (x y z : Ordering) → x ≡ Equal → y ≡ Equal → ordering_then x (ordering_then y z) ≡ Less → z ≡ Less
    rise Equal Equal z e f g = g
    rise Equal Less z e f g = absurd (cc)
    rise Equal Greater z e f g = absurd (cc)
    rise Less y z e f g = absurd (cc)
    rise Greater y z e f g = absurd (cc)

    each : (us : List Triple) → is_of_subject p s t ≡ true → AllByRecursion (λ u. triple_cmp t u ≡ Less) us → AllByRecursion (λ o. posting_cmp t.o o ≡ Less) (objects us p s)
    each [] e b = tt
    each (u ∷ us) e b = split (is_of_subject p s u) refl (each us e b.1)
      where
        split : (v : Bool) → is_of_subject p s u ≡ v → AllByRecursion (λ o. posting_cmp t.o o ≡ Less) (objects us p s) → AllByRecursion (λ o. posting_cmp t.o o ≡ Less) (map (λ w. w.o) (cond v (u ∷ filter (is_of_subject p s) us) (filter (is_of_subject p s) us)))
        split true f rest =
            let x = same_subject p s t e in
            let y = same_subject p s u f in
            let k : text_cmp t.p u.p ≡ Equal = subst (λ (q : List ℕ). text_cmp t.p q ≡ Equal) (x.0 ∙ sym y.0) (itself text_cmp text_order t.p) in
            let l : nat_cmp t.s u.s ≡ Equal = subst (λ (n : ℕ). nat_cmp t.s n ≡ Equal) (x.1 ∙ sym y.1) (itself nat_cmp nat_order t.s) in
            (rise (text_cmp t.p u.p) (nat_cmp t.s u.s) (posting_cmp t.o u.o) k l b.0, rest)
        split false f rest = rest

    by : (v : Bool) → is_of_subject p s t ≡ v → Ascends posting_cmp (objects graph p s) → Ascends posting_cmp (map (λ w. w.o) (cond v (t ∷ filter (is_of_subject p s) graph) (filter (is_of_subject p s) graph)))
    by true e rest = (each graph e a.0, rest)
    by false e rest = rest

-- ---- objects after a change

pub own_ascends : (schema : List PredDef) (os : List Posting) (change : Change) → Ascends posting_cmp os → Ascends posting_cmp (own_objects_after schema os change)
own_ascends schema os (Set t) a = elim (is_single schema t.p) as (λ v. Ascends posting_cmp (cond v (t.o ∷ []) (with_one posting_cmp os t.o))) [ true ↦ (tt, tt) | false ↦ ascends_with posting_cmp posting_order os t.o a ]
own_ascends schema os (Del t) a = ascends_passed posting_cmp posting_order (λ w. not (is_eq (posting_cmp w t.o))) os a

pub after_ascends : (schema : List PredDef) (p : List ℕ) (s : ℕ) (os : List Posting) (change : Change) → Ascends posting_cmp os → Ascends posting_cmp (objects_after schema p s os change)
after_ascends schema p s os change a = elim (is_of_subject p s (changed change)) as (λ v. Ascends posting_cmp (cond v (own_objects_after schema os change) os)) [ true ↦ own_ascends schema os change a | false ↦ a ]

-- a change of another subject leaves a triple
untouched : (schema : List PredDef) (u : Triple) (there : Bool) (change : Change) → is_of_subject u.p u.s (changed change) ≡ false → there_after schema u there change ≡ there
untouched schema u there (Set t) e = by (is_eq (triple_cmp t u)) (is_single schema t.p) (is_of_subject t.p t.s u) (is_other t u e) refl
  where
    by : (a b c : Bool) → a ≡ false → is_of_subject t.p t.s u ≡ c → (a || (not (b && c) && there)) ≡ there
    by true b c x y = absurd (cc)
    by false true true x y =
        let both = same_subject t.p t.s u y in
        let own = of_subject u.p u.s t (sym both.0) (sym both.1) in
        absurd (cc)
    by false true false x y = refl
    by false false c x y = refl
untouched schema u there (Del t) e = by (is_eq (triple_cmp u t)) (eq_turn triple_cmp triple_order u t ∙ is_other t u e)
  where
    by : (a : Bool) → a ≡ false → (not a && there) ≡ there
    by true x = absurd (cc)
    by false x = refl

-- a change of the subject itself
own_touched : (schema : List PredDef) (os : List Posting) (u : Triple) (change : Change) → is_of_subject u.p u.s (changed change) ≡ true → has posting_cmp (own_objects_after schema os change) u.o ≡ there_after schema u (has posting_cmp os u.o) change
own_touched schema os u (Set t) e =
    let both = same_subject u.p u.s t e in
    let own = of_subject t.p t.s u (sym both.0) (sym both.1) in
    by (is_single schema t.p) (is_of_subject t.p t.s u) own (sym (is_triple t u both.0 both.1))
  where
    by : (v w : Bool) → w ≡ true → is_eq (posting_cmp t.o u.o) ≡ is_eq (triple_cmp t u) → has posting_cmp (cond v (t.o ∷ []) (with_one posting_cmp os t.o)) u.o ≡ (is_eq (triple_cmp t u) || (not (v && w) && has posting_cmp os u.o))
    by true true x y = λ i. y i || false
    by true false x y = absurd (cc)
    by false w x y = has_with posting_cmp posting_order os t.o u.o ∙ λ i. y i || has posting_cmp os u.o
own_touched schema os u (Del t) e =
    let both = same_subject u.p u.s t e in
    let one = is_triple u t (sym both.0) (sym both.1) in
    has_passed posting_cmp posting_order (λ w. not (is_eq (posting_cmp w t.o))) os u.o ∙ λ i. not (sym one i) && has posting_cmp os u.o

touched : (schema : List PredDef) (os : List Posting) (p : List ℕ) (s : ℕ) (o : Posting) (change : Change) → has posting_cmp (objects_after schema p s os change) o ≡ there_after schema (record { s = s; p = p; o = o }) (has posting_cmp os o) change
touched schema os p s o change = by (is_of_subject p s (changed change)) refl
  where
    by : (v : Bool) → is_of_subject p s (changed change) ≡ v → has posting_cmp (cond v (own_objects_after schema os change) os) o ≡ there_after schema (record { s = s; p = p; o = o }) (has posting_cmp os o) change
    by true e = own_touched schema os (record { s = s; p = p; o = o }) change e
    by false e = sym (untouched schema (record { s = s; p = p; o = o }) (has posting_cmp os o) change e)

pub objects_after_one : (schema : List PredDef) (graph : List Triple) (change : Change) (p : List ℕ) (s : ℕ) → Ascends triple_cmp graph → objects (after_change schema graph change) p s ≡ objects_after schema p s (objects graph p s) change
objects_after_one schema graph change p s a =
    one_list posting_cmp posting_order (objects (after_change schema graph change) p s) (objects_after schema p s (objects graph p s) change)
    (objects_ascend (after_change schema graph change) p s (change_ascends schema graph change a))
    (after_ascends schema p s (objects graph p s) change (objects_ascend graph p s a))
    (λ o. each o)
  where
    each : (o : Posting) → has posting_cmp (objects (after_change schema graph change) p s) o ≡ has posting_cmp (objects_after schema p s (objects graph p s) change) o
    each o =
        objects_are (after_change schema graph change) p s o
        ∙ (change_by_triple schema graph change (record { s = s; p = p; o = o })
        ∙ (ap (λ (b : Bool). there_after schema (record { s = s; p = p; o = o }) b change) (sym (objects_are graph p s o))
        ∙ sym (touched schema (objects graph p s) p s o change)))

pub objects_after_all : ObjectsAfter
objects_after_all schema graph [] p s a = refl
objects_after_all schema graph (c ∷ cs) p s a =
    objects_after_all schema (after_change schema graph c) cs p s (change_ascends schema graph c a)
    ∙ ap (λ (os : List Posting). fold (objects_after schema p s) os cs) (objects_after_one schema graph c p s a)

-- ---- subjects

pub subjects_are : SubjectsAre
subjects_are graph p s o = has_more nat_cmp nat_order [] (map (λ t. t.s) (filter (λ t. is_of p t && is_eq (posting_cmp t.o o)) graph)) s ∙ listed graph
  where
    listed : (g : List Triple) → has nat_cmp (map (λ t. t.s) (filter (λ t. is_of p t && is_eq (posting_cmp t.o o)) g)) s ≡ has_triple g (record { s = s; p = p; o = o })
    listed [] = refl
    listed (t ∷ g) = by (is_of p t) (is_eq (posting_cmp t.o o)) refl refl (listed g)
      where
        same : (x y z : Ordering) → is_eq x ≡ true → is_eq z ≡ true → is_eq y ≡ is_eq (ordering_then x (ordering_then y z))
        same Less y z e f = absurd (cc)
        same Greater y z e f = absurd (cc)
        same Equal Less z e f = refl
        same Equal Greater z e f = refl
        same Equal Equal z e f = sym f

        differ : (x y z : Ordering) → is_eq x ≡ false → is_eq (ordering_then x (ordering_then y z)) ≡ false
        differ Less y z e = refl
        differ Greater y z e = refl
        differ Equal y z e = absurd (cc)

        differ_last : (x y z : Ordering) → is_eq z ≡ false → is_eq (ordering_then x (ordering_then y z)) ≡ false
        differ_last Less y z e = refl
        differ_last Greater y z e = refl
        differ_last Equal Less z e = refl
        differ_last Equal Greater z e = refl
        differ_last Equal Equal z e = e

        by : (v w : Bool) → is_of p t ≡ v → is_eq (posting_cmp t.o o) ≡ w → has nat_cmp (map (λ t. t.s) (filter (λ t. is_of p t && is_eq (posting_cmp t.o o)) g)) s ≡ has_triple g (record { s = s; p = p; o = o }) → has nat_cmp (map (λ t. t.s) (cond (v && w) (t ∷ filter (λ t. is_of p t && is_eq (posting_cmp t.o o)) g) (filter (λ t. is_of p t && is_eq (posting_cmp t.o o)) g))) s ≡ (is_eq (triple_cmp t (record { s = s; p = p; o = o })) || has_triple g (record { s = s; p = p; o = o }))
        by true true e f rest = λ i. same (text_cmp t.p p) (nat_cmp t.s s) (posting_cmp t.o o) e f i || rest i
        by true false e f rest = rest ∙ λ i. sym (differ_last (text_cmp t.p p) (nat_cmp t.s s) (posting_cmp t.o o) f) i || has_triple g (record { s = s; p = p; o = o })
        by false w e f rest = rest ∙ λ i. sym (differ (text_cmp t.p p) (nat_cmp t.s s) (posting_cmp t.o o) e) i || has_triple g (record { s = s; p = p; o = o })

pub subjects_ascend : SubjectsAscend
subjects_ascend graph p o = ascends_more nat_cmp nat_order [] (map (λ t. t.s) (filter (λ t. is_of p t && is_eq (posting_cmp t.o o)) graph)) tt
