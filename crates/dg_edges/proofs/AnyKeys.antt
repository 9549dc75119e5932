-- Whatever keys a schema gives to changes, those of their data are among them.
use Rattle.std.proofs.Common.{◌≡◌, Bool, true, false, cond, not, List, [], ◌∷◌, ◌++◌, Option, Some, None, refl, ap, subst, sym, ◌∙◌}
use Rattle.std.specs.Prelude.{◌||◌}
use Rattle.std.specs.List.{AllByRecursion}
use Rattle.std.proofs.lemmas.Bool.{both_ways}
use Rattle.std.specs.Ordering.{is_eq}
use Rattle.dg_values.specs.Ascending.{has}
use Rattle.dg_sets.proofs.Sets.{is_one}
use Rattle.dg_schema.specs.declared.definition.PredDef.{PredDef}
use Rattle.dg_schema.specs.Definitions.{definition_of, is_single, is_single_by}
use Rattle.dg_graph.specs.declared.change.Triple.{Triple}
use Rattle.dg_graph.specs.declared.change.Change.{Change}
use Rattle.dg_graph.specs.declared.change.Change.TheVariants as changes
use Rattle.dg_graph.specs.Graphs.{fits, fits_by, after_change}
use Rattle.dg_graph.specs.Changes.{changed}
use Rattle.dg_keys.specs.declared.conflict.ConflictKey.{ConflictKey}
use Rattle.dg_keys.specs.declared.conflict.ConflictKey.TheVariants as conflicts
use Rattle.dg_keys.specs.Conflicts.{conflict_cmp}
use Rattle.dg_keys.specs.KeyOrder.{conflict_order}
use Rattle.dg_zero.specs.Listings.{keys_of_change, keys_of_changes}
use Rattle.dg_edges.specs.Deltas.{data_conflict, data_conflicts, AreFitting}

pub front : {X : Type 0} (P : X → Type 0) (xs ys : List X) → AllByRecursion P (xs ++ ys) → AllByRecursion P xs
front P [] ys a = tt
front P (x ∷ xs) ys a = (a.0, front P xs ys a.1)

pub behind : {X : Type 0} (P : X → Type 0) (xs ys : List X) → AllByRecursion P (xs ++ ys) → AllByRecursion P ys
behind P [] ys a = a
behind P (x ∷ xs) ys a = behind P xs ys a.1

-- the key of a declared change's data
pub data_key : (P : ConflictKey → Type 0) (schema : List PredDef) (graph : List Triple) (c : Change) (def : PredDef) → definition_of schema (changed c).p ≡ Some def → AllByRecursion P (keys_of_change (Some def) graph c) → P (data_conflict schema (changed c))
data_key P schema graph c def e a =
    let one : not def.list ≡ is_single schema (changed c).p = sym (ap is_single_by e) in
    subst (λ (b : Bool). P (conflicts.Data (changed c).p (changed c).s (cond b None (Some (changed c).o)))) one (by c a)
  where
    turned : (t : Triple) (v : Bool) → conflicts.Data t.p t.s (cond v (Some t.o) None) ≡ conflicts.Data t.p t.s (cond (not v) None (Some t.o))
    turned t true = refl
    turned t false = refl

    by : (d : Change) → AllByRecursion P (keys_of_change (Some def) graph d) → P (conflicts.Data (changed d).p (changed d).s (cond (not def.list) None (Some (changed d).o)))
    by (changes.Set t) b = subst P (turned t def.list) b.0
    by (changes.Del t) b = subst P (turned t def.list) b.0

its_key : (P : ConflictKey → Type 0) (schema : List PredDef) (graph : List Triple) (c : Change) (def : PredDef) → definition_of schema (changed c).p ≡ Some def → (cs : List Change) → AllByRecursion P (keys_of_changes schema graph (c ∷ cs)) → P (data_conflict schema (changed c))
its_key P schema graph (changes.Set t) def e cs a = data_key P schema graph (changes.Set t) def e (subst (λ (d : Option PredDef). AllByRecursion P (keys_of_change d graph (changes.Set t))) e (front P (keys_of_change (definition_of schema t.p) graph (changes.Set t)) (keys_of_changes schema (after_change schema graph (changes.Set t)) cs) a))
its_key P schema graph (changes.Del t) def e cs a = data_key P schema graph (changes.Del t) def e (subst (λ (d : Option PredDef). AllByRecursion P (keys_of_change d graph (changes.Del t))) e (front P (keys_of_change (definition_of schema t.p) graph (changes.Del t)) (keys_of_changes schema (after_change schema graph (changes.Del t)) cs) a))

pub later_keys : (P : ConflictKey → Type 0) (schema : List PredDef) (graph : List Triple) (c : Change) (cs : List Change) → AllByRecursion P (keys_of_changes schema graph (c ∷ cs)) → AllByRecursion P (keys_of_changes schema (after_change schema graph c) cs)
later_keys P schema graph (changes.Set t) cs a = behind P (keys_of_change (definition_of schema t.p) graph (changes.Set t)) (keys_of_changes schema (after_change schema graph (changes.Set t)) cs) a
later_keys P schema graph (changes.Del t) cs a = behind P (keys_of_change (definition_of schema t.p) graph (changes.Del t)) (keys_of_changes schema (after_change schema graph (changes.Del t)) cs) a

-- a triple that fits is of a declared predicate
pub declared : (schema : List PredDef) (t : Triple) → fits schema t ≡ true → (def : PredDef) × (definition_of schema t.p ≡ Some def)
declared schema t fit = by (definition_of schema t.p) refl
  where
    by : (d : Option PredDef) → definition_of schema t.p ≡ d → (def : PredDef) × (definition_of schema t.p ≡ Some def)
    by None e = let g : fits schema t ≡ false = ap (λ (d : Option PredDef). fits_by d t) e in absurd (both_ways (fits schema t) g fit)
    by (Some def) e = (def, e)

-- what holds of all keys of changes that fit holds of those of their data
pub data_among : (P : ConflictKey → Type 0) (schema : List PredDef) (graph : List Triple) (cs : List Change) → AreFitting schema cs → AllByRecursion P (keys_of_changes schema graph cs) → AllByRecursion P (data_conflicts schema cs)
data_among P schema graph [] fit a = tt
data_among P schema graph (c ∷ cs) fit a =
    let d = declared schema (changed c) fit.0 in
    (its_key P schema graph c d.0 d.1 cs a, data_among P schema (after_change schema graph c) cs fit.1 (later_keys P schema graph c cs a))

-- and of changes that may not fit, of the key of a triple of a declared predicate
pub data_found : (P : ConflictKey → Type 0) (schema : List PredDef) (graph : List Triple) (cs : List Change) (u : Triple) (def : PredDef) → definition_of schema u.p ≡ Some def → AllByRecursion P (keys_of_changes schema graph cs) → has conflict_cmp (data_conflicts schema cs) (data_conflict schema u) ≡ true → P (data_conflict schema u)
data_found P schema graph [] u def e a h = absurd (cc)
data_found P schema graph (c ∷ cs) u def e a h =
    by (is_eq (conflict_cmp (data_conflict schema (changed c)) (data_conflict schema u))) refl h (λ g. data_found P schema (after_change schema graph c) cs u def e (later_keys P schema graph c cs a) g)
  where
    same_pred : data_conflict schema (changed c) ≡ data_conflict schema u → (changed c).p ≡ u.p
    same_pred k = cc

    by : (v : Bool) → is_eq (conflict_cmp (data_conflict schema (changed c)) (data_conflict schema u)) ≡ v → (v || has conflict_cmp (data_conflicts schema cs) (data_conflict schema u)) ≡ true → (has conflict_cmp (data_conflicts schema cs) (data_conflict schema u) ≡ true → P (data_conflict schema u)) → P (data_conflict schema u)
    by true k g rest =
        let one = is_one conflict_cmp conflict_order (data_conflict schema (changed c)) (data_conflict schema u) k in
        subst P one (its_key P schema graph c def (ap (definition_of schema) (same_pred one) ∙ e) cs a)
    by false k g rest = rest g
