-- Places of definitions in ascending order of their names.
use Rattle.std.proofs.Common.{◌≡◌, ℕ, zero, suc, ◌<◌, ◌≤◌, Bool, true, false, ◌||◌, cond, List, [], ◌∷◌, ◌++◌, Option, Some, None, length, get_or, refl, ap, subst, sym, ◌∙◌, arith}
use Rattle.std.specs.Prelude.{slice_get, is_some}
use Rattle.std.specs.Option.{option_map_or, option_or}
use Rattle.std.specs.List.{AllByRecursion, AllWithin}
use Rattle.std.specs.List.Sorted.{IsPartitionedBy, IsPartitionPoint}
use Rattle.std.specs.Ordering.{is_lt, is_eq}
use Rattle.std.proofs.lemmas.List.{get_or-map, length-map}
use Rattle.dg_values.specs.Order.{text_cmp, same_text}
use Rattle.dg_values.specs.Ascending.{Ascends, has, with_one}
use Rattle.dg_sets.specs.Placing.{BelongsAt}
use Rattle.dg_sets.proofs.MadeOrders.{text_order}
use Rattle.dg_sets.proofs.Places.{parted, belongs}
use Rattle.dg_sets.proofs.Sets.{has_with, ascends_with}
use Rattle.dg_schema.specs.declared.definition.PredDef.{PredDef}
use Rattle.dg_schema.specs.Definitions.{AreDistinct, definition_of, is_declared, is_named}
use Rattle.dg_schema.specs.Places.{name_at, names_at, IsIndexed}
use Rattle.dg_schema.proofs.Names.{same_text-equal, definition_of-append, distinct_pushed}

pub no_places : IsIndexed [] []
no_places = record { distinct = tt; within = tt; ascend = tt; whole = λ name. refl }

-- ---- looked into by halves

-- those below a name come first
pub parted_at : (schema : List PredDef) (places : List ℕ) (name : List ℕ) → IsIndexed schema places → IsPartitionedBy (λ p. is_lt (text_cmp (name_at schema p) name)) places
parted_at schema places name x i j d le lt e =
    let names = names_at schema places in
    let at : (k : ℕ) → k < length places → get_or names k (name_at schema d) ≡ name_at schema (get_or places k d) = λ k w. get_or-map (name_at schema) places k d (name_at schema d) w in
    let so : is_lt (text_cmp (get_or names j (name_at schema d)) name) ≡ true = rw (at j lt) e in
    let is : is_lt (text_cmp (get_or names i (name_at schema d)) name) ≡ true = parted text_cmp text_order name names x.ascend i j (name_at schema d) le (rw length-map lt) so in
    rw (at i (omega arith)) at is

-- a name that isn't at the place where those at or above it begin is missing
pub missing_at : (schema : List PredDef) (places : List ℕ) (name : List ℕ) (k : ℕ) → IsIndexed schema places → k ≤ length places → AllWithin (λ p. is_lt (text_cmp (name_at schema p) name) ≡ true) places 0 k → AllWithin (λ p. is_lt (text_cmp (name_at schema p) name) ≡ false) places k (length places) → (k < length places → same_text (name_at schema (get_or places k 0)) name ≡ false) → BelongsAt text_cmp (names_at schema places) name k
missing_at schema places name k x le before behind other =
    belongs text_cmp text_order name (names_at schema places) k x.ascend (rw length-map le) front back here
  where
    at : (i : ℕ) (d : List ℕ) → i < length places → get_or (names_at schema places) i d ≡ name_at schema (get_or places i 0)
    at i d lt = get_or-map (name_at schema) places i 0 d lt

    front : AllWithin (λ y. is_lt (text_cmp y name) ≡ true) (names_at schema places) 0 k
    front i d from to = rw (at i d (omega arith)) (before i 0 from to)

    back : AllWithin (λ y. is_lt (text_cmp y name) ≡ false) (names_at schema places) k (length (names_at schema places))
    back i d from to = let lt : i < length places = rw length-map at to in rw (at i d lt) (behind i 0 from lt)

    here : (d : List ℕ) → k < length (names_at schema places) → is_eq (text_cmp (get_or (names_at schema places) k d) name) ≡ false
    here d to = let lt : k < length places = rw length-map at to in rw (at k d lt) (other lt)

-- what holds of all holds of what stands at a place
pub all_at : {X : Type 0} (P : X → Type 0) (xs : List X) (i : ℕ) (x : X) → AllByRecursion P xs → slice_get xs i ≡ Some x → P x
all_at P [] i x a e = absurd (cc)
all_at P (y ∷ ys) zero x a e = let same : y ≡ x = cc in subst P same a.0
all_at P (y ∷ ys) (suc i) x a e = all_at P ys i x a.1 e

-- what stands at a place is found by its name
pub found_at : (schema : List PredDef) (place : ℕ) (d : PredDef) (name : List ℕ) → AreDistinct schema → slice_get schema place ≡ Some d → is_named name d ≡ true → definition_of schema name ≡ Some d
found_at [] place d name a e n = absurd (cc)
found_at (x ∷ schema) zero d name a e n =
    let same : x ≡ d = cc in
    let here : is_named name x ≡ true = ap (is_named name) same ∙ n in
    rw here e
found_at (x ∷ schema) (suc place) d name a e n = by (is_named name x) refl (found_at schema place d name a.1 e n)
  where
    by : (b : Bool) → is_named name x ≡ b → definition_of schema name ≡ Some d → cond b (Some x) (definition_of schema name) ≡ Some d
    by true p rest =
        let other : is_named x.name d ≡ false = all_at (λ other. is_named x.name other ≡ false) schema place d a.0 e in
        let same : x.name ≡ name = same_text-equal x.name name p in
        let one : is_named x.name d ≡ true = ap (same_text d.name) same ∙ n in
        absurd (cc)
    by false p rest = rest

-- where a place for the name is, it isn't declared
pub none_at : (schema : List PredDef) (places : List ℕ) (name : List ℕ) (k : ℕ) → IsIndexed schema places → BelongsAt text_cmp (names_at schema places) name k → definition_of schema name ≡ None
none_at schema places name k x b = none (definition_of schema name) (sym (x.whole name) ∙ b.missing)
  where
    none : (o : Option PredDef) → is_some o ≡ false → o ≡ None
    none None e = refl
    none (Some d) e = absurd (cc)

-- ---- what a look by halves answers

-- the number that stands at a place
get_is : (xs : List ℕ) (i : ℕ) (x : ℕ) → slice_get xs i ≡ Some x → get_or xs i 0 ≡ x
get_is [] i x e = absurd (cc)
get_is (y ∷ ys) zero x e = cc
get_is (y ∷ ys) (suc i) x e = get_is ys i x e

-- no place is left
pub none_behind : (schema : List PredDef) (places : List ℕ) (name : List ℕ) (k : ℕ) → IsIndexed schema places → k ≤ length places → IsPartitionPoint (λ p. is_lt (text_cmp (name_at schema p) name) ≡ true) (λ p. is_lt (text_cmp (name_at schema p) name) ≡ false) places k → slice_get places k ≡ None → definition_of schema name ≡ None
none_behind schema places name k x le point e = none_at schema places name k x (missing_at schema places name k x le point.0 point.1 past)
  where
    within : (xs : List ℕ) (i : ℕ) → i < length xs → slice_get xs i ≡ None → ⊥
    within [] i lt e = omega arith
    within (y ∷ ys) zero lt e = cc
    within (y ∷ ys) (suc i) lt e = within ys i (omega arith) e

    past : k < length places → same_text (name_at schema (get_or places k 0)) name ≡ false
    past lt = absurd (within places k lt e)

-- another name stands there
pub none_there : (schema : List PredDef) (places : List ℕ) (name : List ℕ) (k p : ℕ) (d : PredDef) → IsIndexed schema places → k ≤ length places → IsPartitionPoint (λ p. is_lt (text_cmp (name_at schema p) name) ≡ true) (λ p. is_lt (text_cmp (name_at schema p) name) ≡ false) places k → slice_get places k ≡ Some p → slice_get schema p ≡ Some d → is_named name d ≡ false → definition_of schema name ≡ None
none_there schema places name k p d x le point e there other = none_at schema places name k x (missing_at schema places name k x le point.0 point.1 (λ lt. here))
  where
    named : name_at schema p ≡ d.name
    named = ap (λ (o : Option PredDef). option_map_or (λ d. d.name) o []) there

    here : same_text (name_at schema (get_or places k 0)) name ≡ false
    here = rw (get_is places k p e, named) other

-- each place has a definition
pub none_nowhere : (schema : List PredDef) (places : List ℕ) (k p : ℕ) → IsIndexed schema places → slice_get places k ≡ Some p → slice_get schema p ≡ None → ⊥
none_nowhere schema places k p x e none = past schema p (all_at (λ p. p < length schema) places k p x.within e) none
  where
    past : (schema : List PredDef) (p : ℕ) → p < length schema → slice_get schema p ≡ None → ⊥
    past [] p lt e = omega arith
    past (d ∷ schema) zero lt e = cc
    past (d ∷ schema) (suc p) lt e = past schema p (omega arith) e

-- ---- one definition more

name_more : (schema : List PredDef) (d : PredDef) (p : ℕ) → p < length schema → name_at (schema ++ d ∷ []) p ≡ name_at schema p
name_more [] d p lt = absurd (omega arith)
name_more (x ∷ schema) d zero lt = refl
name_more (x ∷ schema) d (suc p) lt = name_more schema d p (omega arith)

pub name_last : (schema : List PredDef) (d : PredDef) → name_at (schema ++ d ∷ []) (length schema) ≡ d.name
name_last [] d = refl
name_last (x ∷ schema) d = name_last schema d

pub names_more : (schema : List PredDef) (d : PredDef) (places : List ℕ) → AllByRecursion (λ p. p < length schema) places → names_at (schema ++ d ∷ []) places ≡ names_at schema places
names_more schema d [] a = refl
names_more schema d (p ∷ places) a = λ i. name_more schema d p a.0 i ∷ names_more schema d places a.1 i

-- places with the one more, in whatever way it was put in
pub indexed_by : (schema : List PredDef) (places more : List ℕ) (d : PredDef) → IsIndexed schema places → is_declared schema d.name ≡ false → names_at (schema ++ d ∷ []) more ≡ with_one text_cmp (names_at schema places) d.name
    → AllByRecursion (λ p. p < length (schema ++ d ∷ [])) more → IsIndexed (schema ++ d ∷ []) more
indexed_by schema places more d x missing put within = record {
  distinct = distinct_pushed schema d x.distinct missing;
  within = within;
  ascend = subst (λ (names : List (List ℕ)). Ascends text_cmp names) (sym put) (ascends_with text_cmp text_order (names_at schema places) d.name x.ascend);
  whole = λ name. ap (λ (names : List (List ℕ)). has text_cmp names name) put ∙ has_with text_cmp text_order (names_at schema places) d.name name ∙ both name;
}
  where
    either : (o : Option PredDef) (b : Bool) → (b || is_some o) ≡ is_some (option_or o (cond b (Some d) None))
    either None true = refl
    either None false = refl
    either (Some e) true = refl
    either (Some e) false = refl

    both : (name : List ℕ) → (same_text d.name name || has text_cmp (names_at schema places) name) ≡ is_declared (schema ++ d ∷ []) name
    both name =
        ap (λ (b : Bool). same_text d.name name || b) (x.whole name) ∙ either (definition_of schema name) (same_text d.name name) ∙ sym (ap is_some (definition_of-append schema (d ∷ []) name))
