-- The kinds of variables by their places, and what it leaves of them that one more is known.
use Rattle.std.proofs.Common.{◌≡◌, ℕ, zero, suc, ◌+◌, Bool, true, false, cond, List, [], ◌∷◌, ◌++◌, map, flat_map, refl, sym, ap, ◌∙◌, subst, arith, append_assoc}
use Rattle.std.specs.Prelude.{◌||◌, not, Option, Some, None, IfSome, option_map, find, fold, slice_get, slice_set}
use Rattle.std.specs.List.{AllByRecursion}
use Rattle.std.proofs.lemmas.Bool.{true≢false}
use Rattle.std.proofs.lemmas.List.{map-append}
use Rattle.dg_values.specs.declared.kind.Kind.{Kind}
use Rattle.dg_values.specs.Order.{same_text}
use Rattle.dg_schema.specs.declared.definition.PredDef.{PredDef}
use Rattle.dg_schema.proofs.Names.{same_text-itself}
use Rattle.dg_check.specs.declared.vars.Variable.{Variable}
use Rattle.dg_check.specs.Faults.{first_again, kind_in, kind_named}
use Rattle.dg_check.specs.Names.{is_name_in}
use Rattle.dg_check.specs.Places.{Place}
use Rattle.dg_check.specs.Plans.{place_of}
use Rattle.dg_check.specs.Variables.{Definition, definition_at, definitions_in, content_named, names_for}
use Rattle.dg_check.specs.Vars.{value_at, value_beside}
use Rattle.dg_funcs.specs.Kinds.{is_of_known_kind}
use Rattle.dg_funcs.specs.Laws.{AreOfKind}
use Rattle.dg_level.specs.Given.{unknown, Known, with_known}

-- ---- parts of lists

module _ {X : Type 0} (P : X → Type 0) where
  all_front : (xs ys : List X) → AllByRecursion P (xs ++ ys) → AllByRecursion P xs
  all_front [] ys a = tt
  all_front (x ∷ xs) ys a = (a.0, all_front xs ys a.1)

  all_behind : (xs ys : List X) → AllByRecursion P (xs ++ ys) → AllByRecursion P ys
  all_behind [] ys a = a
  all_behind (x ∷ xs) ys a = all_behind xs ys a.1

  pub all_joined : (xs ys : List X) → AllByRecursion P xs → AllByRecursion P ys → AllByRecursion P (xs ++ ys)
  all_joined [] ys a b = b
  all_joined (x ∷ xs) ys a b = (a.0, all_joined xs ys a.1 b)

  -- what holds of two lists together holds of each
  pub all_apart : (xs ys : List X) → AllByRecursion P (xs ++ ys) → AllByRecursion P xs × AllByRecursion P ys
  all_apart xs ys a = (all_front xs ys a, all_behind xs ys a)

  -- and so of lists that are joined
  pub all_parts : {Y : Type 0} (f : Y → List X) (ys : List Y) → AllByRecursion P (flat_map f ys) → AllByRecursion (λ y. AllByRecursion P (f y)) ys
  all_parts f [] a = tt
  all_parts f (y ∷ ys) a = (all_front (f y) (flat_map f ys) a, all_parts f ys (all_behind (f y) (flat_map f ys) a))

-- ---- the kind of a place

-- the kind of the variable at a place, where it has one
abbrev pub kind_at : List Definition → ℕ → Option Kind
kind_at ds place = elim (slice_get ds place) [ None ↦ None | Some d ↦ kind_in d.content ]

one_more : (n : ℕ) → 1 + n ≡ suc n
one_more n = omega arith

-- that of a variable's place is that of its name
pub place_kind : (ds : List Definition) (x : List ℕ) → kind_at ds (place_of ds x) ≡ kind_named ds x
place_kind [] x = refl
place_kind (d ∷ ds) x = by (same_text x d.name) (place_kind ds x)
  where
    by : (b : Bool) → kind_at ds (place_of ds x) ≡ kind_named ds x
        → kind_at (d ∷ ds) (cond (not b) (1 + place_of ds x) 0) ≡ elim (option_map (λ c. c.content) (cond b (Some d) (find (λ c. same_text x c.name) ds))) [ None ↦ None | Some content ↦ kind_in content ]
    by true e = refl
    by false e = ap (kind_at (d ∷ ds)) (one_more (place_of ds x)) ∙ e

-- ---- values of a kind

-- each value of a variable is of a kind
abbrev pub HasKind : Option Kind → Variable → Type 0
HasKind kind v = (node : ℕ) → IfSome (value_beside v.nodes v.values node) (λ value. is_of_known_kind kind value ≡ true)

-- the values of each variable are of the kind of its place
abbrev pub AreOfKinds : (ℕ → Option Kind) → List Variable → Type 0
AreOfKinds kinds vars = (place node : ℕ) → IfSome (value_at vars place node) (λ value. is_of_known_kind (kinds place) value ≡ true)

-- a variable that becomes known is of the kind of its place
abbrev pub IsKnownOf : List Definition → Known → Type 0
IsKnownOf ds known = HasKind (kind_at ds known.0) known.1

-- what holds of places holds of names
pub of_kind : (ds : List Definition) (vars : List Variable) → AreOfKinds (kind_at ds) vars → AreOfKind ds vars
of_kind ds vars a x node = subst (λ (kind : Option Kind). IfSome (value_at vars (place_of ds x) node) (λ value. is_of_known_kind kind value ≡ true)) (place_kind ds x) (a (place_of ds x) node)

-- where nothing is known there are no values
pub none_of_kind : {D : Type 0} (kinds : ℕ → Option Kind) (ds : List D) → AreOfKinds kinds (map (λ d. unknown) ds)
none_of_kind kinds [] place node = tt
none_of_kind kinds (d ∷ ds) zero node = tt
none_of_kind kinds (d ∷ ds) (suc place) node = none_of_kind (λ n. kinds (suc n)) ds place node

one_of_kind : (kinds : ℕ → Option Kind) (vars : List Variable) (at : ℕ) (v : Variable) → HasKind (kinds at) v → AreOfKinds kinds vars → AreOfKinds kinds (slice_set vars at v)
one_of_kind kinds [] at v h a place node = tt
one_of_kind kinds (w ∷ vars) zero v h a zero node = h node
one_of_kind kinds (w ∷ vars) zero v h a (suc place) node = a (suc place) node
one_of_kind kinds (w ∷ vars) (suc at) v h a zero node = a zero node
one_of_kind kinds (w ∷ vars) (suc at) v h a (suc place) node = one_of_kind (λ n. kinds (suc n)) vars at v h (λ n m. a (suc n) m) place node

-- more that is known leaves them of their kinds
pub more_of_kind : (ds : List Definition) (known : List Known) (vars : List Variable) → AllByRecursion (IsKnownOf ds) known → AreOfKinds (kind_at ds) vars → AreOfKinds (kind_at ds) (fold with_known vars known)
more_of_kind ds [] vars each a = a
more_of_kind ds (one ∷ known) vars each a = more_of_kind ds known (with_known vars one) each.1 (one_of_kind (kind_at ds) vars one.0 one.1 each.0 a)

-- ---- names that stand once

-- its name has what it has
abbrev pub IsDefinedAs : List Definition → Definition → Type 0
IsDefinedAs ds d = content_named ds d.name ≡ Some d.content

found_behind : (front : List Definition) (d : Definition) (more : List Definition) → is_name_in (names_for false front) d.name ≡ false → IsDefinedAs (front ++ d ∷ more) d
found_behind [] d more e = ap (λ b. option_map (λ c. c.content) (cond b (Some d) (find (λ c. same_text d.name c.name) more))) (same_text-itself d.name)
found_behind (c ∷ front) d more e = by (same_text d.name c.name) (found_behind front d more) e
  where
    by : (b : Bool) → (is_name_in (names_for false front) d.name ≡ false → IsDefinedAs (front ++ d ∷ more) d) → (b || is_name_in (names_for false front) d.name) ≡ false
        → option_map (λ o. o.content) (cond b (Some c) (find (λ o. same_text d.name o.name) (front ++ d ∷ more))) ≡ Some d.content
    by true rest h = absurd (true≢false h)
    by false rest h = rest h

once_behind : (front ds : List Definition) → first_again (names_for false front) (names_for false ds) ≡ None → AllByRecursion (IsDefinedAs (front ++ ds)) ds
once_behind front [] e = tt
once_behind front (d ∷ ds) e = by (is_name_in (names_for false front) d.name) refl e (once_behind (front ++ d ∷ []) ds)
  where
    by : (b : Bool) → is_name_in (names_for false front) d.name ≡ b → cond b (Some d.name) (first_again (names_for false front ++ d.name ∷ []) (names_for false ds)) ≡ None
        → (first_again (names_for false (front ++ d ∷ [])) (names_for false ds) ≡ None → AllByRecursion (IsDefinedAs ((front ++ d ∷ []) ++ ds)) ds) → AllByRecursion (IsDefinedAs (front ++ d ∷ ds)) (d ∷ ds)
    by true is h rest = absurd (cc)
    by false is h rest =
        let names : names_for false (front ++ d ∷ []) ≡ names_for false front ++ d.name ∷ [] = map-append (λ c. c.name) front (d ∷ []) in
        let more = rest (subst (λ (ns : List (List ℕ)). first_again ns (names_for false ds) ≡ None) (sym names) h) in
        (found_behind front d ds is, subst (λ (all : List Definition). AllByRecursion (IsDefinedAs all) ds) (append_assoc front (d ∷ []) ds) more)

-- what a place of the text defines, if anything, its name has
abbrev pub IsDefinedAt : List PredDef → List Definition → Place → Type 0
IsDefinedAt schema ds place = AllByRecursion (IsDefinedAs ds) (definition_at schema place)

-- where no name stands twice, what each place defines its name has
pub defined_at : (schema : List PredDef) (places : List Place) (ds : List Definition) → ds ≡ definitions_in schema places → first_again [] (names_for false ds) ≡ None → AllByRecursion (IsDefinedAt schema ds) places
defined_at schema places ds is once = all_parts (IsDefinedAs ds) (definition_at schema) places (subst (AllByRecursion (IsDefinedAs ds)) is (once_behind [] ds once))
