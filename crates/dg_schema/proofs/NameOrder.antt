-- Definitions in ascending order of their names, by their places.
use Rattle.std.proofs.Common.{◌≡◌, ℕ, zero, suc, ◌<◌, Bool, true, false, ◌||◌, cond, List, [], ◌∷◌, ◌++◌, Option, Some, None, length, refl, ap, sym, ◌∙◌, arith}
use Rattle.std.specs.Prelude.{fold, flat_map, slice_get, is_some}
use Rattle.std.specs.Option.{option_map_or}
use Rattle.std.specs.List.{AllByRecursion}
use Rattle.std.specs.declared.cmp.Ordering.{Ordering}
use Rattle.std.specs.declared.cmp.Ordering.TheVariants.{Less, Equal, Greater}
use Rattle.dg_values.specs.Order.{text_cmp}
use Rattle.dg_values.specs.Ascending.{has, placed, with_one}
use Rattle.dg_sets.proofs.MadeOrders.{text_order}
use Rattle.dg_sets.proofs.Sets.{one_list, has_more, ascends_more}
use Rattle.dg_schema.specs.declared.definition.PredDef.{PredDef}
use Rattle.dg_schema.specs.Definitions.{AreDistinct, definition_of, is_declared, is_named, names_ascending}
use Rattle.dg_schema.specs.Laws.{names}
use Rattle.dg_schema.specs.Places.{name_at, names_at, IsIndexed}
use Rattle.dg_schema.specs.Texts.{definition_text, name_cmp, by_name, schema_text}
use Rattle.dg_schema.proofs.Names.{same_text-itself, same_text-turned}
use Rattle.dg_schema.proofs.ByName.{found_at}

-- ---- the names of the definitions in order are the names in order

names_with_one : (xs : List PredDef) (d : PredDef) → names (with_one name_cmp xs d) ≡ with_one text_cmp (names xs) d.name
names_with_one [] d = refl
names_with_one (x ∷ xs) d = by (text_cmp d.name x.name) (names_with_one xs d)
  where
    by : (v : Ordering) → names (with_one name_cmp xs d) ≡ with_one text_cmp (names xs) d.name → names (placed v d x xs (with_one name_cmp xs d)) ≡ placed v d.name x.name (names xs) (with_one text_cmp (names xs) d.name)
    by Less rest = refl
    by Equal rest = refl
    by Greater rest = λ i. x.name ∷ rest i

names_folded : (base xs : List PredDef) → names (fold (with_one name_cmp) base xs) ≡ fold (with_one text_cmp) (names base) (names xs)
names_folded base [] = refl
names_folded base (d ∷ xs) = names_folded (with_one name_cmp base d) xs ∙ ap (λ (ns : List (List ℕ)). fold (with_one text_cmp) ns (names xs)) (names_with_one base d)

pub names_by_name : (schema : List PredDef) → names (by_name schema) ≡ names_ascending schema
names_by_name schema = names_folded [] schema

has_names : (schema : List PredDef) (name : List ℕ) → has text_cmp (names schema) name ≡ is_declared schema name
has_names [] name = refl
has_names (d ∷ schema) name = by (is_named name d) (has_names schema name)
  where
    by : (b : Bool) → has text_cmp (names schema) name ≡ is_declared schema name → (b || has text_cmp (names schema) name) ≡ is_some (cond b (Some d) (definition_of schema name))
    by true rest = refl
    by false rest = rest

names_in_order : (schema : List PredDef) (places : List ℕ) → IsIndexed schema places → names_at schema places ≡ names (by_name schema)
names_in_order schema places x =
    one_list text_cmp text_order (names_at schema places) (names_ascending schema) x.ascend (ascends_more text_cmp text_order [] (names schema) tt) (λ u. x.whole u ∙ sym (has_more text_cmp text_order [] (names schema) u ∙ has_names schema u)) ∙ sym (names_by_name schema)

-- ---- each definition is found by its name

found_behind : (x : PredDef) (whole more : List PredDef) → AllByRecursion (λ other. is_named x.name other ≡ false) more → AllByRecursion (λ d. definition_of whole d.name ≡ Some d) more → AllByRecursion (λ d. definition_of (x ∷ whole) d.name ≡ Some d) more
found_behind x whole [] a f = tt
found_behind x whole (d ∷ more) a f = (rw (same_text-turned x.name d.name ∙ a.0) f.0, found_behind x whole more a.1 f.1)

pub all_found : (schema : List PredDef) → AreDistinct schema → AllByRecursion (λ d. definition_of schema d.name ≡ Some d) schema
all_found [] a = tt
all_found (x ∷ schema) a = (rw (same_text-itself x.name) refl, found_behind x schema schema a.0 (all_found schema a.1))

all_with_one : (P : PredDef → Type 0) (xs : List PredDef) (d : PredDef) → P d → AllByRecursion P xs → AllByRecursion P (with_one name_cmp xs d)
all_with_one P [] d p a = (p, tt)
all_with_one P (x ∷ xs) d p a = by (text_cmp d.name x.name) (all_with_one P xs d p a.1)
  where
    by : (v : Ordering) → AllByRecursion P (with_one name_cmp xs d) → AllByRecursion P (placed v d x xs (with_one name_cmp xs d))
    by Less rest = (p, a)
    by Equal rest = a
    by Greater rest = (a.0, rest)

all_folded : (P : PredDef → Type 0) (base xs : List PredDef) → AllByRecursion P base → AllByRecursion P xs → AllByRecursion P (fold (with_one name_cmp) base xs)
all_folded P base [] b a = b
all_folded P base (d ∷ xs) b a = all_folded P (with_one name_cmp base d) xs (all_with_one P base d a.0 b) a.1

pub all_by_name : (P : PredDef → Type 0) (schema : List PredDef) → AllByRecursion P schema → AllByRecursion P (by_name schema)
all_by_name P schema a = all_folded P [] schema tt a

-- ---- their lines

-- the line of what is declared by a name
abbrev line_named : List PredDef → List ℕ → List ℕ
line_named schema name = option_map_or definition_text (definition_of schema name) []

-- the line of what stands at a place
abbrev line_at : List PredDef → ℕ → List ℕ
line_at schema place = option_map_or definition_text (slice_get schema place) []

none_within : (xs : List PredDef) (i : ℕ) → i < length xs → slice_get xs i ≡ None → ⊥
none_within [] i lt e = omega arith
none_within (x ∷ xs) zero lt e = cc
none_within (x ∷ xs) (suc i) lt e = none_within xs i (omega arith) e

line_there : (schema : List PredDef) (place : ℕ) → AreDistinct schema → place < length schema → line_at schema place ≡ line_named schema (name_at schema place)
line_there schema place a lt = by (slice_get schema place) refl
  where
    by : (o : Option PredDef) → slice_get schema place ≡ o → option_map_or definition_text o [] ≡ line_named schema (option_map_or (λ d. d.name) o [])
    by None e = absurd (none_within schema place lt e)
    by (Some d) e = sym (ap (λ (o : Option PredDef). option_map_or definition_text o []) (found_at schema place d d.name a e (same_text-itself d.name)))

lines_there : (schema : List PredDef) (places : List ℕ) → AreDistinct schema → AllByRecursion (λ p. p < length schema) places → flat_map (line_at schema) places ≡ flat_map (line_named schema) (names_at schema places)
lines_there schema [] a w = refl
lines_there schema (place ∷ places) a w = λ i. line_there schema place a w.0 i ++ lines_there schema places a w.1 i

lines_found : (schema xs : List PredDef) → AllByRecursion (λ d. definition_of schema d.name ≡ Some d) xs → flat_map (line_named schema) (names xs) ≡ flat_map definition_text xs
lines_found schema [] f = refl
lines_found schema (d ∷ xs) f =
    let one : line_named schema d.name ≡ definition_text d = ap (λ (o : Option PredDef). option_map_or definition_text o []) f.0 in
    λ i. one i ++ lines_found schema xs f.1 i

pub text_in_order : (schema : List PredDef) (places : List ℕ) → IsIndexed schema places → flat_map (λ place. option_map_or definition_text (slice_get schema place) []) places ≡ schema_text schema
text_in_order schema places x =
    lines_there schema places x.distinct x.within ∙ ap (flat_map (line_named schema)) (names_in_order schema places x) ∙ lines_found schema (by_name schema) (all_by_name (λ d. definition_of schema d.name ≡ Some d) schema (all_found schema x.distinct))
