-- Definitions with their places by name, and one more.
use Rattle.std.proofs.Common.{◌≡◌, ℕ, ◌<◌, Bool, true, false, ◌||◌, cond, List, [], ◌∷◌, ◌++◌, Some, length, refl, ap, sym, ◌∙◌, arith, length-append}
use Rattle.std.specs.Prelude.{map, is_some}
use Rattle.std.specs.List.{AllByRecursion}
use Rattle.std.specs.Ordering.{is_eq, match_ordering}
use Rattle.std.specs.declared.cmp.Ordering.{Ordering}
use Rattle.std.specs.declared.cmp.Ordering.TheVariants.{Less, Equal, Greater}
use Rattle.std.specs.BTreeMap.{is_at, insert_entry}
use Rattle.std.specs.Map.{lookup}
use Rattle.dg_values.specs.Order.{text_cmp, same_text}
use Rattle.dg_values.specs.Ascending.{has, placed, with_one}
use Rattle.dg_schema.specs.declared.definition.PredDef.{PredDef}
use Rattle.dg_schema.specs.Definitions.{is_declared}
use Rattle.dg_schema.specs.Places.{name_at, names_at, AreKept}
use Rattle.dg_schema.proofs.Names.{same_text-equal, same_text-turned}
use Rattle.dg_schema.proofs.ByName.{no_places, name_last, names_more, indexed_by}

abbrev Entries : Type 0
Entries = List (List ℕ × ℕ)

abbrev names_of : Entries → List (List ℕ)
names_of = map (λ e. e.0)

abbrev places_of : Entries → List ℕ
places_of = map (λ e. e.1)

pub none_kept : AreKept [] []
none_kept = record { indexed = no_places; named = refl }

-- ---- what is found

found : (entries : Entries) (name : List ℕ) → is_some (lookup (is_at (text_cmp name)) entries) ≡ has text_cmp (names_of entries) name
found [] name = refl
found (e ∷ entries) name = ap (λ (b : Bool). is_some (cond b (Some e.1) (lookup (is_at (text_cmp name)) entries))) (same_text-turned name e.0) ∙ by (same_text e.0 name) (found entries name)
  where
    by : (b : Bool) → is_some (lookup (is_at (text_cmp name)) entries) ≡ has text_cmp (names_of entries) name → is_some (cond b (Some e.1) (lookup (is_at (text_cmp name)) entries)) ≡ (b || has text_cmp (names_of entries) name)
    by true rest = refl
    by false rest = rest

pub declares : (schema : List PredDef) (entries : Entries) (name : List ℕ) → AreKept schema entries → is_some (lookup (is_at (text_cmp name)) entries) ≡ is_declared schema name
declares schema entries name k =
    found entries name ∙ ap (λ (names : List (List ℕ)). has text_cmp names name) (sym k.named) ∙ k.indexed.whole name

-- ---- one more

-- the names with one put in
names_put : (entries : Entries) (name : List ℕ) (place : ℕ) → names_of (insert_entry text_cmp entries name place) ≡ with_one text_cmp (names_of entries) name
names_put [] name place = refl
names_put (e ∷ entries) name place = by (text_cmp name e.0) (names_put entries name place)
  where
    by : (v : Ordering) → names_of (insert_entry text_cmp entries name place) ≡ with_one text_cmp (names_of entries) name
        → names_of (match_ordering v ((name, place) ∷ e ∷ entries) ((e.0, place) ∷ entries) (e ∷ insert_entry text_cmp entries name place)) ≡ placed v name e.0 (names_of entries) (with_one text_cmp (names_of entries) name)
    by Less rest = refl
    by Equal rest = refl
    by Greater rest = ap (λ (names : List (List ℕ)). e.0 ∷ names) rest

first_name : (schema : List PredDef) (e : List ℕ × ℕ) (entries : Entries) → names_at schema (places_of (e ∷ entries)) ≡ names_of (e ∷ entries) → name_at schema e.1 ≡ e.0
first_name schema e entries h = cc

other_names : (schema : List PredDef) (e : List ℕ × ℕ) (entries : Entries) → names_at schema (places_of (e ∷ entries)) ≡ names_of (e ∷ entries) → names_at schema (places_of entries) ≡ names_of entries
other_names schema e entries h = cc

-- each place has still its name
places_put : (schema : List PredDef) (entries : Entries) (name : List ℕ) (place : ℕ) → name_at schema place ≡ name → names_at schema (places_of entries) ≡ names_of entries
    → names_at schema (places_of (insert_entry text_cmp entries name place)) ≡ names_of (insert_entry text_cmp entries name place)
places_put schema [] name place n h = ap (λ (w : List ℕ). w ∷ []) n
places_put schema (e ∷ entries) name place n h = by (text_cmp name e.0) refl (places_put schema entries name place n (other_names schema e entries h))
  where
    by : (v : Ordering) → text_cmp name e.0 ≡ v → names_at schema (places_of (insert_entry text_cmp entries name place)) ≡ names_of (insert_entry text_cmp entries name place)
        → names_at schema (places_of (match_ordering v ((name, place) ∷ e ∷ entries) ((e.0, place) ∷ entries) (e ∷ insert_entry text_cmp entries name place))) ≡ names_of (match_ordering v ((name, place) ∷ e ∷ entries) ((e.0, place) ∷ entries) (e ∷ insert_entry text_cmp entries name place))
    by Less c rest = λ i. n i ∷ h i
    by Equal c rest = let same : name ≡ e.0 = same_text-equal name e.0 (ap is_eq c) in let m : name_at schema place ≡ e.0 = n ∙ same in let t = other_names schema e entries h in λ i. m i ∷ t i
    by Greater c rest = let m = first_name schema e entries h in λ i. m i ∷ rest i

within_put : (n : ℕ) (entries : Entries) (name : List ℕ) (place : ℕ) → place < n → AllByRecursion (λ p. p < n) (places_of entries) → AllByRecursion (λ p. p < n) (places_of (insert_entry text_cmp entries name place))
within_put n [] name place lt a = (lt, tt)
within_put n (e ∷ entries) name place lt a = by (text_cmp name e.0) (within_put n entries name place lt a.1)
  where
    by : (v : Ordering) → AllByRecursion (λ p. p < n) (places_of (insert_entry text_cmp entries name place))
        → AllByRecursion (λ p. p < n) (places_of (match_ordering v ((name, place) ∷ e ∷ entries) ((e.0, place) ∷ entries) (e ∷ insert_entry text_cmp entries name place)))
    by Less rest = (lt, a)
    by Equal rest = (lt, a.1)
    by Greater rest = (a.0, rest)

further : (n m : ℕ) (places : List ℕ) → n < m → AllByRecursion (λ p. p < n) places → AllByRecursion (λ p. p < m) places
further n m [] lt a = tt
further n m (p ∷ places) lt a = let first : p < n = a.0 in (omega arith, further n m places lt a.1)

pub kept_with : (schema : List PredDef) (entries : Entries) (d : PredDef) → AreKept schema entries → is_declared schema d.name ≡ false
    → AreKept (schema ++ d ∷ []) (insert_entry text_cmp entries d.name (length schema))
kept_with schema entries d k missing =
    let all : List PredDef = schema ++ d ∷ [] in
    let longer : length schema < length all = rw length-append (omega arith) in
    let put : Entries = insert_entry text_cmp entries d.name (length schema) in
    let still : names_at all (places_of entries) ≡ names_of entries = names_more schema d (places_of entries) k.indexed.within ∙ k.named in
    let named : names_at all (places_of put) ≡ names_of put = places_put all entries d.name (length schema) (name_last schema d) still in
    let with_name : names_at all (places_of put) ≡ with_one text_cmp (names_at schema (places_of entries)) d.name =
    named ∙ names_put entries d.name (length schema) ∙ ap (λ (names : List (List ℕ)). with_one text_cmp names d.name) (sym k.named) in
    record {
      indexed = indexed_by schema (places_of entries) (places_of put) d k.indexed missing with_name
          (within_put (length all) entries d.name (length schema) longer (further (length schema) (length all) (places_of entries) longer k.indexed.within));
      named = named;
    }
