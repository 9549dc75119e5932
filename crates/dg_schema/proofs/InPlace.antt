-- A definition put among others, at the end or in the place of its namesake.
use Rattle.std.proofs.Common.{◌≡◌, ℕ, zero, suc, ◌<◌, Bool, true, false, cond, List, [], ◌∷◌, ◌++◌, Some, length, take, drop, set, refl, ap, subst, sym, ◌∙◌, arith, length-append, fold}
use Rattle.std.specs.Prelude.{map, is_some}
use Rattle.std.specs.List.{AllByRecursion, insert}
use Rattle.std.proofs.lemmas.List.{take-map, map-append, length-map}
use Rattle.std.proofs.lemmas.List.Sums.{fold-append}
use Rattle.dg_values.specs.Order.{text_cmp, same_text}
use Rattle.dg_values.specs.Ascending.{Ascends, has, with_one}
use Rattle.dg_sets.specs.Placing.{BelongsAt}
use Rattle.dg_schema.specs.declared.definition.PredDef.{PredDef}
use Rattle.dg_schema.specs.Definitions.{AreDistinct, definition_of, is_declared, is_named, replaced, with_definition}
use Rattle.dg_schema.specs.Places.{name_at, names_at, IsIndexed, IsThere}
use Rattle.dg_schema.proofs.Names.{same_text-equal, KeepsNames, declared_kept, distinct_kept}
use Rattle.dg_schema.proofs.Joining.{replaced_keeps}
use Rattle.dg_schema.proofs.ByName.{name_last, names_more, indexed_by}

-- ---- in the place of its namesake

-- others stay
replaced_others : (schema : List PredDef) (d : PredDef) → AllByRecursion (λ other. is_named d.name other ≡ false) schema → map (replaced d) schema ≡ schema
replaced_others [] d a = refl
replaced_others (x ∷ schema) d a = let e : replaced d x ≡ x = rw a.0 refl in λ i. e i ∷ replaced_others schema d a.1 i

-- one at a place has its name
named_at : (schema : List PredDef) (name : List ℕ) (place : ℕ) → AllByRecursion (λ other. is_named name other ≡ false) schema → place < length schema → same_text (name_at schema place) name ≡ false
named_at [] name place a lt = absurd (omega arith)
named_at (x ∷ schema) name zero a lt = a.0
named_at (x ∷ schema) name (suc place) a lt = named_at schema name place a.1 (omega arith)

pub set_replaced : (schema : List PredDef) (place : ℕ) (d : PredDef) → AreDistinct schema → place < length schema → same_text (name_at schema place) d.name ≡ true → set schema place d ≡ map (replaced d) schema
set_replaced [] place d a lt e = absurd (omega arith)
set_replaced (x ∷ schema) zero d a lt e =
    let same : x.name ≡ d.name = same_text-equal x.name d.name e in
    let first : d ≡ replaced d x = rw e refl in
    let rest : map (replaced d) schema ≡ schema = replaced_others schema d (subst (λ (n : List ℕ). AllByRecursion (λ other. is_named n other ≡ false) schema) same a.0) in
    let back = sym rest in
    λ i. first i ∷ back i
set_replaced (x ∷ schema) (suc place) d a lt e = by (same_text x.name d.name) refl (set_replaced schema place d a.1 (omega arith) e)
  where
    by : (b : Bool) → same_text x.name d.name ≡ b → set schema place d ≡ map (replaced d) schema → x ∷ set schema place d ≡ map (replaced d) (x ∷ schema)
    by true p rest =
        let same : x.name ≡ d.name = same_text-equal x.name d.name p in
        let other : same_text (name_at schema place) d.name ≡ false = subst (λ (n : List ℕ). same_text (name_at schema place) n ≡ false) same (named_at schema x.name place a.0 (omega arith)) in
        absurd (cc)
    by false p rest = let first : x ≡ replaced d x = rw p refl in λ i. first i ∷ rest i

declared_there : (schema : List PredDef) (name : List ℕ) (place : ℕ) → place < length schema → same_text (name_at schema place) name ≡ true → is_declared schema name ≡ true
declared_there [] name place lt e = absurd (omega arith)
declared_there (x ∷ schema) name zero lt e = rw e refl
declared_there (x ∷ schema) name (suc place) lt e = by (is_named name x) (declared_there schema name place (omega arith) e)
  where
    by : (b : Bool) → is_declared schema name ≡ true → is_some (cond b (Some x) (definition_of schema name)) ≡ true
    by true r = refl
    by false r = r

pub replaced_with : (schema : List PredDef) (place : ℕ) (d : PredDef) → AreDistinct schema → IsThere schema d.name place → set schema place d ≡ with_definition schema d
replaced_with schema place d a t = rw (declared_there schema d.name place t.within t.named) (set_replaced schema place d a t.within t.named)

name_kept : (f : PredDef → PredDef) → KeepsNames f → (schema : List PredDef) (p : ℕ) → name_at (map f schema) p ≡ name_at schema p
name_kept f k [] p = refl
name_kept f k (x ∷ schema) zero = k x
name_kept f k (x ∷ schema) (suc p) = name_kept f k schema p

names_kept_at : (f : PredDef → PredDef) → KeepsNames f → (schema : List PredDef) (places : List ℕ) → names_at (map f schema) places ≡ names_at schema places
names_kept_at f k schema [] = refl
names_kept_at f k schema (p ∷ places) = λ i. name_kept f k schema p i ∷ names_kept_at f k schema places i

indexed_kept : (f : PredDef → PredDef) → KeepsNames f → (schema : List PredDef) (places : List ℕ) → IsIndexed schema places → IsIndexed (map f schema) places
indexed_kept f k schema places x =
    let same = names_kept_at f k schema places in
    let long : length schema ≡ length (map f schema) = sym (length-map schema f) in
    record {
      distinct = distinct_kept f k schema x.distinct;
      within = subst (λ (n : ℕ). AllByRecursion (λ place. place < n) places) long x.within;
      ascend = subst (λ (names : List (List ℕ)). Ascends text_cmp names) (sym same) x.ascend;
      whole = λ name. ap (λ (names : List (List ℕ)). has text_cmp names name) same ∙ (x.whole name ∙ sym (declared_kept f k schema name));
    }

pub replaced_indexed : (schema : List PredDef) (places : List ℕ) (place : ℕ) (d : PredDef) → IsIndexed schema places → IsThere schema d.name place → IsIndexed (set schema place d) places
replaced_indexed schema places place d x t =
    subst (λ (s : List PredDef). IsIndexed s places) (sym (set_replaced schema place d x.distinct t.within t.named)) (indexed_kept (replaced d) (replaced_keeps d) schema places x)

-- ---- at the end

missing : (schema : List PredDef) (places : List ℕ) (d : PredDef) (at : ℕ) → IsIndexed schema places → BelongsAt text_cmp (names_at schema places) d.name at → is_declared schema d.name ≡ false
missing schema places d at x b = sym (x.whole d.name) ∙ b.missing

pub added_with : (schema : List PredDef) (places : List ℕ) (d : PredDef) (at : ℕ) → IsIndexed schema places → BelongsAt text_cmp (names_at schema places) d.name at → schema ++ d ∷ [] ≡ with_definition schema d
added_with schema places d at x b = rw (missing schema places d at x b) refl

drop-map : {X Y : Type 0} (f : X → Y) (n : ℕ) (xs : List X) → drop n (map f xs) ≡ map f (drop n xs)
drop-map f zero xs = refl
drop-map f (suc n) [] = refl
drop-map f (suc n) (x ∷ xs) = drop-map f n xs

-- the names with the one put in
names_inserted : (f : ℕ → List ℕ) (places : List ℕ) (at p : ℕ) → map f (insert places at p) ≡ insert (map f places) at (f p)
names_inserted f places at p =
    map-append f (take at places) (p ∷ drop at places) ∙ (λ i. sym (take-map f at places) i ++ f p ∷ sym (drop-map f at places) i)

all_inserted : (n : ℕ) (places : List ℕ) (at p : ℕ) → p < n → AllByRecursion (λ q. q < n) places → AllByRecursion (λ q. q < n) (insert places at p)
all_inserted n places zero p lt a = (lt, a)
all_inserted n [] (suc at) p lt a = (lt, tt)
all_inserted n (q ∷ places) (suc at) p lt a = (a.0, all_inserted n places at p lt a.1)

further : (n m : ℕ) (places : List ℕ) → n < m → AllByRecursion (λ p. p < n) places → AllByRecursion (λ p. p < m) places
further n m [] lt a = tt
further n m (p ∷ places) lt a = let first : p < n = a.0 in (omega arith, further n m places lt a.1)

pub added_indexed : (schema : List PredDef) (places : List ℕ) (d : PredDef) (at : ℕ) → IsIndexed schema places → BelongsAt text_cmp (names_at schema places) d.name at → IsIndexed (schema ++ d ∷ []) (insert places at (length schema))
added_indexed schema places d at x b =
    let all : List PredDef = schema ++ d ∷ [] in
    let longer : length schema < length all = rw length-append (omega arith) in
    let still : names_at all places ≡ names_at schema places = names_more schema d places x.within in
    let last : name_at all (length schema) ≡ d.name = name_last schema d in
    let put : names_at all (insert places at (length schema)) ≡ with_one text_cmp (names_at schema places) d.name =
    names_inserted (name_at all) places at (length schema) ∙ ((λ i. insert (still i) at (last i)) ∙ sym b.put) in
    indexed_by schema places (insert places at (length schema)) d x (missing schema places d at x b) put
    (all_inserted (length all) places at (length schema) longer (further (length schema) (length all) places longer x.within))

-- ---- one after the other

pub more_folded : (base : List PredDef) (before : List PredDef) (d : PredDef) → fold with_definition base (before ++ d ∷ []) ≡ with_definition (fold with_definition base before) d
more_folded base before d = fold-append with_definition base before (d ∷ [])
