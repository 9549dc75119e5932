-- Names of definitions, which of them are declared, and what keeps them.
use Rattle.std.proofs.Common.{◌≡◌, ℕ, Bool, true, false, cond, List, [], ◌∷◌, ◌++◌, Option, Some, None, refl, ap, sym, ◌∙◌}
use Rattle.std.specs.Prelude.{find, is_some, map, option_map}
use Rattle.std.specs.List.{AllByRecursion}
use Rattle.std.specs.Option.{option_or}
use Rattle.std.proofs.lemmas.List.Folds.{find-append}
use Rattle.dg_values.specs.Order.{same_text, text_cmp}
use Rattle.dg_sets.proofs.MadeOrders.{text_order}
use Rattle.dg_sets.proofs.Sets.{is_one, is_itself, eq_turn}
use Rattle.dg_schema.specs.declared.definition.PredDef.{PredDef}
use Rattle.dg_schema.specs.Definitions.{is_named, AreDistinct, definition_of, is_declared}

pub same_text-equal : (a b : List ℕ) → same_text a b ≡ true → a ≡ b
same_text-equal a b e = is_one text_cmp text_order a b e

pub same_text-itself : (a : List ℕ) → same_text a a ≡ true
same_text-itself a = is_itself text_cmp text_order a

pub same_text-turned : (a b : List ℕ) → same_text a b ≡ same_text b a
same_text-turned a b = eq_turn text_cmp text_order a b

-- ---- what is declared

-- a definition that is found has the name
pub found_named : (schema : List PredDef) (name : List ℕ) (found : PredDef) → definition_of schema name ≡ Some found → found.name ≡ name
found_named [] name found e = absurd (cc)
found_named (d ∷ schema) name found e = by (is_named name d) refl e (λ k. found_named schema name found k)
  where
    by : (b : Bool) → is_named name d ≡ b → cond b (Some d) (find (is_named name) schema) ≡ Some found → (find (is_named name) schema ≡ Some found → found.name ≡ name) → found.name ≡ name
    by true p e rest = let same : d.name ≡ name = same_text-equal d.name name p in let one : d ≡ found = cc in sym (ap (λ (x : PredDef). x.name) one) ∙ same
    by false p e rest = rest e

-- what has none of a name doesn't declare it
pub none_found : (schema : List PredDef) (name : List ℕ) → AllByRecursion (λ other. is_named name other ≡ false) schema → definition_of schema name ≡ None
none_found [] name a = refl
none_found (d ∷ schema) name a = rw a.0 (none_found schema name a.1)

pub none_named : (schema : List PredDef) (name : List ℕ) → is_declared schema name ≡ false → AllByRecursion (λ other. is_named name other ≡ false) schema
none_named [] name e = tt
none_named (d ∷ schema) name e = by (is_named name d) refl e (λ k. none_named schema name k)
  where
    by : (b : Bool) → is_named name d ≡ b → is_some (cond b (Some d) (find (is_named name) schema)) ≡ false → (is_declared schema name ≡ false → AllByRecursion (λ other. is_named name other ≡ false) schema) → (is_named name d ≡ false) × AllByRecursion (λ other. is_named name other ≡ false) schema
    by true p e rest = absurd (cc)
    by false p e rest = (p, rest e)

pub definition_of-append : (schema more : List PredDef) (name : List ℕ) → definition_of (schema ++ more) name ≡ option_or (definition_of schema name) (definition_of more name)
definition_of-append schema more name = find-append (is_named name) schema more

-- ---- definitions changed in their places, which keep their names

-- the names stay
abbrev pub KeepsNames : (PredDef → PredDef) → Type 0
KeepsNames f = (d : PredDef) → (f d).name ≡ d.name

pub kept_named : (f : PredDef → PredDef) → KeepsNames f → (name : List ℕ) (d : PredDef) → is_named name (f d) ≡ is_named name d
kept_named f k name d = ap (λ (n : List ℕ). same_text n name) (k d)

pub definition_kept : (f : PredDef → PredDef) → KeepsNames f → (schema : List PredDef) (name : List ℕ) → definition_of (map f schema) name ≡ option_map f (definition_of schema name)
definition_kept f k [] name = refl
definition_kept f k (d ∷ schema) name = rw (kept_named f k name d) (by (is_named name d) (definition_kept f k schema name))
  where
    by : (b : Bool) → definition_of (map f schema) name ≡ option_map f (definition_of schema name) → cond b (Some (f d)) (definition_of (map f schema) name) ≡ option_map f (cond b (Some d) (definition_of schema name))
    by true rest = refl
    by false rest = rest

pub declared_kept : (f : PredDef → PredDef) → KeepsNames f → (schema : List PredDef) (name : List ℕ) → is_declared (map f schema) name ≡ is_declared schema name
declared_kept f k schema name = ap is_some (definition_kept f k schema name) ∙ still (definition_of schema name)
  where
    still : (o : Option PredDef) → is_some (option_map f o) ≡ is_some o
    still None = refl
    still (Some d) = refl

none_kept : (f : PredDef → PredDef) → KeepsNames f → (schema : List PredDef) (name : List ℕ) → AllByRecursion (λ other. is_named name other ≡ false) schema → AllByRecursion (λ other. is_named name other ≡ false) (map f schema)
none_kept f k [] name a = tt
none_kept f k (d ∷ schema) name a = (kept_named f k name d ∙ a.0, none_kept f k schema name a.1)

pub distinct_kept : (f : PredDef → PredDef) → KeepsNames f → (schema : List PredDef) → AreDistinct schema → AreDistinct (map f schema)
distinct_kept f k [] a = tt
distinct_kept f k (d ∷ schema) a = (rw (k d) (none_kept f k schema d.name a.0), distinct_kept f k schema a.1)

-- ---- one more at the end

all_pushed : (P : PredDef → Type 0) (schema : List PredDef) (d : PredDef) → AllByRecursion P schema → P d → AllByRecursion P (schema ++ d ∷ [])
all_pushed P [] d a p = (p, tt)
all_pushed P (x ∷ schema) d a p = (a.0, all_pushed P schema d a.1 p)

distinct_behind : (schema : List PredDef) (d : PredDef) → AreDistinct schema → AllByRecursion (λ other. is_named d.name other ≡ false) schema → AreDistinct (schema ++ d ∷ [])
distinct_behind [] d a none = (tt, tt)
distinct_behind (x ∷ schema) d a none =
    (all_pushed (λ other. is_named x.name other ≡ false) schema d a.0 (same_text-turned d.name x.name ∙ none.0), distinct_behind schema d a.1 none.1)

pub distinct_pushed : (schema : List PredDef) (d : PredDef) → AreDistinct schema → is_declared schema d.name ≡ false → AreDistinct (schema ++ d ∷ [])
distinct_pushed schema d a e = distinct_behind schema d a (none_named schema d.name e)
