-- Definitions that are added to older ones.
use Rattle.std.proofs.Common.{◌≡◌, ℕ, Bool, true, false, not, cond, List, [], ◌∷◌, ◌++◌, Option, Some, None, refl, ap, sym, ◌∙◌, append_assoc}
use Rattle.std.specs.Prelude.{is_some, map, filter, option_map, unwrap_or}
use Rattle.std.specs.List.{AllByRecursion}
use Rattle.std.specs.Option.{option_or}
use Rattle.dg_values.specs.Order.{same_text}
use Rattle.dg_schema.specs.declared.definition.PredDef.{PredDef}
use Rattle.dg_schema.specs.Definitions.{is_named, AreDistinct, definition_of, is_declared, replaced, with_definition, with_definitions}
use Rattle.dg_schema.specs.Joined.{newest, renewed, added}
use Rattle.dg_schema.specs.Laws.{names}
use Rattle.dg_schema.proofs.Names.{same_text-equal, same_text-turned, found_named, none_found, none_named, definition_of-append, KeepsNames, definition_kept, declared_kept, distinct_kept, distinct_pushed}

pub replaced_keeps : (newer : PredDef) → KeepsNames (replaced newer)
replaced_keeps newer older = by (is_named newer.name older) refl
  where
    by : (b : Bool) → is_named newer.name older ≡ b → (cond b newer older).name ≡ older.name
    by true e = sym (same_text-equal older.name newer.name e)
    by false e = refl

pub newest_keeps : (newer : List PredDef) → KeepsNames (newest newer)
newest_keeps newer older = by (definition_of newer older.name) refl
  where
    by : (o : Option PredDef) → definition_of newer older.name ≡ o → (unwrap_or o older).name ≡ older.name
    by None e = refl
    by (Some d) e = found_named newer older.name d e

-- ---- one definition

-- a name that an undeclared one isn't
other_name : (schema : List PredDef) (a b : List ℕ) (d : PredDef) → is_declared schema a ≡ false → definition_of schema b ≡ Some d → same_text a b ≡ false
other_name schema a b d e f = by (same_text a b) refl
  where
    by : (v : Bool) → same_text a b ≡ v → v ≡ false
    by true p = let same : a ≡ b = same_text-equal a b p in let there : is_declared schema a ≡ true = ap (is_declared schema) same ∙ ap is_some f in absurd (cc)
    by false p = refl

pub definition_with : (schema : List PredDef) (newer : PredDef) (name : List ℕ) → definition_of (with_definition schema newer) name ≡ cond (same_text newer.name name) (Some newer) (definition_of schema name)
definition_with schema newer name = by (is_declared schema newer.name) refl
  where
    placed : (o : Option PredDef) → definition_of schema name ≡ o → is_declared schema newer.name ≡ true → option_map (replaced newer) o ≡ cond (same_text newer.name name) (Some newer) o
    placed None f e = other (same_text newer.name name) refl
      where
        other : (b : Bool) → same_text newer.name name ≡ b → None ≡ cond b (Some newer) None
        other true p =
            let same : newer.name ≡ name = same_text-equal newer.name name p in
            let none : is_declared schema newer.name ≡ false = ap (is_declared schema) same ∙ ap is_some f in
            absurd (cc)
        other false p = refl
    placed (Some d) f e =
        let same : d.name ≡ name = found_named schema name d f in
        let turned : is_named newer.name d ≡ same_text newer.name name = ap (λ (n : List ℕ). same_text n newer.name) same ∙ same_text-turned name newer.name in
        rw turned (either (same_text newer.name name))
      where
        either : (b : Bool) → Some (cond b newer d) ≡ cond b (Some newer) (Some d)
        either true = refl
        either false = refl

    behind : (o : Option PredDef) → definition_of schema name ≡ o → is_declared schema newer.name ≡ false → option_or o (cond (same_text newer.name name) (Some newer) None) ≡ cond (same_text newer.name name) (Some newer) o
    behind None f e = refl
    behind (Some d) f e = rw (other_name schema newer.name name d e f) refl

    by : (b : Bool) → is_declared schema newer.name ≡ b → definition_of (cond b (map (replaced newer) schema) (schema ++ newer ∷ [])) name ≡ cond (same_text newer.name name) (Some newer) (definition_of schema name)
    by true e = definition_kept (replaced newer) (replaced_keeps newer) schema name ∙ placed (definition_of schema name) refl e
    by false e = definition_of-append schema (newer ∷ []) name ∙ behind (definition_of schema name) refl e

pub distinct_with : (schema : List PredDef) (newer : PredDef) → AreDistinct schema → AreDistinct (with_definition schema newer)
distinct_with schema newer a = by (is_declared schema newer.name) refl
  where
    by : (b : Bool) → is_declared schema newer.name ≡ b → AreDistinct (cond b (map (replaced newer) schema) (schema ++ newer ∷ []))
    by true e = distinct_kept (replaced newer) (replaced_keeps newer) schema a
    by false e = distinct_pushed schema newer a e

-- ---- several

pub distinct_joined : (older newer : List PredDef) → AreDistinct older → AreDistinct (with_definitions older newer)
distinct_joined older [] a = a
distinct_joined older (d ∷ newer) a = distinct_joined (with_definition older d) newer (distinct_with older d a)

pub definition_joined : (older newer : List PredDef) (name : List ℕ) → AreDistinct newer → definition_of (with_definitions older newer) name ≡ option_or (definition_of newer name) (definition_of older name)
definition_joined older [] name a = refl
definition_joined older (d ∷ newer) name a =
    definition_joined (with_definition older d) newer name a.1 ∙ rw (definition_with older d name) (by (same_text d.name name) refl)
  where
    by : (b : Bool) → same_text d.name name ≡ b → option_or (definition_of newer name) (cond b (Some d) (definition_of older name)) ≡ option_or (cond b (Some d) (definition_of newer name)) (definition_of older name)
    by true e =
        let same : d.name ≡ name = same_text-equal d.name name e in
        let none : definition_of newer name ≡ None = sym (ap (definition_of newer) same) ∙ none_found newer d.name a.0 in
        rw none refl
    by false e = refl

-- ---- what stays in its place, and what comes behind

-- maps that agree
map_same : (f g : PredDef → PredDef) → ((d : PredDef) → f d ≡ g d) → (schema : List PredDef) → map f schema ≡ map g schema
map_same f g e [] = refl
map_same f g e (d ∷ schema) = λ i. e d i ∷ map_same f g e schema i

map_twice : (f g : PredDef → PredDef) (schema : List PredDef) → map f (map g schema) ≡ map (λ d. f (g d)) schema
map_twice f g [] = refl
map_twice f g (d ∷ schema) = λ i. f (g d) ∷ map_twice f g schema i

-- filters that agree on these
filter_same : (p q : PredDef → Bool) (P : PredDef → Type 0) → ((d : PredDef) → P d → p d ≡ q d) → (schema : List PredDef) → AllByRecursion P schema → filter p schema ≡ filter q schema
filter_same p q P e [] a = refl
filter_same p q P e (d ∷ schema) a = rw (e d a.0) (by (q d) (filter_same p q P e schema a.1))
  where
    by : (b : Bool) → filter p schema ≡ filter q schema → cond b (d ∷ filter p schema) (filter p schema) ≡ cond b (d ∷ filter q schema) (filter q schema)
    by true rest = λ i. d ∷ rest i
    by false rest = rest

-- a newer definition in its namesake's place, and then more that have other names
newest_replaced : (d : PredDef) (newer : List PredDef) → AllByRecursion (λ other. is_named d.name other ≡ false) newer → (older : PredDef) → newest newer (replaced d older) ≡ newest (d ∷ newer) older
newest_replaced d newer a older = rw (same_text-turned d.name older.name) (by (same_text older.name d.name))
  where
    by : (b : Bool) → newest newer (cond b d older) ≡ unwrap_or (cond b (Some d) (definition_of newer older.name)) older
    by true = rw (none_found newer d.name a) refl
    by false = refl

-- a newer definition of no older one's name
renewed_other : (d : PredDef) (newer older : List PredDef) → AllByRecursion (λ other. is_named d.name other ≡ false) older → renewed newer older ≡ renewed (d ∷ newer) older
renewed_other d newer [] a = refl
renewed_other d newer (x ∷ older) a =
    let e : newest newer x ≡ newest (d ∷ newer) x = rw (same_text-turned d.name x.name ∙ a.0) refl in λ i. e i ∷ renewed_other d newer older a.1 i

renewed_pushed : (newer older : List PredDef) (d : PredDef) → renewed newer (older ++ d ∷ []) ≡ renewed newer older ++ newest newer d ∷ []
renewed_pushed newer [] d = refl
renewed_pushed newer (x ∷ older) d = λ i. newest newer x ∷ renewed_pushed newer older d i

-- behind one more of another name the same names are missing
declared_pushed : (older : List PredDef) (d : PredDef) (other : PredDef) → is_named d.name other ≡ false → is_declared (older ++ d ∷ []) other.name ≡ is_declared older other.name
declared_pushed older d other e =
    ap is_some (definition_of-append older (d ∷ []) other.name) ∙ rw (same_text-turned d.name other.name ∙ e) (same (definition_of older other.name))
  where
    same : (o : Option PredDef) → is_some (option_or o None) ≡ is_some o
    same None = refl
    same (Some x) = refl

added_pushed : (older newer : List PredDef) (d : PredDef) → AllByRecursion (λ other. is_named d.name other ≡ false) newer → added (older ++ d ∷ []) newer ≡ added older newer
added_pushed older newer d a =
    filter_same (λ x. not (is_declared (older ++ d ∷ []) x.name)) (λ x. not (is_declared older x.name)) (λ other. is_named d.name other ≡ false) (λ x e. ap not (declared_pushed older d x e)) newer a

all_true : (schema : List PredDef) → AllByRecursion (λ d. Unit {0}) schema
all_true [] = tt
all_true (d ∷ schema) = (tt, all_true schema)

pub added_kept : (f : PredDef → PredDef) → KeepsNames f → (older newer : List PredDef) → added (map f older) newer ≡ added older newer
added_kept f k older newer =
    filter_same (λ x. not (is_declared (map f older) x.name)) (λ x. not (is_declared older x.name)) (λ d. Unit {0}) (λ x e. ap not (declared_kept f k older x.name)) newer (all_true newer)

pub joined_in_place : (older newer : List PredDef) → AreDistinct newer → with_definitions older newer ≡ renewed newer older ++ added older newer
joined_in_place older [] a = sym (plain older)
  where
    plain : (older : List PredDef) → renewed [] older ++ [] ≡ older
    plain [] = refl
    plain (d ∷ older) = λ i. d ∷ plain older i
joined_in_place older (d ∷ newer) a = joined_in_place (with_definition older d) newer a.1 ∙ by (is_declared older d.name) refl
  where
    by : (b : Bool) → is_declared older d.name ≡ b → renewed newer (cond b (map (replaced d) older) (older ++ d ∷ [])) ++ added (cond b (map (replaced d) older) (older ++ d ∷ [])) newer ≡ renewed (d ∷ newer) older ++ cond (not b) (d ∷ added older newer) (added older newer)
    by true e =
        let first : renewed newer (map (replaced d) older) ≡ renewed (d ∷ newer) older = map_twice (newest newer) (replaced d) older ∙ map_same (λ x. newest newer (replaced d x)) (newest (d ∷ newer)) (newest_replaced d newer a.0) older in
        let then : added (map (replaced d) older) newer ≡ added older newer = added_kept (replaced d) (replaced_keeps d) older newer in
        λ i. first i ++ then i
    by false e =
        let itself : newest newer d ≡ d = rw (none_found newer d.name a.0) refl in
        let first : renewed newer (older ++ d ∷ []) ≡ renewed (d ∷ newer) older ++ d ∷ [] = renewed_pushed newer older d ∙ (λ i. renewed_other d newer older (none_named older d.name e) i ++ itself i ∷ []) in
        let then : added (older ++ d ∷ []) newer ≡ added older newer = added_pushed older newer d a.0 in
        (λ i. first i ++ then i) ∙ append_assoc (renewed (d ∷ newer) older) (d ∷ []) (added older newer)

-- ---- names

names_append : (xs ys : List PredDef) → names (xs ++ ys) ≡ names xs ++ names ys
names_append [] ys = refl
names_append (d ∷ xs) ys = λ i. d.name ∷ names_append xs ys i

pub names_kept : (f : PredDef → PredDef) → KeepsNames f → (schema : List PredDef) → names (map f schema) ≡ names schema
names_kept f k [] = refl
names_kept f k (d ∷ schema) = λ i. k d i ∷ names_kept f k schema i

pub names_joined : (older newer : List PredDef) → AreDistinct newer → names (with_definitions older newer) ≡ names older ++ names (added older newer)
names_joined older newer a =
    ap names (joined_in_place older newer a) ∙ names_append (renewed newer older) (added older newer) ∙ (λ i. names_kept (newest newer) (newest_keeps newer) older i ++ names (added older newer))
