-- What a table of words answers, as the look-up in its rows.
use Rattle.std.proofs.Common.{◌≡◌, ℕ, zero, suc, ◌<◌, true, List, [], ◌∷◌, length, get_or, map, Option, Some, None, refl, sym, ◌∙◌, ap, subst, inl, inr, ◌⊎◌, arith}
use Rattle.std.specs.Prelude.{option_map}
use Rattle.std.specs.Option.{option_and_then, IsSome}
use Rattle.std.specs.List.{Contains}
use Rattle.std.specs.Str.{bytes_eq}
use Rattle.std.proofs.lemmas.Bool.{cases_Bool}
use Rattle.std.proofs.lemmas.Slice.Eq.{bytes_eq-Decides}
use Rattle.dg_table.specs.Rows.{Row, IsCodeOf, IsNameOf}
use Rattle.dg_table.specs.Words.{named_in}

-- the first row of a word is among the rows
there : (rows : List Row) (word : List ℕ) (code : ℕ) → named_in rows word ≡ Some code → Contains rows (word, code)
there [] word code e = cc
there (row ∷ rows) word code e =
    elim (cases_Bool (bytes_eq word row.0)) [
      | inl same ↦
          let word_is : row.0 ≡ word = sym ((bytes_eq-Decides word row.0).0 same) in
          let found : Some row.1 ≡ Some code = rw same at e in
          let code_is : row.1 ≡ code = cc in
          (0, omega arith, λ i. (word_is i, code_is i))
      | inr other ↦
          let rest = there rows word code (rw other at e) in
          (suc rest.0, omega arith, rest.2)
    ]

-- a row is the first one or a later one
first_or_later : (row x : Row) (rows : List Row) (k : ℕ) → k < length (row ∷ rows) → get_or (row ∷ rows) k x ≡ x → (row ≡ x) ⊎ Contains rows x
first_or_later row x rows zero within at = inl at
first_or_later row x rows (suc k) within at = inr (k, omega arith, at)

-- where no row of a word is found, none is there
nowhere : (rows : List Row) (word : List ℕ) (code : ℕ) → named_in rows word ≡ None → Contains rows (word, code) → ⊥
nowhere [] word code e (k, within, at) = absurd (omega arith)
nowhere (row ∷ rows) word code e (k, within, at) =
    elim (cases_Bool (bytes_eq word row.0)) [
      | inl same ↦
          let found : Some row.1 ≡ None = rw same at e in
          cc
      | inr other ↦
          elim (first_or_later row (word, code) rows k within at) [
            | inl is ↦
                let same : bytes_eq word row.0 ≡ true = (bytes_eq-Decides word row.0).1 (sym (ap (λ r. r.0) is)) in
                cc
            | inr more ↦ nowhere rows word code (rw other at e) more
          ]
    ]

found_is : (rows : List Row) (word : List ℕ) (answer found : Option ℕ) → IsCodeOf rows word answer → named_in rows word ≡ found → answer ≡ found
found_is rows word answer (Some code) is e = (is code).1 (there rows word code e)
found_is rows word None None is e = refl
found_is rows word (Some code) None is e = absurd (nowhere rows word code e ((is code).0 refl))

abbrev flat : {A : Type 0} → Option (Option A) → Option A
flat None = None
flat (Some x) = x

flat_map_is : {A B : Type 0} (f : A → Option B) (x : Option A) → option_and_then f x ≡ flat (option_map f x)
flat_map_is f None = refl
flat_map_is f (Some x) = refl

flat_some : {A : Type 0} (x : Option A) → flat (option_map (λ y. Some y) x) ≡ x
flat_some None = refl
flat_some (Some x) = refl

-- rows of what each row's part stands for
abbrev pub rows_as : {A B : Type 0} → (A → B) → List (List ℕ × A) → List (List ℕ × B)
rows_as f = map (λ row. (row.0, f row.1))

named_as : {A B : Type 0} (f : A → B) (rows : List (List ℕ × A)) (word : List ℕ) → named_in (rows_as f rows) word ≡ option_map f (named_in rows word)
named_as f [] word = refl
named_as f (row ∷ rows) word =
    elim (cases_Bool (bytes_eq word row.0)) [
      | inl same ↦ rw same refl
      | inr other ↦ rw other (named_as f rows word)
    ]

-- what a code that was found means is what its word names, where each code means what its row's word names
pub means : {A : Type 0} (f : ℕ → Option A) (codes : List Row) (rows : List (List ℕ × A)) (table : List Row) (word : List ℕ) (answer : Option ℕ)
    → table ≡ codes → rows_as f codes ≡ rows_as (λ x. Some x) rows → IsCodeOf table word answer
    → option_and_then f answer ≡ named_in rows word
means f codes rows table word answer made same is =
    ap (option_and_then f) (found_is table word answer (named_in table word) is refl ∙ ap (λ rs. named_in rs word) made)
    ∙ flat_map_is f (named_in codes word)
    ∙ ap flat (sym (named_as f codes word) ∙ ap (λ rs. named_in rs word) same ∙ named_as (λ x. Some x) rows word)
    ∙ flat_some (named_in rows word)

module _ {S : Type 0} (bytes : S → List ℕ) (codes table : List Row) (word : List ℕ) (place code : ℕ) (answer : Option S) where
  -- the name of a code is that of its row
  named : table ≡ codes → Contains codes (word, place) → code ≡ place → IsNameOf table code (option_map bytes answer)
      → option_map bytes answer ≡ Some word
  named made here at is = (is word).1 (subst (λ rows. Contains rows (word, code)) (sym made) (subst (λ c. Contains codes (word, c)) (sym at) here))

  is_some : (x : Option S) → option_map bytes x ≡ Some word → IsSome x
  is_some None e = cc
  is_some (Some x) e = refl

  pub has_name : table ≡ codes → Contains codes (word, place) → code ≡ place → IsNameOf table code (option_map bytes answer) → IsSome answer
  has_name made here at is = is_some answer (named made here at is)

  pub name_is : (name : S) → answer ≡ Some name → table ≡ codes → Contains codes (word, place) → code ≡ place
      → IsNameOf table code (option_map bytes answer) → bytes name ≡ word
  name_is name found made here at is =
      let both : Some (bytes name) ≡ Some word = sym (ap (option_map bytes) found) ∙ named made here at is in
      cc
