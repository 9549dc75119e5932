-- The form of a Name.
use Rattle.std.proofs.Common.{◌≡◌, ℕ, suc, ◌+◌, ◌≤◌, ◌<◌, Bool, true, false, ◌&&◌, ◌||◌, ◌==◌, List, [], ◌∷◌, ◌++◌, length, refl, sym, ap, subst, ◌∙◌, arith}
use Rattle.std.specs.List.{concat, AllByRecursion}
use Rattle.std.proofs.lemmas.Bool.{eqb-true}
use Rattle.dg_text.specs.Reading.{next}
use Rattle.dg_text.specs.Forms.{is_letter, is_word_byte, goes_on, name_more, name_len, at_len}
use Rattle.dg_text.specs.Language.{IsNamePiece, IsName, IsAt}
use Rattle.dg_text.proofs.Fronts.{Found, InPieces, nothing, long, with_byte, with_piece, positive, some_from}

goes : (b : ℕ) (rest : List ℕ) → goes_on (b ∷ rest) ≡ true → name_more (b ∷ rest) ≡ suc (name_more rest)
unfolding name_more
goes b rest h =
    let e : name_more (b ∷ rest) ≡ 1 + name_more rest = rw h refl in
    omega (arith, e)

stops : (b : ℕ) (rest : List ℕ) → goes_on (b ∷ rest) ≡ false → name_more (b ∷ rest) ≡ 0
unfolding name_more
stops b rest h = rw h refl

word_goes : (b : ℕ) (rest : List ℕ) → is_word_byte b ≡ true → name_more (b ∷ rest) ≡ suc (name_more rest)
word_goes b rest w = goes b rest (rw w refl)

dot_goes : (b c : ℕ) (rest : List ℕ) → b ≡ 46 → is_word_byte c ≡ true → name_more (b ∷ c ∷ rest) ≡ suc (suc (name_more rest))
dot_goes b c rest d w =
    let g : goes_on (46 ∷ c ∷ rest) ≡ true = rw w refl in
    goes b (c ∷ rest) (subst (λ (x : ℕ). goes_on (x ∷ c ∷ rest) ≡ true) (sym d) g) ∙ ap suc (word_goes c rest w)

-- what goes on without a letter, a digit or _ is a dot before one
dotted : (b : ℕ) (rest : List ℕ) → is_word_byte b ≡ false → goes_on (b ∷ rest) ≡ true → (b ≡ 46) × (next is_word_byte rest ≡ true)
dotted b rest w g = by (b == 46) refl (rw w at g)
  where
    by : (v : Bool) → (b == 46) ≡ v → (false || ((b == 46) && next is_word_byte rest)) ≡ true → (b ≡ 46) × (next is_word_byte rest ≡ true)
    by true e h = (eqb-true b 46 e, rw e at h)
    by false e h = absurd (let f = rw e at h in cc)

abbrev Pieces : List ℕ → ℕ → Type 0
Pieces text n = Found text n (InPieces IsNamePiece)

none : (text : List ℕ) → Pieces text 0
none text = nothing (InPieces IsNamePiece) text (record { pieces = []; each = tt; is = refl })

more_found : (text : List ℕ) → Pieces text (name_more text)
unfolding name_more
more_found [] = none []
more_found (b ∷ []) = by (is_word_byte b) refl
  where
    by : (v : Bool) → is_word_byte b ≡ v → Pieces (b ∷ []) (name_more (b ∷ []))
    by true w = long (InPieces IsNamePiece) (b ∷ []) 1 (name_more (b ∷ [])) (sym (word_goes b [] w)) (with_piece IsNamePiece (b ∷ []) [] 0 w (none []))
    by false w = other (goes_on (b ∷ [])) refl
      where
        other : (v : Bool) → goes_on (b ∷ []) ≡ v → Pieces (b ∷ []) (name_more (b ∷ []))
        other true g = absurd (let d = dotted b [] w g in cc (d.1))
        other false g = long (InPieces IsNamePiece) (b ∷ []) 0 (name_more (b ∷ [])) (sym (stops b [] g)) (none (b ∷ []))
more_found (b ∷ c ∷ rest) = by (is_word_byte b) refl (more_found (c ∷ rest)) (more_found rest)
  where
    by : (v : Bool) → is_word_byte b ≡ v → Pieces (c ∷ rest) (name_more (c ∷ rest)) → Pieces rest (name_more rest) → Pieces (b ∷ c ∷ rest) (name_more (b ∷ c ∷ rest))
    by true w one two = long (InPieces IsNamePiece) (b ∷ c ∷ rest) (1 + name_more (c ∷ rest)) (name_more (b ∷ c ∷ rest)) (omega (arith, word_goes b (c ∷ rest) w)) (with_piece IsNamePiece (b ∷ []) (c ∷ rest) (name_more (c ∷ rest)) w one)
    by false w one two = other (goes_on (b ∷ c ∷ rest)) refl
      where
        other : (v : Bool) → goes_on (b ∷ c ∷ rest) ≡ v → Pieces (b ∷ c ∷ rest) (name_more (b ∷ c ∷ rest))
        other true g =
            let d = dotted b (c ∷ rest) w g in
            long (InPieces IsNamePiece) (b ∷ c ∷ rest) (2 + name_more rest) (name_more (b ∷ c ∷ rest)) (omega (arith, dot_goes b c rest d.0 d.1)) (with_piece IsNamePiece (b ∷ c ∷ []) rest (name_more rest) d two)
        other false g = long (InPieces IsNamePiece) (b ∷ c ∷ rest) 0 (name_more (b ∷ c ∷ rest)) (sym (stops b (c ∷ rest) g)) (none (b ∷ c ∷ rest))

more_most : (pieces : List (List ℕ)) (rest : List ℕ) → AllByRecursion IsNamePiece pieces → length (concat pieces) ≤ name_more (concat pieces ++ rest)
more_most [] rest a = omega arith
more_most ([] ∷ pieces) rest a = absurd a.0
more_most ((b ∷ []) ∷ pieces) rest a = omega (arith, more_most pieces rest a.1, word_goes b (concat pieces ++ rest) a.0)
more_most ((b ∷ c ∷ []) ∷ pieces) rest a = omega (arith, more_most pieces rest a.1, dot_goes b c (concat pieces ++ rest) a.0.0 a.0.1)
more_most ((b ∷ c ∷ d ∷ piece) ∷ pieces) rest a = absurd a.0

name_goes : (b : ℕ) (rest : List ℕ) → is_letter b ≡ true → name_len (b ∷ rest) ≡ suc (name_more rest)
name_goes b rest h =
    let e : name_len (b ∷ rest) ≡ 1 + name_more rest = rw h refl in
    omega (arith, e)

-- as many bytes as are counted are a Name
pub name_found : (text : List ℕ) → 0 < name_len text → Found text (name_len text) IsName
name_found [] some = absurd (omega (arith, some))
name_found (b ∷ rest) some = by (is_letter b) refl
  where
    by : (v : Bool) → is_letter b ≡ v → Found (b ∷ rest) (name_len (b ∷ rest)) IsName
    by true h = long IsName (b ∷ rest) (suc (name_more rest)) (name_len (b ∷ rest)) (sym (name_goes b rest h))
        (with_byte (InPieces IsNamePiece) IsName b rest (name_more rest) (λ front p. record { first = b; pieces = p.pieces; begins = h; each = p.each; is = ap (λ (t : List ℕ). b ∷ t) p.is }) (more_found rest))
    by false h = absurd (let none : name_len (b ∷ rest) ≡ 0 = rw h refl in omega (arith, some, none))

-- and no more bytes are one
pub name_most : (text rest : List ℕ) → IsName text → length text ≤ name_len (text ++ rest)
name_most text rest n = subst (λ (t : List ℕ). length t ≤ name_len (t ++ rest)) (sym n.is)
    (omega (arith, more_most n.pieces rest n.each, name_goes n.first (concat n.pieces ++ rest) n.begins))

at_goes : (rest : List ℕ) → 0 < name_len rest → at_len (64 ∷ rest) ≡ suc (name_len rest)
at_goes rest some =
    let e : at_len (64 ∷ rest) ≡ 1 + name_len rest = rw (positive (name_len rest) some) refl in
    omega (arith, e)

pub at_found : (text : List ℕ) → 0 < at_len text → Found text (at_len text) IsAt
at_found [] some = absurd (omega (arith, some))
at_found (b ∷ rest) some = by (b == 64) refl (name_len rest == 0) refl
  where
    by : (v : Bool) → (b == 64) ≡ v → (z : Bool) → (name_len rest == 0) ≡ z → Found (b ∷ rest) (at_len (b ∷ rest)) IsAt
    by true e true f = absurd (let none : at_len (b ∷ rest) ≡ 0 = rw (e, f) refl in omega (arith, some, none))
    by true e false f =
        let len : at_len (b ∷ rest) ≡ 1 + name_len rest = rw (e, f) refl in
        let same : suc (name_len rest) ≡ at_len (b ∷ rest) = omega (arith, len) in
        long IsAt (b ∷ rest) (suc (name_len rest)) (at_len (b ∷ rest)) same
        (with_byte IsName IsAt b rest (name_len rest) (λ front p. record { name = front; named = p; is = ap (λ (x : ℕ). x ∷ front) (eqb-true b 64 e) }) (name_found rest (some_from (name_len rest) f)))
    by false e z f = absurd (let none : at_len (b ∷ rest) ≡ 0 = rw e refl in omega (arith, some, none))

first_some : (text : List ℕ) → IsName text → 0 < length text
first_some text n = subst (λ (t : List ℕ). 0 < length t) (sym n.is) (omega arith)

pub at_most : (text rest : List ℕ) → IsAt text → length text ≤ at_len (text ++ rest)
at_most text rest a =
    let le : length a.name ≤ name_len (a.name ++ rest) = name_most a.name rest a.named in
    let some : 0 < name_len (a.name ++ rest) = omega (arith, le, first_some a.name a.named) in
    subst (λ (t : List ℕ). length t ≤ at_len (t ++ rest)) (sym a.is) (omega (arith, le, at_goes (a.name ++ rest) some))
