-- What stands after the \ of an escape, and what stands between quotes and slashes.
use Rattle.std.proofs.Common.{◌≡◌, ℕ, zero, suc, ◌≤◌, ◌<◌, Bool, true, false, cond, not, ◌||◌, ◌==◌, inl, inr, List, [], ◌∷◌, ◌++◌, length, take, drop, take-append-drop, refl, sym, ap, subst, ◌∙◌, arith}
use Rattle.std.specs.Prelude.{Option, None, is_some}
use Rattle.std.specs.Char.{is_ascii_hexdigit}
use Rattle.std.proofs.lemmas.Bool.{eqb-true, or_parts}
use Rattle.dg_text.specs.declared.forms.Step.TheVariants as steps
use Rattle.dg_text.specs.declared.forms.Delimiter.{Delimiter}
use Rattle.dg_text.specs.declared.forms.Delimiter.TheVariants as delimiters
use Rattle.dg_text.specs.Escapes.{hex_more, hex_number, hex_char, hex_len, is_simple, escape_len}
use Rattle.dg_text.specs.Forms.{quoted_step, regex_step, step}
use Rattle.dg_text.specs.Language.{NamesChar, IsEscape, IsQuotedPiece, IsRegexPiece}
use Rattle.dg_text.proofs.Fronts.{positive, some_from}

-- ---- digits

-- digits are read alike whatever stands after them
hex_front : (n so_far : ℕ) (digits rest : List ℕ) → length digits ≡ n → hex_number n so_far (digits ++ rest) ≡ hex_number n so_far digits
unfolding hex_number
hex_front zero so_far [] rest e = refl
hex_front zero so_far (b ∷ digits) rest e = absurd (omega (arith, e))
hex_front (suc n) so_far [] rest e = absurd (omega (arith, e))
hex_front (suc n) so_far (b ∷ digits) rest e = ap (λ (o : Option ℕ). cond (is_ascii_hexdigit b) o None) (hex_front n (hex_more so_far b) digits rest (omega (arith, e)))

pub length_taken : (n : ℕ) (text : List ℕ) → n ≤ length text → length (take n text) ≡ n
length_taken zero text le = refl
length_taken (suc n) [] le = absurd (omega (arith, le))
length_taken (suc n) (b ∷ text) le = ap suc (length_taken n text (omega (arith, le)))

hex_at_front : (n : ℕ) (digits rest : List ℕ) → NamesChar n digits → hex_len n (digits ++ rest) ≡ n
hex_at_front n digits rest c =
    let named : is_some (hex_char n (digits ++ rest)) ≡ true = rw (hex_front n 0 digits rest c.count) c.names in
    rw named refl

hex_named : (n : ℕ) (text : List ℕ) → is_some (hex_char n text) ≡ true → n ≤ length text → NamesChar n (take n text)
hex_named n text named le =
    let len : length (take n text) ≡ n = length_taken n text le in
    let same : hex_number n 0 text ≡ hex_number n 0 (take n text) =
    sym (ap (hex_number n 0) (take-append-drop n text)) ∙ hex_front n 0 (take n text) (drop n text) len in
    record { count = len; names = (rw same at named) }

-- ---- escapes

pub escape_is : (text rest : List ℕ) → IsEscape text → escape_len (text ++ rest) ≡ length text
escape_is [] rest e = absurd e
escape_is (b ∷ digits) rest (inl p) =
    let e : escape_len (b ∷ (digits ++ rest)) ≡ 1 = rw p.0 refl in
    omega (arith, e, ap length p.1)
escape_is (b ∷ digits) rest (inr (inl p)) =
    let len : hex_len 4 (digits ++ rest) ≡ 4 = hex_at_front 4 digits rest p.1 in
    let e : escape_len (117 ∷ (digits ++ rest)) ≡ 5 = rw len refl in
    let f : escape_len (b ∷ (digits ++ rest)) ≡ 5 = subst (λ (x : ℕ). escape_len (x ∷ (digits ++ rest)) ≡ 5) (sym p.0) e in
    omega (arith, f, p.1.count)
escape_is (b ∷ digits) rest (inr (inr p)) =
    let len : hex_len 8 (digits ++ rest) ≡ 8 = hex_at_front 8 digits rest p.1 in
    let e : escape_len (85 ∷ (digits ++ rest)) ≡ 9 = rw len refl in
    let f : escape_len (b ∷ (digits ++ rest)) ≡ 9 = subst (λ (x : ℕ). escape_len (x ∷ (digits ++ rest)) ≡ 9) (sym p.0) e in
    omega (arith, f, p.1.count)

pub escape_found : (text : List ℕ) → 0 < escape_len text → escape_len text ≤ length text → IsEscape (take (escape_len text) text)
escape_found [] some le = absurd (omega (arith, some))
escape_found (b ∷ rest) some le = by (is_simple b) refl (b == 117) refl (b == 85) refl
  where
    Goal : ℕ → Type 0
    Goal n = IsEscape (take n (b ∷ rest))

    none : escape_len (b ∷ rest) ≡ 0 → IsEscape (take (escape_len (b ∷ rest)) (b ∷ rest))
    none e = absurd (omega (arith, some, e))

    four : (is_simple b ≡ false) → (b == 117) ≡ true → (v : Bool) → is_some (hex_char 4 rest) ≡ v → IsEscape (take (escape_len (b ∷ rest)) (b ∷ rest))
    four s e true h =
        let len : escape_len (b ∷ rest) ≡ 5 = rw (s, e, h) refl in
        subst Goal (sym len) (inr (inl (eqb-true b 117 e, hex_named 4 rest h (omega (arith, le, len)))))
    four s e false h = none (rw (s, e, h) refl)

    eight : (is_simple b ≡ false) → (b == 117) ≡ false → (b == 85) ≡ true → (v : Bool) → is_some (hex_char 8 rest) ≡ v → IsEscape (take (escape_len (b ∷ rest)) (b ∷ rest))
    eight s u e true h =
        let len : escape_len (b ∷ rest) ≡ 9 = rw (s, u, e, h) refl in
        subst Goal (sym len) (inr (inr (eqb-true b 85 e, hex_named 8 rest h (omega (arith, le, len)))))
    eight s u e false h = none (rw (s, u, e, h) refl)

    by : (v : Bool) → is_simple b ≡ v → (w : Bool) → (b == 117) ≡ w → (x : Bool) → (b == 85) ≡ x → IsEscape (take (escape_len (b ∷ rest)) (b ∷ rest))
    by true s w u x c =
        let len : escape_len (b ∷ rest) ≡ 1 = rw s refl in
        subst Goal (sym len) (inl (s, refl))
    by false s true u x c = four s u (is_some (hex_char 4 rest)) refl
    by false s false u true c = eight s u c (is_some (hex_char 8 rest)) refl
    by false s false u false c = none (rw (s, u, c) refl)

-- ---- between quotes and slashes

-- the byte that closes
abbrev pub closer : Delimiter → ℕ
closer delimiters.Quote = 34
closer delimiters.Slash = 47

-- what stands between two such bytes
abbrev pub IsPiece : Delimiter → List ℕ → Type 0
IsPiece delimiters.Quote piece = IsQuotedPiece piece
IsPiece delimiters.Slash piece = IsRegexPiece piece

not_true : (b : Bool) → not b ≡ true → b ≡ false
not_true true h = absurd (cc)
not_true false h = refl

quoted_goes : (b : ℕ) (more rest : List ℕ) → IsQuotedPiece (b ∷ more) → quoted_step b (more ++ rest) ≡ steps.Goes (length more)
quoted_goes b more rest (inl p) =
    let all : (b == 34 || b == 92 || b == 10 || b == 13) ≡ false = not_true _ p.0 in
    let return_not = or_parts (b == 34 || b == 92 || b == 10) (b == 13) all in
    let feed_not = or_parts (b == 34 || b == 92) (b == 10) return_not.0 in
    let both = or_parts (b == 34) (b == 92) feed_not.0 in
    let e : quoted_step b (more ++ rest) ≡ steps.Goes 0 = rw (both.0, both.1, feed_not.1, return_not.1) refl in
    e ∙ ap (λ (t : List ℕ). steps.Goes (length t)) (sym p.1)
quoted_goes b [] rest (inr p) = absurd p.1
quoted_goes b (c ∷ more) rest (inr p) =
    let len : escape_len (c ∷ (more ++ rest)) ≡ length (c ∷ more) = escape_is (c ∷ more) rest p.1 in
    let some : (length (c ∷ more) == 0) ≡ false = positive (length (c ∷ more)) (omega arith) in
    let e : quoted_step 92 (c ∷ (more ++ rest)) ≡ steps.Goes (length (c ∷ more)) = rw (len, some) refl in
    subst (λ (x : ℕ). quoted_step x (c ∷ (more ++ rest)) ≡ steps.Goes (length (c ∷ more))) (sym p.0) e

regex_goes : (b : ℕ) (more rest : List ℕ) → IsRegexPiece (b ∷ more) → regex_step b (more ++ rest) ≡ steps.Goes (length more)
regex_goes b [] rest p =
    let all : (b == 47 || b == 92 || b == 10) ≡ false = not_true _ p in
    let feed_not = or_parts (b == 47 || b == 92) (b == 10) all in
    let both = or_parts (b == 47) (b == 92) feed_not.0 in
    rw (both.0, both.1, feed_not.1) refl
regex_goes b (c ∷ []) rest p = subst (λ (x : ℕ). regex_step x (c ∷ rest) ≡ steps.Goes 1) (sym p) refl
regex_goes b (c ∷ d ∷ more) rest p = absurd p

pub piece_goes : (d : Delimiter) (b : ℕ) (more rest : List ℕ) → IsPiece d (b ∷ more) → step d b (more ++ rest) ≡ steps.Goes (length more)
piece_goes delimiters.Quote b more rest p = quoted_goes b more rest p
piece_goes delimiters.Slash b more rest p = regex_goes b more rest p

pub closer_closes : (d : Delimiter) (rest : List ℕ) → step d (closer d) rest ≡ steps.Closes
closer_closes delimiters.Quote rest = refl
closer_closes delimiters.Slash rest = refl

goes_same : (n k : ℕ) → steps.Goes n ≡ steps.Goes k → n ≡ k
goes_same n k e = cc

quoted_piece : (b : ℕ) (rest : List ℕ) (k : ℕ) → quoted_step b rest ≡ steps.Goes k → k ≤ length rest → IsQuotedPiece (b ∷ take k rest)
quoted_piece b rest k h le = by (b == 34) refl (b == 92) refl
  where
    escape : (b == 34) ≡ false → (b == 92) ≡ true → (v : Bool) → (escape_len rest == 0) ≡ v → IsQuotedPiece (b ∷ take k rest)
    escape q e true z = absurd (let g : steps.Breaks ≡ steps.Goes k = sym (the_step) ∙ h in cc)
      where
        the_step : quoted_step b rest ≡ steps.Breaks
        the_step = rw (q, e, z) refl
    escape q e false z =
        let goes : quoted_step b rest ≡ steps.Goes (escape_len rest) = rw (q, e, z) refl in
        let same : escape_len rest ≡ k = goes_same (escape_len rest) k (sym goes ∙ h) in
        inr (eqb-true b 92 e, subst (λ (n : ℕ). IsEscape (take n rest)) same (escape_found rest (some_from (escape_len rest) z) (omega (arith, same, le))))

    plain : (b == 34) ≡ false → (b == 92) ≡ false → (v : Bool) → (b == 10 || b == 13) ≡ v → IsQuotedPiece (b ∷ take k rest)
    plain q e true z = absurd (let s : quoted_step b rest ≡ steps.Breaks = rw (q, e, z) refl in let g : steps.Breaks ≡ steps.Goes k = sym s ∙ h in cc)
    plain q e false z =
        let goes : quoted_step b rest ≡ steps.Goes 0 = rw (q, e, z) refl in
        let same : 0 ≡ k = goes_same 0 k (sym goes ∙ h) in
        subst (λ (n : ℕ). IsQuotedPiece (b ∷ take n rest)) same (inl (rw (q, e, z) refl, refl))

    by : (v : Bool) → (b == 34) ≡ v → (w : Bool) → (b == 92) ≡ w → IsQuotedPiece (b ∷ take k rest)
    by true q w e = absurd (let s : quoted_step b rest ≡ steps.Closes = rw q refl in let g : steps.Closes ≡ steps.Goes k = sym s ∙ h in cc)
    by false q true e = escape q e (escape_len rest == 0) refl
    by false q false e = plain q e (b == 10 || b == 13) refl

regex_piece : (b : ℕ) (rest : List ℕ) (k : ℕ) → regex_step b rest ≡ steps.Goes k → k ≤ length rest → IsRegexPiece (b ∷ take k rest)
regex_piece b rest k h le = by (b == 47) refl (b == 92) refl (b == 10) refl
  where
    two : (rest : List ℕ) → b ≡ 92 → 1 ≤ length rest → IsRegexPiece (b ∷ take 1 rest)
    two [] e le = absurd (omega (arith, le))
    two (c ∷ rest) e le = e

    by : (v : Bool) → (b == 47) ≡ v → (w : Bool) → (b == 92) ≡ w → (x : Bool) → (b == 10) ≡ x → IsRegexPiece (b ∷ take k rest)
    by true q w e x z = absurd (let s : regex_step b rest ≡ steps.Closes = rw q refl in let g : steps.Closes ≡ steps.Goes k = sym s ∙ h in cc)
    by false q true e x z =
        let goes : regex_step b rest ≡ steps.Goes 1 = rw (q, e) refl in
        let same : 1 ≡ k = goes_same 1 k (sym goes ∙ h) in
        subst (λ (n : ℕ). IsRegexPiece (b ∷ take n rest)) same (two rest (eqb-true b 92 e) (omega (arith, same, le)))
    by false q false e true z = absurd (let s : regex_step b rest ≡ steps.Breaks = rw (q, e, z) refl in let g : steps.Breaks ≡ steps.Goes k = sym s ∙ h in cc)
    by false q false e false z =
        let goes : regex_step b rest ≡ steps.Goes 0 = rw (q, e, z) refl in
        let same : 0 ≡ k = goes_same 0 k (sym goes ∙ h) in
        subst (λ (n : ℕ). IsRegexPiece (b ∷ take n rest)) same (rw (q, e, z) refl)

pub goes_piece : (d : Delimiter) (b : ℕ) (rest : List ℕ) (k : ℕ) → step d b rest ≡ steps.Goes k → k ≤ length rest → IsPiece d (b ∷ take k rest)
goes_piece delimiters.Quote b rest k h le = quoted_piece b rest k h le
goes_piece delimiters.Slash b rest k h le = regex_piece b rest k h le

quote_is : (b : ℕ) (rest : List ℕ) → quoted_step b rest ≡ steps.Closes → b ≡ 34
quote_is b rest h = by (b == 34) refl (b == 92) refl (escape_len rest == 0) refl (b == 10 || b == 13) refl
  where
    by : (v : Bool) → (b == 34) ≡ v → (w : Bool) → (b == 92) ≡ w → (x : Bool) → (escape_len rest == 0) ≡ x → (y : Bool) → (b == 10 || b == 13) ≡ y → b ≡ 34
    by true q w e x z y l = eqb-true b 34 q
    by false q true e true z y l = absurd (let s : quoted_step b rest ≡ steps.Breaks = rw (q, e, z) refl in let g : steps.Breaks ≡ steps.Closes = sym s ∙ h in cc)
    by false q true e false z y l = absurd (let s : quoted_step b rest ≡ steps.Goes (escape_len rest) = rw (q, e, z) refl in let g : steps.Goes (escape_len rest) ≡ steps.Closes = sym s ∙ h in cc)
    by false q false e x z true l = absurd (let s : quoted_step b rest ≡ steps.Breaks = rw (q, e, l) refl in let g : steps.Breaks ≡ steps.Closes = sym s ∙ h in cc)
    by false q false e x z false l = absurd (let s : quoted_step b rest ≡ steps.Goes 0 = rw (q, e, l) refl in let g : steps.Goes 0 ≡ steps.Closes = sym s ∙ h in cc)

slash_is : (b : ℕ) (rest : List ℕ) → regex_step b rest ≡ steps.Closes → b ≡ 47
slash_is b rest h = by (b == 47) refl (b == 92) refl (b == 10) refl
  where
    by : (v : Bool) → (b == 47) ≡ v → (w : Bool) → (b == 92) ≡ w → (y : Bool) → (b == 10) ≡ y → b ≡ 47
    by true q w e y l = eqb-true b 47 q
    by false q true e y l = absurd (let s : regex_step b rest ≡ steps.Goes 1 = rw (q, e) refl in let g : steps.Goes 1 ≡ steps.Closes = sym s ∙ h in cc)
    by false q false e true l = absurd (let s : regex_step b rest ≡ steps.Breaks = rw (q, e, l) refl in let g : steps.Breaks ≡ steps.Closes = sym s ∙ h in cc)
    by false q false e false l = absurd (let s : regex_step b rest ≡ steps.Goes 0 = rw (q, e, l) refl in let g : steps.Goes 0 ≡ steps.Closes = sym s ∙ h in cc)

pub closes_is : (d : Delimiter) (b : ℕ) (rest : List ℕ) → step d b rest ≡ steps.Closes → b ≡ closer d
closes_is delimiters.Quote b rest h = quote_is b rest h
closes_is delimiters.Slash b rest h = slash_is b rest h
