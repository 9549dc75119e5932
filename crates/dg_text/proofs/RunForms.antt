-- The forms of Int, Uid, Iri, Blank, Caret and Punct.
use Rattle.std.proofs.Common.{◌≡◌, ℕ, suc, ◌+◌, ◌≤◌, ◌<◌, min, Bool, true, false, ◌==◌, nat_lt, inl, inr, List, [], ◌∷◌, ◌++◌, length, drop, append_assoc, refl, sym, ap, subst, ◌∙◌, arith}
use Rattle.std.specs.List.{prefix_len, list_all}
use Rattle.std.specs.Char.{is_ascii_digit, is_ascii_hexdigit}
use Rattle.std.proofs.Math.Seq.{drop-append_seam}
use Rattle.std.proofs.lemmas.Bool.{eqb-true, ltb-true, lt-ltb}
use Rattle.std.proofs.lemmas.Grind.{common_steps}
use Rattle.dg_text.specs.Reading.{next}
use Rattle.dg_text.specs.Forms.{is_word_byte, is_iri_byte, is_punct_byte, int_len, x_len, uid_len, iri_len, colon_word, blank_len, caret_len, punct_len, first_byte}
use Rattle.dg_text.specs.Language.{AreSome, IsInt, IsUid, IsIri, IsBlank, IsPunct}
use Rattle.dg_text.proofs.Fronts.{Found, long, with_byte, first_and_more, run_found, run_most, run_exact, run_less, positive, some_from, long_by_one}

-- one byte or more of a run
some_found : (test : ℕ → Bool) (text : List ℕ) (n : ℕ) → 0 < n → n ≤ prefix_len test text → Found text n (AreSome test)
some_found test text n some le =
    let f = run_found test text n le in
    record { front = f.front; rest = f.rest; split = f.split; len = f.len; form = record { some = omega (arith, some, f.len); each = f.form } }

-- ---- Int

minus_goes : (rest : List ℕ) → 0 < prefix_len is_ascii_digit rest → int_len (45 ∷ rest) ≡ suc (prefix_len is_ascii_digit rest)
minus_goes rest some =
    let e : int_len (45 ∷ rest) ≡ 1 + prefix_len is_ascii_digit rest = rw (positive (prefix_len is_ascii_digit rest) some) refl in
    omega (arith, e)

pub int_found : (text : List ℕ) → 0 < int_len text → Found text (int_len text) IsInt
int_found [] some = absurd (omega (arith, some))
int_found (b ∷ rest) some = by (b == 45) refl (prefix_len is_ascii_digit rest == 0) refl
  where
    plain : int_len (b ∷ rest) ≡ prefix_len is_ascii_digit (b ∷ rest) → Found (b ∷ rest) (int_len (b ∷ rest)) IsInt
    plain len =
        let f = some_found is_ascii_digit (b ∷ rest) (int_len (b ∷ rest)) some (omega (arith, len)) in
        record { front = f.front; rest = f.rest; split = f.split; len = f.len; form = inl f.form }

    by : (v : Bool) → (b == 45) ≡ v → (z : Bool) → (prefix_len is_ascii_digit rest == 0) ≡ z → Found (b ∷ rest) (int_len (b ∷ rest)) IsInt
    by true e true f = absurd (let none : int_len (b ∷ rest) ≡ 0 = rw (e, f) refl in omega (arith, some, none))
    by true e false f =
        let len : int_len (b ∷ rest) ≡ 1 + prefix_len is_ascii_digit rest = rw (e, f) refl in
        let n : ℕ = prefix_len is_ascii_digit rest in
        let same : suc n ≡ int_len (b ∷ rest) = omega (arith, len) in
        long IsInt (b ∷ rest) (suc n) (int_len (b ∷ rest)) same
        (with_byte (AreSome is_ascii_digit) IsInt b rest n (λ front a. inr (record { digits = front; some = a; is = ap (λ (x : ℕ). x ∷ front) (eqb-true b 45 e) })) (some_found is_ascii_digit rest n (some_from n f) (omega arith)))
    by false e z f = plain (rw e refl)

digit_is : (b : ℕ) → is_ascii_digit b ≡ true → (b == 45) ≡ false
digit_is b h = grind (arith, common_steps)

plain_most : (text rest : List ℕ) → AreSome is_ascii_digit text → length text ≤ int_len (text ++ rest)
plain_most [] rest a = absurd (omega (arith, a.some))
plain_most (b ∷ text) rest a =
    let both = first_and_more is_ascii_digit b text a.each in
    let e : int_len (b ∷ (text ++ rest)) ≡ prefix_len is_ascii_digit (b ∷ (text ++ rest)) = rw (digit_is b both.0) refl in
    omega (arith, e, run_most is_ascii_digit (b ∷ text) rest a.each)

pub int_most : (text rest : List ℕ) → IsInt text → length text ≤ int_len (text ++ rest)
int_most text rest (inl a) = plain_most text rest a
int_most text rest (inr n) =
    let le : length n.digits ≤ prefix_len is_ascii_digit (n.digits ++ rest) = run_most is_ascii_digit n.digits rest n.some.each in
    let some : 0 < prefix_len is_ascii_digit (n.digits ++ rest) = omega (arith, le, n.some.some) in
    subst (λ (t : List ℕ). length t ≤ int_len (t ++ rest)) (sym n.is) (omega (arith, le, minus_goes (n.digits ++ rest) some))

-- ---- Uid

abbrev is_zero : ℕ → Bool
is_zero b = b == 48

abbrev zeros : List ℕ → ℕ
zeros text = prefix_len is_zero text

abbrev hexes : List ℕ → ℕ
hexes text = prefix_len is_ascii_hexdigit text

-- what stands after 0
record IsX (text : List ℕ) : Type 0 where
  pub digits : List ℕ
  pub some : AreSome is_ascii_hexdigit digits
  pub most : length digits ≤ 16
  pub nonzero : list_all is_zero digits ≡ false
  pub is : text ≡ 120 ∷ digits

record IsHex (digits : List ℕ) : Type 0 where
  pub some : AreSome is_ascii_hexdigit digits
  pub most : length digits ≤ 16
  pub nonzero : list_all is_zero digits ≡ false

hex_found : (text : List ℕ) (n : ℕ) → n ≤ hexes text → n ≤ 16 → zeros text < n → Found text n IsHex
hex_found text n le most less =
    let f = some_found is_ascii_hexdigit text n (omega (arith, less)) le in
    record { front = f.front; rest = f.rest; split = f.split; len = f.len; form = record { some = f.form; most = omega (arith, f.len, most); nonzero = none f.front f.rest f.split f.len } }
  where
    none : (front rest : List ℕ) → text ≡ front ++ rest → length front ≡ n → list_all is_zero front ≡ false
    none front rest split len = by (list_all is_zero front) refl
      where
        by : (v : Bool) → list_all is_zero front ≡ v → v ≡ false
        by true a =
            let le : length front ≤ zeros text = subst (λ (t : List ℕ). length front ≤ zeros t) (sym split) (run_most is_zero front rest a) in
            absurd (omega (arith, le, len, less))
        by false a = refl

x_found : (text : List ℕ) → 0 < x_len text → Found text (x_len text) IsX
x_found [] some = absurd (omega (arith, some))
x_found (b ∷ rest) some = by (b == 120) refl (nat_lt (zeros rest) (min 16 (hexes rest))) refl
  where
    by : (v : Bool) → (b == 120) ≡ v → (z : Bool) → nat_lt (zeros rest) (min 16 (hexes rest)) ≡ z → Found (b ∷ rest) (x_len (b ∷ rest)) IsX
    by true e true f =
        let n : ℕ = min 16 (hexes rest) in
        let len : x_len (b ∷ rest) ≡ 1 + n = rw (e, f) refl in
        let same : suc n ≡ x_len (b ∷ rest) = omega (arith, len) in
        long IsX (b ∷ rest) (suc n) (x_len (b ∷ rest)) same
        (with_byte IsHex IsX b rest n (λ front h. record { digits = front; some = h.some; most = h.most; nonzero = h.nonzero; is = ap (λ (x : ℕ). x ∷ front) (eqb-true b 120 e) }) (hex_found rest n (omega arith) (omega arith) (ltb-true (zeros rest) n f)))
    by true e false f = absurd (let none : x_len (b ∷ rest) ≡ 0 = rw (e, f) refl in omega (arith, some, none))
    by false e z f = absurd (let none : x_len (b ∷ rest) ≡ 0 = rw e refl in omega (arith, some, none))

x_most : (digits rest : List ℕ) → IsHex digits → suc (length digits) ≤ x_len (120 ∷ (digits ++ rest))
x_most digits rest h =
    let le : length digits ≤ hexes (digits ++ rest) = run_most is_ascii_hexdigit digits rest h.some.each in
    let less : zeros (digits ++ rest) < length digits = run_less is_zero digits rest h.nonzero in
    let lt : zeros (digits ++ rest) < min 16 (hexes (digits ++ rest)) = omega (arith, le, less, h.most) in
    let e : x_len (120 ∷ (digits ++ rest)) ≡ 1 + min 16 (hexes (digits ++ rest)) = rw (lt-ltb (zeros (digits ++ rest)) (min 16 (hexes (digits ++ rest))) lt) refl in
    omega (arith, e, le, h.most)

pub uid_found : (text : List ℕ) → 0 < uid_len text → Found text (uid_len text) IsUid
uid_found [] some = absurd (omega (arith, some))
uid_found (b ∷ rest) some = by (b == 48) refl (x_len rest == 0) refl
  where
    by : (v : Bool) → (b == 48) ≡ v → (z : Bool) → (x_len rest == 0) ≡ z → Found (b ∷ rest) (uid_len (b ∷ rest)) IsUid
    by true e true f = absurd (let none : uid_len (b ∷ rest) ≡ 0 = rw (e, f) refl in omega (arith, some, none))
    by true e false f =
        let len : uid_len (b ∷ rest) ≡ 1 + x_len rest = rw (e, f) refl in
        let same : suc (x_len rest) ≡ uid_len (b ∷ rest) = omega (arith, len) in
        long IsUid (b ∷ rest) (suc (x_len rest)) (uid_len (b ∷ rest)) same
        (with_byte IsX IsUid b rest (x_len rest) (λ front x. record { digits = x.digits; some = x.some; most = x.most; nonzero = x.nonzero; is = ap (λ (y : ℕ). y ∷ front) (eqb-true b 48 e) ∙ ap (λ (t : List ℕ). 48 ∷ t) x.is }) (x_found rest (some_from (x_len rest) f)))
    by false e z f = absurd (let none : uid_len (b ∷ rest) ≡ 0 = rw e refl in omega (arith, some, none))

pub uid_most : (text rest : List ℕ) → IsUid text → length text ≤ uid_len (text ++ rest)
uid_most text rest u =
    let le : suc (length u.digits) ≤ x_len (120 ∷ (u.digits ++ rest)) = x_most u.digits rest (record { some = u.some; most = u.most; nonzero = u.nonzero }) in
    let some : 0 < x_len (120 ∷ (u.digits ++ rest)) = omega (arith, le) in
    let e : uid_len (48 ∷ 120 ∷ (u.digits ++ rest)) ≡ 1 + x_len (120 ∷ (u.digits ++ rest)) = rw (positive (x_len (120 ∷ (u.digits ++ rest))) some) refl in
    subst (λ (t : List ℕ). length t ≤ uid_len (t ++ rest)) (sym u.is) (omega (arith, le, e))

-- ---- Blank

colon_goes : (rest : List ℕ) → 0 < prefix_len is_word_byte rest → blank_len (95 ∷ 58 ∷ rest) ≡ suc (suc (prefix_len is_word_byte rest))
colon_goes rest some =
    let e : colon_word (58 ∷ rest) ≡ 1 + prefix_len is_word_byte rest = rw (positive (prefix_len is_word_byte rest) some) refl in
    let some' : 0 < colon_word (58 ∷ rest) = omega (arith, e) in
    let f : blank_len (95 ∷ 58 ∷ rest) ≡ 1 + colon_word (58 ∷ rest) = rw (positive (colon_word (58 ∷ rest)) some') refl in
    omega (arith, e, f)

record IsColon (text : List ℕ) : Type 0 where
  pub word : List ℕ
  pub some : AreSome is_word_byte word
  pub is : text ≡ 58 ∷ word

colon_found : (text : List ℕ) → 0 < colon_word text → Found text (colon_word text) IsColon
colon_found [] some = absurd (omega (arith, some))
colon_found (b ∷ rest) some = by (b == 58) refl (prefix_len is_word_byte rest == 0) refl
  where
    by : (v : Bool) → (b == 58) ≡ v → (z : Bool) → (prefix_len is_word_byte rest == 0) ≡ z → Found (b ∷ rest) (colon_word (b ∷ rest)) IsColon
    by true e true f = absurd (let none : colon_word (b ∷ rest) ≡ 0 = rw (e, f) refl in omega (arith, some, none))
    by true e false f =
        let n : ℕ = prefix_len is_word_byte rest in
        let len : colon_word (b ∷ rest) ≡ 1 + n = rw (e, f) refl in
        let same : suc n ≡ colon_word (b ∷ rest) = omega (arith, len) in
        long IsColon (b ∷ rest) (suc n) (colon_word (b ∷ rest)) same
        (with_byte (AreSome is_word_byte) IsColon b rest n (λ front a. record { word = front; some = a; is = ap (λ (x : ℕ). x ∷ front) (eqb-true b 58 e) }) (some_found is_word_byte rest n (some_from n f) (omega arith)))
    by false e z f = absurd (let none : colon_word (b ∷ rest) ≡ 0 = rw e refl in omega (arith, some, none))

pub blank_found : (text : List ℕ) → 0 < blank_len text → Found text (blank_len text) IsBlank
blank_found [] some = absurd (omega (arith, some))
blank_found (b ∷ rest) some = by (b == 95) refl (colon_word rest == 0) refl
  where
    by : (v : Bool) → (b == 95) ≡ v → (z : Bool) → (colon_word rest == 0) ≡ z → Found (b ∷ rest) (blank_len (b ∷ rest)) IsBlank
    by true e true f = absurd (let none : blank_len (b ∷ rest) ≡ 0 = rw (e, f) refl in omega (arith, some, none))
    by true e false f =
        let n : ℕ = colon_word rest in
        let len : blank_len (b ∷ rest) ≡ 1 + n = rw (e, f) refl in
        let same : suc n ≡ blank_len (b ∷ rest) = omega (arith, len) in
        long IsBlank (b ∷ rest) (suc n) (blank_len (b ∷ rest)) same
        (with_byte IsColon IsBlank b rest n (λ front c. record { word = c.word; some = c.some; is = ap (λ (x : ℕ). x ∷ front) (eqb-true b 95 e) ∙ ap (λ (t : List ℕ). 95 ∷ t) c.is }) (colon_found rest (some_from n f)))
    by false e z f = absurd (let none : blank_len (b ∷ rest) ≡ 0 = rw e refl in omega (arith, some, none))

pub blank_most : (text rest : List ℕ) → IsBlank text → length text ≤ blank_len (text ++ rest)
blank_most text rest b =
    let le : length b.word ≤ prefix_len is_word_byte (b.word ++ rest) = run_most is_word_byte b.word rest b.some.each in
    let some : 0 < prefix_len is_word_byte (b.word ++ rest) = omega (arith, le, b.some.some) in
    subst (λ (t : List ℕ). length t ≤ blank_len (t ++ rest)) (sym b.is) (omega (arith, le, colon_goes (b.word ++ rest) some))

-- ---- Iri

abbrev is_close : ℕ → Bool
is_close c = c == 62

abbrev iris : List ℕ → ℕ
iris text = prefix_len is_iri_byte text

-- bytes and what stands after them
after : (between text rest : List ℕ) (n : ℕ) → text ≡ between ++ rest → length between ≡ n → drop n text ≡ rest
after between text rest n split len = ap (λ (t : List ℕ). drop n t) split ∙ ap (λ (k : ℕ). drop k (between ++ rest)) (sym len) ∙ drop-append_seam between rest

pub iri_found : (text : List ℕ) → 0 < iri_len text → Found text (iri_len text) IsIri
iri_found [] some = absurd (omega (arith, some))
iri_found (b ∷ rest) some = by (b == 60) refl (iris rest == 0) refl (next is_close (drop (iris rest) rest)) refl
  where
    closed : (b ≡ 60) → Found rest (iris rest) (AreSome is_iri_byte) → next is_close (drop (iris rest) rest) ≡ true → iri_len (b ∷ rest) ≡ 2 + iris rest → Found (b ∷ rest) (iri_len (b ∷ rest)) IsIri
    closed e f stop len = tail f.rest (after f.front rest f.rest (iris rest) f.split f.len) refl
      where
        tail : (more : List ℕ) → drop (iris rest) rest ≡ more → more ≡ f.rest → Found (b ∷ rest) (iri_len (b ∷ rest)) IsIri
        tail [] d same = absurd (let h = rw d at stop in cc)
        tail (c ∷ more) d same =
            let h : (c == 62) ≡ true = rw d at stop in
            let closes : c ≡ 62 = eqb-true c 62 h in
            let split : rest ≡ f.front ++ 62 ∷ more = f.split ∙ ap (λ (t : List ℕ). f.front ++ t) (sym same ∙ ap (λ (x : ℕ). x ∷ more) closes) in
            record {
              front = 60 ∷ (f.front ++ 62 ∷ []);
              rest = more;
              split = ap (λ (x : ℕ). x ∷ rest) e ∙ ap (λ (t : List ℕ). 60 ∷ t) (split ∙ sym (append_assoc f.front (62 ∷ []) more));
              len = omega (arith, len, f.len, long_by_one f.front 62);
              form = record { between = f.front; some = f.form; is = refl };
            }

    by : (v : Bool) → (b == 60) ≡ v → (z : Bool) → (iris rest == 0) ≡ z → (w : Bool) → next is_close (drop (iris rest) rest) ≡ w → Found (b ∷ rest) (iri_len (b ∷ rest)) IsIri
    by true e true f w g = absurd (let none : iri_len (b ∷ rest) ≡ 0 = rw (e, f) refl in omega (arith, some, none))
    by true e false f true g = closed (eqb-true b 60 e) (some_found is_iri_byte rest (iris rest) (some_from (iris rest) f) (omega arith)) g (rw (e, f, g) refl)
    by true e false f false g = absurd (let none : iri_len (b ∷ rest) ≡ 0 = rw (e, f, g) refl in omega (arith, some, none))
    by false e z f w g = absurd (let none : iri_len (b ∷ rest) ≡ 0 = rw e refl in omega (arith, some, none))

pub iri_most : (text rest : List ℕ) → IsIri text → length text ≤ iri_len (text ++ rest)
iri_most text rest i =
    let left : List ℕ = i.between ++ 62 ∷ rest in
    let exact : iris left ≡ length i.between = run_exact is_iri_byte i.between (62 ∷ rest) i.some.each refl in
    let zero_not : (iris left == 0) ≡ false = positive (iris left) (omega (arith, exact, i.some.some)) in
    let stop : drop (iris left) left ≡ 62 ∷ rest = after i.between left (62 ∷ rest) (iris left) refl (sym exact) in
    let e : iri_len (60 ∷ left) ≡ 2 + iris left = rw (zero_not, stop) refl in
    let joined : (i.between ++ 62 ∷ []) ++ rest ≡ left = append_assoc i.between (62 ∷ []) rest in
    let same : iri_len (60 ∷ ((i.between ++ 62 ∷ []) ++ rest)) ≡ iri_len (60 ∷ left) = ap (λ (t : List ℕ). iri_len (60 ∷ t)) joined in
    subst (λ (t : List ℕ). length t ≤ iri_len (t ++ rest)) (sym i.is) (omega (arith, exact, e, same, long_by_one i.between 62))

-- ---- Caret and Punct

abbrev IsCaret : List ℕ → Type 0
IsCaret text = text ≡ 94 ∷ 94 ∷ []

pub caret_found : (text : List ℕ) → 0 < caret_len text → Found text (caret_len text) IsCaret
caret_found [] some = absurd (omega (arith, some))
caret_found (b ∷ []) some = by (b == 94) refl
  where
    by : (v : Bool) → (b == 94) ≡ v → Found (b ∷ []) (caret_len (b ∷ [])) IsCaret
    by true e = absurd (let none : caret_len (b ∷ []) ≡ 0 = rw e refl in omega (arith, some, none))
    by false e = absurd (let none : caret_len (b ∷ []) ≡ 0 = rw e refl in omega (arith, some, none))
caret_found (b ∷ c ∷ rest) some = by (b == 94) refl (c == 94) refl
  where
    by : (v : Bool) → (b == 94) ≡ v → (w : Bool) → (c == 94) ≡ w → Found (b ∷ c ∷ rest) (caret_len (b ∷ c ∷ rest)) IsCaret
    by true e true f = record {
      front = b ∷ c ∷ [];
      rest = rest;
      split = refl;
      len = (let two : caret_len (b ∷ c ∷ rest) ≡ 2 = rw (e, f) refl in omega (arith, two));
      form = ap (λ (x : ℕ). x ∷ c ∷ []) (eqb-true b 94 e) ∙ ap (λ (x : ℕ). 94 ∷ x ∷ []) (eqb-true c 94 f);
    }
    by true e false f = absurd (let none : caret_len (b ∷ c ∷ rest) ≡ 0 = rw (e, f) refl in omega (arith, some, none))
    by false e w f = absurd (let none : caret_len (b ∷ c ∷ rest) ≡ 0 = rw e refl in omega (arith, some, none))

pub caret_most : (text rest : List ℕ) → IsCaret text → length text ≤ caret_len (text ++ rest)
caret_most text rest e = subst (λ (t : List ℕ). length t ≤ caret_len (t ++ rest)) (sym e) (omega arith)

pub punct_found : (text : List ℕ) → 0 < punct_len text → Found text (punct_len text) (IsPunct (first_byte text))
punct_found [] some = absurd (omega (arith, some))
punct_found (b ∷ rest) some = by (is_punct_byte b) refl
  where
    by : (v : Bool) → is_punct_byte b ≡ v → Found (b ∷ rest) (punct_len (b ∷ rest)) (IsPunct b)
    by true e = record {
      front = b ∷ [];
      rest = rest;
      split = refl;
      len = (let one : punct_len (b ∷ rest) ≡ 1 = rw e refl in omega (arith, one));
      form = record { alone = e; is = refl };
    }
    by false e = absurd (let none : punct_len (b ∷ rest) ≡ 0 = rw e refl in omega (arith, some, none))

pub punct_most : (b : ℕ) (text rest : List ℕ) → IsPunct b text → length text ≤ punct_len (text ++ rest)
punct_most b text rest p =
    let one : punct_len (b ∷ rest) ≡ 1 = rw p.alone refl in
    subst (λ (t : List ℕ). length t ≤ punct_len (t ++ rest)) (sym p.is) (omega (arith, one))
