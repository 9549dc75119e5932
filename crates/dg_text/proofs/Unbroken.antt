-- The kinds whose tokens have no blank in them, and how tokens begin.
use Rattle.std.proofs.Common.{◌≡◌, ℕ, ◌<◌, Bool, true, false, true≢false, not, ◌&&◌, ◌||◌, ◌==◌, inl, inr, List, [], ◌∷◌, ◌++◌, length, refl, sym, ap, subst, ◌∙◌, arith}
use Rattle.std.specs.List.{concat, list_all, AllByRecursion}
use Rattle.std.specs.Char.{is_ascii_digit, is_ascii_hexdigit}
use Rattle.std.proofs.lemmas.Bool.{eqb-true}
use Rattle.dg_text.specs.declared.token.TokenKind.{TokenKind}
use Rattle.dg_text.specs.declared.token.TokenKind.TheVariants as kinds
use Rattle.dg_text.specs.Forms.{is_letter, is_word_byte, is_iri_byte, is_punct_byte}
use Rattle.dg_text.specs.Language.{AreSome, HasForm, IsNamePiece, IsName, IsInt, IsUid, IsIri, IsBlank, IsAt, IsPunct}
use Rattle.dg_text.specs.Lexing.{is_blank}
use Rattle.dg_text.specs.Tokenized.{begins_gap}
use Rattle.dg_text.proofs.Fronts.{AllAre, first_and_more}

-- a byte that passes a test isn't one that doesn't
apart : (test : ℕ → Bool) (b c : ℕ) → test c ≡ false → test b ≡ true → (b == c) ≡ false
apart test b c none h = by (b == c) refl
  where
    by : (v : Bool) → (b == c) ≡ v → v ≡ false
    by true e = absurd (true≢false (sym h ∙ ap test (eqb-true b c e) ∙ none))
    by false e = refl

-- ---- no blank

abbrev tight : ℕ → Bool
tight b = not (b == 32)

-- no byte of it is a blank
abbrev pub IsTight : List ℕ → Type 0
IsTight text = AllAre tight text

-- no text with a blank is such
pub broken : (front rest : List ℕ) → IsTight (front ++ 32 ∷ rest) → ⊥
broken [] rest h = absurd (true≢false (sym h))
broken (b ∷ front) rest h = broken front rest (first_and_more tight b (front ++ 32 ∷ rest) h).1

one_more : (b : ℕ) (rest : List ℕ) → (b == 32) ≡ false → IsTight rest → IsTight (b ∷ rest)
one_more b rest h more = ap (λ (v : Bool). not v && list_all tight rest) h ∙ more

joined : (front rest : List ℕ) → IsTight front → IsTight rest → IsTight (front ++ rest)
joined [] rest a more = more
joined (b ∷ front) rest a more =
    let both = first_and_more tight b front a in
    ap (λ (v : Bool). v && list_all tight (front ++ rest)) both.0 ∙ joined front rest both.1 more

-- bytes that pass a test that a blank doesn't
run_tight : (test : ℕ → Bool) (text : List ℕ) → test 32 ≡ false → AllAre test text → IsTight text
run_tight test [] none a = refl
run_tight test (b ∷ text) none a =
    let both = first_and_more test b text a in
    one_more b text (apart test b 32 none both.0) (run_tight test text none both.1)

pieces_tight : (pieces : List (List ℕ)) → AllByRecursion IsNamePiece pieces → IsTight (concat pieces)
pieces_tight [] a = refl
pieces_tight ([] ∷ pieces) a = absurd a.0
pieces_tight ((b ∷ []) ∷ pieces) a = one_more b (concat pieces) (apart is_word_byte b 32 refl a.0) (pieces_tight pieces a.1)
pieces_tight ((b ∷ c ∷ []) ∷ pieces) a =
    let more : IsTight (c ∷ concat pieces) = one_more c (concat pieces) (apart is_word_byte c 32 refl a.0.1) (pieces_tight pieces a.1) in
    subst (λ (x : ℕ). IsTight (x ∷ c ∷ concat pieces)) (sym a.0.0) more
pieces_tight ((b ∷ c ∷ d ∷ piece) ∷ pieces) a = absurd a.0

pub name_tight : (text : List ℕ) → IsName text → IsTight text
name_tight text n = subst IsTight (sym n.is) (one_more n.first (concat n.pieces) (apart is_letter n.first 32 refl n.begins) (pieces_tight n.pieces n.each))

pub int_tight : (text : List ℕ) → IsInt text → IsTight text
int_tight text (inl a) = run_tight is_ascii_digit text refl a.each
int_tight text (inr n) = subst IsTight (sym n.is) (run_tight is_ascii_digit n.digits refl n.some.each)

pub uid_tight : (text : List ℕ) → IsUid text → IsTight text
uid_tight text u = subst IsTight (sym u.is) (run_tight is_ascii_hexdigit u.digits refl u.some.each)

pub iri_tight : (text : List ℕ) → IsIri text → IsTight text
iri_tight text i = subst IsTight (sym i.is) (joined i.between (62 ∷ []) (run_tight is_iri_byte i.between refl i.some.each) refl)

pub blank_tight : (text : List ℕ) → IsBlank text → IsTight text
blank_tight text b = subst IsTight (sym b.is) (run_tight is_word_byte b.word refl b.some.each)

pub at_tight : (text : List ℕ) → IsAt text → IsTight text
at_tight text a = subst IsTight (sym a.is) (name_tight a.name a.named)

pub caret_tight : (text : List ℕ) → text ≡ 94 ∷ 94 ∷ [] → IsTight text
caret_tight text e = subst IsTight (sym e) refl

pub punct_tight : (b : ℕ) (text : List ℕ) → IsPunct b text → IsTight text
punct_tight b text p = subst IsTight (sym p.is) (one_more b [] (apart is_punct_byte b 32 refl p.alone) refl)

-- ---- the first byte

-- a byte at the front, which begins no blanks and no comment
pub record Begins (text : List ℕ) : Type 0 where
  pub some : 0 < length text
  pub tight : (rest : List ℕ) → begins_gap (text ++ rest) ≡ false

begins_by : (b : ℕ) (more text : List ℕ) → (is_blank b || b == 35) ≡ false → text ≡ b ∷ more → Begins text
begins_by b more text h e = subst Begins (sym e) (record { some = omega arith; tight = λ rest. h })

-- a byte that passes a test that none of these does
begins_tight : (test : ℕ → Bool) (b : ℕ) → test 32 ≡ false → test 9 ≡ false → test 13 ≡ false → test 10 ≡ false → test 35 ≡ false → test b ≡ true → (is_blank b || b == 35) ≡ false
begins_tight test b space tab return feed hash h =
    rw (apart test b 32 space h, apart test b 9 tab h, apart test b 13 return h, apart test b 10 feed h, apart test b 35 hash h) refl

digits_begin : (text : List ℕ) → AreSome is_ascii_digit text → Begins text
digits_begin [] a = absurd (omega (arith, a.some))
digits_begin (b ∷ more) a = begins_by b more (b ∷ more) (begins_tight is_ascii_digit b refl refl refl refl refl (first_and_more is_ascii_digit b more a.each).0) refl

int_begins : (text : List ℕ) → IsInt text → Begins text
int_begins text (inl a) = digits_begin text a
int_begins text (inr n) = begins_by 45 n.digits text refl n.is

-- each token begins so
pub form_begins : (kind : TokenKind) (text : List ℕ) → HasForm kind text → Begins text
form_begins kinds.Name text f = begins_by f.first (concat f.pieces) text (begins_tight is_letter f.first refl refl refl refl refl f.begins) f.is
form_begins kinds.Int text f = int_begins text f
form_begins kinds.Uid text f = begins_by 48 (120 ∷ f.digits) text refl f.is
form_begins kinds.Quoted text f = begins_by 34 (concat f.pieces ++ 34 ∷ []) text refl f.is
form_begins kinds.Iri text f = begins_by 60 (f.between ++ 62 ∷ []) text refl f.is
form_begins kinds.Blank text f = begins_by 95 (58 ∷ f.word) text refl f.is
form_begins kinds.At text f = begins_by 64 f.name text refl f.is
form_begins kinds.Regex text f = begins_by 47 (concat f.pieces ++ 47 ∷ f.flag) text refl f.is
form_begins kinds.Caret text f = begins_by 94 (94 ∷ []) text refl f
form_begins (kinds.Punct b) text f = begins_by b [] text (begins_tight is_punct_byte b refl refl refl refl refl f.alone) f.is
