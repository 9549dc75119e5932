-- Names, texts between < and >, Blanks and signs as they are written, and that they read back.
use Rattle.std.proofs.Common.{◌≡◌, ℕ, suc, ◌<◌, ◌≤◌, Bool, true, false, cond, not, ◌&&◌, ◌==◌, nat_le, List, [], ◌∷◌, ◌++◌, length, length-append, refl, sym, ap, subst, ◌∙◌, arith}
use Rattle.std.specs.Prelude.{Some, None}
use Rattle.std.specs.List.{list_all, concat, AllByRecursion}
use Rattle.std.proofs.lemmas.Bool.{eqb-true, eq-eqb, and_parts, leb-true, le-leb}
use Rattle.std.proofs.lemmas.Grind.{common_steps}
use Rattle.std.proofs.lemmas.List.{append-nil}
use Rattle.dg_text.specs.declared.token.TokenKind.TheVariants as kinds
use Rattle.dg_text.specs.Forms.{is_letter, is_word_byte, is_iri_byte, is_short, name_len}
use Rattle.dg_text.specs.Language.{AreSome, IsNamePiece, IsName, IsBlank}
use Rattle.dg_text.specs.Said.{blank_name}
use Rattle.dg_text.specs.Tokens.{Tok}
use Rattle.dg_text.specs.Words.{is_whole_name, predicate_meant}
use Rattle.dg_text.specs.Written.{word_said, tok_said}
use Rattle.dg_text.specs.Spelling.{iri_word, name_word, blank_word}
use Rattle.dg_text.specs.SpellingLaws.{NamesReadBack, NamesAreWhole, IrisSayTheirText, IrisAreWords, BlanksReadBack, BlankReadsBack, SignsAreWords}
use Rattle.dg_text.proofs.Fronts.{some_from, positive}
use Rattle.dg_text.proofs.NameForm.{name_found, name_most}
use Rattle.dg_text.proofs.NodeSpelling.{iri_said, iri_is_word, said_text, said_kind, reads_by}

-- ---- texts between < and >

pub iris_say_their_text : IrisSayTheirText
iris_say_their_text = iri_said

pub iris_are_words : IrisAreWords
iris_are_words = iri_is_word

-- ---- names

-- what a whole name is
record IsWhole (name : List ℕ) : Type 0 where
  form : IsName name
  short : length name ≤ 64

whole_parts : (name : List ℕ) → is_whole_name name ≡ true → (0 < name_len name) × (name_len name ≡ length name) × (name_len name ≤ 64)
whole_parts name h =
    let a = and_parts (not (name_len name == 0) && (name_len name == length name)) (nat_le (name_len name) 64) h in
    let b = and_parts (not (name_len name == 0)) (name_len name == length name) a.0 in
    let some : (name_len name == 0) ≡ false = unnot (name_len name == 0) b.0 in
    (some_from (name_len name) some, eqb-true (name_len name) (length name) b.1, leb-true (name_len name) 64 a.1)
  where
    unnot : (v : Bool) → not v ≡ true → v ≡ false
    unnot true e = sym e
    unnot false e = refl

-- as many bytes as there are, are all
all_of_it : (text front rest : List ℕ) → text ≡ front ++ rest → length front ≡ length text → front ≡ text
all_of_it text front [] split len = sym (split ∙ append-nil front)
all_of_it text front (b ∷ rest) split len = absurd (omega (arith, len, ap length split, length-append front (b ∷ rest)))

whole_is : (name : List ℕ) → is_whole_name name ≡ true → IsWhole name
whole_is name h =
    let parts = whole_parts name h in
    let f = name_found name parts.0 in
    record { form = subst IsName (all_of_it name f.front f.rest f.split (f.len ∙ parts.1)) f.form; short = omega (arith, parts.1, parts.2) }

-- no Name is longer than its text
most_of_it : (text front rest : List ℕ) (n : ℕ) → text ≡ front ++ rest → length front ≡ n → n ≤ length text
most_of_it text front rest n split len = omega (arith, len, ap length split, length-append front rest)

name_length : (text : List ℕ) → IsName text → name_len text ≡ length text
name_length text n =
    let least : length text ≤ name_len text = subst (λ (t : List ℕ). length text ≤ name_len t) (append-nil text) (name_most text [] n) in
    let f = name_found text (omega (arith, least, first_some text n)) in
    omega (arith, least, most_of_it text f.front f.rest (name_len text) f.split f.len)
  where
    first_some : (text : List ℕ) → IsName text → 0 < length text
    first_some text n = subst (λ (t : List ℕ). 0 < length t) (sym n.is) (omega arith)

pub names_are_whole : NamesAreWhole
names_are_whole text n short =
    let e : name_len text ≡ length text = name_length text n in
    let some : (length text == 0) ≡ false = positive (length text) (omega (arith, ap length n.is)) in
    rw (e, some, eq-eqb (length text) (length text) refl, short) refl

iri_letter : (b : ℕ) → is_letter b ≡ true → is_iri_byte b ≡ true
iri_letter b h = grind (arith, common_steps)

iri_word_byte : (b : ℕ) → is_word_byte b ≡ true → is_iri_byte b ≡ true
iri_word_byte b h = grind (arith, common_steps)

iri_pieces : (pieces : List (List ℕ)) → AllByRecursion IsNamePiece pieces → list_all is_iri_byte (concat pieces) ≡ true
iri_pieces [] a = refl
iri_pieces ([] ∷ pieces) a = absurd a.0
iri_pieces ((b ∷ []) ∷ pieces) a = rw (iri_word_byte b a.0) (iri_pieces pieces a.1)
iri_pieces ((b ∷ c ∷ []) ∷ pieces) a =
    let dot : is_iri_byte b ≡ true = subst (λ (x : ℕ). is_iri_byte x ≡ true) (sym a.0.0) refl in
    rw (dot, iri_word_byte c a.0.1) (iri_pieces pieces a.1)
iri_pieces ((b ∷ c ∷ d ∷ piece) ∷ pieces) a = absurd a.0

-- the bytes of a Name are bytes of an Iri
iri_name : (name : List ℕ) → IsName name → AreSome is_iri_byte name
iri_name name n = subst (AreSome is_iri_byte) (sym n.is) (record { some = omega arith; each = rw (iri_letter n.first n.begins) (iri_pieces n.pieces n.each) })

name_means : (name : List ℕ) (t : Tok) → tok_said t ≡ word_said (name_word name) → predicate_meant t ≡ Some name
name_means name t e = reads_by predicate_meant t kinds.Name name (said_kind t (name_word name) kinds.Name name refl e) (said_text t (name_word name) kinds.Name name refl e)

iri_means : (name : List ℕ) → is_whole_name name ≡ true → (t : Tok) → tok_said t ≡ word_said (iri_word name) → predicate_meant t ≡ Some name
iri_means name h t e =
    reads_by predicate_meant t kinds.Iri name (said_kind t (iri_word name) kinds.Iri name (iri_said name) e) (said_text t (iri_word name) kinds.Iri name (iri_said name) e)
    ∙ ap (λ (v : Bool). cond v (Some name) None) h

pub names_read_back : NamesReadBack
names_read_back name h =
    let w = whole_is name h in
    record {
      plain = record { form = w.form; short = le-leb (length name) 64 w.short };
      iri = iri_is_word name (iri_name name w.form);
      directive = record { form = record { name = name; named = w.form; is = refl }; short = le-leb (suc (length name)) 65 (omega (arith, w.short)) };
      plain_back = name_means name;
      iri_back = iri_means name h;
    }

-- ---- Blanks

-- what a name stands behind is all but _:
blank_is : (text name : List ℕ) → IsBlank text → blank_name text ≡ Some name → text ≡ 95 ∷ 58 ∷ name
blank_is text name b h =
    let e : Some b.word ≡ Some name = subst (λ (t : List ℕ). blank_name t ≡ Some name) b.is h in
    b.is ∙ ap (λ (t : List ℕ). 95 ∷ 58 ∷ t) (let same : b.word ≡ name = cc in same)

blank_again : (name text : List ℕ) → text ≡ 95 ∷ 58 ∷ name → IsBlank text → is_short kinds.Blank (length text) ≡ true → BlankReadsBack name
blank_again name text e form short = record {
  word = record { form = subst IsBlank e form; short = subst (λ (t : List ℕ). is_short kinds.Blank (length t) ≡ true) e short };
  back = λ t said. ap blank_name (said_text t (blank_word name) kinds.Blank (95 ∷ 58 ∷ name) refl said);
}

pub blanks_read_back : BlanksReadBack
blanks_read_back t name kind form short h = blank_again name t.text (blank_is t.text name form h) form short

-- ---- signs

pub signs_are_words : SignsAreWords
signs_are_words = (λ b alone. record { form = record { alone = alone; is = refl }; short = refl }, record { form = refl; short = refl })
