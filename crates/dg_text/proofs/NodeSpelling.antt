-- Nodes as they are written, and that they read back.
use Rattle.std.proofs.Common.{◌≡◌, ℕ, zero, suc, ◌+◌, ◌-◌, ◌/◌, ◌%◌, ◌^◌, ◌<◌, ◌≤◌, Bool, true, false, cond, ◌&&◌, ◌==◌, nat_lt, nat_le, List, [], ◌∷◌, ◌++◌, length, refl, sym, ap, subst, ◌∙◌, arith}
use Rattle.std.specs.Prelude.{Option, Some, None, option_and_then, codes, take}
use Rattle.std.specs.List.{list_all}
use Rattle.std.specs.Char.{digit_value, is_ascii_hexdigit}
use Rattle.std.specs.Fmt.{digits, digits_onto, digit_glyph}
use Rattle.std.specs.Str.Parse.{AllDigits, digits_value}
use Rattle.std.proofs.lemmas.Bool.{eqb-true, and_parts, lt-ltb, le-leb, ltb-true, leb-true}
use Rattle.std.proofs.lemmas.Grind.{common_steps}
use Rattle.std.proofs.lemmas.Fmt.{digits_is_IsNumeral}
use Rattle.std.proofs.Math.Nat.{pow-suc}
use Rattle.std.proofs.Math.Seq.{take-append_seam}
use Rattle.dg_text.specs.declared.token.TokenKind.{TokenKind}
use Rattle.dg_text.specs.declared.token.TokenKind.TheVariants as kinds
use Rattle.dg_text.specs.Forms.{is_iri_byte}
use Rattle.dg_text.specs.Language.{AreSome}
use Rattle.dg_text.specs.Said.{uid_of, uid_said, uid_meant, behind}
use Rattle.dg_text.specs.Tokens.{Tok}
use Rattle.dg_text.specs.Written.{Word, IsWord, word_said, tok_said}
use Rattle.dg_text.specs.Spelling.{uid_text, uid_word, iri_word, iri_uid_word}
use Rattle.dg_text.specs.SpellingLaws.{NodesReadBack, NodesAreBounded}
use Rattle.dg_text.proofs.Fronts.{some_from, long_by_one}
use Rattle.dg_text.proofs.UidLemmas.{all_hex, hex_small}

-- ---- hexadecimal digits

-- there are no more digits than the number needs
onto_short : (k j n : ℕ) (acc : List ℕ) → n < 16 ^ suc j → length (digits_onto k 16 false n acc) ≤ length acc + suc j
onto_short zero j n acc small = omega arith
onto_short (suc k) j n acc small = by (n / 16 == 0) refl (λ i less. onto_short k i (n / 16) (digit_glyph false (n % 16) ∷ acc) less)
  where
    g : ℕ
    g = digit_glyph false (n % 16)

    Shorter : Type 0
    Shorter = (i : ℕ) → n / 16 < 16 ^ suc i → length (digits_onto k 16 false (n / 16) (g ∷ acc)) ≤ length (g ∷ acc) + suc i

    more : (j : ℕ) → n < 16 ^ suc j → (n / 16 == 0) ≡ false → Shorter → length (digits_onto k 16 false (n / 16) (g ∷ acc)) ≤ length acc + suc j
    more zero small e ih = absurd (let some = some_from (n / 16) e in omega arith)
    more (suc j) small e ih =
        let less : n / 16 < 16 ^ suc j = omega (arith, pow-suc 16 (suc j)) in
        omega (arith, ih j less)

    by : (v : Bool) → (n / 16 == 0) ≡ v → Shorter → length (cond (n / 16 == 0) (g ∷ acc) (digits_onto k 16 false (n / 16) (g ∷ acc))) ≤ length acc + suc j
    by true e ih = rw e (omega arith)
    by false e ih = rw e (more j small e ih)

hex_length : (n : ℕ) → n < 2 ^ 64 → length (digits 16 false n) ≤ 16
unfolding digits
hex_length n small = onto_short 64 15 n [] (omega arith)

-- what the digits of a node are
record IsHexOf (n : ℕ) (ds : List ℕ) : Type 0 where
  all : AllDigits 16 ds
  some : 0 < length ds
  most : length ds ≤ 16
  value : digits_value 16 ds ≡ n

hex_of : (n : ℕ) → n < 2 ^ 64 → IsHexOf n (digits 16 false n)
hex_of n small =
    let numeral = digits_is_IsNumeral 16 false (omega arith) (omega arith) n (omega arith) in
    record { all = numeral.0.1; some = numeral.0.0; most = hex_length n small; value = numeral.1 }

hex_digit : (b : ℕ) → digit_value b < 16 → is_ascii_hexdigit b ≡ true
hex_digit b h = grind (arith, common_steps)

all_hexdigits : (ds : List ℕ) → AllDigits 16 ds → list_all is_ascii_hexdigit ds ≡ true
all_hexdigits [] h = refl
all_hexdigits (d ∷ ds) h = rw (hex_digit d h.0) (all_hexdigits ds h.1)

all_tested : (ds : List ℕ) → AllDigits 16 ds → list_all (λ d. nat_lt (digit_value d) 16) ds ≡ true
all_tested [] h = refl
all_tested (d ∷ ds) h = rw (lt-ltb (digit_value d) 16 h.0) (all_tested ds h.1)

zeros_are_zero : (ds : List ℕ) → list_all (λ b. b == 48) ds ≡ true → digits_value 16 ds ≡ 0
zeros_are_zero [] h = refl
zeros_are_zero (d ∷ ds) h =
    let parts = and_parts (d == 48) (list_all (λ b. b == 48) ds) h in
    subst (λ (x : ℕ). digits_value 16 (x ∷ ds) ≡ 0) (sym (eqb-true d 48 parts.0)) (zeros_are_zero ds parts.1)

not_zeros : (ds : List ℕ) → 0 < digits_value 16 ds → list_all (λ b. b == 48) ds ≡ false
not_zeros ds some = by (list_all (λ b. b == 48) ds) refl
  where
    by : (v : Bool) → list_all (λ b. b == 48) ds ≡ v → v ≡ false
    by true e = absurd (omega (arith, some, zeros_are_zero ds e))
    by false e = refl

-- ---- bytes of an Iri

iri_hex : (b : ℕ) → is_ascii_hexdigit b ≡ true → is_iri_byte b ≡ true
iri_hex b h = grind (arith, common_steps)

iri_digits : (ds : List ℕ) → list_all is_ascii_hexdigit ds ≡ true → list_all is_iri_byte ds ≡ true
iri_digits [] h = refl
iri_digits (d ∷ ds) h =
    let parts = and_parts (is_ascii_hexdigit d) (list_all is_ascii_hexdigit ds) h in
    rw (iri_hex d parts.0) (iri_digits ds parts.1)

-- ---- words

abbrev as_iri : List ℕ → TokenKind × List ℕ
as_iri text = (kinds.Iri, text)

-- the characters of a written Iri are those between < and >
pub iri_said : (text : List ℕ) → word_said (iri_word text) ≡ (kinds.Iri, text)
iri_said text =
    let cut : suc (length (text ++ 62 ∷ [])) - 1 - 1 ≡ length text = omega (arith, long_by_one text 62) in
    ap as_iri (ap (λ (k : ℕ). take k (text ++ 62 ∷ [])) cut ∙ take-append_seam text (62 ∷ []))

-- a token that is what a word says has these characters
pub said_text : (t : Tok) (w : Word) (kind : TokenKind) (text : List ℕ) → word_said w ≡ (kind, text) → tok_said t ≡ word_said w → t.text ≡ text
said_text t w kind text e h = ap (λ (p : TokenKind × List ℕ). p.1) (h ∙ e)

pub said_kind : (t : Tok) (w : Word) (kind : TokenKind) (text : List ℕ) → word_said w ≡ (kind, text) → tok_said t ≡ word_said w → t.kind ≡ kind
said_kind t w kind text e h = ap (λ (p : TokenKind × List ℕ). p.0) (h ∙ e)

-- what is read of a token is read of its kind and its characters
pub reads_by : {A : Type 0} (read : Tok → A) (t : Tok) (kind : TokenKind) (text : List ℕ) → t.kind ≡ kind → t.text ≡ text → read t ≡ read (record { kind = kind; text = text; start = t.start })
reads_by read t kind text e f =
    ap (λ (k : TokenKind). read (record { kind = k; text = t.text; start = t.start })) e
    ∙ ap (λ (s : List ℕ). read (record { kind = kind; text = s; start = t.start })) f

-- bytes of an Iri between < and > are a word
pub iri_is_word : (text : List ℕ) → AreSome is_iri_byte text → IsWord (iri_word text)
iri_is_word text some = record { form = record { between = text; some = some; is = refl }; short = refl }

-- ---- nodes

uid_is_word : (n : ℕ) → 0 < n → IsHexOf n (digits 16 false n) → IsWord (uid_word n)
uid_is_word n some h = record {
  form = record {
    digits = digits 16 false n;
    some = record { some = h.some; each = all_hexdigits (digits 16 false n) h.all };
    most = h.most;
    nonzero = not_zeros (digits 16 false n) (omega (arith, some, h.value));
    is = refl;
  };
  short = refl;
}

iri_uid_is_word : (n : ℕ) → IsHexOf n (digits 16 false n) → IsWord (iri_uid_word n)
iri_uid_is_word n h = iri_is_word (uid_text n) (record { some = omega arith; each = iri_digits (digits 16 false n) (all_hexdigits (digits 16 false n) h.all) })

-- digits of a node name it
digits_name : (n : ℕ) (ds : List ℕ) → 0 < n → IsHexOf n ds → uid_of ds ≡ Some n
unfolding uid_of
digits_name n ds some h =
    rw (lt-ltb 0 (length ds) h.some, le-leb (length ds) 16 h.most, all_tested ds h.all, h.value, lt-ltb 0 n some) refl

uid_text_names : (n : ℕ) → 0 < n → IsHexOf n (digits 16 false n) → uid_said (uid_text n) ≡ Some n
uid_text_names n some h = digits_name n (digits 16 false n) some h

pub nodes_read_back : NodesReadBack
nodes_read_back n some small =
    let h = hex_of n small in
    let named = uid_text_names n some h in
    record {
      uid = uid_is_word n some h;
      iri = iri_uid_is_word n h;
      uid_back = λ t e. ap uid_said (said_text t (uid_word n) kinds.Uid (uid_text n) refl e) ∙ named;
      uid_means = λ t e. reads_by uid_meant t kinds.Uid (uid_text n) (said_kind t (uid_word n) kinds.Uid (uid_text n) refl e) (said_text t (uid_word n) kinds.Uid (uid_text n) refl e) ∙ named;
      iri_back = λ t e. ap uid_said (said_text t (iri_uid_word n) kinds.Iri (uid_text n) (iri_said (uid_text n)) e) ∙ named;
    }

-- ---- what is named is a node

digits_bounded : (ds : List ℕ) (n : ℕ) → uid_of ds ≡ Some n → (0 < n) × (n < 2 ^ 64)
unfolding uid_of
digits_bounded ds n h = by (nat_lt 0 (length ds)) (nat_le (length ds) 16) refl (list_all (λ d. nat_lt (digit_value d) 16) ds) refl (nat_lt 0 (digits_value 16 ds)) refl h
  where
    by : (a b : Bool) → nat_le (length ds) 16 ≡ b → (c : Bool) → list_all (λ d. nat_lt (digit_value d) 16) ds ≡ c → (d : Bool) → nat_lt 0 (digits_value 16 ds) ≡ d
        → cond (a && (b && (c && d))) (Some (digits_value 16 ds)) None ≡ Some n → (0 < n) × (n < 2 ^ 64)
    by true true le true hex true some e =
        let same : digits_value 16 ds ≡ n = cc in
        let positive : 0 < digits_value 16 ds = ltb-true 0 (digits_value 16 ds) some in
        let small : digits_value 16 ds < 2 ^ 64 = hex_small ds (all_hex ds hex) (leb-true (length ds) 16 le) in
        (omega arith, omega arith)
    by false b le c hex d some e = absurd (cc)
    by true false le c hex d some e = absurd (cc)
    by true true le false hex d some e = absurd (cc)
    by true true le true hex false some e = absurd (cc)

-- what stands behind something names something
mapped : {A B : Type 0} (f : A → Option B) (o : Option A) (b : B) → option_and_then f o ≡ Some b → (a : A) × (f a ≡ Some b)
mapped f (Some a) b h = (a, h)
mapped f None b h = absurd (cc)

pub nodes_are_bounded : NodesAreBounded
nodes_are_bounded text n h =
    let m = mapped uid_of (behind (codes "0x") text) n h in
    digits_bounded m.0 n m.1
