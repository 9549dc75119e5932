-- The characters of a Name token are one Name.
use Rattle.std.proofs.Common.{◌≡◌, ℕ, zero, suc, ◌+◌, ◌-◌, ◌≤◌, Bool, true, false, ◌&&◌, ◌||◌, ◌==◌, not, nat_le, nat_lt, cond, List, [], ◌∷◌, ◌++◌, Option, Some, None, Ok, Err, length, take, drop, refl, ap, sym, subst, ◌∙◌, append_assoc, arith, length-append}
use Rattle.std.specs.Prelude.{is_some}
use Rattle.std.specs.List.{AllByRecursion}
use Rattle.std.proofs.lemmas.List.{take-append-drop}
use Rattle.std.proofs.lemmas.Bool.{eq-eqb}
use Rattle.std.proofs.Math.Seq.{drop-append_seam}
use Rattle.dg_text.specs.declared.token.Token.{Token}
use Rattle.dg_text.specs.declared.token.TokenKind.{TokenKind}
use Rattle.dg_text.specs.declared.token.TokenKind.TheVariants as tokens
use Rattle.dg_text.specs.Reading.{Read, turns}
use Rattle.dg_text.specs.Tokens.{Tok, tok_of, toks_of, is_name}
use Rattle.dg_text.specs.Forms.{Sized, token_at, name_len, name_more, is_letter, is_word_byte, goes_on, longest, longer, int_len, uid_len, quoted_len, regex_len, at_len, iri_len, blank_len, caret_len, punct_len, first_byte, whole, is_short}
use Rattle.dg_text.specs.Lexing.{gap, token, token_starts, front, skip_gap}
use Rattle.dg_text.specs.Words.{is_whole_name}
use Rattle.dg_schema.proofs.Saying.{past, more_goes, more_ends, first_of, read_first, turn}

-- ---- a Name cut out is a Name

name_within : (text : List ℕ) → name_more text ≤ length text
unfolding name_more
name_within [] = omega arith
name_within (b ∷ rest) = by (goes_on (b ∷ rest)) (name_within rest)
  where
    by : (v : Bool) → name_more rest ≤ length rest → cond v (1 + name_more rest) 0 ≤ suc (length rest)
    by true le = omega arith
    by false le = omega arith

take_none : (n : ℕ) → take {A = ℕ} n [] ≡ []
take_none zero = refl
take_none (suc n) = refl

-- a text goes on with a Name as the Name that is cut out does
cut_goes : (b : ℕ) (rest : List ℕ) → goes_on (b ∷ rest) ≡ true → goes_on (b ∷ take (name_more rest) rest) ≡ true
cut_goes b [] g = subst (λ (t : List ℕ). goes_on (b ∷ t) ≡ true) (sym (take_none (name_more []))) g
cut_goes b (c ∷ rest) g = by (is_word_byte c) refl
  where
    by : (v : Bool) → is_word_byte c ≡ v → goes_on (b ∷ take (name_more (c ∷ rest)) (c ∷ rest)) ≡ true
    by true w =
        let goes : goes_on (c ∷ rest) ≡ true = rw w refl in
        let more : name_more (c ∷ rest) ≡ suc (name_more rest) = more_goes c rest goes ∙ omega arith in
        rw more g
    by false w = word (is_word_byte b) refl (rw w at g)
      where
        word : (v : Bool) → is_word_byte b ≡ v → (is_word_byte b || ((b == 46) && false)) ≡ true → goes_on (b ∷ take (name_more (c ∷ rest)) (c ∷ rest)) ≡ true
        word true e h = rw e refl
        word false e h = absurd (none (b == 46) (rw e at h))
          where
            none : (x : Bool) → (false || (x && false)) ≡ true → ⊥
            none true h = cc
            none false h = cc

cut_more : (text : List ℕ) → name_more (take (name_more text) text) ≡ name_more text
unfolding name_more
cut_more [] = ap name_more (take_none (name_more []))
cut_more (b ∷ rest) = by (goes_on (b ∷ rest)) refl (cut_more rest)
  where
    by : (v : Bool) → goes_on (b ∷ rest) ≡ v → name_more (take (name_more rest) rest) ≡ name_more rest → name_more (take (name_more (b ∷ rest)) (b ∷ rest)) ≡ name_more (b ∷ rest)
    by true g same =
        let more : name_more (b ∷ rest) ≡ 1 + name_more rest = more_goes b rest g in
        let one : name_more (b ∷ rest) ≡ suc (name_more rest) = more ∙ omega arith in
        ap (λ (k : ℕ). name_more (take k (b ∷ rest))) one ∙ more_goes b (take (name_more rest) rest) (cut_goes b rest g) ∙ ap (λ (k : ℕ). 1 + k) same ∙ sym more
    by false g same =
        let none : name_more (b ∷ rest) ≡ 0 = more_ends b rest g in
        ap (λ (k : ℕ). name_more (take k (b ∷ rest))) none ∙ sym none

length_cut : (n : ℕ) (text : List ℕ) → n ≤ length text → length (take n text) ≡ n
length_cut zero text le = refl
length_cut (suc n) [] le = absurd (omega arith)
length_cut (suc n) (b ∷ text) le = ap suc (length_cut n text (omega arith))

-- the front of a text that is a Name of a fitting length
whole_front : (text : List ℕ) (n : ℕ) → name_len text ≡ n → (n == 0) ≡ false → nat_le n 64 ≡ true → is_whole_name (take n text) ≡ true
whole_front [] n e some short = absurd (let zero_is : (0 == n) ≡ true = eq-eqb 0 n e in let none : n ≡ 0 = sym e in cc (ap (λ (k : ℕ). k == 0) none))
whole_front (b ∷ rest) n e some short = by (is_letter b) refl e
  where
    by : (v : Bool) → is_letter b ≡ v → cond v (1 + name_more rest) 0 ≡ n → is_whole_name (take n (b ∷ rest)) ≡ true
    by true l f =
        let one : n ≡ suc (name_more rest) = sym f ∙ omega arith in
        let text : List ℕ = take (name_more rest) rest in
        let cut : take n (b ∷ rest) ≡ b ∷ text = ap (λ (k : ℕ). take k (b ∷ rest)) one in
        let len : length text ≡ name_more rest = length_cut (name_more rest) rest (name_within rest) in
        let is : name_len (b ∷ text) ≡ n = rw (l, cut_more rest) f in
        let whole_len : n ≡ length (b ∷ text) = one ∙ ap suc (sym len) in
        subst (λ (t : List ℕ). is_whole_name t ≡ true) (sym cut) (rw (is, some, short, eq-eqb n (length (b ∷ text)) whole_len) refl)
    by false l f = absurd (let none : n ≡ 0 = sym f in cc (ap (λ (k : ℕ). k == 0) none))

-- ---- which token starts a text

-- a kind other than Name
abbrev is_other : TokenKind → Bool
is_other tokens.Name = false
is_other _ = true

first_won : (a : Sized) (kind : TokenKind) (m n : ℕ) → is_other kind ≡ true → ◌≡◌ {A = Sized} (longer a (kind, m)) (tokens.Name, n) → ◌≡◌ {A = Sized} a (tokens.Name, n)
first_won a kind m n other e = by (nat_lt a.1 m) e
  where
    lost : (kind : TokenKind) → is_other kind ≡ true → ◌≡◌ {A = Sized} (kind, m) (tokens.Name, n) → ◌≡◌ {A = Sized} a (tokens.Name, n)
    lost kind o f = absurd (let same : kind ≡ tokens.Name = ap (λ (s : Sized). s.0) f in cc (ap is_other same))

    by : (v : Bool) → ◌≡◌ {A = Sized} (cond v (kind, m) a) (tokens.Name, n) → ◌≡◌ {A = Sized} a (tokens.Name, n)
    by true f = lost kind other f
    by false f = f

name_won : (text : List ℕ) (n : ℕ) → ◌≡◌ {A = Sized} (longest text) (tokens.Name, n) → name_len text ≡ n
name_won text n e =
    let punct = first_won _ (tokens.Punct (first_byte text)) (punct_len text) n refl e in
    let caret = first_won _ tokens.Caret (caret_len text) n refl punct in
    let other = first_won _ tokens.Blank (blank_len text) n refl caret in
    let iri = first_won _ tokens.Iri (iri_len text) n refl other in
    let at = first_won _ tokens.At (at_len text) n refl iri in
    let regex = first_won _ tokens.Regex (regex_len text) n refl at in
    let quoted = first_won _ tokens.Quoted (quoted_len text) n refl regex in
    let uid = first_won _ tokens.Uid (uid_len text) n refl quoted in
    let int = first_won (tokens.Name, name_len text) tokens.Int (int_len text) n refl uid in
    ap (λ (s : Sized). s.1) int

-- a Name that starts a text is cut out of it
name_cut : (text : List ℕ) (n : ℕ) → ◌≡◌ {A = Option Sized} (token_at text) (Some (tokens.Name, n)) → is_whole_name (take n text) ≡ true
unfolding token_at
name_cut text n e = by (longest text) refl e
  where
    some_is : (x y : Sized) → Some x ≡ Some y → x ≡ y
    some_is x y f = cc

    part : (kind : TokenKind) (m : ℕ) → ◌≡◌ {A = Sized} (longest text) (kind, m) → ◌≡◌ {A = Option Sized} (whole (kind, m)) (Some (tokens.Name, n)) → is_whole_name (take n text) ≡ true
    part kind m l f = test (not (m == 0) && is_short kind m) refl f
      where
        last : (a b : Bool) → (not a && b) ≡ true → (a ≡ false) × (b ≡ true)
        last true b h = absurd (cc)
        last false b h = (refl, h)

        test : (v : Bool) → (not (m == 0) && is_short kind m) ≡ v → ◌≡◌ {A = Option Sized} (cond v (Some (kind, m)) None) (Some (tokens.Name, n)) → is_whole_name (take n text) ≡ true
        test true h f =
            let same : ◌≡◌ {A = Sized} (kind, m) (tokens.Name, n) = some_is (kind, m) (tokens.Name, n) f in
            let named : (not (n == 0) && nat_le n 64) ≡ true = subst (λ (s : Sized). (not (s.1 == 0) && is_short s.0 s.1) ≡ true) same h in
            let both = last (n == 0) (nat_le n 64) named in
            whole_front text n (name_won text n (l ∙ same)) both.0 both.1
        test false h f = absurd (cc)

    by : (t : Sized) → longest text ≡ t → ◌≡◌ {A = Option Sized} (whole t) (Some (tokens.Name, n)) → is_whole_name (take n text) ≡ true
    by t l f = part t.0 t.1 l f

-- ---- the tokens of a text

-- a Name has one Name as its characters
abbrev pub IsWhole : Tok → Type 0
IsWhole t = is_name t ≡ true → is_whole_name t.text ≡ true

cut_at : (pre text : List ℕ) (n : ℕ) → take (((length (pre ++ text) - length text) + n) - (length (pre ++ text) - length text)) (drop (length (pre ++ text) - length text) (pre ++ text)) ≡ take n text
cut_at pre text n =
    let place : length (pre ++ text) - length text ≡ length pre = let l : length (pre ++ text) ≡ length pre + length text = length-append pre text in omega arith in
    let len : ((length (pre ++ text) - length text) + n) - (length (pre ++ text) - length text) ≡ n = omega arith in
    let from : drop (length (pre ++ text) - length text) (pre ++ text) ≡ text = ap (λ (k : ℕ). drop k (pre ++ text)) place ∙ drop-append_seam pre text in
    λ i. take (len i) (from i)

token_whole : (pre text : List ℕ) (kind : TokenKind) (n : ℕ) → ◌≡◌ {A = Option Sized} (token_at text) (Some (kind, n)) → IsWhole (tok_of (pre ++ text) (first_of (length (pre ++ text)) text (kind, n)))
token_whole pre text tokens.Name n e h = subst (λ (t : List ℕ). is_whole_name t ≡ true) (sym (cut_at pre text n)) (name_cut text n e)
token_whole pre text tokens.Int n e h = absurd (cc)
token_whole pre text tokens.Uid n e h = absurd (cc)
token_whole pre text tokens.Quoted n e h = absurd (cc)
token_whole pre text tokens.Iri n e h = absurd (cc)
token_whole pre text tokens.Blank n e h = absurd (cc)
token_whole pre text tokens.At n e h = absurd (cc)
token_whole pre text tokens.Regex n e h = absurd (cc)
token_whole pre text tokens.Caret n e h = absurd (cc)
token_whole pre text (tokens.Punct b) n e h = absurd (cc)

token_in : (all pre text : List ℕ) (t : Sized) → all ≡ pre ++ text → token_at text ≡ Some t → IsWhole (tok_of all (first_of (length all) text t))
token_in all pre text t at e = subst (λ (w : List ℕ). IsWhole (tok_of w (first_of (length w) text t))) (sym at) (token_whole pre text t.0 t.1 e)

all_pushed : (all : List ℕ) (before : List Token) (t : Token) → AllByRecursion IsWhole (toks_of all before) → IsWhole (tok_of all t) → AllByRecursion IsWhole (toks_of all (before ++ t ∷ []))
all_pushed all [] t a p = (p, tt)
all_pushed all (x ∷ before) t a p = (a.0, all_pushed all before t a.1 p)

-- what is left is an end of the whole
further : (all pre left : List ℕ) (k : ℕ) → all ≡ pre ++ left → all ≡ (pre ++ take k left) ++ drop k left
further all pre left k at = at ∙ ap (λ (t : List ℕ). pre ++ t) (sym (take-append-drop k left)) ∙ sym (append_assoc pre (take k left) (drop k left))

found_same : (before found : List Token) (left rest : List ℕ) → ◌≡◌ {A = Read (List ℕ) (List Token)} (Ok (before, left)) (Ok (found, rest)) → before ≡ found
found_same before found left rest e = ap (found_or before) e
  where
    found_or : List Token → Read (List ℕ) (List Token) → List Token
    found_or d (Ok x) = x.0
    found_or d (Err place) = d

starts_none : (n : ℕ) (size : ℕ) (before : List Token) (left : List ℕ) → token_at left ≡ None → turns (suc n) token_starts (token size) before left ≡ Ok (before, left)
unfolding turns
starts_none n size before left e = rw e refl

turns_whole : (n : ℕ) (all : List ℕ) (before found : List Token) (pre left rest : List ℕ) → all ≡ pre ++ left → AllByRecursion IsWhole (toks_of all before) → turns n token_starts (token (length all)) before left ≡ Ok (found, rest) → AllByRecursion IsWhole (toks_of all found)
unfolding turns
turns_whole zero all before found pre left rest at a e = subst (λ (ts : List Token). AllByRecursion IsWhole (toks_of all ts)) (found_same before found left rest e) a
turns_whole (suc n) all before found pre left rest at a e =
    by (token_at left) refl (λ t pre' left' at' a' e'. turns_whole n all (before ++ t ∷ []) found pre' left' rest at' a' e')
  where
    by : (o : Option Sized) → token_at left ≡ o → ((t : Token) (pre' left' : List ℕ) → all ≡ pre' ++ left' → AllByRecursion IsWhole (toks_of all (before ++ t ∷ [])) → turns n token_starts (token (length all)) (before ++ t ∷ []) left' ≡ Ok (found, rest) → AllByRecursion IsWhole (toks_of all found)) → AllByRecursion IsWhole (toks_of all found)
    by None f more = subst (λ (ts : List Token). AllByRecursion IsWhole (toks_of all ts)) (found_same before found left rest (sym (starts_none n (length all) before left f) ∙ e)) a
    by (Some t) f more =
        let first : Token = first_of (length all) left t in
        let after : List ℕ = drop t.1 left in
        let step = turn token_starts (token (length all)) n before (before ++ first ∷ []) left (past after) (ap is_some f) (read_first (length all) before left after t f refl) in
        let place : all ≡ ((pre ++ take t.1 left) ++ take (gap false after) after) ++ past after = further all (pre ++ take t.1 left) after (gap false after) (further all pre left t.1 at) in
        more first ((pre ++ take t.1 left) ++ take (gap false after) after) (past after) place (all_pushed all before first a (token_in all pre left t at f)) (sym step ∙ e)

-- of the tokens at the front of a text each Name is whole
pub front_whole : (text : List ℕ) (found : List Token) (rest : List ℕ) → front text ≡ Ok (found, rest) → AllByRecursion IsWhole (toks_of text found)
unfolding front skip_gap
front_whole text found rest e = turns_whole (length (past text)) text [] found (take (gap false text) text) (past text) rest (sym (take-append-drop (gap false text) text)) tt e
