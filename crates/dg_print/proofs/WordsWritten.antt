-- Words that are written one after the other.
use Rattle.std.proofs.Common.{◌≡◌, ℕ, suc, ℤ, arith, length-take, ◌+◌, ◌<◌, Bool, true, false, refl, List, [], ◌∷◌, ◌++◌, length, take, get_or, append_assoc, append-nil, sym, ap, ◌∙◌, codes}
use Rattle.std.specs.Prelude.{flat_map, nat_eq, if◌then◌else◌}
use Rattle.std.proofs.lemmas.Bool.Decides.{nat_tests}
use Rattle.std.specs.Fmt.{digits, signed_decimal}
use Rattle.std.proofs.lemmas.List.{take_more}
use Rattle.std.proofs.lemmas.Grind.{flat_map-append}
use Rattle.dg_text.specs.Quoting.{quoted_word}
use Rattle.dg_text.specs.Spelling.{name_word, uid_word, int_word, regex_word, slashed, flag_text, mark_word}
use Rattle.dg_text.specs.Written.{Word, written}
use Rattle.dg_print.specs.Printed.{in_round, between_words}

-- words before others
pub written_both : (ws more : List Word) → written (ws ++ more) ≡ written ws ++ written more
written_both ws more = flat_map-append (λ (w : Word). w.1 ++ 32 ∷ []) ws more

-- what is written before words, and these
pub two_written : (old : List ℕ) (ws more : List Word) → old ++ written (ws ++ more) ≡ (old ++ written ws) ++ written more
two_written old ws more = ap (λ (l : List ℕ). old ++ l) (written_both ws more) ∙ sym (append_assoc old (written ws) (written more))

pub name_written : (old text : List ℕ) → old ++ written (name_word text ∷ []) ≡ (old ++ text) ++ codes " "
name_written old text = ap (λ (l : List ℕ). old ++ l) (append-nil (text ++ 32 ∷ [])) ∙ sym (append_assoc old text (32 ∷ []))

pub opening_written : (old text : List ℕ) → old ++ (text ++ codes " ( ") ≡ (old ++ text) ++ codes " ( "
opening_written old text = sym (append_assoc old text (codes " ( "))

pub uid_written : (n : ℕ) → written (uid_word n ∷ []) ≡ codes "0x" ++ (digits 16 false n ++ codes " ")
uid_written n = append-nil (codes "0x" ++ (digits 16 false n ++ codes " "))

pub int_written : (z : ℤ) → written (int_word z ∷ []) ≡ signed_decimal z ++ codes " "
int_written z = append-nil (signed_decimal z ++ codes " ")

pub quoted_written : (old text : List ℕ) → old ++ written (quoted_word text ∷ []) ≡ (old ++ (quoted_word text).1) ++ codes " "
quoted_written old text = name_written old (quoted_word text).1

pub regex_written : (pattern : List ℕ) (fold : Bool) → written (regex_word pattern fold ∷ []) ≡ codes "/" ++ (slashed pattern ++ (codes "/" ++ (flag_text fold ++ codes " ")))
regex_written pattern fold =
    append-nil ((47 ∷ (slashed pattern ++ 47 ∷ flag_text fold)) ++ 32 ∷ [])
    ∙ ap (λ (l : List ℕ). 47 ∷ l) (append_assoc (slashed pattern) (47 ∷ flag_text fold) (32 ∷ []))

-- a word and brackets round others
pub round_written : (old word : List ℕ) (ws : List Word) → old ++ written (name_word word ∷ in_round ws) ≡ ((old ++ (word ++ codes " ( ")) ++ written ws) ++ codes ") "
round_written old word ws =
    ap (λ (l : List ℕ). old ++ ((word ++ 32 ∷ []) ++ (codes "( " ++ l))) (written_both ws (mark_word 41 ∷ []))
    ∙ ap (λ (l : List ℕ). old ++ l) (append_assoc word (32 ∷ []) (codes "( " ++ (written ws ++ codes ") ")) ∙ sym (append_assoc word (codes " ( ") (written ws ++ codes ") ")))
    ∙ sym (append_assoc old (word ++ codes " ( ") (written ws ++ codes ") "))
    ∙ sym (append_assoc (old ++ (word ++ codes " ( ")) (written ws) (codes ") "))

-- words, a comma and others
pub comma_written : (old : List ℕ) (ws more : List Word) → old ++ written (ws ++ mark_word 44 ∷ more) ≡ ((old ++ written ws) ++ codes ", ") ++ written more
comma_written old ws more = two_written old ws (mark_word 44 ∷ more) ∙ sym (append_assoc (old ++ written ws) (codes ", ") (written more))

-- a word, a comma and another
pub comma_behind : (old : List ℕ) (w v : Word) → old ++ written (w ∷ mark_word 44 ∷ v ∷ []) ≡ ((old ++ written (w ∷ [])) ++ codes ", ") ++ written (v ∷ [])
comma_behind old w v = comma_written old (w ∷ []) (v ∷ [])

-- two words
pub pair_written : (old : List ℕ) (w v : Word) → old ++ written (w ∷ v ∷ []) ≡ (old ++ written (w ∷ [])) ++ written (v ∷ [])
pair_written old w v = two_written old (w ∷ []) (v ∷ [])

pub as_written : (old name : List ℕ) → old ++ written (name_word name ∷ name_word (codes "as") ∷ []) ≡ (old ++ written (name_word name ∷ [])) ++ codes "as "
as_written old name = pair_written old (name_word name) (name_word (codes "as"))

-- a word and others
pub word_written : (old : List ℕ) (w : Word) (ws : List Word) → old ++ written (w ∷ ws) ≡ (old ++ written (w ∷ [])) ++ written ws
word_written old w ws = two_written old (w ∷ []) ws

-- a word and a colon
pub colon_behind : (old word : List ℕ) → old ++ written (name_word word ∷ mark_word 58 ∷ []) ≡ (old ++ written (name_word word ∷ [])) ++ codes ": "
colon_behind old word = pair_written old (name_word word) (mark_word 58)

-- a word, a colon and words
pub colon_written : (old word : List ℕ) (ws : List Word) → old ++ written (name_word word ∷ mark_word 58 ∷ ws) ≡ ((old ++ written (name_word word ∷ [])) ++ codes ": ") ++ written ws
colon_written old word ws = two_written old (name_word word ∷ []) (mark_word 58 ∷ ws) ∙ sym (append_assoc (old ++ written (name_word word ∷ [])) (codes ": ") (written ws))

-- words, others and others
pub three_written : (old : List ℕ) (ws vs us : List Word) → old ++ written (ws ++ (vs ++ us)) ≡ ((old ++ written ws) ++ written vs) ++ written us
three_written old ws vs us = two_written old ws (vs ++ us) ∙ two_written (old ++ written ws) vs us

-- a text, words and a text
enclosed : (old front back : List ℕ) (ws : List Word) → old ++ (front ++ (written ws ++ back)) ≡ ((old ++ front) ++ written ws) ++ back
enclosed old front back ws = sym (append_assoc old front (written ws ++ back)) ∙ sym (append_assoc (old ++ front) (written ws) back)

-- words in brackets
pub in_round_written : (old : List ℕ) (ws : List Word) → old ++ written (in_round ws) ≡ ((old ++ codes "( ") ++ written ws) ++ codes ") "
in_round_written old ws = ap (λ (l : List ℕ). old ++ (codes "( " ++ l)) (written_both ws (mark_word 41 ∷ [])) ∙ enclosed old (codes "( ") (codes ") ") ws

-- words and others in brackets
pub both_in_round : (old : List ℕ) (ws more : List Word) → old ++ written (in_round (ws ++ more)) ≡ (((old ++ codes "( ") ++ written ws) ++ written more) ++ codes ") "
both_in_round old ws more = in_round_written old (ws ++ more) ∙ ap (λ (l : List ℕ). l ++ codes ") ") (two_written (old ++ codes "( ") ws more)

-- words in braces
pub in_curly_written : (old : List ℕ) (ws : List Word) → old ++ written (mark_word 123 ∷ (ws ++ mark_word 125 ∷ [])) ≡ ((old ++ codes "{ ") ++ written ws) ++ codes "} "
in_curly_written old ws = ap (λ (l : List ℕ). old ++ (codes "{ " ++ l)) (written_both ws (mark_word 125 ∷ [])) ∙ enclosed old (codes "{ ") (codes "} ") ws

-- a number above 0 isn't 0
above : (n : ℕ) → nat_eq (suc n) 0 ≡ true → ⊥
above n e = let zero_is : suc n ≡ 0 = grind (arith, nat_tests) in absurd (omega (arith, zero_is))

not_first : (n : ℕ) (b : Bool) → nat_eq (suc n) 0 ≡ b → nat_eq (suc n) 0 ≡ false
not_first n true e = absurd (above n e)
not_first n false e = e

-- a word before each item but the first
abbrev pub joint : Word → ℕ → List Word
joint w n = if nat_eq n 0 then [] else w ∷ []

joint_is : (w : Word) (n : ℕ) → joint w (suc n) ≡ w ∷ []
joint_is w n = rw (not_first n (nat_eq (suc n) 0) refl) refl

-- one item more behind others
between_push : {X : Type 0} (w : Word) (words_of : X → List Word) (xs : List X) (x : X) → written (between_words w words_of (xs ++ x ∷ [])) ≡ (written (between_words w words_of xs) ++ written (joint w (length xs))) ++ written (words_of x)
between_push w words_of [] x = ap written (append-nil (words_of x))
between_push w words_of (y ∷ ys) x =
    let before : List Word = words_of y ++ flat_map (λ z. w ∷ words_of z) ys in
    ap (λ (l : List Word). written (words_of y ++ l)) (flat_map-append (λ z. w ∷ words_of z) ys (x ∷ []))
    ∙ ap (λ (l : List Word). written (words_of y ++ (flat_map (λ z. w ∷ words_of z) ys ++ w ∷ l))) (append-nil (words_of x))
    ∙ ap written (sym (append_assoc (words_of y) (flat_map (λ z. w ∷ words_of z) ys) (w ∷ words_of x)))
    ∙ written_both before (w ∷ words_of x)
    ∙ word_written (written before) w (words_of x)
    ∙ ap (λ (ws : List Word). (written before ++ written ws) ++ written (words_of x)) (sym (joint_is w (length ys)))

-- the items up to a place with a word between any two, and the one there
joined_more : {X : Type 0} (w : Word) (words_of : X → List Word) (xs : List X) (i : ℕ) (x : X) (old : List ℕ) → i < length xs → old ++ written (between_words w words_of (take (i + 1) xs)) ≡ ((old ++ written (between_words w words_of (take i xs))) ++ written (joint w i)) ++ written (words_of (get_or xs i x))
joined_more {X = X} w words_of xs i x old lt =
    let many : length (take i xs) ≡ i = length-take i xs ∙ omega (arith, lt) in
    let so_far : List ℕ = written (between_words w words_of (take i xs)) in
    let one : List ℕ = written (words_of (get_or xs i x)) in
    ap (λ (l : List ℕ). old ++ l) (
    ap (λ (ys : List X). written (between_words w words_of ys)) (take_more xs i x lt)
    ∙ between_push w words_of (take i xs) (get_or xs i x)
    ∙ ap (λ (n : ℕ). (so_far ++ written (joint w n)) ++ one) many
    )
    ∙ sym (append_assoc old (so_far ++ written (joint w i)) one)
    ∙ ap (λ (l : List ℕ). l ++ one) (sym (append_assoc old so_far (written (joint w i))))

-- what is written after the word between two items and after the next item
pub joined_step : {X : Type 0} (w : Word) (words_of : X → List Word) (xs : List X) (i : ℕ) (x : X) (old so_far joined now : List ℕ) → i < length xs → x ≡ get_or xs i x
    → so_far ≡ old ++ written (between_words w words_of (take i xs)) → joined ≡ so_far ++ written (joint w i) → now ≡ joined ++ written (words_of x) → now ≡ old ++ written (between_words w words_of (take (i + 1) xs))
joined_step {X = X} w words_of xs i x old so_far joined now lt is before with_word added =
    added
    ∙ ap (λ (l : List ℕ). l ++ written (words_of x)) with_word
    ∙ ap (λ (l : List ℕ). (l ++ written (joint w i)) ++ written (words_of x)) before
    ∙ ap (λ (y : X). ((old ++ written (between_words w words_of (take i xs))) ++ written (joint w i)) ++ written (words_of y)) is
    ∙ sym (joined_more w words_of xs i x old lt)

-- the items up to a place, and the one there
pub listed_more : {X : Type 0} (words_of : X → List Word) (xs : List X) (i : ℕ) (x : X) (old : List ℕ) → i < length xs → old ++ written (flat_map words_of (take (i + 1) xs)) ≡ (old ++ written (flat_map words_of (take i xs))) ++ written (words_of (get_or xs i x))
listed_more {X = X} words_of xs i x old lt =
    ap (λ (ys : List X). old ++ written (flat_map words_of ys)) (take_more xs i x lt)
    ∙ ap (λ (ws : List Word). old ++ written ws) (flat_map-append words_of (take i xs) (get_or xs i x ∷ []) ∙ ap (λ (ws : List Word). flat_map words_of (take i xs) ++ ws) (append-nil (words_of (get_or xs i x))))
    ∙ two_written old (flat_map words_of (take i xs)) (words_of (get_or xs i x))
