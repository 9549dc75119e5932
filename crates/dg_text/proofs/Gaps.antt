-- Blanks and comments.
use Rattle.std.proofs.Common.{◌≡◌, ℕ, suc, ◌+◌, Bool, true, false, not, ◌==◌, ◌⊎◌, inl, inr, List, [], ◌∷◌, ◌++◌, drop, append_assoc, append-nil, refl, sym, ap, subst, ◌∙◌, arith}
use Rattle.std.specs.List.{concat, AllByRecursion}
use Rattle.std.proofs.lemmas.Bool.{eqb-true}
use Rattle.dg_text.specs.Lexing.{is_blank, in_gap, comment_after, gap}
use Rattle.dg_text.specs.Tokenized.{IsComment, IsGapPiece, begins_gap, IsGap}
use Rattle.dg_text.proofs.Fronts.{AllAre, first_and_more}

-- what is left after blanks and comments, where the text begins in a comment or outside
abbrev left_of : Bool → List ℕ → List ℕ
left_of in_comment text = drop (gap in_comment text) text

-- what is left after them
abbrev pub past : List ℕ → List ℕ
past text = left_of false text

goes : (c : Bool) (b : ℕ) (rest : List ℕ) → in_gap c b ≡ true → left_of c (b ∷ rest) ≡ left_of (comment_after c b) rest
unfolding gap
goes c b rest h =
    let e : gap c (b ∷ rest) ≡ 1 + gap (comment_after c b) rest = rw h refl in
    let f : gap c (b ∷ rest) ≡ suc (gap (comment_after c b) rest) = omega (arith, e) in
    ap (λ (k : ℕ). drop k (b ∷ rest)) f

ends : (c : Bool) (b : ℕ) (rest : List ℕ) → in_gap c b ≡ false → left_of c (b ∷ rest) ≡ b ∷ rest
unfolding gap
ends c b rest h =
    let e : gap c (b ∷ rest) ≡ 0 = rw h refl in
    ap (λ (k : ℕ). drop k (b ∷ rest)) e

at_end : (c : Bool) → left_of c [] ≡ []
unfolding gap
at_end c = refl

-- ---- a gap leaves what is left after it

abbrev no_feed : ℕ → Bool
no_feed b = not (b == 10)

said_passed : (said more : List ℕ) → AllAre no_feed said → left_of true (said ++ more) ≡ left_of true more
said_passed [] more a = refl
said_passed (b ∷ said) more a =
    let both = first_and_more no_feed b said a in
    goes true b (said ++ more) refl ∙ ap (λ (c : Bool). left_of c (said ++ more)) both.0 ∙ said_passed said more both.1

comment_begins : (rest : List ℕ) → past (35 ∷ rest) ≡ left_of true rest
comment_begins rest = goes false 35 rest refl

feed_ends : (rest : List ℕ) → left_of true (10 ∷ rest) ≡ past rest
feed_ends rest = goes true 10 rest refl

blank_goes : (b : ℕ) (rest : List ℕ) → is_blank b ≡ true → past (b ∷ rest) ≡ past rest
blank_goes b rest h =
    let g : in_gap false b ≡ true = rw h refl in
    goes false b rest g ∙ ap (λ (c : Bool). left_of c rest) (no_comment b h)
  where
    no_comment : (b : ℕ) → is_blank b ≡ true → (b == 35) ≡ false
    no_comment b h = by (b == 35) refl
      where
        by : (v : Bool) → (b == 35) ≡ v → v ≡ false
        by true e = absurd (let f : is_blank 35 ≡ true = subst (λ (x : ℕ). is_blank x ≡ true) (eqb-true b 35 e) h in cc)
        by false e = refl

piece_passed : (piece more : List ℕ) → IsGapPiece piece → past (piece ++ more) ≡ past more
piece_passed piece more (inl p) = subst (λ (t : List ℕ). past (t ++ more) ≡ past more) (sym p.is) (blank_goes p.byte more p.blank)
piece_passed piece more (inr p) =
    let c = p.commented in
    let is : piece ≡ 35 ∷ (c.said ++ 10 ∷ []) = p.is ∙ ap (λ (t : List ℕ). t ++ 10 ∷ []) c.is in
    subst (λ (t : List ℕ). past (t ++ more) ≡ past more) (sym is)
    (comment_begins ((c.said ++ 10 ∷ []) ++ more) ∙ ap (left_of true) (append_assoc c.said (10 ∷ []) more) ∙ said_passed c.said (10 ∷ more) c.each ∙ feed_ends more)

pieces_passed : (pieces : List (List ℕ)) (more : List ℕ) → AllByRecursion IsGapPiece pieces → past (concat pieces ++ more) ≡ past more
pieces_passed [] more a = refl
pieces_passed (p ∷ pieces) more a = ap past (append_assoc p (concat pieces) more) ∙ piece_passed p (concat pieces ++ more) a.0 ∙ pieces_passed pieces more a.1

none_left : (rest : List ℕ) → begins_gap rest ≡ false → past rest ≡ rest
none_left [] h = at_end false
none_left (b ∷ rest) h = ends false b rest h

comment_left : (last : List ℕ) → IsComment last → past (last ++ []) ≡ []
comment_left last c = subst (λ (t : List ℕ). past (t ++ []) ≡ []) (sym c.is) (comment_begins (c.said ++ []) ∙ said_passed c.said [] c.each ∙ at_end true)

-- a gap leaves this and nothing else
pub gap_leaves : (text rest : List ℕ) → IsGap text rest → rest ≡ past text
gap_leaves text rest g = sym (ap past g.is ∙ pieces_passed g.pieces (g.last ++ rest) g.each ∙ by g.ends)
  where
    by : ((g.last ≡ []) × (begins_gap rest ≡ false)) ⊎ (IsComment g.last × (rest ≡ [])) → past (g.last ++ rest) ≡ rest
    by (inl p) = ap (λ (t : List ℕ). past (t ++ rest)) p.0 ∙ none_left rest p.1
    by (inr p) = ap (λ (t : List ℕ). past (g.last ++ t)) p.1 ∙ comment_left g.last p.0 ∙ sym p.1

-- ---- each text has a gap

-- the rest of a comment, and the gap after it
record InComment (text rest : List ℕ) : Type 0 where
  pub said : List ℕ
  pub more : List ℕ
  pub each : AllAre no_feed said
  pub ends : ((text ≡ said ++ 10 ∷ more) × IsGap more rest) ⊎ ((text ≡ said) × (rest ≡ []))

abbrev GapAt : Bool → List ℕ → List ℕ → Type 0
GapAt true text rest = InComment text rest
GapAt false text rest = IsGap text rest

with_piece : (piece text rest : List ℕ) → IsGapPiece piece → IsGap text rest → IsGap (piece ++ text) rest
with_piece piece text rest p g = record {
  pieces = piece ∷ g.pieces;
  last = g.last;
  each = (p, g.each);
  ends = g.ends;
  is = ap (λ (t : List ℕ). piece ++ t) g.is ∙ sym (append_assoc piece (concat g.pieces) (g.last ++ rest));
}

with_comment : (text rest : List ℕ) → InComment text rest → IsGap (35 ∷ text) rest
with_comment text rest c = by c.ends
  where
    by : ((text ≡ c.said ++ 10 ∷ c.more) × IsGap c.more rest) ⊎ ((text ≡ c.said) × (rest ≡ [])) → IsGap (35 ∷ text) rest
    by (inl p) = subst (λ (t : List ℕ). IsGap (35 ∷ t) rest) (append_assoc c.said (10 ∷ []) c.more ∙ sym p.0)
        (with_piece (35 ∷ (c.said ++ 10 ∷ [])) c.more rest (inr (record { comment = 35 ∷ c.said; commented = record { said = c.said; each = c.each; is = refl }; is = refl })) p.1)
    by (inr p) = record {
      pieces = [];
      last = 35 ∷ text;
      each = tt;
      ends = inr (record { said = text; each = subst (AllAre no_feed) (sym p.0) c.each; is = refl }, p.1);
      is = sym (append-nil (35 ∷ text)) ∙ ap (λ (t : List ℕ). (35 ∷ text) ++ t) (sym p.1);
    }

said_more : (b : ℕ) (text rest : List ℕ) → no_feed b ≡ true → InComment text rest → InComment (b ∷ text) rest
said_more b text rest h c = record {
  said = b ∷ c.said;
  more = c.more;
  each = rw (h, c.each) refl;
  ends = by c.ends;
}
  where
    by : ((text ≡ c.said ++ 10 ∷ c.more) × IsGap c.more rest) ⊎ ((text ≡ c.said) × (rest ≡ [])) → ((b ∷ text ≡ (b ∷ c.said) ++ 10 ∷ c.more) × IsGap c.more rest) ⊎ ((b ∷ text ≡ b ∷ c.said) × (rest ≡ []))
    by (inl p) = inl (ap (λ (t : List ℕ). b ∷ t) p.0, p.1)
    by (inr p) = inr (ap (λ (t : List ℕ). b ∷ t) p.0, p.1)

no_gap : (text : List ℕ) → begins_gap text ≡ false → IsGap text text
no_gap text h = record { pieces = []; last = []; each = tt; ends = inl (refl, h); is = refl }

gap_at : (c : Bool) (text : List ℕ) → GapAt c text (left_of c text)
gap_at false [] = subst (IsGap []) (sym (at_end false)) (no_gap [] refl)
gap_at true [] = record { said = []; more = []; each = refl; ends = inr (refl, at_end true) }
gap_at false (b ∷ rest) = by (is_blank b) refl (b == 35) refl (gap_at false rest) (gap_at true rest)
  where
    by : (v : Bool) → is_blank b ≡ v → (w : Bool) → (b == 35) ≡ w → IsGap rest (past rest) → InComment rest (left_of true rest) → IsGap (b ∷ rest) (past (b ∷ rest))
    by true h w e g c = subst (IsGap (b ∷ rest)) (sym (blank_goes b rest h)) (with_piece (b ∷ []) rest (past rest) (inl (record { byte = b; blank = h; is = refl })) g)
    by false h true e g c =
        let is : b ≡ 35 = eqb-true b 35 e in
        subst (λ (x : ℕ). IsGap (x ∷ rest) (past (x ∷ rest))) (sym is) (subst (IsGap (35 ∷ rest)) (sym (comment_begins rest)) (with_comment rest (left_of true rest) c))
    by false h false e g c =
        let none : begins_gap (b ∷ rest) ≡ false = rw (h, e) refl in
        subst (IsGap (b ∷ rest)) (sym (none_left (b ∷ rest) none)) (no_gap (b ∷ rest) none)
gap_at true (b ∷ rest) = by (b == 10) refl (gap_at false rest) (gap_at true rest)
  where
    by : (v : Bool) → (b == 10) ≡ v → IsGap rest (past rest) → InComment rest (left_of true rest) → InComment (b ∷ rest) (left_of true (b ∷ rest))
    by true e g c =
        let is : b ≡ 10 = eqb-true b 10 e in
        subst (λ (x : ℕ). InComment (x ∷ rest) (left_of true (x ∷ rest))) (sym is)
        (record { said = []; more = rest; each = refl; ends = inl (refl, subst (IsGap rest) (sym (feed_ends rest)) g) })
    by false e g c =
        let more : no_feed b ≡ true = rw e refl in
        let same : left_of true (b ∷ rest) ≡ left_of true rest = goes true b rest refl ∙ ap (λ (x : Bool). left_of x rest) more in
        subst (InComment (b ∷ rest)) (sym same) (said_more b rest (left_of true rest) more c)

-- the gap at the front of a text leaves what is left after it
pub gap_is : (text : List ℕ) → IsGap text (past text)
gap_is text = gap_at false text
