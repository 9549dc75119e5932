-- The forms of Quoted and Regex.
use Rattle.std.proofs.Common.{◌≡◌, ℕ, zero, suc, ◌+◌, ◌≤◌, ◌<◌, Bool, true, false, cond, ◌==◌, nat_lt, ◌⊎◌, inl, inr, List, [], ◌∷◌, ◌++◌, length, take, drop, append_assoc, length-append, refl, sym, ap, subst, ◌∙◌, arith}
use Rattle.std.specs.List.{concat, AllByRecursion}
use Rattle.std.proofs.Math.Seq.{drop-append_seam}
use Rattle.std.proofs.lemmas.Bool.{eqb-true, ltb-false, le-ltb}
use Rattle.dg_text.specs.declared.forms.Step.{Step}
use Rattle.dg_text.specs.declared.forms.Step.TheVariants as steps
use Rattle.dg_text.specs.declared.forms.Delimiter.{Delimiter}
use Rattle.dg_text.specs.declared.forms.Delimiter.TheVariants as delimiters
use Rattle.dg_text.specs.Reading.{next}
use Rattle.dg_text.specs.Forms.{step, one_more, stepped, closing, quoted_len, regex_len}
use Rattle.dg_text.specs.Language.{IsRegexPiece, IsQuoted, IsRegex}
use Rattle.dg_text.proofs.Fronts.{Found, positive, some_from, long_by_one}
use Rattle.dg_text.proofs.EscapeForm.{closer, IsPiece, piece_goes, closer_closes, goes_piece, closes_is, length_taken}

one_more_is : (n : ℕ) → 0 < n → one_more n ≡ suc n
one_more_is n some =
    let e : one_more n ≡ 1 + n = rw (positive n some) refl in
    omega (arith, e)

more_some : (n : ℕ) → 0 < one_more n → 0 < n
more_some n some = by (n == 0) refl
  where
    by : (v : Bool) → (n == 0) ≡ v → 0 < n
    by true e = absurd (let none : one_more n ≡ 0 = rw e refl in omega (arith, some, none))
    by false e = some_from n e

at_step : (d : Delimiter) (b : ℕ) (rest : List ℕ) (s : Step) → step d b rest ≡ s → closing d (b ∷ rest) 0 ≡ stepped (λ j. closing d rest j) s
unfolding closing
at_step d b rest s h = ap (stepped (λ j. closing d rest j)) h

passing : (d : Delimiter) (b k : ℕ) (rest : List ℕ) → closing d (b ∷ rest) (suc k) ≡ one_more (closing d rest k)
unfolding closing
passing d b k rest = refl

-- bytes of an escape are passed
skipped : (d : Delimiter) (more rest : List ℕ) → 0 < closing d rest 0 → closing d (more ++ rest) (length more) ≡ length more + closing d rest 0
skipped d [] rest some = omega arith
skipped d (b ∷ more) rest some =
    let e : closing d (more ++ rest) (length more) ≡ length more + closing d rest 0 = skipped d more rest some in
    let f : one_more (closing d (more ++ rest) (length more)) ≡ suc (closing d (more ++ rest) (length more)) = one_more_is (closing d (more ++ rest) (length more)) (omega (arith, e, some)) in
    let g : closing d (b ∷ (more ++ rest)) (suc (length more)) ≡ suc (length more + closing d rest 0) = passing d b (length more) (more ++ rest) ∙ f ∙ ap suc e in
    omega (arith, g)

-- pieces and the byte that closes
pub closing_is : (d : Delimiter) (pieces : List (List ℕ)) (rest : List ℕ) → AllByRecursion (IsPiece d) pieces → closing d (concat pieces ++ closer d ∷ rest) 0 ≡ suc (length (concat pieces))
closing_is d [] rest a = at_step d (closer d) rest steps.Closes (closer_closes d rest)
closing_is delimiters.Quote ([] ∷ pieces) rest a = absurd a.0
closing_is delimiters.Slash ([] ∷ pieces) rest a = absurd a.0
closing_is d ((b ∷ more) ∷ pieces) rest a =
    let left : List ℕ = concat pieces ++ closer d ∷ rest in
    let ih : closing d left 0 ≡ suc (length (concat pieces)) = closing_is d pieces rest a.1 in
    let over : closing d (more ++ left) (length more) ≡ length more + closing d left 0 = skipped d more left (omega (arith, ih)) in
    let first : closing d (b ∷ (more ++ left)) 0 ≡ one_more (closing d (more ++ left) (length more)) = at_step d b (more ++ left) (steps.Goes (length more)) (piece_goes d b more left a.0) in
    let added : one_more (closing d (more ++ left) (length more)) ≡ suc (closing d (more ++ left) (length more)) = one_more_is (closing d (more ++ left) (length more)) (omega (arith, over, ih)) in
    let joined : closing d (b ∷ ((more ++ concat pieces) ++ closer d ∷ rest)) 0 ≡ closing d (b ∷ (more ++ left)) 0 = ap (λ (t : List ℕ). closing d (b ∷ t) 0) (append_assoc more (concat pieces) (closer d ∷ rest)) in
    omega (arith, joined, first, added, over, ih, length-append more (concat pieces))

-- k bytes of an escape, pieces and the byte that closes stand at the front of a text
record Shut (d : Delimiter) (text : List ℕ) (k n : ℕ) : Type 0 where
  pub pieces : List (List ℕ)
  pub rest : List ℕ
  pub each : AllByRecursion (IsPiece d) pieces
  pub within : k ≤ length text
  pub split : text ≡ take k text ++ (concat pieces ++ closer d ∷ rest)
  pub len : n ≡ k + suc (length (concat pieces))

shut_closes : (d : Delimiter) (b : ℕ) (rest : List ℕ) → step d b rest ≡ steps.Closes → Shut d (b ∷ rest) 0 (closing d (b ∷ rest) 0)
shut_closes d b rest h = record {
  pieces = [];
  rest = rest;
  each = tt;
  within = omega arith;
  split = ap (λ (x : ℕ). x ∷ rest) (closes_is d b rest h);
  len = at_step d b rest steps.Closes h;
}

shut_goes : (d : Delimiter) (b : ℕ) (rest : List ℕ) (k : ℕ) → step d b rest ≡ steps.Goes k → 0 < closing d rest k → Shut d rest k (closing d rest k) → Shut d (b ∷ rest) 0 (closing d (b ∷ rest) 0)
shut_goes d b rest k h some s =
    let e : closing d (b ∷ rest) 0 ≡ suc (closing d rest k) = at_step d b rest (steps.Goes k) h ∙ one_more_is (closing d rest k) some in
    let cut : length (take k rest) ≡ k = length_taken k rest s.within in
    record {
      pieces = (b ∷ take k rest) ∷ s.pieces;
      rest = s.rest;
      each = (goes_piece d b rest k h s.within, s.each);
      within = omega arith;
      split = ap (λ (t : List ℕ). b ∷ t) (s.split ∙ sym (append_assoc (take k rest) (concat s.pieces) (closer d ∷ s.rest)));
      len = omega (arith, e, s.len, cut, length-append (take k rest) (concat s.pieces));
    }

closing_found : (d : Delimiter) (text : List ℕ) (k : ℕ) → 0 < closing d text k → Shut d text k (closing d text k)
unfolding closing
closing_found d [] k some = absurd (omega (arith, some))
closing_found d (b ∷ rest) (suc k) some =
    let more : 0 < closing d rest k = more_some (closing d rest k) some in
    let s = closing_found d rest k more in
    record {
      pieces = s.pieces;
      rest = s.rest;
      each = s.each;
      within = omega (arith, s.within);
      split = ap (λ (t : List ℕ). b ∷ t) s.split;
      len = omega (arith, s.len, one_more_is (closing d rest k) more);
    }
closing_found d (b ∷ rest) zero some = by (step d b rest) refl (λ k more. closing_found d rest k more)
  where
    by : (s : Step) → step d b rest ≡ s → ((k : ℕ) → 0 < closing d rest k → Shut d rest k (closing d rest k)) → Shut d (b ∷ rest) 0 (closing d (b ∷ rest) 0)
    by steps.Closes h ih = shut_closes d b rest h
    by steps.Breaks h ih = absurd (omega (arith, some, at_step d b rest steps.Breaks h))
    by (steps.Goes k) h ih =
        let e : closing d (b ∷ rest) 0 ≡ one_more (closing d rest k) = at_step d b rest (steps.Goes k) h in
        let more : 0 < closing d rest k = more_some (closing d rest k) (omega (arith, e, some)) in
        shut_goes d b rest k h more (ih k more)

-- ---- Quoted

pub quoted_found : (text : List ℕ) → 0 < quoted_len text → Found text (quoted_len text) IsQuoted
quoted_found [] some = absurd (omega (arith, some))
quoted_found (b ∷ rest) some = by (b == 34) refl
  where
    by : (v : Bool) → (b == 34) ≡ v → Found (b ∷ rest) (quoted_len (b ∷ rest)) IsQuoted
    by true e =
        let n : ℕ = closing delimiters.Quote rest 0 in
        let same : quoted_len (b ∷ rest) ≡ one_more n = rw e refl in
        let closed : 0 < n = more_some n (omega (arith, same, some)) in
        let s = closing_found delimiters.Quote rest 0 closed in
        record {
          front = 34 ∷ (concat s.pieces ++ 34 ∷ []);
          rest = s.rest;
          split = ap (λ (x : ℕ). x ∷ rest) (eqb-true b 34 e) ∙ ap (λ (t : List ℕ). 34 ∷ t) (s.split ∙ sym (append_assoc (concat s.pieces) (34 ∷ []) s.rest));
          len = omega (arith, same, one_more_is n closed, s.len, long_by_one (concat s.pieces) 34);
          form = record { pieces = s.pieces; each = s.each; is = refl };
        }
    by false e = absurd (let none : quoted_len (b ∷ rest) ≡ 0 = rw e refl in omega (arith, some, none))

-- no more bytes are a Quoted, whatever stands behind it
pub quoted_exact : (text rest : List ℕ) → IsQuoted text → quoted_len (text ++ rest) ≡ length text
quoted_exact text rest q =
    let joined : (concat q.pieces ++ 34 ∷ []) ++ rest ≡ concat q.pieces ++ 34 ∷ rest = append_assoc (concat q.pieces) (34 ∷ []) rest in
    let n : ℕ = closing delimiters.Quote (concat q.pieces ++ 34 ∷ rest) 0 in
    let len : n ≡ suc (length (concat q.pieces)) = closing_is delimiters.Quote q.pieces rest q.each in
    let same : quoted_len (34 ∷ ((concat q.pieces ++ 34 ∷ []) ++ rest)) ≡ one_more n = ap (λ (t : List ℕ). one_more (closing delimiters.Quote t 0)) joined in
    let more : one_more n ≡ suc n = one_more_is n (omega (arith, len)) in
    subst (λ (t : List ℕ). quoted_len (t ++ rest) ≡ length t) (sym q.is) (omega (arith, same, more, len, long_by_one (concat q.pieces) 34))

pub quoted_most : (text rest : List ℕ) → IsQuoted text → length text ≤ quoted_len (text ++ rest)
quoted_most text rest q = omega (arith, quoted_exact text rest q)

-- ---- Regex

abbrev is_i : ℕ → Bool
is_i c = c == 105

some_pieces : (pieces : List (List ℕ)) → 0 < length (concat pieces) → 0 < length pieces
some_pieces [] h = absurd (omega (arith, h))
some_pieces (p ∷ pieces) h = omega arith

some_bytes : (pieces : List (List ℕ)) → AllByRecursion IsRegexPiece pieces → 0 < length pieces → 0 < length (concat pieces)
some_bytes [] a h = absurd (omega (arith, h))
some_bytes ([] ∷ pieces) a h = absurd a.0
some_bytes ((b ∷ piece) ∷ pieces) a h = omega arith

-- what stands after the byte that closes
behind : (front rest : List ℕ) (b n : ℕ) → n ≡ suc (length front) → drop n (front ++ b ∷ rest) ≡ rest
behind front rest b n e =
    ap (λ (k : ℕ). drop k (front ++ b ∷ rest)) (e ∙ sym (long_by_one front b))
    ∙ ap (drop (length (front ++ b ∷ []))) (sym (append_assoc front (b ∷ []) rest))
    ∙ drop-append_seam (front ++ b ∷ []) rest

long_by_two : (front : List ℕ) (b c : ℕ) → length (front ++ b ∷ c ∷ []) ≡ suc (suc (length front))
long_by_two [] b c = refl
long_by_two (x ∷ front) b c = ap suc (long_by_two front b c)

pub regex_found : (text : List ℕ) → 0 < regex_len text → Found text (regex_len text) IsRegex
regex_found [] some = absurd (omega (arith, some))
regex_found (b ∷ rest) some = by (b == 47) refl
  where
    n : ℕ
    n = closing delimiters.Slash rest 0

    with_flag : b ≡ 47 → 2 ≤ n → (s : Shut delimiters.Slash rest 0 n) → (more : List ℕ) → s.rest ≡ more → (v : Bool) → next is_i more ≡ v → regex_len (b ∷ rest) ≡ cond v (2 + n) (1 + n) → Found (b ∷ rest) (regex_len (b ∷ rest)) IsRegex
    with_flag e two s [] m true h len = absurd (cc)
    with_flag e two s (c ∷ more) m true h len =
        let is : s.rest ≡ 105 ∷ more = m ∙ ap (λ (x : ℕ). x ∷ more) (eqb-true c 105 h) in
        record {
          front = 47 ∷ (concat s.pieces ++ 47 ∷ 105 ∷ []);
          rest = more;
          split = ap (λ (x : ℕ). x ∷ rest) e ∙ ap (λ (t : List ℕ). 47 ∷ t) (s.split ∙ ap (λ (t : List ℕ). concat s.pieces ++ 47 ∷ t) is ∙ sym (append_assoc (concat s.pieces) (47 ∷ 105 ∷ []) more));
          len = omega (arith, len, s.len, long_by_two (concat s.pieces) 47 105);
          form = record { pieces = s.pieces; flag = 105 ∷ []; some = some_pieces s.pieces (omega (arith, two, s.len)); each = s.each; flagged = inr refl; is = refl };
        }
    with_flag e two s more m false h len =
        record {
          front = 47 ∷ (concat s.pieces ++ 47 ∷ []);
          rest = s.rest;
          split = ap (λ (x : ℕ). x ∷ rest) e ∙ ap (λ (t : List ℕ). 47 ∷ t) (s.split ∙ sym (append_assoc (concat s.pieces) (47 ∷ []) s.rest));
          len = omega (arith, len, s.len, long_by_one (concat s.pieces) 47);
          form = record { pieces = s.pieces; flag = []; some = some_pieces s.pieces (omega (arith, two, s.len)); each = s.each; flagged = inl refl; is = refl };
        }

    closed : (b == 47) ≡ true → (v : Bool) → nat_lt n 2 ≡ v → Found (b ∷ rest) (regex_len (b ∷ rest)) IsRegex
    closed e true l = absurd (let none : regex_len (b ∷ rest) ≡ 0 = rw (e, l) refl in omega (arith, some, none))
    closed e false l =
        let two : 2 ≤ n = ltb-false n 2 l in
        let s = closing_found delimiters.Slash rest 0 (omega (arith, two)) in
        let left : drop n rest ≡ s.rest = ap (drop n) s.split ∙ behind (concat s.pieces) s.rest 47 n (omega (arith, s.len)) in
        with_flag (eqb-true b 47 e) two s s.rest refl (next is_i s.rest) refl (rw (e, l, left) refl)

    by : (v : Bool) → (b == 47) ≡ v → Found (b ∷ rest) (regex_len (b ∷ rest)) IsRegex
    by true e = closed e (nat_lt n 2) refl
    by false e = absurd (let none : regex_len (b ∷ rest) ≡ 0 = rw e refl in omega (arith, some, none))

-- pieces, a slash and what stands after it
regex_is : (pieces : List (List ℕ)) (rest : List ℕ) → AllByRecursion IsRegexPiece pieces → 0 < length pieces → regex_len (47 ∷ (concat pieces ++ 47 ∷ rest)) ≡ cond (next is_i rest) (suc (suc (suc (length (concat pieces))))) (suc (suc (length (concat pieces))))
regex_is pieces rest each some =
    let n : ℕ = closing delimiters.Slash (concat pieces ++ 47 ∷ rest) 0 in
    let len : n ≡ suc (length (concat pieces)) = closing_is delimiters.Slash pieces rest each in
    let two : 2 ≤ n = omega (arith, len, some_bytes pieces each some) in
    let l : nat_lt n 2 ≡ false = le-ltb n 2 two in
    let left : drop n (concat pieces ++ 47 ∷ rest) ≡ rest = behind (concat pieces) rest 47 n len in
    let one : 1 + n ≡ suc (suc (length (concat pieces))) = omega (arith, len) in
    let more : 2 + n ≡ suc (suc (suc (length (concat pieces)))) = omega (arith, len) in
    let e : regex_len (47 ∷ (concat pieces ++ 47 ∷ rest)) ≡ cond (next is_i rest) (2 + n) (1 + n) = rw (l, left) refl in
    e ∙ (λ i. cond (next is_i rest) (more i) (one i))

regex_least : (v : Bool) (n : ℕ) → suc n ≤ cond v (suc (suc n)) (suc n)
regex_least true n = omega arith
regex_least false n = omega arith

pub regex_most : (text rest : List ℕ) → IsRegex text → length text ≤ regex_len (text ++ rest)
regex_most text rest r = subst (λ (t : List ℕ). length t ≤ regex_len (t ++ rest)) (sym r.is) (by r.flag r.flagged)
  where
    by : (flag : List ℕ) → (flag ≡ []) ⊎ (flag ≡ 105 ∷ []) → length (47 ∷ (concat r.pieces ++ 47 ∷ flag)) ≤ regex_len ((47 ∷ (concat r.pieces ++ 47 ∷ flag)) ++ rest)
    by flag (inl e) = subst (λ (f : List ℕ). length (47 ∷ (concat r.pieces ++ 47 ∷ f)) ≤ regex_len (47 ∷ ((concat r.pieces ++ 47 ∷ f) ++ rest))) (sym e)
        (let same : regex_len (47 ∷ ((concat r.pieces ++ 47 ∷ []) ++ rest)) ≡ regex_len (47 ∷ (concat r.pieces ++ 47 ∷ rest)) = ap (λ (t : List ℕ). regex_len (47 ∷ t)) (append_assoc (concat r.pieces) (47 ∷ []) rest) in
        omega (arith, same, regex_is r.pieces rest r.each r.some, regex_least (next is_i rest) (suc (length (concat r.pieces))), long_by_one (concat r.pieces) 47))
    by flag (inr e) = subst (λ (f : List ℕ). length (47 ∷ (concat r.pieces ++ 47 ∷ f)) ≤ regex_len (47 ∷ ((concat r.pieces ++ 47 ∷ f) ++ rest))) (sym e)
        (let same : regex_len (47 ∷ ((concat r.pieces ++ 47 ∷ 105 ∷ []) ++ rest)) ≡ regex_len (47 ∷ (concat r.pieces ++ 47 ∷ 105 ∷ rest)) = ap (λ (t : List ℕ). regex_len (47 ∷ t)) (append_assoc (concat r.pieces) (47 ∷ 105 ∷ []) rest) in
        omega (arith, same, regex_is r.pieces (105 ∷ rest) r.each r.some, long_by_two (concat r.pieces) 47 105))

-- no more bytes are a Regex where no i stands behind it
pub regex_exact : (text rest : List ℕ) → IsRegex text → next is_i rest ≡ false → regex_len (text ++ rest) ≡ length text
regex_exact text rest r none = subst (λ (t : List ℕ). regex_len (t ++ rest) ≡ length t) (sym r.is) (by r.flag r.flagged)
  where
    by : (flag : List ℕ) → (flag ≡ []) ⊎ (flag ≡ 105 ∷ []) → regex_len ((47 ∷ (concat r.pieces ++ 47 ∷ flag)) ++ rest) ≡ length (47 ∷ (concat r.pieces ++ 47 ∷ flag))
    by flag (inl e) = subst (λ (f : List ℕ). regex_len (47 ∷ ((concat r.pieces ++ 47 ∷ f) ++ rest)) ≡ length (47 ∷ (concat r.pieces ++ 47 ∷ f))) (sym e)
        (let n : ℕ = length (concat r.pieces) in
        let same : regex_len (47 ∷ ((concat r.pieces ++ 47 ∷ []) ++ rest)) ≡ regex_len (47 ∷ (concat r.pieces ++ 47 ∷ rest)) = ap (λ (t : List ℕ). regex_len (47 ∷ t)) (append_assoc (concat r.pieces) (47 ∷ []) rest) in
        let unflagged : cond (next is_i rest) (suc (suc (suc n))) (suc (suc n)) ≡ suc (suc n) = ap (λ (v : Bool). cond v (suc (suc (suc n))) (suc (suc n))) none in
        omega (arith, same, regex_is r.pieces rest r.each r.some, unflagged, long_by_one (concat r.pieces) 47))
    by flag (inr e) = subst (λ (f : List ℕ). regex_len (47 ∷ ((concat r.pieces ++ 47 ∷ f) ++ rest)) ≡ length (47 ∷ (concat r.pieces ++ 47 ∷ f))) (sym e)
        (let same : regex_len (47 ∷ ((concat r.pieces ++ 47 ∷ 105 ∷ []) ++ rest)) ≡ regex_len (47 ∷ (concat r.pieces ++ 47 ∷ 105 ∷ rest)) = ap (λ (t : List ℕ). regex_len (47 ∷ t)) (append_assoc (concat r.pieces) (47 ∷ 105 ∷ []) rest) in
        omega (arith, same, regex_is r.pieces (105 ∷ rest) r.each r.some, long_by_two (concat r.pieces) 47 105))
