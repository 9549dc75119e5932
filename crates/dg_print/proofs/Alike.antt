-- Readers that give the same where there is room for so many brackets, and filters and conditions of two depths.
use Rattle.std.proofs.Common.{◌≡◌, ℕ, zero, suc, ◌<◌, Bool, true, false, List, [], ◌∷◌, length, Ok, Err, refl, ap, ◌∙◌, arith}
use Rattle.std.specs.Prelude.{codes, if◌then◌else◌}
use Rattle.dg_text.specs.Cases.{Left, Reader, choose, optional, repeated}
use Rattle.dg_text.specs.Reading.{Read, and_then, next, turns, ◌>>=◌}
use Rattle.dg_text.specs.Tokens.{Tok, is_punct, is_word_any_case}
use Rattle.dg_parse.specs.declared.query.QFilter.{QFilter}
use Rattle.dg_parse.specs.declared.upsert.UCond.{UCond}
use Rattle.dg_parse.specs.Conditions as conditions
use Rattle.dg_parse.specs.Filters.{bracketed, atom, not_of, and_more, and_rest, and_of, or_more, or_rest, or_of, filter}
use Rattle.dg_print.proofs.Room.{Fits, Less, IfRead, Opens}
use Rattle.dg_print.proofs.Even.{Even, kept, open_round, any_case_even, many}
use Rattle.dg_print.proofs.EvenBlocks.{nots_even, atom_even, not_even, and_more_even, and_even, or_more_even, filter_even, catom_even, cnot_even, cand_more_even, cand_even, cor_more_even, condition_even}

-- both give the same of what is left with room for so many brackets
abbrev pub Same : {A : Type 0} → ℕ → Reader A → Reader A → Type 0
Same r reader other = (left : Left) → Fits r left.tokens → reader left ≡ other left

later : {A B : Type 0} (P : Left → Type 0) (read : Read Left A) (more more2 : A → Reader B) → IfRead P read → ((x : A) (left : Left) → P left → more x left ≡ more2 x left) → and_then read more ≡ and_then read more2
later P (Ok x) more more2 p h = h x.0 x.1 p
later P (Err place) more more2 p h = refl

by_test : {A : Type 0} (test : Bool) (a a2 b b2 : A) → a ≡ a2 → b ≡ b2 → (if test then a else b) ≡ (if test then a2 else b2)
by_test true a a2 b b2 h k = h
by_test false a a2 b b2 h k = k

module _ {A B : Type 0} (r : ℕ) (reader : Reader A) (more more2 : A → Reader B) where
  -- what follows a part
  pub follows : Even reader → ((x : A) → Same r (more x) (more2 x)) → Same r (reader >>= more) (reader >>= more2)
  follows even h left f = later (λ l. Fits r l.tokens) (reader left) more more2 (even r left f) (λ x l g. h x l g)

  -- what follows a bracket that opens
  pub within : Opens kept reader → ((less : ℕ) → r ≡ suc less → (x : A) → Same less (more x) (more2 x)) → Same r (reader >>= more) (reader >>= more2)
  within opens h left f = later (λ l. Less r l.tokens) (reader left) more more2 (opens r left f) (λ x l g. h g.0 g.1 x l g.2)

-- two parts, and what follows them
pub both : {A B : Type 0} (r : ℕ) (reader other : Reader A) (more more2 : A → Reader B) → Same r reader other → Even reader → ((x : A) → Same r (more x) (more2 x)) → Same r (reader >>= more) (other >>= more2)
both r reader other more more2 same even h left f = follows r reader more more2 even h left f ∙ ap (λ read. and_then read more2) (same left f)

pub choices : {A : Type 0} (r : ℕ) (begins : List Tok → Bool) (a a2 b b2 : Reader A) → Same r a a2 → Same r b b2 → Same r (choose begins a b) (choose begins a2 b2)
choices r begins a a2 b b2 h k left f = by_test (begins left.tokens) (a left) (a2 left) (b left) (b2 left) (h left f) (k left f)

pub options : {A : Type 0} (r : ℕ) (begins : List Tok → Bool) (a a2 : Reader A) (absent : A) → Same r a a2 → Same r (optional begins a absent) (optional begins a2 absent)
options r begins a a2 absent h left f = by_test (begins left.tokens) (a left) (a2 left) (Ok (absent, left)) (Ok (absent, left)) (h left f) refl

module _ {A : Type 0} (r : ℕ) (part part2 : A → Reader A) (even : (x : A) → Even (part x)) (same : (x : A) → Same r (part x) (part2 x)) where
  in_turns : (begins : Left → Bool) (n : ℕ) (before : A) → Same r (turns n begins part before) (turns n begins part2 before)
  unfolding turns
  in_turns begins zero before left f = refl
  in_turns begins (suc n) before left f =
      by_test (begins left) (and_then (part before left) (turns n begins part)) (and_then (part2 before left) (turns n begins part2)) (Ok (before, left)) (Ok (before, left))
      (later (λ l. Fits r l.tokens) (part before left) (turns n begins part) (turns n begins part2) (even before r left f) (λ x l g. in_turns begins n x l g)
      ∙ ap (λ read. and_then read (turns n begins part2)) (same before left f))
      refl

  pub repetitions : (begins : List Tok → Bool) (before : A) → Same r (repeated begins part before) (repeated begins part2 before)
  repetitions begins before left f = in_turns (λ l. begins l.tokens) (length left.tokens) before left f

-- ---- filters

module _ (inner inner2 : Reader QFilter) (even : Even inner) (r : ℕ) (same : (less : ℕ) → r ≡ suc less → Same less inner inner2) where
  bracketed_same : Same r (bracketed inner) (bracketed inner2)
  unfolding bracketed
  bracketed_same = within r _ _ _ open_round (λ less e _. both less inner inner2 _ _ (same less e) even (λ _ _ _. refl))

  atom_same : Same r (atom inner) (atom inner2)
  unfolding atom
  atom_same = choices r (next (is_punct 40)) _ _ _ _ bracketed_same (λ _ _. refl)

  not_same : Same r (not_of inner) (not_of inner2)
  unfolding not_of
  not_same = follows r _ _ _ nots_even (λ _. both r (atom inner) (atom inner2) _ _ atom_same (atom_even inner even) (λ _ _ _. refl))

  and_more_same : (before : List QFilter) → Same r (and_more inner before) (and_more inner2 before)
  unfolding and_more
  and_more_same before = follows r _ _ _ (any_case_even (codes "and")) (λ _. both r (not_of inner) (not_of inner2) _ _ not_same (not_even inner even) (λ _ _ _. refl))

  and_rest_same : (first : QFilter) → Same r (and_rest inner first) (and_rest inner2 first)
  unfolding and_rest
  and_rest_same first =
      both r (repeated (next (is_word_any_case (codes "and"))) (and_more inner) (first ∷ [])) (repeated (next (is_word_any_case (codes "and"))) (and_more inner2) (first ∷ [])) _ _
      (repetitions r (and_more inner) (and_more inner2) (and_more_even inner even) and_more_same (next (is_word_any_case (codes "and"))) (first ∷ []))
      (many (next (is_word_any_case (codes "and"))) (and_more inner) (and_more_even inner even) (first ∷ [])) (λ _ _ _. refl)

  and_same : Same r (and_of inner) (and_of inner2)
  unfolding and_of
  and_same = both r (not_of inner) (not_of inner2) _ _ not_same (not_even inner even) (λ first. choices r (next (is_word_any_case (codes "and"))) _ _ _ _ (and_rest_same first) (λ _ _. refl))

  or_more_same : (before : List QFilter) → Same r (or_more inner before) (or_more inner2 before)
  unfolding or_more
  or_more_same before = follows r _ _ _ (any_case_even (codes "or")) (λ _. both r (and_of inner) (and_of inner2) _ _ and_same (and_even inner even) (λ _ _ _. refl))

  or_rest_same : (first : QFilter) → Same r (or_rest inner first) (or_rest inner2 first)
  unfolding or_rest
  or_rest_same first =
      both r (repeated (next (is_word_any_case (codes "or"))) (or_more inner) (first ∷ [])) (repeated (next (is_word_any_case (codes "or"))) (or_more inner2) (first ∷ [])) _ _
      (repetitions r (or_more inner) (or_more inner2) (or_more_even inner even) or_more_same (next (is_word_any_case (codes "or"))) (first ∷ []))
      (many (next (is_word_any_case (codes "or"))) (or_more inner) (or_more_even inner even) (first ∷ [])) (λ _ _ _. refl)

  or_same : Same r (or_of inner) (or_of inner2)
  unfolding or_of
  or_same = both r (and_of inner) (and_of inner2) _ _ and_same (and_even inner even) (λ first. choices r (next (is_word_any_case (codes "or"))) _ _ _ _ (or_rest_same first) (λ _ _. refl))

-- filters of two depths that are above the room
pub filters : (n m r : ℕ) → r < n → r < m → Same r (filter n) (filter m)
unfolding filter
filters zero m r lt lt2 = absurd (omega (arith, lt))
filters (suc n) zero r lt lt2 = absurd (omega (arith, lt2))
filters (suc n) (suc m) r lt lt2 = or_same (filter n) (filter m) (filter_even n) r (λ less e. filters n m less (omega (arith, e, lt)) (omega (arith, e, lt2)))

-- ---- conditions

module _ (inner inner2 : Reader UCond) (even : Even inner) (r : ℕ) (same : (less : ℕ) → r ≡ suc less → Same less inner inner2) where
  cbracketed_same : Same r (conditions.bracketed inner) (conditions.bracketed inner2)
  unfolding conditions.bracketed
  cbracketed_same = within r _ _ _ open_round (λ less e _. both less inner inner2 _ _ (same less e) even (λ _ _ _. refl))

  catom_same : Same r (conditions.atom inner) (conditions.atom inner2)
  unfolding conditions.atom
  catom_same = choices r (next (is_punct 40)) _ _ _ _ cbracketed_same (λ _ _. refl)

  cnot_same : Same r (conditions.not_of inner) (conditions.not_of inner2)
  unfolding conditions.not_of
  cnot_same = follows r _ _ _ nots_even (λ _. both r (conditions.atom inner) (conditions.atom inner2) _ _ catom_same (catom_even inner even) (λ _ _ _. refl))

  cand_more_same : (before : List UCond) → Same r (conditions.and_more inner before) (conditions.and_more inner2 before)
  unfolding conditions.and_more
  cand_more_same before = follows r _ _ _ (any_case_even (codes "and")) (λ _. both r (conditions.not_of inner) (conditions.not_of inner2) _ _ cnot_same (cnot_even inner even) (λ _ _ _. refl))

  cand_rest_same : (first : UCond) → Same r (conditions.and_rest inner first) (conditions.and_rest inner2 first)
  unfolding conditions.and_rest
  cand_rest_same first =
      both r (repeated (next (is_word_any_case (codes "and"))) (conditions.and_more inner) (first ∷ [])) (repeated (next (is_word_any_case (codes "and"))) (conditions.and_more inner2) (first ∷ [])) _ _
      (repetitions r (conditions.and_more inner) (conditions.and_more inner2) (cand_more_even inner even) cand_more_same (next (is_word_any_case (codes "and"))) (first ∷ []))
      (many (next (is_word_any_case (codes "and"))) (conditions.and_more inner) (cand_more_even inner even) (first ∷ [])) (λ _ _ _. refl)

  cand_same : Same r (conditions.and_of inner) (conditions.and_of inner2)
  unfolding conditions.and_of
  cand_same = both r (conditions.not_of inner) (conditions.not_of inner2) _ _ cnot_same (cnot_even inner even) (λ first. choices r (next (is_word_any_case (codes "and"))) _ _ _ _ (cand_rest_same first) (λ _ _. refl))

  cor_more_same : (before : List UCond) → Same r (conditions.or_more inner before) (conditions.or_more inner2 before)
  unfolding conditions.or_more
  cor_more_same before = follows r _ _ _ (any_case_even (codes "or")) (λ _. both r (conditions.and_of inner) (conditions.and_of inner2) _ _ cand_same (cand_even inner even) (λ _ _ _. refl))

  cor_rest_same : (first : UCond) → Same r (conditions.or_rest inner first) (conditions.or_rest inner2 first)
  unfolding conditions.or_rest
  cor_rest_same first =
      both r (repeated (next (is_word_any_case (codes "or"))) (conditions.or_more inner) (first ∷ [])) (repeated (next (is_word_any_case (codes "or"))) (conditions.or_more inner2) (first ∷ [])) _ _
      (repetitions r (conditions.or_more inner) (conditions.or_more inner2) (cor_more_even inner even) cor_more_same (next (is_word_any_case (codes "or"))) (first ∷ []))
      (many (next (is_word_any_case (codes "or"))) (conditions.or_more inner) (cor_more_even inner even) (first ∷ [])) (λ _ _ _. refl)

  cor_same : Same r (conditions.or_of inner) (conditions.or_of inner2)
  unfolding conditions.or_of
  cor_same = both r (conditions.and_of inner) (conditions.and_of inner2) _ _ cand_same (cand_even inner even) (λ first. choices r (next (is_word_any_case (codes "or"))) _ _ _ _ (cor_rest_same first) (λ _ _. refl))

-- conditions of two depths that are above the room
pub all_conditions : (n m r : ℕ) → r < n → r < m → Same r (conditions.condition n) (conditions.condition m)
unfolding conditions.condition
all_conditions zero m r lt lt2 = absurd (omega (arith, lt))
all_conditions (suc n) zero r lt lt2 = absurd (omega (arith, lt2))
all_conditions (suc n) (suc m) r lt lt2 = cor_same (conditions.condition n) (conditions.condition m) (condition_even n) r (λ less e. all_conditions n m less (omega (arith, e, lt)) (omega (arith, e, lt2)))
