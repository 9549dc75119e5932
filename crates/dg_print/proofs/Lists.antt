-- What is read again and again, is printed and is read again.
use Rattle.std.proofs.Common.{◌≡◌, ℕ, zero, suc, ◌<◌, ◌≤◌, ◌+◌, Bool, true, false, ◌||◌, List, [], ◌∷◌, ◌++◌, length, flat_map, ap, refl, sym, ◌∙◌, subst, append_assoc, append-nil, arith, length-append}
use Rattle.std.specs.Prelude.{Ok, if◌then◌else◌}
use Rattle.std.specs.List.{AllByRecursion}
use Rattle.std.proofs.lemmas.Bool.{false≢true}
use Rattle.dg_text.specs.Cases.{Left, Reader, upon, repeated}
use Rattle.dg_text.specs.Reading.{and_then, turns}
use Rattle.dg_text.specs.Tokens.{Tok}
use Rattle.dg_text.specs.Written.{Word}
use Rattle.dg_print.proofs.Again.{Each, Reads, AreWords, bind, gives, weaker, either, words_append, at, on, behind, on_append}

-- one more was read, of which this holds
pub record Added {E : Type 0} (Item : List E → E → Type 0) (before all : List E) : Type 0 where
  pub item : E
  pub is : all ≡ before ++ item ∷ []
  pub good : Item before item

-- of each this holds, with those before it
abbrev pub Items : {E : Type 0} → (List E → E → Type 0) → List E → List E → Type 0
Items Item before [] = Unit {0}
Items Item before (x ∷ xs) = Item before x × Items Item (before ++ x ∷ []) xs

-- more were read
pub record AddedAll {E : Type 0} (Item : List E → E → Type 0) (before all : List E) : Type 0 where
  pub items : List E
  pub is : all ≡ before ++ items
  pub good : Items Item before items

added_more : {E : Type 0} (Item : List E → E → Type 0) (before mid all : List E) → Added Item before mid → AddedAll Item mid all → AddedAll Item before all
added_more Item before mid all a m = record {
  items = a.item ∷ m.items;
  is = m.is ∙ ap (λ l. l ++ m.items) a.is ∙ append_assoc before (a.item ∷ []) m.items;
  good = (a.good, subst (λ (l : List _). Items Item l m.items) a.is m.good);
}

pub at_turns : {E : Type 0} (begins : List Tok → Bool) (reader : List E → Reader (List E)) (Item : List E → E → Type 0)
    → ((before : List E) (l : Left) → Each l (reader before l) (λ all k. Added Item before all))
    → (n : ℕ) (before : List E) (left : Left) → Each left (turns n (upon begins) reader before left) (λ all k. AddedAll Item before all)
unfolding turns
at_turns begins reader Item one zero before left = gives before left (record { items = []; is = sym (append-nil before); good = tt })
at_turns begins reader Item one (suc n) before left =
    either (begins left.tokens)
    (λ b. bind (turns n (upon begins) reader) (one before left) (λ mid k. weaker (at_turns begins reader Item one n mid k) (λ all l more added. added_more Item before mid all added more)))
    (λ b. gives before left (record { items = []; is = sym (append-nil before); good = tt }))

pub at_repeated : {E : Type 0} (begins : List Tok → Bool) (reader : List E → Reader (List E)) (Item : List E → E → Type 0)
    → ((before : List E) (l : Left) → Each l (reader before l) (λ all k. Added Item before all))
    → (before : List E) (left : Left) → Each left (repeated begins reader before left) (λ all k. AddedAll Item before all)
at_repeated begins reader Item one before left = at_turns begins reader Item one (length left.tokens) before left

-- each item is read again, where what follows doesn't bar it, and it begins where one can
pub record Repeats {E : Type 0} (begins : List Tok → Bool) (reader : List E → Reader (List E)) (Item : List E → E → Type 0) (words_of : E → List Word) (bars : List Tok → Bool) : Type 0 where
  pub reads : (before : List E) (x : E) → Item before x → Reads (reader before) (before ++ x ∷ []) (words_of x) bars
  pub begun : (before : List E) (x : E) → Item before x → (f : ℕ → ℕ) (rest : List Tok) → begins (on f (words_of x) rest) ≡ true
  pub clear : (before : List E) (x : E) → Item before x → (f : ℕ → ℕ) (rest : List Tok) → bars (on f (words_of x) rest) ≡ false
  pub some : (before : List E) (x : E) → Item before x → 0 < length (words_of x)

pub or_first : (a b : Bool) → (a || b) ≡ false → a ≡ false
or_first false b e = refl
or_first true b e = e

pub or_second : (a b : Bool) → (a || b) ≡ false → b ≡ false
or_second false b e = e
or_second true b e = absurd (false≢true (sym e))

pub on_length : (f : ℕ → ℕ) (ws : List Word) (rest : List Tok) → length (on f ws rest) ≡ length ws + length rest
on_length f [] rest = omega arith
on_length f (w ∷ ws) rest = omega (arith, on_length (λ n. f (suc n)) ws rest)

module _ {E : Type 0} (begins : List Tok → Bool) (reader : List E → Reader (List E)) (Item : List E → E → Type 0) (words_of : E → List Word) (bars : List Tok → Bool) (r : Repeats begins reader Item words_of bars) where
  all_words : (before xs : List E) → Items Item before xs → AreWords (flat_map words_of xs)
  all_words before [] i = tt
  all_words before (x ∷ xs) i = words_append (words_of x) (flat_map words_of xs) (r.reads before x i.0).words (all_words (before ++ x ∷ []) xs i.1)

  no_fewer : (before xs : List E) → Items Item before xs → length xs ≤ length (flat_map words_of xs)
  no_fewer before [] i = omega arith
  no_fewer before (x ∷ xs) i = omega (arith, no_fewer (before ++ x ∷ []) xs i.1, r.some before x i.0, length-append (words_of x) (flat_map words_of xs))

  still_clear : (before xs : List E) → Items Item before xs → (f : ℕ → ℕ) (rest : List Tok) → bars rest ≡ false → bars (on f (flat_map words_of xs) rest) ≡ false
  still_clear before [] i f rest e = e
  still_clear before (x ∷ xs) i f rest e = ap bars (on_append f (words_of x) (flat_map words_of xs) rest) ∙ r.clear before x i.0 f (on (behind f (words_of x)) (flat_map words_of xs) rest)

  turns_again : (n : ℕ) (before xs : List E) (f : ℕ → ℕ) (rest : List Tok) → Items Item before xs → length xs ≤ n → begins rest ≡ false → bars rest ≡ false
      → turns n (upon begins) reader before (at (on f (flat_map words_of xs) rest)) ≡ Ok (before ++ xs, at rest)
  unfolding turns
  turns_again zero before [] f rest i le b c = ap (λ l. Ok (l, at rest)) (sym (append-nil before))
  turns_again zero before (x ∷ xs) f rest i le b c = absurd (omega (arith, le))
  turns_again (suc n) before [] f rest i le b c = rw b (ap (λ l. Ok (l, at rest)) (sym (append-nil before)))
  turns_again (suc n) before (x ∷ xs) f rest i le b c =
      let g : ℕ → ℕ = behind f (words_of x) in
      let mid : List Tok = on g (flat_map words_of xs) rest in
      let part : reader before (at (on f (words_of x) mid)) ≡ Ok (before ++ x ∷ [], at mid) = (r.reads before x i.0).again f mid (still_clear (before ++ x ∷ []) xs i.1 g rest c) in
      let begun : begins (on f (words_of x) mid) ≡ true = r.begun before x i.0 f mid in
      ap (λ l. turns (suc n) (upon begins) reader before (at l)) (on_append f (words_of x) (flat_map words_of xs) rest)
      ∙ ap (λ t. if t then and_then (reader before (at (on f (words_of x) mid))) (turns n (upon begins) reader) else Ok (before, at (on f (words_of x) mid))) begun
      ∙ ap (λ q. and_then q (turns n (upon begins) reader)) part
      ∙ turns_again n (before ++ x ∷ []) xs g rest i.1 (omega (arith, le)) b c
      ∙ ap (λ l. Ok (l, at rest)) (append_assoc before (x ∷ []) xs)

  pub repeated_reads : (before xs : List E) → Items Item before xs → Reads (repeated begins reader before) (before ++ xs) (flat_map words_of xs) (λ l. begins l || bars l)
  repeated_reads before xs i = record {
    words = all_words before xs i;
    again = λ f rest e.
        turns_again (length (on f (flat_map words_of xs) rest)) before xs f rest i (omega (arith, on_length f (flat_map words_of xs) rest, no_fewer before xs i))
        (or_first (begins rest) (bars rest) e) (or_second (begins rest) (bars rest) e);
  }

-- one or more were read
pub record AddedSome {E : Type 0} (Item : List E → E → Type 0) (before all : List E) : Type 0 where
  pub item : E
  pub more : List E
  pub is : all ≡ before ++ item ∷ more
  pub good : Items Item before (item ∷ more)

added_some : {E : Type 0} (Item : List E → E → Type 0) (before mid all : List E) → Added Item before mid → AddedAll Item mid all → AddedSome Item before all
added_some Item before mid all a m = record {
  item = a.item;
  more = m.items;
  is = m.is ∙ ap (λ l. l ++ m.items) a.is ∙ append_assoc before (a.item ∷ []) m.items;
  good = (a.good, subst (λ (l : List _). Items Item l m.items) a.is m.good);
}

-- where one begins
pub at_repeated_some : {E : Type 0} (begins : List Tok → Bool) (reader : List E → Reader (List E)) (Item : List E → E → Type 0)
    → ((before : List E) (l : Left) → Each l (reader before l) (λ all k. Added Item before all))
    → begins [] ≡ false → (before : List E) (left : Left) → begins left.tokens ≡ true → Each left (repeated begins reader before left) (λ all k. AddedSome Item before all)
unfolding turns
at_repeated_some {E = E} begins reader Item one none before left b = by left.tokens refl
  where
    by : (tokens : List Tok) → left.tokens ≡ tokens → Each left (turns (length tokens) (upon begins) reader before left) (λ all k. AddedSome Item before all)
    by [] e = absurd (false≢true (sym none ∙ ap begins (sym e) ∙ b))
    by (t ∷ rest) e = rw b (bind (turns (length rest) (upon begins) reader) (one before left)
        (λ mid k. weaker (at_turns begins reader Item one (length rest) mid k) (λ all l more added. added_some Item before mid all added more)))

-- what is read again and again leaves formed tokens
pub at_any_turns : {A : Type 0} (begins : List Tok → Bool) (reader : A → Reader A) → ((before : A) (l : Left) → Each l (reader before l) (λ _ _. Unit {0}))
    → (n : ℕ) (before : A) (left : Left) → Each left (turns n (upon begins) reader before left) (λ _ _. Unit {0})
unfolding turns
at_any_turns begins reader one zero before left = gives before left tt
at_any_turns begins reader one (suc n) before left =
    either (begins left.tokens)
    (λ b. bind (turns n (upon begins) reader) (one before left) (λ mid k. weaker (at_any_turns begins reader one n mid k) (λ all l _ _. tt)))
    (λ b. gives before left tt)

-- what holds of each by itself
pub all_of : {E : Type 0} (P : E → Type 0) (before xs : List E) → Items (λ _ x. P x) before xs → AllByRecursion P xs
all_of P before [] i = tt
all_of P before (x ∷ xs) i = (i.0, all_of P (before ++ x ∷ []) xs i.1)

pub items_of : {E : Type 0} (P : E → Type 0) (before xs : List E) → AllByRecursion P xs → Items (λ _ x. P x) before xs
items_of P before [] a = tt
items_of P before (x ∷ xs) a = (a.0, items_of P (before ++ x ∷ []) xs a.1)
