-- What is read, is printed and is read again: the ways in which parts of a production go together.
use Rattle.std.proofs.Common.{◌≡◌, ℕ, suc, ◌<◌, Bool, true, false, List, [], ◌∷◌, ◌++◌, length, ap, refl, ◌∙◌, subst, arith}
use Rattle.std.specs.Prelude.{Option, Some, None, Ok, Err, IfOk, if◌then◌else◌}
use Rattle.std.specs.List.{AllByRecursion}
use Rattle.dg_text.specs.Cases.{Left, Reader, met, part, also_at, here}
use Rattle.dg_text.specs.Reading.{Read, and_then, skip, one_as, meant}
use Rattle.dg_text.specs.Tokens.{Tok}
use Rattle.dg_text.specs.Written.{Word, IsWord, word_said}
use Rattle.dg_print.proofs.Formed.{IsFormed, AreFormed}

-- ---- what is left, and tokens of words

-- tokens of which none was refused
abbrev pub at : List Tok → Left
at tokens = record { tokens = tokens; refused = 0 }

-- the token that a word is, at a place
abbrev pub tok_from : ℕ → Word → Tok
tok_from start w = record { kind = (word_said w).0; text = (word_said w).1; start = start }

-- words as tokens before others
abbrev pub on : (ℕ → ℕ) → List Word → List Tok → List Tok
on f [] rest = rest
on f (w ∷ ws) rest = tok_from (f 0) w ∷ on (λ n. f (suc n)) ws rest

-- the places behind words
abbrev pub behind : (ℕ → ℕ) → List Word → ℕ → ℕ
behind f [] = f
behind f (w ∷ ws) = behind (λ n. f (suc n)) ws

pub on_append : (f : ℕ → ℕ) (us vs : List Word) (rest : List Tok) → on f (us ++ vs) rest ≡ on f us (on (behind f us) vs rest)
on_append f [] vs rest = refl
on_append f (u ∷ us) vs rest = ap (λ l. tok_from (f 0) u ∷ l) (on_append (λ n. f (suc n)) us vs rest)

-- each is a word
abbrev pub AreWords : List Word → Type 0
AreWords ws = AllByRecursion IsWord ws

pub words_append : (us vs : List Word) → AreWords us → AreWords vs → AreWords (us ++ vs)
words_append [] vs a b = b
words_append (u ∷ us) vs a b = (a.0, words_append us vs a.1 b)

-- ---- what a reader says of what it reads

-- what follows from a part that was read, of formed tokens, with no place refused
pub record Good (left after : Left) (X : Type 0) : Type 0 where
  pub formed : AreFormed left.tokens → AreFormed after.tokens
  pub earlier : after.refused ≡ 0 → left.refused ≡ 0
  pub so : AreFormed left.tokens → after.refused ≡ 0 → X

-- the same of all that may be read
pub record Each {A : Type 0} (left : Left) (read : Read Left A) (X : A → Left → Type 0) : Type 0 where
  pub it : IfOk read (λ p. Good left p.1 (X p.0 p.1))

pub bind : {A B : Type 0} {left : Left} {read : Read Left A} {X : A → Left → Type 0} {Z : B → Left → Type 0} (more : A → Reader B)
    → Each left read X → ((x : A) (l : Left) → Each l (more x l) (λ y k. X x l → Z y k)) → Each left (and_then read more) Z
bind {left = left} {read = Ok p} {X = X} {Z = Z} more e f = record { it = by (more p.0 p.1) (f p.0 p.1).it }
  where
    by : (r : Read Left _) → IfOk r (λ q. Good p.1 q.1 (X p.0 p.1 → Z q.0 q.1)) → IfOk r (λ q. Good left q.1 (Z q.0 q.1))
    by (Ok q) g = record {
      formed = λ a. g.formed (e.it.formed a);
      earlier = λ z. e.it.earlier (g.earlier z);
      so = λ a z. g.so (e.it.formed a) z (e.it.so a (g.earlier z));
    }
    by (Err place) g = tt
bind {read = Err place} more e f = record { it = tt }

-- nothing more is read
pub gives : {A : Type 0} {Z : A → Left → Type 0} (x : A) (left : Left) → Z x left → Each left (Ok (x, left)) Z
gives x left z = record { it = record { formed = λ a. a; earlier = λ e. e; so = λ a e. z } }

-- the place of what comes next
pub at_here : (left : Left) → Each left (here left) (λ n l. n ≡ length l.tokens)
at_here left = gives (length left.tokens) left refl

-- what follows of more
pub weaker : {A : Type 0} {left : Left} {read : Read Left A} {X Z : A → Left → Type 0} → Each left read X → ((x : A) (l : Left) → X x l → Z x l) → Each left read Z
weaker {left = left} {read = Ok p} e f = record { it = record { formed = e.it.formed; earlier = e.it.earlier; so = λ a z. f p.0 p.1 (e.it.so a z) } }
weaker {read = Err place} e f = record { it = tt }

-- a case beside the grammar didn't hold
pub at_also : (place : ℕ) (test : Bool) (left : Left) → Each left (also_at place test left) (λ _ l. (0 < place → test ≡ false) × (l.tokens ≡ left.tokens))
at_also place true left = record {
  it = record {
    formed = λ a. a;
    earlier = λ e. omega (arith, e);
    so = λ a e. (λ lt. absurd (omega (arith, e, lt)), refl);
  };
}
at_also place false left = record { it = record { formed = λ a. a; earlier = λ e. e; so = λ a e. (λ lt. refl, refl) } }

-- a token was read that means this
pub record Took {A : Type 0} (meaning : Tok → Option A) (tokens : List Tok) (x : A) : Type 0 where
  pub token : Tok
  pub rest : List Tok
  pub first : tokens ≡ token ∷ rest
  pub means : meaning token ≡ Some x
  pub formed : IsFormed token

pub some_took : {A : Type 0} {meaning : Tok → Option A} {tokens : List Tok} {x : A} → Took meaning tokens x → 0 < length tokens
some_took t = omega (arith, ap length t.first)

pub at_one : {A : Type 0} (meaning : Tok → Option A) (left : Left) → Each left (part (one_as meaning) left) (λ x l. Took meaning left.tokens x)
at_one meaning left = by left.tokens refl
  where
    one : (t : Tok) (rest : List Tok) (o : Option _) → left.tokens ≡ t ∷ rest → meaning t ≡ o → Each left (met left.refused (meant o (t ∷ rest) rest)) (λ x l. Took meaning left.tokens x)
    one t rest None e m = record { it = tt }
    one t rest (Some x) e m = record {
      it = record {
        formed = λ a. (subst (λ (l : List Tok). AreFormed l) e a).1;
        earlier = λ z. z;
        so = λ a z. record { token = t; rest = rest; first = e; means = m; formed = (subst (λ (l : List Tok). AreFormed l) e a).0 };
      };
    }

    by : (tokens : List Tok) → left.tokens ≡ tokens → Each left (met left.refused (one_as meaning tokens)) (λ x l. Took meaning left.tokens x)
    by [] e = record { it = tt }
    by (t ∷ rest) e = one t rest (meaning t) e refl

-- a token was passed
pub record Passed (is : Tok → Bool) (tokens : List Tok) : Type 0 where
  pub token : Tok
  pub rest : List Tok
  pub first : tokens ≡ token ∷ rest
  pub means : is token ≡ true

pub some_passed : {is : Tok → Bool} {tokens : List Tok} → Passed is tokens → 0 < length tokens
some_passed t = omega (arith, ap length t.first)

pub at_skip : (is : Tok → Bool) (left : Left) → Each left (part (skip is) left) (λ _ l. Passed is left.tokens)
at_skip is left = by left.tokens refl
  where
    one : (t : Tok) (rest : List Tok) (b : Bool) → left.tokens ≡ t ∷ rest → is t ≡ b → Each left (met {A = Unit {0}} left.refused (if b then Ok (tt, rest) else Err (length (t ∷ rest)))) (λ _ l. Passed is left.tokens)
    one t rest false e m = record { it = tt }
    one t rest true e m = record {
      it = record {
        formed = λ a. (subst (λ (l : List Tok). AreFormed l) e a).1;
        earlier = λ z. z;
        so = λ a z. record { token = t; rest = rest; first = e; means = m };
      };
    }

    by : (tokens : List Tok) → left.tokens ≡ tokens → Each left (met left.refused (skip is tokens)) (λ _ l. Passed is left.tokens)
    by [] e = record { it = tt }
    by (t ∷ rest) e = one t rest (is t) e refl

-- a | b
pub either : {A : Type 0} {left : Left} {X : A → Left → Type 0} (test : Bool) {a b : Read Left A} → (test ≡ true → Each left a X) → (test ≡ false → Each left b X) → Each left (if test then a else b) X
either true a b = a refl
either false a b = b refl

-- ---- what is printed is read again

-- nothing that comes next is in the way
abbrev pub never : List Tok → Bool
never tokens = false

-- A reader reads this from these words, where what follows doesn't bar it.
pub record Reads {A : Type 0} (r : Reader A) (x : A) (ws : List Word) (bars : List Tok → Bool) : Type 0 where
  pub words : AreWords ws
  pub again : (f : ℕ → ℕ) (rest : List Tok) → bars rest ≡ false → r (at (on f ws rest)) ≡ Ok (x, at rest)

-- one part, and then what follows
pub then_reads : {A B : Type 0} {r : Reader A} {x : A} {us : List Word} {bars : List Tok → Bool} {y : B} {vs : List Word} {ends : List Tok → Bool} (more : A → Reader B)
    → Reads r x us bars → Reads (more x) y vs ends → ((f : ℕ → ℕ) (rest : List Tok) → ends rest ≡ false → bars (on f vs rest) ≡ false) → Reads (λ l. and_then (r l) more) y (us ++ vs) ends
then_reads {r = r} {us = us} {vs = vs} more a b follows = record {
  words = words_append us vs a.words b.words;
  again = λ f rest e.
      let g : ℕ → ℕ = behind f us in
      ap (λ t. and_then (r (at t)) more) (on_append f us vs rest)
      ∙ ap (λ q. and_then q more) (a.again f (on g vs rest) (follows g rest e))
      ∙ b.again g rest e;
}

-- the last part, and what is made of it
pub last_reads : {A B : Type 0} {r : Reader A} {x : A} {us : List Word} {bars : List Tok → Bool} (y : B) (more : A → Reader B)
    → Reads r x us bars → ((l : Left) → more x l ≡ Ok (y, l)) → Reads (λ l. and_then (r l) more) y us bars
last_reads y more a e = record {
  words = a.words;
  again = λ f rest b. ap (λ q. and_then q more) (a.again f rest b) ∙ e (at rest);
}

-- one token that is passed
pub skip_reads : (is : Tok → Bool) (w : Word) → IsWord w → ((start : ℕ) → is (tok_from start w) ≡ true) → Reads (part (skip is)) tt (w ∷ []) never
skip_reads is w word e = record {
  words = (word, tt);
  again = λ f rest b. rw (e (f 0)) refl;
}

-- one token that means something
pub one_reads : {A : Type 0} (meaning : Tok → Option A) (w : Word) (x : A) → IsWord w → ((start : ℕ) → meaning (tok_from start w) ≡ Some x) → Reads (part (one_as meaning)) x (w ∷ []) never
one_reads meaning w x word e = record {
  words = (word, tt);
  again = λ f rest b. rw (e (f 0)) refl;
}

-- a reader that takes no token, and then what follows
pub passes : {B : Type 0} {y : B} {ws : List Word} {ends : List Tok → Bool} (r : Reader (Unit {0})) (more : Unit {0} → Reader B)
    → Reads (more tt) y ws ends → ((f : ℕ → ℕ) (rest : List Tok) → ends rest ≡ false → r (at (on f ws rest)) ≡ Ok (tt, at (on f ws rest))) → Reads (λ l. and_then (r l) more) y ws ends
passes r more a e = record {
  words = a.words;
  again = λ f rest b. ap (λ q. and_then q more) (e f rest b) ∙ a.again f rest b;
}

-- the same reader by another name
pub as_reader : {A : Type 0} {r : Reader A} {x : A} {ws : List Word} {bars : List Tok → Bool} (s : Reader A) → Reads r x ws bars
    → ((f : ℕ → ℕ) (rest : List Tok) → bars rest ≡ false → s (at (on f ws rest)) ≡ r (at (on f ws rest))) → Reads s x ws bars
as_reader s a e = record { words = a.words; again = λ f rest b. e f rest b ∙ a.again f rest b }

-- what nothing bars, nothing bars
pub unbarred : {A : Type 0} {r : Reader A} {x : A} {ws : List Word} {bars : List Tok → Bool} → Reads r x ws never → Reads r x ws bars
unbarred a = record { words = a.words; again = λ f rest e. a.again f rest refl }
