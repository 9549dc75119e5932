-- How many brackets stand open: what is read keeps count, and what is printed opens no more.
use Rattle.std.proofs.Common.{◌≡◌, ℕ, zero, suc, ◌≤◌, ◌+◌, ◌-◌, Bool, true, false, List, [], ◌∷◌, ◌++◌, length, ap, refl, sym, ◌∙◌, subst, append_assoc, append-nil, arith}
use Rattle.std.specs.Prelude.{Option, Some, None, Ok, Err, IfOk, nat_lt, if◌then◌else◌}
use Rattle.std.proofs.lemmas.Bool.{false≢true}
use Rattle.std.proofs.lemmas.Bool.Decides.{nat_tests}
use Rattle.dg_text.specs.Brackets.{opens, closes, counted, deep_from}
use Rattle.dg_text.specs.Cases.{Left, Reader, met, part, mark, also_at, here, upon, repeated}
use Rattle.dg_text.specs.Reading.{Read, and_then, turns, skip, one_as, meant}
use Rattle.dg_text.specs.Spelling.{mark_word}
use Rattle.dg_text.specs.Tokens.{Tok, is_punct}
use Rattle.dg_text.specs.Written.{Word}
use Rattle.dg_text.specs.declared.token.TokenKind.{TokenKind}
use Rattle.dg_text.specs.declared.token.TokenKind.TheVariants as kinds
use Rattle.dg_print.proofs.Again.{on, tok_from, behind, on_append}
use Rattle.dg_print.proofs.Lists.{Added, AddedAll, Items}

-- ---- words that open no more than there may be

-- a token that is no bracket
abbrev pub IsFlatTok : Tok → Type 0
IsFlatTok t = (opens t ≡ false) × (closes t ≡ false)

-- the same of a word
abbrev pub IsFlat : Word → Type 0
IsFlat w = (start : ℕ) → IsFlatTok (tok_from start w)

-- an opening bracket
abbrev pub Opens : Word → Type 0
Opens w = (start : ℕ) → (opens (tok_from start w) ≡ true) × (closes (tok_from start w) ≡ false)

-- a closing bracket
abbrev pub Closes : Word → Type 0
Closes w = (start : ℕ) → (opens (tok_from start w) ≡ false) × (closes (tok_from start w) ≡ true)

-- words that close what they open, where so many stand open before them: with theirs there are at most 32
pub data Low : ℕ → List Word → Type 0 where
  Nothing : (n : ℕ) → Low n []
  Flat : (n : ℕ) (w : Word) (ws : List Word) → IsFlat w → Low n ws → Low n (w ∷ ws)
  Pair : (n : ℕ) (a b : Word) (us vs : List Word) → suc n ≤ 32 → Opens a → Closes b → Low (suc n) us → Low n vs → Low n (a ∷ (us ++ b ∷ vs))

pub low_append : (n : ℕ) (us vs : List Word) → Low n us → Low n vs → Low n (us ++ vs)
low_append n us vs (Nothing m) v = v
low_append n us vs (Flat m w ws f u) v = Flat n w (ws ++ vs) f (low_append n ws vs u v)
low_append n us vs (Pair m a b xs ys le o c x y) v =
    subst (λ (ws : List Word). Low n (a ∷ ws)) (sym (append_assoc xs (b ∷ ys) vs)) (Pair n a b xs (ys ++ vs) le o c x (low_append n ys vs y v))

pub low_down : (n : ℕ) (ws : List Word) → Low (suc n) ws → Low n ws
low_down n ws (Nothing m) = Nothing n
low_down n ws (Flat m w vs f l) = Flat n w vs f (low_down n vs l)
low_down n ws (Pair m a b us vs le o c x y) = Pair n a b us vs (omega (arith, le)) o c (low_down (suc n) us x) (low_down n vs y)

pub low_round : (n : ℕ) (a b : ℕ) (ws : List Word) → suc n ≤ 32 → Opens (mark_word a) → Closes (mark_word b) → Low (suc n) ws → Low n (mark_word a ∷ (ws ++ mark_word b ∷ []))
low_round n a b ws le o c l = Pair n (mark_word a) (mark_word b) ws [] le o c l (Nothing n)

-- ---- counting

step : (o c o2 c2 : ℕ) (t : Tok) (rest : List Tok) → counted (opens t) o ≡ o2 → counted (closes t) c ≡ c2 → o2 - c2 ≤ 32 → deep_from 32 o2 c2 rest ≡ None → deep_from 32 o c (t ∷ rest) ≡ None
unfolding deep_from
step o c o2 c2 t rest e1 e2 le h =
    let few : nat_lt 32 (o2 - c2) ≡ false = grind (arith, nat_tests) in
    rw (e1, e2, few) h

-- a token that is counted, and the rest
record Behind (o2 c2 : ℕ) (rest : List Tok) : Type 0 where
  pub few : o2 - c2 ≤ 32
  pub more : deep_from 32 o2 c2 rest ≡ None

back : (o c o2 c2 : ℕ) (t : Tok) (rest : List Tok) → counted (opens t) o ≡ o2 → counted (closes t) c ≡ c2 → deep_from 32 o c (t ∷ rest) ≡ None → Behind o2 c2 rest
unfolding deep_from
back o c o2 c2 t rest e1 e2 h = by (nat_lt 32 (o2 - c2)) refl (rw (e1, e2) at h)
  where
    by : (b : Bool) → nat_lt 32 (o2 - c2) ≡ b → (if b then Some (length (t ∷ rest)) else deep_from 32 o2 c2 rest) ≡ None → Behind o2 c2 rest
    by true e h = absurd (cc)
    by false e h = record { few = grind (arith, nat_tests); more = h }

count_same : (b : Bool) (n : ℕ) → b ≡ false → counted b n ≡ n
count_same b n e = rw e refl

count_more : (b : Bool) (n : ℕ) → b ≡ true → counted b n ≡ n + 1
count_more b n e = rw e refl

-- words that open no more before tokens that don't
pub low_means : (n : ℕ) (ws : List Word) → Low n ws → n ≤ 32 → (f : ℕ → ℕ) (rest : List Tok) → ((c : ℕ) → deep_from 32 (c + n) c rest ≡ None) → (c : ℕ) → deep_from 32 (c + n) c (on f ws rest) ≡ None
low_means n ws (Nothing m) le f rest h c = h c
low_means n ws (Flat m w vs flat l) le f rest h c =
    let t : Tok = tok_from (f 0) w in
    step (c + n) c (c + n) c t (on (λ k. f (suc k)) vs rest) (count_same (opens t) (c + n) (flat (f 0)).0) (count_same (closes t) c (flat (f 0)).1) (omega arith)
    (low_means n vs l le (λ k. f (suc k)) rest h c)
low_means n ws (Pair m a b us vs deeper o cl x y) le f rest h c =
    let g : ℕ → ℕ = λ k. f (suc k) in
    let g2 : ℕ → ℕ = behind g us in
    let t : Tok = tok_from (f 0) a in
    let u : Tok = tok_from (g2 0) b in
    let tail : List Tok = on (λ k. g2 (suc k)) vs rest in
    let opened : counted (opens t) (c + n) ≡ c + suc n = count_more (opens t) (c + n) (o (f 0)).0 ∙ omega arith in
    let inner : (k : ℕ) → deep_from 32 (k + suc n) k (u ∷ tail) ≡ None =
    (λ k. step (k + suc n) k (suc k + n) (suc k) u tail (count_same (opens u) (k + suc n) (cl (g2 0)).0 ∙ omega arith) (count_more (closes u) k (cl (g2 0)).1 ∙ omega arith) (omega arith)
    (low_means n vs y le (λ k. g2 (suc k)) rest h (suc k))) in
    ap (λ l. deep_from 32 (c + n) c (t ∷ l)) (on_append g us (b ∷ vs) rest)
    ∙ step (c + n) c (c + suc n) c t (on g us (u ∷ tail)) opened (count_same (closes t) c (o (f 0)).1) (omega arith)
    (low_means (suc n) us x deeper g (u ∷ tail) inner c)

-- ---- what is read keeps count

-- so many brackets stand open before these tokens of a text
pub record Open (n : ℕ) (tokens : List Tok) : Type 0 where
  pub opened : ℕ
  pub closed : ℕ
  pub level : opened ≡ closed + n
  pub few : deep_from 32 opened closed tokens ≡ None

-- where n stand open before what is read, m stand open behind it, and this holds of it
pub record Kept {A : Type 0} (n m : ℕ) (left : Left) (read : Read Left A) (X : A → Type 0) : Type 0 where
  pub it : IfOk read (λ p. Open n left.tokens → Open m p.1.tokens × X p.0)

pub bind : {A B : Type 0} {n m k : ℕ} {left : Left} {read : Read Left A} {X : A → Type 0} {Z : B → Type 0} (more : A → Reader B)
    → Kept n m left read X → ((x : A) (l : Left) → Kept m k l (more x l) (λ y. X x → Z y)) → Kept n k left (and_then read more) Z
bind {A = A} {B = B} {n = n} {m = m} {k = k} {left = left} {read = Ok p} {X = X} {Z = Z} more e f = record { it = by (more p.0 p.1) (f p.0 p.1).it }
  where
    by : (r : Read Left B) → IfOk r (λ q. Open m p.1.tokens → Open k q.1.tokens × (X p.0 → Z q.0)) → IfOk r (λ q. Open n left.tokens → Open k q.1.tokens × Z q.0)
    by (Ok q) g = λ o. let a = e.it o in let b = g a.0 in (b.0, b.1 a.1)
    by (Err place) g = tt
bind {read = Err place} more e f = record { it = tt }

pub gives : {A : Type 0} {n : ℕ} {Z : A → Type 0} (x : A) (left : Left) → Z x → Kept n n left (Ok (x, left)) Z
gives x left z = record { it = λ o. (o, z) }

pub weaker : {A : Type 0} {n m : ℕ} {left : Left} {read : Read Left A} {X Z : A → Type 0} → Kept n m left read X → ((x : A) → X x → Z x) → Kept n m left read Z
weaker {read = Ok p} e f = record { it = λ o. let a = e.it o in (a.0, f p.0 a.1) }
weaker {read = Err place} e f = record { it = tt }

-- nothing but that count is kept
abbrev pub Any : {A : Type 0} → A → Type 0
Any x = Unit {0}

pub at_also : {n : ℕ} (place : ℕ) (test : Bool) (left : Left) → Kept n n left (also_at place test left) Any
at_also place test left = record { it = λ o. (o, tt) }

pub at_here : {n : ℕ} (left : Left) → Kept n n left (here left) Any
at_here left = record { it = λ o. (o, tt) }

pub either : {A : Type 0} {n m : ℕ} {left : Left} {X : A → Type 0} (test : Bool) {a b : Read Left A} → (test ≡ true → Kept n m left a X) → (test ≡ false → Kept n m left b X) → Kept n m left (if test then a else b) X
either true a b = a refl
either false a b = b refl

-- ---- single tokens

passed : (n m : ℕ) (t : Tok) (rest : List Tok) → ((o c : ℕ) → o ≡ c + n → counted (opens t) o ≡ counted (closes t) c + m) → Open n (t ∷ rest) → Open m rest
passed n m t rest level h = record {
  opened = counted (opens t) h.opened;
  closed = counted (closes t) h.closed;
  level = level h.opened h.closed h.level;
  few = (back h.opened h.closed (counted (opens t) h.opened) (counted (closes t) h.closed) t rest refl refl h.few).more;
}

flat_passed : (n : ℕ) (t : Tok) (rest : List Tok) → IsFlatTok t → Open n (t ∷ rest) → Open n rest
flat_passed n t rest f h = passed n n t rest (λ o c e. count_same (opens t) o f.0 ∙ e ∙ ap (λ k. k + n) (sym (count_same (closes t) c f.1))) h

-- a test that no bracket passes
abbrev pub NotPunct : (Tok → Bool) → Type 0
NotPunct is = (b : ℕ) (text : List ℕ) (start : ℕ) → is (record { kind = kinds.Punct b; text = text; start = start }) ≡ false

flat_unless : (is : Tok → Bool) → NotPunct is → (t : Tok) → is t ≡ true → IsFlatTok t
flat_unless is none t e = by t.kind e
  where
    by : (k : TokenKind) → is (record { kind = k; text = t.text; start = t.start }) ≡ true → IsFlatTok (record { kind = k; text = t.text; start = t.start })
    by kinds.Name e = (refl, refl)
    by kinds.Int e = (refl, refl)
    by kinds.Uid e = (refl, refl)
    by kinds.Quoted e = (refl, refl)
    by kinds.Iri e = (refl, refl)
    by kinds.Blank e = (refl, refl)
    by kinds.At e = (refl, refl)
    by kinds.Regex e = (refl, refl)
    by kinds.Caret e = (refl, refl)
    by (kinds.Punct b) e = absurd (false≢true (sym (none b t.text t.start) ∙ e))

-- where one token is passed
skip_keeps : {n m : ℕ} (is : Tok → Bool) (X : Unit {0} → Type 0) (left : Left) → ((t : Tok) (rest : List Tok) → is t ≡ true → Open n (t ∷ rest) → Open m rest × X tt) → Kept n m left (part (skip is) left) X
skip_keeps {n} {m} is X left keeps = by left.tokens refl
  where
    one : (t : Tok) (rest : List Tok) (b : Bool) → left.tokens ≡ t ∷ rest → is t ≡ b → Kept n m left (met {A = Unit {0}} left.refused (if b then Ok (tt, rest) else Err (length (t ∷ rest)))) X
    one t rest false e k = record { it = tt }
    one t rest true e k = record { it = λ o. keeps t rest k (subst (λ (l : List Tok). Open n l) e o) }

    by : (tokens : List Tok) → left.tokens ≡ tokens → Kept n m left (met {A = Unit {0}} left.refused (skip is tokens)) X
    by [] e = record { it = tt }
    by (t ∷ rest) e = one t rest (is t) e refl

pub at_skip : {n : ℕ} (is : Tok → Bool) (left : Left) → NotPunct is → Kept n n left (part (skip is) left) Any
at_skip {n} is left none = skip_keeps is Any left (λ t rest e o. (flat_passed n t rest (flat_unless is none t e) o, tt))

pub at_one : {A : Type 0} {n : ℕ} (meaning : Tok → Option A) (left : Left) → ((b : ℕ) (text : List ℕ) (start : ℕ) → meaning (record { kind = kinds.Punct b; text = text; start = start }) ≡ None) → Kept n n left (part (one_as meaning) left) Any
at_one {A = A} {n = n} meaning left none = by left.tokens refl
  where
    flat : (t : Tok) (x : A) → meaning t ≡ Some x → IsFlatTok t
    flat t x e = kind t.kind e
      where
        kind : (k : TokenKind) → meaning (record { kind = k; text = t.text; start = t.start }) ≡ Some x → IsFlatTok (record { kind = k; text = t.text; start = t.start })
        kind kinds.Name e = (refl, refl)
        kind kinds.Int e = (refl, refl)
        kind kinds.Uid e = (refl, refl)
        kind kinds.Quoted e = (refl, refl)
        kind kinds.Iri e = (refl, refl)
        kind kinds.Blank e = (refl, refl)
        kind kinds.At e = (refl, refl)
        kind kinds.Regex e = (refl, refl)
        kind kinds.Caret e = (refl, refl)
        kind (kinds.Punct b) e = let same : ◌≡◌ {A = Option A} None (Some x) = sym (none b t.text t.start) ∙ e in absurd (cc)

    one : (t : Tok) (rest : List Tok) (o : Option A) → left.tokens ≡ t ∷ rest → meaning t ≡ o → Kept n n left (met left.refused (meant o (t ∷ rest) rest)) Any
    one t rest None e m = record { it = tt }
    one t rest (Some x) e m = record { it = λ o. (flat_passed n t rest (flat t x m) (subst (λ (l : List Tok). Open n l) e o), tt) }

    by : (tokens : List Tok) → left.tokens ≡ tokens → Kept n n left (met left.refused (one_as meaning tokens)) Any
    by [] e = record { it = tt }
    by (t ∷ rest) e = one t rest (meaning t) e refl

-- ---- signs

punct_is : (b : ℕ) (P : Tok → Type 0) (t : Tok) → ((text : List ℕ) (start : ℕ) → P (record { kind = kinds.Punct b; text = text; start = start })) → is_punct b t ≡ true → P t
punct_is b P t h e = by t.kind e
  where
    by : (k : TokenKind) → is_punct b (record { kind = k; text = t.text; start = t.start }) ≡ true → P (record { kind = k; text = t.text; start = t.start })
    by kinds.Name e = absurd (false≢true e)
    by kinds.Int e = absurd (false≢true e)
    by kinds.Uid e = absurd (false≢true e)
    by kinds.Quoted e = absurd (false≢true e)
    by kinds.Iri e = absurd (false≢true e)
    by kinds.Blank e = absurd (false≢true e)
    by kinds.At e = absurd (false≢true e)
    by kinds.Regex e = absurd (false≢true e)
    by kinds.Caret e = absurd (false≢true e)
    by (kinds.Punct c) e =
        let same : c ≡ b = grind (arith, nat_tests) in
        subst (λ (k : ℕ). P (record { kind = kinds.Punct k; text = t.text; start = t.start })) (sym same) (h t.text t.start)

-- a sign that is no bracket
pub at_sign : {n : ℕ} (b : ℕ) (left : Left) → ((text : List ℕ) (start : ℕ) → IsFlatTok (record { kind = kinds.Punct b; text = text; start = start })) → Kept n n left (mark b left) Any
at_sign {n} b left flat = skip_keeps (is_punct b) Any left (λ t rest e o. (flat_passed n t rest (punct_is b (λ u. IsFlatTok u) t flat e) o, tt))

-- a sign that is no bracket, which tells that not too many stand open
pub at_level : {n : ℕ} (b : ℕ) (left : Left) → ((text : List ℕ) (start : ℕ) → IsFlatTok (record { kind = kinds.Punct b; text = text; start = start })) → Kept n n left (mark b left) (λ _. n ≤ 32)
at_level {n} b left flat = skip_keeps (is_punct b) (λ _. n ≤ 32) left (λ t rest e o. (flat_passed n t rest (punct_is b (λ u. IsFlatTok u) t flat e) o, low t rest (punct_is b (λ u. IsFlatTok u) t flat e) o))
  where
    low : (t : Tok) (rest : List Tok) → IsFlatTok t → Open n (t ∷ rest) → n ≤ 32
    low t rest f o =
        let b2 : Behind o.opened o.closed rest = back o.opened o.closed o.opened o.closed t rest (count_same (opens t) o.opened f.0) (count_same (closes t) o.closed f.1) o.few in
        omega (arith, o.level, b2.few)

-- an opening bracket
pub at_open : {n : ℕ} (b : ℕ) (left : Left) → ((text : List ℕ) (start : ℕ) → (opens (record { kind = kinds.Punct b; text = text; start = start }) ≡ true) × (closes (record { kind = kinds.Punct b; text = text; start = start }) ≡ false))
    → Kept n (suc n) left (mark b left) (λ _. suc n ≤ 32)
at_open {n} b left is = skip_keeps (is_punct b) (λ _. suc n ≤ 32) left opened
  where
    opened : (t : Tok) (rest : List Tok) → is_punct b t ≡ true → Open n (t ∷ rest) → Open (suc n) rest × (suc n ≤ 32)
    opened t rest e o =
        let k = punct_is b (λ u. (opens u ≡ true) × (closes u ≡ false)) t is e in
        let more : counted (opens t) o.opened ≡ o.opened + 1 = count_more (opens t) o.opened k.0 in
        let same : counted (closes t) o.closed ≡ o.closed = count_same (closes t) o.closed k.1 in
        let b2 : Behind (o.opened + 1) o.closed rest = back o.opened o.closed (o.opened + 1) o.closed t rest more same o.few in
        let level : o.opened ≡ o.closed + n = o.level in
        (record { opened = o.opened + 1; closed = o.closed; level = omega (arith, level); few = b2.more }, omega (arith, level, b2.few))

-- a closing bracket
pub at_close : {n : ℕ} (b : ℕ) (left : Left) → ((text : List ℕ) (start : ℕ) → (opens (record { kind = kinds.Punct b; text = text; start = start }) ≡ false) × (closes (record { kind = kinds.Punct b; text = text; start = start }) ≡ true))
    → Kept (suc n) n left (mark b left) Any
at_close {n} b left is = skip_keeps (is_punct b) Any left closed
  where
    closed : (t : Tok) (rest : List Tok) → is_punct b t ≡ true → Open (suc n) (t ∷ rest) → Open n rest × Unit {0}
    closed t rest e o =
        let k = punct_is b (λ u. (opens u ≡ false) × (closes u ≡ true)) t is e in
        let same : counted (opens t) o.opened ≡ o.opened = count_same (opens t) o.opened k.0 in
        let more : counted (closes t) o.closed ≡ o.closed + 1 = count_more (closes t) o.closed k.1 in
        let b2 : Behind o.opened (o.closed + 1) rest = back o.opened o.closed o.opened (o.closed + 1) t rest same more o.few in
        let level : o.opened ≡ o.closed + suc n = o.level in
        (record { opened = o.opened; closed = o.closed + 1; level = omega (arith, level); few = b2.more }, tt)

-- ---- what is read again and again

added_more : {E : Type 0} (P : E → Type 0) (before mid all : List E) → Added (λ _ x. P x) before mid → AddedAll (λ _ x. P x) mid all → AddedAll (λ _ x. P x) before all
added_more P before mid all a m = record {
  items = a.item ∷ m.items;
  is = m.is ∙ ap (λ l. l ++ m.items) a.is ∙ append_assoc before (a.item ∷ []) m.items;
  good = (a.good, subst (λ (l : List _). Items (λ _ x. P x) l m.items) a.is m.good);
}

pub at_turns : {E : Type 0} {n : ℕ} (begins : List Tok → Bool) (reader : List E → Reader (List E)) (P : E → Type 0)
    → ((before : List E) (l : Left) → Kept n n l (reader before l) (λ all. Added (λ _ x. P x) before all))
    → (k : ℕ) (before : List E) (left : Left) → Kept n n left (turns k (upon begins) reader before left) (λ all. AddedAll (λ _ x. P x) before all)
unfolding turns
at_turns begins reader P one zero before left = gives before left (record { items = []; is = sym (append-nil before); good = tt })
at_turns begins reader P one (suc k) before left =
    either (begins left.tokens)
    (λ b. bind (turns k (upon begins) reader) (one before left) (λ mid l. weaker (at_turns begins reader P one k mid l) (λ all more added. added_more P before mid all added more)))
    (λ b. gives before left (record { items = []; is = sym (append-nil before); good = tt }))

pub at_repeated : {E : Type 0} {n : ℕ} (begins : List Tok → Bool) (reader : List E → Reader (List E)) (P : E → Type 0)
    → ((before : List E) (l : Left) → Kept n n l (reader before l) (λ all. Added (λ _ x. P x) before all))
    → (before : List E) (left : Left) → Kept n n left (repeated begins reader before left) (λ all. AddedAll (λ _ x. P x) before all)
at_repeated begins reader P one before left = at_turns begins reader P one (length left.tokens) before left

-- the same of any state
pub at_any_turns : {A : Type 0} {n : ℕ} (begins : List Tok → Bool) (reader : A → Reader A) (X : A → Type 0) → ((before : A) (l : Left) → Kept n n l (reader before l) (λ after. X before → X after))
    → (k : ℕ) (before : A) (left : Left) → Kept n n left (turns k (upon begins) reader before left) (λ after. X before → X after)
unfolding turns
at_any_turns begins reader X one zero before left = gives before left (λ x. x)
at_any_turns begins reader X one (suc k) before left =
    either (begins left.tokens)
    (λ b. bind (turns k (upon begins) reader) (one before left) (λ mid l. weaker (at_any_turns begins reader X one k mid l) (λ after more first x. more (first x))))
    (λ b. gives before left (λ x. x))
