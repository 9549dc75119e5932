-- What the bytes of keys have as parts.
use Rattle.std.proofs.Common.{◌≡◌, ◌≢◌, ℕ, zero, suc, ◌+◌, ◌-◌, ◌<◌, ◌≤◌, ◌^◌, ◌==◌, ◌||◌, Bool, true, false, List, [], ◌∷◌, ◌++◌, ℤ, length, take, drop, cond, get_or, not, nat_lt, Result, Ok, Err, Some, None, IfOk, refl, sym, ap, subst, ◌∙◌, arith, true≢false}
use Rattle.std.specs.Prelude.{IsUtf8}
use Rattle.std.proofs.lemmas.Bool.{false≢true, or_parts}
use Rattle.std.proofs.lemmas.List.{take_all, take_at, drop_at}
use Rattle.std.specs.Int.{w32, w64, to_be_bytes, from_bool}
use Rattle.std.specs.Int.RustNames.{FitsSigned}
use Rattle.std.proofs.lemmas.Bool.Decides.{nat_tests}
use Rattle.std.specs.List.{position, prefix_len}
use Rattle.std.proofs.lemmas.List.Quantifiers.{position-Some}
use Rattle.std.specs.Ordering.{nat_cmp}
use Rattle.dg_values.specs.declared.kind.Tokenizer.{Tokenizer}
use Rattle.dg_values.specs.declared.kind.Tokenizer.TheVariants as tokenizers
use Rattle.dg_values.specs.declared.value.Value.{Value}
use Rattle.dg_values.specs.declared.value.Value.TheVariants.{Int, Text, Bool as Truth, Time}
use Rattle.dg_values.specs.Instant.{Instant, IsInstant}
use Rattle.dg_values.specs.Order.{tokenizer_rank}
use Rattle.dg_sets.proofs.MadeOrders.{nat_order}
use Rattle.dg_tokens.specs.declared.tokens.IndexToken.{IndexToken}
use Rattle.dg_tokens.proofs.TokenOrder.{tokenizer_order}
use Rattle.dg_keys.specs.declared.key.Key.{Key}
use Rattle.dg_keys.specs.declared.key.Key.TheVariants.{Data, Index, Reverse, Count, RCount}
use Rattle.dg_keys.specs.declared.key_fault.KeyFault.{KeyFault}
use Rattle.dg_keys.specs.declared.key_fault.KeyFault.TheVariants.{OutOfMemory, NoKey}
use Rattle.dg_keys.specs.Keys.{pred_of, kind_rank}
use Rattle.dg_keys.specs.KeyBytes.{flipped, value_bytes, token_bytes, field_bytes, key_bytes, is_of_kind, has_kind, has_zero, IsValue, IsField, IsKey}
use Rattle.dg_keys.specs.KeyReading.{Reads}
use Rattle.dg_keys.proofs.ByteOrder.{moment_fits, one_moment, one_key}

-- ---- lists

head_of : List ℕ → ℕ
head_of [] = 0
head_of (b ∷ bs) = b

tail_of : List ℕ → List ℕ
tail_of [] = []
tail_of (b ∷ bs) = bs

heads : (a b : ℕ) (xs ys : List ℕ) → a ∷ xs ≡ b ∷ ys → a ≡ b
unfolding head_of
heads a b xs ys e = ap head_of e

tails : (a b : ℕ) (xs ys : List ℕ) → a ∷ xs ≡ b ∷ ys → xs ≡ ys
unfolding tail_of
tails a b xs ys e = ap tail_of e

-- the first byte, and those behind it
pub opened : (bytes : List ℕ) (first : ℕ) → 1 ≤ length bytes → get_or bytes 0 0 ≡ first → bytes ≡ first ∷ take (length bytes - 1) (drop 1 bytes)
opened [] first h e = absurd (omega (arith, h))
opened (b ∷ bs) first h e =
    let all : take (suc (length bs) - 1) bs ≡ bs = take_all (suc (length bs) - 1) bs (omega arith) in
    λ i. e i ∷ sym all i

-- the same first byte before the same bytes
pub led : (first : ℕ) (xs rest bytes : List ℕ) → xs ≡ rest → bytes ≡ first ∷ rest → first ∷ xs ≡ bytes
led first xs rest bytes e f = ap (λ (l : List ℕ). first ∷ l) e ∙ sym f

-- a zero byte ends what has none, so there is one way to take the bytes apart
pub same_front : (p q xs ys : List ℕ) → has_zero p ≡ false → has_zero q ≡ false → p ++ 0 ∷ xs ≡ q ++ 0 ∷ ys → (p ≡ q) × (xs ≡ ys)
same_front [] [] xs ys h k e = (refl, tails 0 0 xs ys e)
same_front [] (b ∷ q) xs ys h k e =
    let is : 0 ≡ b = heads 0 b xs (q ++ 0 ∷ ys) e in
    absurd (true≢false (subst (λ n. (n == 0) ≡ false) (sym is) (or_parts (b == 0) (has_zero q) k).0))
same_front (a ∷ p) [] xs ys h k e =
    let is : a ≡ 0 = heads a 0 (p ++ 0 ∷ xs) ys e in
    absurd (true≢false (subst (λ n. (n == 0) ≡ false) is (or_parts (a == 0) (has_zero p) h).0))
same_front (a ∷ p) (b ∷ q) xs ys h k e =
    let more = same_front p q xs ys (or_parts (a == 0) (has_zero p) h).1 (or_parts (b == 0) (has_zero q) k).1 (tails a b (p ++ 0 ∷ xs) (q ++ 0 ∷ ys) e) in
    let first = heads a b (p ++ 0 ∷ xs) (q ++ 0 ∷ ys) e in
    (λ i. first i ∷ more.0 i, more.1)

pub some_zero : (p xs : List ℕ) → has_zero (p ++ 0 ∷ xs) ≡ true
some_zero [] xs = refl
some_zero (a ∷ p) xs = go (a == 0) (some_zero p xs)
  where
    go : (t : Bool) → has_zero (p ++ 0 ∷ xs) ≡ true → (t || has_zero (p ++ 0 ∷ xs)) ≡ true
    go true e = refl
    go false e = e

-- the bytes before the first zero byte, and those behind it
around : (bs : List ℕ) (at : ℕ) → at < length bs → (get_or bs at 0 == 0) ≡ true → ((k : ℕ) → k < at → (get_or bs k 0 == 0) ≡ false)
    → (has_zero (take at bs) ≡ false) × (bs ≡ take at bs ++ 0 ∷ drop (suc at) bs)
around [] at lt z h = absurd (omega (arith, lt))
around (b ∷ bs) zero lt z h =
    let is : b ≡ 0 = grind (arith, nat_tests) in
    (refl, ap (λ n. n ∷ bs) is)
around (b ∷ bs) (suc at) lt z h =
    let more = around bs at (omega (arith, lt)) z (λ k l. h (suc k) (omega arith)) in
    let first : (b == 0) ≡ false = h 0 (omega arith) in
    (rw first more.0, ap (λ (l : List ℕ). b ∷ l) more.1)

pub first_is : (bs : List ℕ) (at : ℕ) → position (λ b. b == 0) bs ≡ Some at → (has_zero (take at bs) ≡ false) × (bs ≡ take at bs ++ 0 ∷ drop (at + 1) bs)
first_is bs at e =
    let f = position-Some (λ b. b == 0) bs at 0 e in
    let next : at + 1 ≡ suc at = omega arith in
    rw next (around bs at f.0 f.1 f.2)

passed : (bs : List ℕ) → (prefix_len (λ b. not (b == 0)) bs < length bs → ⊥) → has_zero bs ≡ false
passed [] h = refl
passed (b ∷ bs) h = go (b == 0) (λ k. passed bs k) h
  where
    go : (t : Bool) → ((prefix_len (λ c. not (c == 0)) bs < length bs → ⊥) → has_zero bs ≡ false)
        → (cond (not t) (1 + prefix_len (λ c. not (c == 0)) bs) 0 < suc (length bs) → ⊥) → (t || has_zero bs) ≡ false
    go true more k = absurd (k (omega arith))
    go false more k = more (λ l. k (omega (arith, l)))

untold : (a b : ℕ) → cond (nat_lt a b) (Some a) None ≡ None → a < b → ⊥
untold a b e l = go (nat_lt a b) refl e
  where
    go : (t : Bool) → nat_lt a b ≡ t → cond t (Some a) None ≡ None → ⊥
    go true f g = absurd cc
    go false f g = absurd (grind (arith, nat_tests))

pub none_is : (bs : List ℕ) → position (λ b. b == 0) bs ≡ None → has_zero bs ≡ false
none_is bs e = passed bs (untold (prefix_len (λ b. not (b == 0)) bs) (length bs) e)

-- ---- moments

pub secs_in : (bytes front : List ℕ) → front ≡ take 8 bytes → (m : Instant) → IsInstant m → value_bytes (Time m) ≡ bytes → (z : ℤ) × FitsSigned w64 z × (to_be_bytes w64 (flipped z) ≡ front)
secs_in bytes front f m h s = (m.secs, (moment_fits m h).0, sym (take_at (to_be_bytes w64 (flipped m.secs)) (to_be_bytes w32 m.nanos) 8 refl) ∙ (ap (take 8) s ∙ sym f))

pub nanos_in : (bytes behind : List ℕ) → behind ≡ drop 8 bytes → (m : Instant) → IsInstant m → value_bytes (Time m) ≡ bytes → (n : ℕ) × (n < 2 ^ 32) × (to_be_bytes w32 n ≡ behind)
nanos_in bytes behind f m h s = (m.nanos, (moment_fits m h).1, sym (drop_at (to_be_bytes w64 (flipped m.secs)) (to_be_bytes w32 m.nanos) 8 refl) ∙ (ap (drop 8) s ∙ sym f))

pub no_moment : (bytes front behind : List ℕ) (secs : ℤ) (nanos : ℕ) → bytes ≡ front ++ behind
    → FitsSigned w64 secs × (to_be_bytes w64 (flipped secs) ≡ front) → (nanos < 2 ^ 32) × (to_be_bytes w32 nanos ≡ behind)
    → (IsInstant (record { secs = secs; nanos = nanos }) → ⊥) → (m : Instant) → IsInstant m → value_bytes (Time m) ≢ bytes
no_moment bytes front behind secs nanos e f g not m h s =
    let read : Instant = record { secs = secs; nanos = nanos } in
    let whole : value_bytes (Time read) ≡ bytes = (λ i. f.1 i ++ g.1 i) ∙ sym e in
    not (subst IsInstant (one_moment m read (moment_fits m h) (f.0, g.0) (s ∙ sym whole)) h)

-- ---- values

pub integer_in : (bytes : List ℕ) (t : Tokenizer) → t ≡ tokenizers.Int → (v : Value) → (is_of_kind t v ≡ true) × IsValue v → value_bytes v ≡ bytes
    → (z : ℤ) × FitsSigned w64 z × (to_be_bytes w64 (flipped z) ≡ bytes)
integer_in bytes t e v h s = go v (subst (λ u. is_of_kind u v ≡ true) e h.0) h.1 s
  where
    go : (v : Value) → is_of_kind tokenizers.Int v ≡ true → IsValue v → value_bytes v ≡ bytes → (z : ℤ) × FitsSigned w64 z × (to_be_bytes w64 (flipped z) ≡ bytes)
    go (Int z) k f s = (z, f, s)
    go v k f s = absurd (false≢true k)

pub truth_in : (bytes : List ℕ) (t : Tokenizer) → t ≡ tokenizers.Bool → (v : Value) → (is_of_kind t v ≡ true) × IsValue v → value_bytes v ≡ bytes
    → (b : Bool) × Unit {0} × (from_bool b ∷ [] ≡ bytes)
truth_in bytes t e v h s = go v (subst (λ u. is_of_kind u v ≡ true) e h.0) s
  where
    go : (v : Value) → is_of_kind tokenizers.Bool v ≡ true → value_bytes v ≡ bytes → (b : Bool) × Unit {0} × (from_bool b ∷ [] ≡ bytes)
    go (Truth b) k s = (b, tt, s)
    go v k s = absurd (false≢true k)

-- a tokenizer of times has no value of another kind
pub moment_of_kind : (bytes : List ℕ) (t : Tokenizer) → ((n : ℤ) → is_of_kind t (Int n) ≡ false) → ((x : List ℕ) → is_of_kind t (Text x) ≡ false) → ((b : Bool) → is_of_kind t (Truth b) ≡ false)
    → (v : Value) → (is_of_kind t v ≡ true) × IsValue v → value_bytes v ≡ bytes → (m : Instant) × IsInstant m × (value_bytes (Time m) ≡ bytes)
moment_of_kind bytes t i x b (Int n) h s = absurd (false≢true (sym (i n) ∙ h.0))
moment_of_kind bytes t i x b (Text y) h s = absurd (false≢true (sym (x y) ∙ h.0))
moment_of_kind bytes t i x b (Truth c) h s = absurd (false≢true (sym (b c) ∙ h.0))
moment_of_kind bytes t i x b (Time m) h s = (m, h.1, s)

-- ---- tokens

same_tokenizer : (t u : Tokenizer) → tokenizer_rank t ≡ tokenizer_rank u → t ≡ u
same_tokenizer t u e = tokenizer_order.same t u (ap (nat_cmp (tokenizer_rank t)) (sym e) ∙ nat_order.itself (tokenizer_rank t))

pub value_in : (first : ℕ) (rest bytes : List ℕ) (t : Tokenizer) → bytes ≡ first ∷ rest → tokenizer_rank t ≡ first
    → (token : IndexToken) → (is_of_kind token.tokenizer token.value ≡ true) × IsValue token.value → token_bytes token ≡ bytes
    → (v : Value) × ((is_of_kind t v ≡ true) × IsValue v) × (value_bytes v ≡ rest)
value_in first rest bytes t e r token h s =
    let all = s ∙ e in
    let one : token.tokenizer ≡ t = same_tokenizer token.tokenizer t (heads (tokenizer_rank token.tokenizer) first (value_bytes token.value) rest all ∙ sym r) in
    (token.value, (subst (λ u. is_of_kind u token.value ≡ true) one h.0, h.1), tails (tokenizer_rank token.tokenizer) first (value_bytes token.value) rest all)

pub token_of : (first : ℕ) (rest bytes : List ℕ) (t : Tokenizer) → bytes ≡ first ∷ rest → tokenizer_rank t ≡ first
    → (v : Value) → (is_of_kind t v ≡ true) × IsValue v → value_bytes v ≡ rest
    → (token : IndexToken) × ((is_of_kind token.tokenizer token.value ≡ true) × IsValue token.value) × (token_bytes token ≡ bytes)
token_of first rest bytes t e r v h s = (record { tokenizer = t; value = v }, h, (λ i. r i ∷ s i) ∙ sym e)

-- ---- keys

-- what a key has behind its predicate's zero byte
abbrev pub behind : Key → List ℕ
behind key = kind_rank key ∷ field_bytes key

abbrev pub IsOf : List ℕ → Key → Type 0
IsOf p key = (pred_of key ≡ p) × (has_kind key ≡ true) × IsField key

pub number_in : (r : ℕ) (rest bytes p : List ℕ) → bytes ≡ r ∷ rest → r ≢ 2 → (key : Key) → IsOf p key → behind key ≡ bytes → (n : ℕ) × (n < 2 ^ 64) × (to_be_bytes w64 n ≡ rest)
number_in r rest bytes p e not (Data q n) h s = (n, h.2, tails 1 r (to_be_bytes w64 n) rest (s ∙ e))
number_in r rest bytes p e not (Index q t) h s = absurd (not (sym (heads 2 r (token_bytes t) rest (s ∙ e))))
number_in r rest bytes p e not (Reverse q n) h s = (n, h.2, tails 3 r (to_be_bytes w64 n) rest (s ∙ e))
number_in r rest bytes p e not (Count q n) h s = (n, h.2, tails 4 r (to_be_bytes w64 n) rest (s ∙ e))
number_in r rest bytes p e not (RCount q n) h s = (n, h.2, tails 5 r (to_be_bytes w64 n) rest (s ∙ e))

no_two : (r : ℕ) (xs rest bytes : List ℕ) → r ∷ xs ≡ bytes → bytes ≡ 2 ∷ rest → r ≢ 2 → ⊥
no_two r xs rest bytes s e not = not (heads r 2 xs rest (s ∙ e))

pub token_in : (rest bytes p : List ℕ) → bytes ≡ 2 ∷ rest → (key : Key) → IsOf p key → behind key ≡ bytes
    → (t : IndexToken) × ((is_of_kind t.tokenizer t.value ≡ true) × IsValue t.value) × (token_bytes t ≡ rest)
token_in rest bytes p e (Data q n) h s = absurd (no_two 1 (to_be_bytes w64 n) rest bytes s e (λ x. omega (arith, x)))
token_in rest bytes p e (Index q t) h s = (t, (h.1, h.2), tails 2 2 (token_bytes t) rest (s ∙ e))
token_in rest bytes p e (Reverse q n) h s = absurd (no_two 3 (to_be_bytes w64 n) rest bytes s e (λ x. omega (arith, x)))
token_in rest bytes p e (Count q n) h s = absurd (no_two 4 (to_be_bytes w64 n) rest bytes s e (λ x. omega (arith, x)))
token_in rest bytes p e (RCount q n) h s = absurd (no_two 5 (to_be_bytes w64 n) rest bytes s e (λ x. omega (arith, x)))

pub index_of : (rest bytes p : List ℕ) → bytes ≡ 2 ∷ rest → (t : IndexToken) → (is_of_kind t.tokenizer t.value ≡ true) × IsValue t.value → token_bytes t ≡ rest
    → (key : Key) × IsOf p key × (behind key ≡ bytes)
index_of rest bytes p e t h s = (Index p t, (refl, h.0, h.1), ap (λ (l : List ℕ). 2 ∷ l) s ∙ sym e)

-- ---- whole keys

pred_is : (bytes front rest : List ℕ) → has_zero front ≡ false → bytes ≡ front ++ 0 ∷ rest → (key : Key) → IsKey key → key_bytes key ≡ bytes → (pred_of key ≡ front) × (behind key ≡ rest)
pred_is bytes front rest h e key k s = same_front (pred_of key) front (behind key) rest k.plain.pred h (s ∙ e)

pub no_pred : (bytes front rest : List ℕ) → has_zero front ≡ false → bytes ≡ front ++ 0 ∷ rest → (IsUtf8 front → ⊥) → (key : Key) → IsKey key → key_bytes key ≢ bytes
no_pred bytes front rest h e not key k s = not (subst IsUtf8 (pred_is bytes front rest h e key k s).0 k.text)

as_key : (bytes front rest : List ℕ) → has_zero front ≡ false → bytes ≡ front ++ 0 ∷ rest → IsUtf8 front → (key : Key) → IsOf front key → behind key ≡ rest → IsKey key × (key_bytes key ≡ bytes)
as_key bytes front rest h e u key k s =
    (record { plain = record { pred = subst (λ p. has_zero p ≡ false) (sym k.0) h; token = k.1 }; text = subst IsUtf8 (sym k.0) u; field = k.2 }, (λ i. k.0 i ++ 0 ∷ s i) ∙ sym e)

pub whole : (bytes front rest : List ℕ) → has_zero front ≡ false → bytes ≡ front ++ 0 ∷ rest → IsUtf8 front → (r : Result Key KeyFault) → Reads (IsOf front) behind rest r → Reads IsKey key_bytes bytes r
whole bytes front rest h e u (Ok key) k = as_key bytes front rest h e u key k.0 k.1
whole bytes front rest h e u (Err NoKey) k = λ key x s. let p = pred_is bytes front rest h e key x s in k key (p.0, x.plain.token, x.field) p.1
whole bytes front rest h e u (Err OutOfMemory) k = let made = as_key bytes front rest h e u k.0 k.1 k.2 in (k.0, made.0, made.1)

pub read_back : (bytes : List ℕ) (r : Result Key KeyFault) → Reads IsKey key_bytes bytes r → (key : Key) → IsKey key → key_bytes key ≡ bytes → IfOk r (λ read. read ≡ key)
read_back bytes (Ok read) h key k s = one_key read key h.0 k (h.1 ∙ sym s)
read_back bytes (Err e) h key k s = tt
