-- The bytes of keys order as the keys do.
use Rattle.std.proofs.Common.{◌≡◌, ℕ, zero, suc, ◌<◌, ◌^◌, ◌==◌, ◌||◌, Bool, true, false, List, [], ◌∷◌, ◌++◌, ℤ, pos, negsuc, ◌≤ℤ◌, refl, sym, ap, ◌∙◌, arith, true≢false}
use Rattle.std.proofs.lemmas.Bool.{false≢true}
use Rattle.std.specs.declared.cmp.Ordering.{Ordering}
use Rattle.std.specs.declared.cmp.Ordering.TheVariants.{Less, Equal, Greater}
use Rattle.std.specs.Ordering.{nat_cmp, int_cmp, ordering_then}
use Rattle.std.specs.Cmp.{nat_cmp_is}
use Rattle.std.specs.Int.{w32, w64, to_be_bytes}
use Rattle.std.specs.Int.RustNames.{FitsSigned}
use Rattle.dg_values.specs.declared.kind.Tokenizer.{Tokenizer}
use Rattle.dg_values.specs.declared.kind.Tokenizer.TheVariants as tokenizers
use Rattle.dg_values.specs.declared.value.Value.{Value}
use Rattle.dg_values.specs.declared.value.Value.TheVariants.{Int, Text, Bool as Truth, Time}
use Rattle.dg_values.specs.Instant.{Instant, IsInstant, first_second, last_second}
use Rattle.dg_values.specs.Order.{text_cmp, moment_cmp, value_cmp, value_rank, tokenizer_cmp}
use Rattle.dg_values.proofs.OrderLaws.{value_order}
use Rattle.dg_sets.proofs.MadeOrders.{text_order}
use Rattle.dg_tokens.specs.declared.tokens.IndexToken.{IndexToken}
use Rattle.dg_tokens.specs.Orders.{index_token_cmp}
use Rattle.dg_tokens.proofs.TokenOrder.{tokenizer_order}
use Rattle.dg_keys.specs.declared.key.Key.{Key}
use Rattle.dg_keys.specs.declared.key.Key.TheVariants.{Data, Index, Reverse, Count, RCount}
use Rattle.dg_keys.specs.Keys.{pred_of, kind_rank, field_cmp, key_cmp}
use Rattle.dg_keys.specs.KeyOrder.{key_order}
use Rattle.dg_keys.specs.KeyBytes.{value_bytes, token_bytes, field_bytes, key_bytes, is_of_kind, has_kind, has_zero, IsValue, IsField, IsKey}
use lib.Dec.{leb→le}
use Rattle.dg_keys.proofs.Digits.{then_then, then_same, number_cmp, short_cmp, integer_cmp}

-- ---- values

-- the place of the kind that a tokenizer is for among the kinds of values
kind_place : Tokenizer → ℕ
kind_place tokenizers.Exact = 1
kind_place tokenizers.Hash = 1
kind_place tokenizers.Term = 1
kind_place tokenizers.Trigram = 1
kind_place tokenizers.Int = 0
kind_place tokenizers.Bool = 2
kind_place tokenizers.Year = 3
kind_place tokenizers.Month = 3
kind_place tokenizers.Day = 3
kind_place tokenizers.Hour = 3

of_place : (t : Tokenizer) (v : Value) → is_of_kind t v ≡ true → value_rank v ≡ kind_place t
unfolding kind_place
of_place tokenizers.Exact (Text x) e = refl
of_place tokenizers.Exact v e = absurd (false≢true e)
of_place tokenizers.Hash (Text x) e = refl
of_place tokenizers.Hash v e = absurd (false≢true e)
of_place tokenizers.Term (Text x) e = refl
of_place tokenizers.Term v e = absurd (false≢true e)
of_place tokenizers.Trigram (Text x) e = refl
of_place tokenizers.Trigram v e = absurd (false≢true e)
of_place tokenizers.Int (Int x) e = refl
of_place tokenizers.Int v e = absurd (false≢true e)
of_place tokenizers.Bool (Truth x) e = refl
of_place tokenizers.Bool v e = absurd (false≢true e)
of_place tokenizers.Year (Time x) e = refl
of_place tokenizers.Year v e = absurd (false≢true e)
of_place tokenizers.Month (Time x) e = refl
of_place tokenizers.Month v e = absurd (false≢true e)
of_place tokenizers.Day (Time x) e = refl
of_place tokenizers.Day v e = absurd (false≢true e)
of_place tokenizers.Hour (Time x) e = refl
of_place tokenizers.Hour v e = absurd (false≢true e)

then_equal : (r : Ordering) → ordering_then r Equal ≡ r
then_equal Less = refl
then_equal Equal = refl
then_equal Greater = refl

truth_order : (a b : Bool) → text_cmp (value_bytes (Truth a)) (value_bytes (Truth b)) ≡ value_cmp (Truth a) (Truth b)
truth_order false false = refl
truth_order false true = refl
truth_order true false = refl
truth_order true true = refl

pub secs_fit : (z : ℤ) → first_second ≤ℤ z → z ≤ℤ last_second → FitsSigned w64 z
secs_fit (pos n) p q = record { sfits = omega (arith, leb→le n 253_402_300_799 q.le) }
secs_fit (negsuc n) p q = record { sfits = omega (arith, leb→le n 62_167_219_199 p.le) }

-- what moments are by their fields' types
abbrev pub IsStored : Instant → Type 0
IsStored m = FitsSigned w64 m.secs × (m.nanos < 2 ^ 32)

pub moment_fits : (m : Instant) → IsInstant m → IsStored m
moment_fits m h = (secs_fit m.secs h.0 h.1, omega (arith, h.2))

moment_order : (a b : Instant) → IsStored a → IsStored b → text_cmp (value_bytes (Time a)) (value_bytes (Time b)) ≡ moment_cmp a b
moment_order a b f g =
    integer_cmp a.secs b.secs (to_be_bytes w32 a.nanos) (to_be_bytes w32 b.nanos) f.0 g.0
    ∙ ap (λ r. ordering_then (int_cmp a.secs b.secs) r) (short_cmp a.nanos b.nanos [] [] f.1 g.1 ∙ then_equal (nat_cmp a.nanos b.nanos))

moment_in : Value → Instant
moment_in (Time m) = m
moment_in v = record { secs = pos 0; nanos = 0 }

-- no two moments have the same bytes
pub one_moment : (a b : Instant) → IsStored a → IsStored b → value_bytes (Time a) ≡ value_bytes (Time b) → a ≡ b
unfolding moment_in
one_moment a b f g e =
    let tie : moment_cmp a b ≡ Equal = sym (moment_order a b f g) ∙ (ap (text_cmp (value_bytes (Time a))) (sym e) ∙ text_order.itself (value_bytes (Time a))) in
    ap moment_in (value_order.same (Time a) (Time b) tie)

-- values of one kind
values_order : (a b : Value) → value_rank a ≡ value_rank b → IsValue a → IsValue b → text_cmp (value_bytes a) (value_bytes b) ≡ value_cmp a b
values_order (Int a) (Int b) e p q = integer_cmp a b [] [] p q ∙ then_equal (int_cmp a b)
values_order (Text a) (Text b) e p q = refl
values_order (Truth a) (Truth b) e p q = truth_order a b
values_order (Time a) (Time b) e p q = moment_order a b (moment_fits a p) (moment_fits b q)
values_order (Int a) (Text b) e p q = absurd (omega (arith, e))
values_order (Int a) (Truth b) e p q = absurd (omega (arith, e))
values_order (Int a) (Time b) e p q = absurd (omega (arith, e))
values_order (Text a) (Int b) e p q = absurd (omega (arith, e))
values_order (Text a) (Truth b) e p q = absurd (omega (arith, e))
values_order (Text a) (Time b) e p q = absurd (omega (arith, e))
values_order (Truth a) (Int b) e p q = absurd (omega (arith, e))
values_order (Truth a) (Text b) e p q = absurd (omega (arith, e))
values_order (Truth a) (Time b) e p q = absurd (omega (arith, e))
values_order (Time a) (Int b) e p q = absurd (omega (arith, e))
values_order (Time a) (Text b) e p q = absurd (omega (arith, e))
values_order (Time a) (Truth b) e p q = absurd (omega (arith, e))

-- ---- tokens and fields

token_order : (a b : IndexToken) → is_of_kind a.tokenizer a.value ≡ true → is_of_kind b.tokenizer b.value ≡ true → IsValue a.value → IsValue b.value → text_cmp (token_bytes a) (token_bytes b) ≡ index_token_cmp a b
token_order a b h k p q = then_same (tokenizer_cmp a.tokenizer b.tokenizer) (text_cmp (value_bytes a.value) (value_bytes b.value)) (value_cmp a.value b.value) (λ e.
    let one : a.tokenizer ≡ b.tokenizer = tokenizer_order.same a.tokenizer b.tokenizer e in
    values_order a.value b.value (of_place a.tokenizer a.value h ∙ (ap kind_place one ∙ sym (of_place b.tokenizer b.value k))) p q)

number_order : (a b : ℕ) → a < 2 ^ 64 → b < 2 ^ 64 → text_cmp (to_be_bytes w64 a) (to_be_bytes w64 b) ≡ nat_cmp a b
number_order a b p q = number_cmp a b [] [] p q ∙ then_equal (nat_cmp a b)

-- the kind, and then the node, number or token
field_order : (a b : Key) → has_kind a ≡ true → has_kind b ≡ true → IsField a → IsField b
    → text_cmp (kind_rank a ∷ field_bytes a) (kind_rank b ∷ field_bytes b) ≡ ordering_then (nat_cmp (kind_rank a) (kind_rank b)) (field_cmp a b)
field_order (Data p a) (Data q b) h k f g = number_order a b f g
field_order (Index p a) (Index q b) h k f g = token_order a b h k f g
field_order (Reverse p a) (Reverse q b) h k f g = number_order a b f g
field_order (Count p a) (Count q b) h k f g = number_order a b f g
field_order (RCount p a) (RCount q b) h k f g = number_order a b f g
field_order a b h k f g = refl

-- ---- the predicate

or_parts : (a b : Bool) → (a || b) ≡ false → (a ≡ false) × (b ≡ false)
or_parts false b e = (refl, e)
or_parts true b e = absurd (true≢false e)

zero_first : (q : ℕ) → (q == 0) ≡ false → nat_cmp 0 q ≡ Less
zero_first zero e = absurd (true≢false e)
zero_first (suc q) e = sym (nat_cmp_is 0 (suc q) Less (omega arith))

zero_last : (q : ℕ) → (q == 0) ≡ false → nat_cmp q 0 ≡ Greater
zero_last zero e = absurd (true≢false e)
zero_last (suc q) e = sym (nat_cmp_is (suc q) 0 Greater (omega arith))

-- a zero byte ends what has none
pred_order : (p q xs ys : List ℕ) → has_zero p ≡ false → has_zero q ≡ false → text_cmp (p ++ 0 ∷ xs) (q ++ 0 ∷ ys) ≡ ordering_then (text_cmp p q) (text_cmp xs ys)
pred_order [] [] xs ys h k = refl
pred_order [] (b ∷ q) xs ys h k =
    let e = or_parts (b == 0) (has_zero q) k in
    rw (zero_first b e.0) refl
pred_order (a ∷ p) [] xs ys h k =
    let e = or_parts (a == 0) (has_zero p) h in
    rw (zero_last a e.0) refl
pred_order (a ∷ p) (b ∷ q) xs ys h k =
    let e = or_parts (a == 0) (has_zero p) h in
    let f = or_parts (b == 0) (has_zero q) k in
    ap (ordering_then (nat_cmp a b)) (pred_order p q xs ys e.1 f.1) ∙ sym (then_then (nat_cmp a b) (text_cmp p q) (text_cmp xs ys))

-- ---- keys

-- the order of the bytes is that of the keys
pub key_bytes_order : (a b : Key) → IsKey a → IsKey b → text_cmp (key_bytes a) (key_bytes b) ≡ key_cmp a b
key_bytes_order a b h k =
    pred_order (pred_of a) (pred_of b) (kind_rank a ∷ field_bytes a) (kind_rank b ∷ field_bytes b) h.plain.pred k.plain.pred
    ∙ ap (ordering_then (text_cmp (pred_of a) (pred_of b))) (field_order a b h.plain.token k.plain.token h.field k.field)

-- the same bytes are those of the same key
pub one_key : (a b : Key) → IsKey a → IsKey b → key_bytes a ≡ key_bytes b → a ≡ b
one_key a b h k e = key_order.same a b (sym (key_bytes_order a b h k) ∙ (ap (text_cmp (key_bytes a)) (sym e) ∙ text_order.itself (key_bytes a)))
