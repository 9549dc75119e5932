-- Bytes that begin with the highest order as their numbers do.
use Rattle.std.proofs.Common.{◌≡◌, ℕ, zero, suc, ◌+◌, ◌-◌, ◌*◌, ◌^◌, ◌%◌, ◌<◌, ◌≤◌, List, ◌++◌, ℤ, pos, negsuc, refl, sym, ap, ◌∙◌, arith, ◌<ℤ◌, unsigned_abs, mul-le-mul_right}
use Rattle.std.proofs.Math.Nat.{pow-suc, mul_comm, pow-le-pow_right}
use Rattle.std.proofs.lemmas.Nat.{xor_block, mod_below}
use Rattle.std.specs.Int.{w32, w64, byte_at, bytes_high_first, to_be_bytes}
use Rattle.std.specs.Int.Bits.{bit_xor, xor_zero_r}
use Rattle.std.specs.Int.RustNames.{FitsSigned}
use Rattle.std.specs.declared.cmp.Ordering.{Ordering}
use Rattle.std.specs.declared.cmp.Ordering.TheVariants.{Less, Equal, Greater}
use Rattle.std.specs.Ordering.{nat_cmp, int_cmp, ordering_then, MatchOrdering}
use Rattle.std.specs.Cmp.{ranks, int_ranks, nat_cmp_is}
use Rattle.dg_values.specs.Order.{text_cmp}
use Rattle.dg_keys.specs.KeyBytes.{flipped}
use Rattle.std.proofs.Math.Arith.{mod-mul}
use lib.Dec.{ltb→lt}

-- ---- orders

pub then_then : (r s t : Ordering) → ordering_then (ordering_then r s) t ≡ ordering_then r (ordering_then s t)
then_then Less s t = refl
then_then Equal s t = refl
then_then Greater s t = refl

pub then_same : (r x y : Ordering) → (r ≡ Equal → x ≡ y) → ordering_then r x ≡ ordering_then r y
then_same Less x y h = refl
then_same Equal x y h = h refl
then_same Greater x y h = refl

-- two numbers lie as two others do
pub lie_alike : (x y a b : ℕ) → (x < y → a < b) → (x ≡ y → a ≡ b) → (y < x → b < a) → nat_cmp x y ≡ nat_cmp a b
lie_alike x y a b l e g = go (nat_cmp x y) (ranks x y)
  where
    go : (r : Ordering) → MatchOrdering r (x < y) (x ≡ y) (y < x) → r ≡ nat_cmp a b
    go Less h = nat_cmp_is a b Less (l h)
    go Equal h = nat_cmp_is a b Equal (e h)
    go Greater h = nat_cmp_is a b Greater (g h)

-- two integers lie as two numbers do
pub lie_as : (x y : ℤ) (a b : ℕ) → (x <ℤ y → a < b) → (x ≡ y → a ≡ b) → (y <ℤ x → b < a) → int_cmp x y ≡ nat_cmp a b
lie_as x y a b l e g = go (int_cmp x y) (int_ranks x y)
  where
    go : (r : Ordering) → MatchOrdering r (x <ℤ y) (x ≡ y) (y <ℤ x) → r ≡ nat_cmp a b
    go Less h = nat_cmp_is a b Less (l h)
    go Equal h = nat_cmp_is a b Equal (e h)
    go Greater h = nat_cmp_is a b Greater (g h)

-- ---- digits

below_row : (m x y u v : ℕ) → u < m → x < y → x * m + u < y * m + v
below_row m x y u v h l =
    let most : (1 + x) * m ≤ y * m = mul-le-mul_right m (omega arith) in
    omega (arith, most)

-- by the higher digits, and then by what is below them
pub by_digits : (m x y u v : ℕ) → u < m → v < m → nat_cmp (x * m + u) (y * m + v) ≡ ordering_then (nat_cmp x y) (nat_cmp u v)
by_digits m x y u v p q = go (nat_cmp x y) (ranks x y)
  where
    go : (r : Ordering) → MatchOrdering r (x < y) (x ≡ y) (y < x) → nat_cmp (x * m + u) (y * m + v) ≡ ordering_then r (nat_cmp u v)
    go Less h = sym (nat_cmp_is (x * m + u) (y * m + v) Less (below_row m x y u v p h))
    go Equal h = let e : y ≡ x = sym h in rw e (sym (lie_alike u v (x * m + u) (x * m + v) (λ l. omega arith) (λ l. omega arith) (λ l. omega arith)))
    go Greater h = sym (nat_cmp_is (x * m + u) (y * m + v) Greater (below_row m y x v u q h))

-- one byte more in front of the lowest
more : (k n : ℕ) → n % 256 ^ suc k ≡ byte_at k n * 256 ^ k + n % 256 ^ k
more zero n = omega arith
more (suc k) n =
    let unit = 256 ^ suc k in
    let wider : 256 ^ suc (suc k) ≡ 256 * unit = pow-suc 256 (suc k) ∙ mul_comm unit 256 in
    let some : 0 < unit = pow-le-pow_right {n = 256} (omega arith) {i = 0} {j = suc k} (omega arith) in
    rw (wider, mod-mul n {m = 256} {c = unit} (omega arith) some) refl

-- the lowest bytes order as their number, and then by what follows them
pub high_cmp : (k a b : ℕ) (xs ys : List ℕ) → text_cmp (bytes_high_first k a ++ xs) (bytes_high_first k b ++ ys) ≡ ordering_then (nat_cmp (a % 256 ^ k) (b % 256 ^ k)) (text_cmp xs ys)
high_cmp zero a b xs ys =
    let p : a % 256 ^ 0 ≡ 0 = omega arith in
    let q : b % 256 ^ 0 ≡ 0 = omega arith in
    rw (p, q) refl
high_cmp (suc k) a b xs ys =
    let some : 0 < 256 ^ k = pow-le-pow_right {n = 256} (omega arith) {i = 0} {j = k} (omega arith) in
    let first = nat_cmp (byte_at k a) (byte_at k b) in
    let later = nat_cmp (a % 256 ^ k) (b % 256 ^ k) in
    let both : nat_cmp (a % 256 ^ suc k) (b % 256 ^ suc k) ≡ ordering_then first later =
    rw (more k a, more k b) (by_digits (256 ^ k) (byte_at k a) (byte_at k b) (a % 256 ^ k) (b % 256 ^ k) (mod_below a (256 ^ k) some) (mod_below b (256 ^ k) some)) in
    ap (ordering_then first) (high_cmp k a b xs ys) ∙ sym (then_then first later (text_cmp xs ys)) ∙ ap (λ r. ordering_then r (text_cmp xs ys)) (sym both)

-- numbers of 64 bits, and of 32
pub number_cmp : (a b : ℕ) (xs ys : List ℕ) → a < 2 ^ 64 → b < 2 ^ 64 → text_cmp (to_be_bytes w64 a ++ xs) (to_be_bytes w64 b ++ ys) ≡ ordering_then (nat_cmp a b) (text_cmp xs ys)
number_cmp a b xs ys p q =
    let low : a % 256 ^ 8 ≡ a = omega arith in
    let high : b % 256 ^ 8 ≡ b = omega arith in
    high_cmp 8 a b xs ys ∙ (λ i. ordering_then (nat_cmp (low i) (high i)) (text_cmp xs ys))

pub short_cmp : (a b : ℕ) (xs ys : List ℕ) → a < 2 ^ 32 → b < 2 ^ 32 → text_cmp (to_be_bytes w32 a ++ xs) (to_be_bytes w32 b ++ ys) ≡ ordering_then (nat_cmp a b) (text_cmp xs ys)
short_cmp a b xs ys p q =
    let low : a % 256 ^ 4 ≡ a = omega arith in
    let high : b % 256 ^ 4 ≡ b = omega arith in
    high_cmp 4 a b xs ys ∙ (λ i. ordering_then (nat_cmp (low i) (high i)) (text_cmp xs ys))

-- ---- integers

flipped_pos : (n : ℕ) → n < 2 ^ 63 → flipped (pos n) ≡ 2 ^ 63 + n
flipped_pos n h =
    let e : n ≡ 0 * 2 ^ 63 + n = omega arith in
    let b = xor_block 63 0 1 n 0 h (omega arith) in
    ap (λ (m : ℕ). bit_xor m (2 ^ 63)) e ∙ b ∙ rw (xor_zero_r n) refl

flipped_neg : (n : ℕ) → n < 2 ^ 63 → flipped (negsuc n) ≡ 2 ^ 63 - suc n
flipped_neg n h =
    let e : 2 ^ 64 - suc n ≡ 1 * 2 ^ 63 + (2 ^ 63 - suc n) = omega arith in
    let b = xor_block 63 1 1 (2 ^ 63 - suc n) 0 (omega arith) (omega arith) in
    ap (λ (m : ℕ). bit_xor m (2 ^ 63)) e ∙ b ∙ rw (xor_zero_r (2 ^ 63 - suc n)) (omega arith)

pub flipped_fits : (z : ℤ) → FitsSigned w64 z → flipped z < 2 ^ 64
flipped_fits (pos n) f = rw (flipped_pos n f.sfits) (omega (arith, f.sfits))
flipped_fits (negsuc n) f = rw (flipped_neg n f.sfits) (omega arith)

pos_below : (a b : ℕ) → pos a <ℤ pos b → a < b
pos_below a b h = ltb→lt a b h.lt

neg_below : (a b : ℕ) → negsuc a <ℤ negsuc b → b < a
neg_below a b h = ltb→lt b a h.lt

-- the flipped bits order as the integers do
pub flipped_cmp : (x y : ℤ) → FitsSigned w64 x → FitsSigned w64 y → int_cmp x y ≡ nat_cmp (flipped x) (flipped y)
flipped_cmp (pos a) (pos b) f g =
    rw (flipped_pos a f.sfits, flipped_pos b g.sfits)
    (lie_as (pos a) (pos b) (2 ^ 63 + a) (2 ^ 63 + b) (λ h. omega (arith, pos_below a b h)) (λ e. omega (arith, ap unsigned_abs e)) (λ h. omega (arith, pos_below b a h)))
flipped_cmp (pos a) (negsuc b) f g =
    rw (flipped_pos a f.sfits, flipped_neg b g.sfits)
    (lie_as (pos a) (negsuc b) (2 ^ 63 + a) (2 ^ 63 - suc b) (λ h. absurd h.lt) (λ e. absurd cc) (λ h. omega arith))
flipped_cmp (negsuc a) (pos b) f g =
    rw (flipped_neg a f.sfits, flipped_pos b g.sfits)
    (lie_as (negsuc a) (pos b) (2 ^ 63 - suc a) (2 ^ 63 + b) (λ h. omega arith) (λ e. absurd cc) (λ h. absurd h.lt))
flipped_cmp (negsuc a) (negsuc b) f g =
    rw (flipped_neg a f.sfits, flipped_neg b g.sfits)
    (lie_as (negsuc a) (negsuc b) (2 ^ 63 - suc a) (2 ^ 63 - suc b) (λ h. omega (arith, neg_below a b h, f.sfits, g.sfits)) (λ e. omega (arith, ap unsigned_abs e)) (λ h. omega (arith, neg_below b a h, f.sfits, g.sfits)))

pub integer_cmp : (x y : ℤ) (xs ys : List ℕ) → FitsSigned w64 x → FitsSigned w64 y → text_cmp (to_be_bytes w64 (flipped x) ++ xs) (to_be_bytes w64 (flipped y) ++ ys) ≡ ordering_then (int_cmp x y) (text_cmp xs ys)
integer_cmp x y xs ys f g = number_cmp (flipped x) (flipped y) xs ys (flipped_fits x f) (flipped_fits y g) ∙ ap (λ r. ordering_then r (text_cmp xs ys)) (sym (flipped_cmp x y f g))
