-- A number in groups, and read back.
use Rattle.std.proofs.Common.{◌≡◌, ℕ, zero, suc, ◌+◌, ◌-◌, ◌*◌, ◌/◌, ◌%◌, ◌<◌, ◌≤◌, Bool, true, false, List, [], ◌∷◌, ◌++◌, length, get_or, drop, refl, ap, sym, subst, ◌∙◌, ◌⊎◌, inl, inr, arith}
use Rattle.std.proofs.lemmas.List.{length-drop, drop_more}
use Rattle.std.specs.Prelude.{nat_lt}
use Rattle.std.proofs.lemmas.Bool.Decides.{nat_tests}
use Rattle.dg_base.specs.Packed.{groups}
use Rattle.dg_base.specs.Unpacked.{read_groups, has_groups}

pub by_bool : {P : Type 0} (b : Bool) → (b ≡ true → P) → (b ≡ false → P) → P
by_bool true f g = f refl
by_bool false f g = g refl

high_bit : (r : ℕ) → nat_lt (128 + r) 128 ≡ false
high_bit r = grind (arith, nat_tests)

pub read-groups : (more n : ℕ) (rest : List ℕ) → read_groups more (groups more n ++ rest) ≡ (n, rest)
unfolding groups read_groups
read-groups zero n rest = refl
read-groups (suc more) n rest =
    by_bool (nat_lt n 128)
    (λ e. rw e (rw e refl))
    (λ e. rw e (rw (high_bit (n % 128), read-groups more (n / 128) rest) (let back : (128 + n % 128 - 128) + 128 * (n / 128) ≡ n = omega arith in ap (λ m. (m, rest)) back)))

pub has-groups : (more n : ℕ) (rest : List ℕ) → has_groups more (groups more n ++ rest) ≡ true
unfolding groups has_groups
has-groups zero n rest = refl
has-groups (suc more) n rest =
    by_bool (nat_lt n 128)
    (λ e. rw e (rw e refl))
    (λ e. rw e (rw (high_bit (n % 128)) (has-groups more (n / 128) rest)))

-- a number takes at least one byte
pub some_groups : (more n : ℕ) → 1 ≤ length (groups more n)
unfolding groups
some_groups zero n = omega arith
some_groups (suc more) n = by_bool (nat_lt n 128) (λ e. rw e (omega arith)) (λ e. rw e (omega arith))

-- a number that needs another group
pub groups-on : (more n : ℕ) → 0 < more → 128 ≤ n → groups more n ≡ (128 + n % 128) ∷ groups (more - 1) (n / 128)
unfolding groups
groups-on zero n h k = absurd (omega arith)
groups-on (suc more) n h k =
    let high : nat_lt n 128 ≡ false = grind (arith, nat_tests) in
    let back : suc more - 1 ≡ more = omega arith in
    rw (high, back) refl

-- the only group
pub groups-none : (n : ℕ) → groups 0 n ≡ n ∷ []
unfolding groups
groups-none n = refl

pub groups-low : (more n : ℕ) → n < 128 → groups more n ≡ n ∷ []
unfolding groups
groups-low zero n h = refl
groups-low (suc more) n h = let low : nat_lt n 128 ≡ true = grind (arith, nat_tests) in rw low refl

-- the last group read
pub read-none : (b : ℕ) (bs : List ℕ) → read_groups 0 (b ∷ bs) ≡ (b, bs)
unfolding read_groups
read-none b bs = refl

pub read-low : (more b : ℕ) (bs : List ℕ) → b < 128 → read_groups more (b ∷ bs) ≡ (b, bs)
unfolding read_groups
read-low zero b bs h = refl
read-low (suc more) b bs h = let low : nat_lt b 128 ≡ true = grind (arith, nat_tests) in rw low refl

-- a group that others follow
pub read-on : (more b : ℕ) (bs : List ℕ) → 0 < more → 128 ≤ b → read_groups more (b ∷ bs) ≡ ((b - 128) + 128 * (read_groups (more - 1) bs).0, (read_groups (more - 1) bs).1)
unfolding read_groups
read-on zero b bs h k = absurd (omega arith)
read-on (suc more) b bs h k =
    let high : nat_lt b 128 ≡ false = grind (arith, nat_tests) in
    let back : suc more - 1 ≡ more = omega arith in
    rw (high, back) refl

pub has-on : (more b : ℕ) (bs : List ℕ) → 0 < more → 128 ≤ b → has_groups more (b ∷ bs) ≡ has_groups (more - 1) bs
unfolding has_groups
has-on zero b bs h k = absurd (omega arith)
has-on (suc more) b bs h k =
    let high : nat_lt b 128 ≡ false = grind (arith, nat_tests) in
    let back : suc more - 1 ≡ more = omega arith in
    rw (high, back) refl

pub has_some : (more : ℕ) (bs : List ℕ) → has_groups more bs ≡ true → 1 ≤ length bs
unfolding has_groups
has_some more [] h = absurd (cc)
has_some more (b ∷ bs) h = omega arith

-- the same at a place among bytes

pub has_at : (more at : ℕ) (bs : List ℕ) → has_groups more (drop at bs) ≡ true → at < length bs
has_at more at bs h = omega (arith, has_some more (drop at bs) h, length-drop at bs)

pub has-at_on : (more at : ℕ) (bs : List ℕ) → at < length bs → 0 < more → 128 ≤ get_or bs at 0 → has_groups more (drop at bs) ≡ has_groups (more - 1) (drop (at + 1) bs)
has-at_on more at bs h k b = ap (λ xs. has_groups more xs) (drop_more bs at 0 h) ∙ has-on more (get_or bs at 0) (drop (at + 1) bs) k b

pub read-at_none : (at : ℕ) (bs : List ℕ) → at < length bs → read_groups 0 (drop at bs) ≡ (get_or bs at 0, drop (at + 1) bs)
read-at_none at bs h = ap (λ xs. read_groups 0 xs) (drop_more bs at 0 h) ∙ read-none (get_or bs at 0) (drop (at + 1) bs)

pub read-at_low : (more at : ℕ) (bs : List ℕ) → at < length bs → get_or bs at 0 < 128 → read_groups more (drop at bs) ≡ (get_or bs at 0, drop (at + 1) bs)
read-at_low more at bs h b = ap (λ xs. read_groups more xs) (drop_more bs at 0 h) ∙ read-low more (get_or bs at 0) (drop (at + 1) bs) b

pub read-at_last : (more at : ℕ) (bs : List ℕ) → at < length bs → (more ≡ 0) ⊎ (get_or bs at 0 < 128) → read_groups more (drop at bs) ≡ (get_or bs at 0, drop (at + 1) bs)
read-at_last more at bs h (inl e) = subst (λ (m : ℕ). read_groups m (drop at bs) ≡ (get_or bs at 0, drop (at + 1) bs)) (sym e) (read-at_none at bs h)
read-at_last more at bs h (inr l) = read-at_low more at bs h l

pub read-at_on : (more at : ℕ) (bs : List ℕ) → at < length bs → 0 < more → 128 ≤ get_or bs at 0
    → read_groups more (drop at bs) ≡ ((get_or bs at 0 - 128) + 128 * (read_groups (more - 1) (drop (at + 1) bs)).0, (read_groups (more - 1) (drop (at + 1) bs)).1)
read-at_on more at bs h k b = ap (λ xs. read_groups more xs) (drop_more bs at 0 h) ∙ read-on more (get_or bs at 0) (drop (at + 1) bs) k b

pub groups-last : (more n : ℕ) → (more ≡ 0) ⊎ (n < 128) → groups more n ≡ n ∷ []
groups-last more n (inl e) = subst (λ (m : ℕ). groups m n ≡ n ∷ []) (sym e) (groups-none n)
groups-last more n (inr l) = groups-low more n l
