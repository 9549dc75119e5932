-- Ascending postings: nodes stand before values.
use Rattle.std.proofs.Common.{◌≡◌, ℕ, zero, suc, ◌+◌, ◌-◌, ◌^◌, ◌<◌, ◌≤◌, Bool, true, false, List, [], ◌∷◌, ◌++◌, length, get_or, map, take, drop, refl, subst, ap, sym, ◌∙◌, arith}
use Rattle.std.specs.Prelude.{count_by, cond, min, ◌||◌}
use Rattle.std.specs.List.{AllByRecursion}
use Rattle.std.specs.List.Sorted.{IsPartitionedBy}
use Rattle.std.proofs.lemmas.List.{drop_more, take_more, drop_min, take_min, length-drop, length-map, take-map, drop-map}
use Rattle.std.proofs.lemmas.List.Sums.{sum_by-cons}
use Rattle.dg_values.specs.declared.value.Value.{Value}
use Rattle.std.specs.declared.cmp.Ordering.{Ordering}
use Rattle.std.specs.declared.cmp.Ordering.TheVariants.{Less}
use Rattle.std.specs.Ordering.{nat_cmp, is_lt, is_eq}
use Rattle.dg_values.specs.Ascending.{Ascends, has}
use Rattle.dg_values.specs.Order.{posting_cmp}
use Rattle.dg_values.specs.declared.value.Posting.{Posting}
use Rattle.dg_values.specs.declared.value.Posting.TheVariants.{Uid, Val}
use Rattle.dg_base.specs.Packed.{is_uid, uids_of}
use Rattle.dg_base.specs.Places.{count_below}

-- one of all
pub all_at : {X : Type 0} (P : X → Type 0) (xs : List X) (j : ℕ) (d : X) → j < length xs → AllByRecursion P xs → P (get_or xs j d)
all_at P [] j d lt a = absurd (omega arith)
all_at P (x ∷ xs) zero d lt a = a.0
all_at P (x ∷ xs) (suc j) d lt a = all_at P xs j d (omega arith) a.1

-- what holds of all below what passes comes first
pub parted_by : {X : Type 0} (cmp : X → X → Ordering) (p : X → Bool) → ((x y : X) → cmp x y ≡ Less → p y ≡ true → p x ≡ true) → (ys : List X) → Ascends cmp ys → IsPartitionedBy p ys
parted_by cmp p down [] a i j d le lt e = absurd (omega arith)
parted_by cmp p down (y ∷ ys) a zero zero d le lt e = e
parted_by cmp p down (y ∷ ys) a zero (suc j) d le lt e =
    down y (get_or ys j d) (all_at (λ z. cmp y z ≡ Less) ys j d (omega arith) a.0) e
parted_by cmp p down (y ∷ ys) a (suc i) zero d le lt e = absurd (omega arith)
parted_by cmp p down (y ∷ ys) a (suc i) (suc j) d le lt e = parted_by cmp p down ys a.1 i j d (omega arith) (omega arith) e

node_below : (p q : Posting) → posting_cmp p q ≡ Less → is_uid q ≡ true → is_uid p ≡ true
node_below (Uid m) q e h = refl
node_below (Val v) (Uid n) e h = absurd (cc)
node_below (Val v) (Val w) e h = absurd (cc)

pub nodes_first : (ps : List Posting) → Ascends posting_cmp ps → IsPartitionedBy is_uid ps
nodes_first ps a = parted_by posting_cmp is_uid node_below ps a

pub count_by-is_uid : (ps : List Posting) → count_by is_uid ps ≡ length (uids_of ps)
count_by-is_uid [] = refl
count_by-is_uid (Uid n ∷ ps) =
    let first : count_by is_uid (Uid n ∷ ps) ≡ 1 + count_by is_uid ps = sum_by-cons (λ y. cond (is_uid y) 1 0) (Uid n) ps in
    omega (arith, first, count_by-is_uid ps)
count_by-is_uid (Val v ∷ ps) =
    let first : count_by is_uid (Val v ∷ ps) ≡ 0 + count_by is_uid ps = sum_by-cons (λ y. cond (is_uid y) 1 0) (Val v) ps in
    omega (arith, first, count_by-is_uid ps)

-- the nodes of nodes and values
pub uids_of-parted : (xs : List ℕ) (vs : List Posting) → uids_of vs ≡ [] → uids_of (map (λ n. Uid n) xs ++ vs) ≡ xs
uids_of-parted [] vs h = h
uids_of-parted (x ∷ xs) vs h = ap (λ ys. x ∷ ys) (uids_of-parted xs vs h)

above_none : (v : Posting) (ps : List Posting) → is_uid v ≡ false → AllByRecursion (λ q. posting_cmp v q ≡ Less) ps → uids_of ps ≡ []
above_none v [] h a = refl
above_none (Uid m) (p ∷ ps) h a = absurd (cc)
above_none (Val v) (Uid n ∷ ps) h a = let l = a.0 in absurd (cc)
above_none (Val v) (Val w ∷ ps) h a = above_none (Val v) ps h a.1

-- ascending postings are their nodes and what stands behind these
pub parted : (ps : List Posting) → Ascends posting_cmp ps → map (λ n. Uid n) (uids_of ps) ++ drop (length (uids_of ps)) ps ≡ ps
parted [] a = refl
parted (Uid n ∷ ps) a = ap (λ qs. Uid n ∷ qs) (parted ps a.1)
parted (Val v ∷ ps) a = let none : uids_of ps ≡ [] = above_none (Val v) ps refl a.0 in rw none refl

pub none_behind : (ps : List Posting) → Ascends posting_cmp ps → uids_of (drop (length (uids_of ps)) ps) ≡ []
none_behind [] a = refl
none_behind (Uid n ∷ ps) a = none_behind ps a.1
none_behind (Val v ∷ ps) a = let none : uids_of ps ≡ [] = above_none (Val v) ps refl a.0 in rw none (none ∙ refl)

above_uid : (m : ℕ) (ps : List Posting) → AllByRecursion (λ q. posting_cmp (Uid m) q ≡ Less) ps → AllByRecursion (λ n. nat_cmp m n ≡ Less) (uids_of ps)
above_uid m [] a = tt
above_uid m (Uid n ∷ ps) a = (a.0, above_uid m ps a.1)
above_uid m (Val v ∷ ps) a = above_uid m ps a.1

pub ascends-uids_of : (ps : List Posting) → Ascends posting_cmp ps → Ascends nat_cmp (uids_of ps)
ascends-uids_of [] a = tt
ascends-uids_of (Uid n ∷ ps) a = (above_uid n ps a.0, ascends-uids_of ps a.1)
ascends-uids_of (Val v ∷ ps) a = ascends-uids_of ps a.1

-- ---- the nodes from a place on, and up to a place

pub uids_of-drop_uid : (ps : List Posting) (i n : ℕ) (d : Posting) → i < length ps → get_or ps i d ≡ Uid n → uids_of (drop i ps) ≡ n ∷ uids_of (drop (i + 1) ps)
uids_of-drop_uid ps i n d h e = ap uids_of (drop_more ps i d h) ∙ ap (λ (p : Posting). uids_of (p ∷ drop (i + 1) ps)) e

pub uids_of-drop_val : (ps : List Posting) (i : ℕ) (v : Value) (d : Posting) → i < length ps → get_or ps i d ≡ Val v → uids_of (drop i ps) ≡ uids_of (drop (i + 1) ps)
uids_of-drop_val ps i v d h e = ap uids_of (drop_more ps i d h) ∙ ap (λ (p : Posting). uids_of (p ∷ drop (i + 1) ps)) e

fit_push : (ps : List Posting) (q : Posting) → AllByRecursion (λ x. x < 2 ^ 64) (uids_of ps) → AllByRecursion (λ x. x < 2 ^ 64) (uids_of (q ∷ [])) → AllByRecursion (λ x. x < 2 ^ 64) (uids_of (ps ++ q ∷ []))
fit_push [] q a b = b
fit_push (Uid n ∷ ps) q a b = (a.0, fit_push ps q a.1 b)
fit_push (Val v ∷ ps) q a b = fit_push ps q a b

pub fit_uid : (ps : List Posting) (i n : ℕ) (d : Posting) → i < length ps → get_or ps i d ≡ Uid n → n < 2 ^ 64 → AllByRecursion (λ x. x < 2 ^ 64) (uids_of (take i ps)) → AllByRecursion (λ x. x < 2 ^ 64) (uids_of (take (i + 1) ps))
fit_uid ps i n d h e b a =
    let last : AllByRecursion (λ x. x < 2 ^ 64) (uids_of (get_or ps i d ∷ [])) = subst (λ (p : Posting). AllByRecursion (λ x. x < 2 ^ 64) (uids_of (p ∷ []))) (sym e) (b, tt) in
    subst (λ (qs : List Posting). AllByRecursion (λ x. x < 2 ^ 64) (uids_of qs)) (sym (take_more ps i d h)) (fit_push (take i ps) (get_or ps i d) a last)

pub fit_val : (ps : List Posting) (i : ℕ) (v : Value) (d : Posting) → i < length ps → get_or ps i d ≡ Val v → AllByRecursion (λ x. x < 2 ^ 64) (uids_of (take i ps)) → AllByRecursion (λ x. x < 2 ^ 64) (uids_of (take (i + 1) ps))
fit_val ps i v d h e a =
    let last : AllByRecursion (λ x. x < 2 ^ 64) (uids_of (get_or ps i d ∷ [])) = subst (λ (p : Posting). AllByRecursion (λ x. x < 2 ^ 64) (uids_of (p ∷ []))) (sym e) tt in
    subst (λ (qs : List Posting). AllByRecursion (λ x. x < 2 ^ 64) (uids_of qs)) (sym (take_more ps i d h)) (fit_push (take i ps) (get_or ps i d) a last)

-- ---- looking among nodes and values

pub ascends_behind : (xs : List ℕ) (vs : List Posting) → Ascends posting_cmp (map (λ n. Uid n) xs ++ vs) → Ascends posting_cmp vs
ascends_behind [] vs a = a
ascends_behind (x ∷ xs) vs a = ascends_behind xs vs a.1

has-value : (vs : List Posting) (u : ℕ) → uids_of vs ≡ [] → has posting_cmp vs (Uid u) ≡ false
has-value [] u h = refl
has-value (Uid n ∷ vs) u h = absurd (cc)
has-value (Val v ∷ vs) u h = has-value vs u h

pub has-uid : (xs : List ℕ) (vs : List Posting) (u : ℕ) → uids_of vs ≡ [] → has posting_cmp (map (λ n. Uid n) xs ++ vs) (Uid u) ≡ has nat_cmp xs u
has-uid [] vs u h = has-value vs u h
has-uid (x ∷ xs) vs u h = ap (λ (b : Bool). is_eq (nat_cmp x u) || b) (has-uid xs vs u h)

pub has-val : (xs : List ℕ) (vs : List Posting) (v : Value) → has posting_cmp (map (λ n. Uid n) xs ++ vs) (Val v) ≡ has posting_cmp vs (Val v)
has-val [] vs v = refl
has-val (x ∷ xs) vs v = has-val xs vs v

count-value : (vs : List Posting) (u : ℕ) → uids_of vs ≡ [] → count_below vs (Uid u) ≡ 0
count-value [] u h = refl
count-value (Uid n ∷ vs) u h = absurd (cc)
count-value (Val v ∷ vs) u h =
    let first : count_below (Val v ∷ vs) (Uid u) ≡ 0 + count_below vs (Uid u) = sum_by-cons (λ q. cond (is_lt (posting_cmp q (Uid u))) 1 0) (Val v) vs in
    omega (arith, first, count-value vs u h)

pub count-uid : (xs : List ℕ) (vs : List Posting) (u : ℕ) → uids_of vs ≡ [] → count_below (map (λ n. Uid n) xs ++ vs) (Uid u) ≡ count_by (λ x. is_lt (nat_cmp x u)) xs
count-uid [] vs u h = count-value vs u h
count-uid (x ∷ xs) vs u h =
    sum_by-cons (λ q. cond (is_lt (posting_cmp q (Uid u))) 1 0) (Uid x) (map (λ n. Uid n) xs ++ vs)
    ∙ ap (λ (n : ℕ). cond (is_lt (nat_cmp x u)) 1 0 + n) (count-uid xs vs u h)
    ∙ sym (sum_by-cons (λ y. cond (is_lt (nat_cmp y u)) 1 0) x xs)

pub count-val : (xs : List ℕ) (vs : List Posting) (v : Value) → count_below (map (λ n. Uid n) xs ++ vs) (Val v) ≡ length xs + count_below vs (Val v)
count-val [] vs v = omega arith
count-val (x ∷ xs) vs v =
    let first : count_below (Uid x ∷ (map (λ n. Uid n) xs ++ vs)) (Val v) ≡ 1 + count_below (map (λ n. Uid n) xs ++ vs) (Val v) = sum_by-cons (λ q. cond (is_lt (posting_cmp q (Val v))) 1 0) (Uid x) (map (λ n. Uid n) xs ++ vs) in
    omega (arith, first, count-val xs vs v)

-- ---- parts of two lists, one behind the other

drop-append : {X : Type 0} (n : ℕ) (xs ys : List X) → drop n (xs ++ ys) ≡ drop n xs ++ drop (n - length xs) ys
drop-append n [] ys = let all : n - 0 ≡ n = omega arith in rw (all, drop-nil n) refl
  where
    drop-nil : {X : Type 0} (n : ℕ) → drop {A = X} n [] ≡ []
    drop-nil zero = refl
    drop-nil (suc n) = refl
drop-append zero (x ∷ xs) ys = let none : 0 - suc (length xs) ≡ 0 = omega arith in rw none refl
drop-append (suc n) (x ∷ xs) ys = let less : suc n - suc (length xs) ≡ n - length xs = omega arith in rw less (drop-append n xs ys)

take-append : {X : Type 0} (n : ℕ) (xs ys : List X) → take n (xs ++ ys) ≡ take n xs ++ take (n - length xs) ys
take-append n [] ys = let all : n - 0 ≡ n = omega arith in rw (all, take-nil n) refl
  where
    take-nil : {X : Type 0} (n : ℕ) → take {A = X} n [] ≡ []
    take-nil zero = refl
    take-nil (suc n) = refl
take-append zero (x ∷ xs) ys = let none : 0 - suc (length xs) ≡ 0 = omega arith in rw none refl
take-append (suc n) (x ∷ xs) ys = let less : suc n - suc (length xs) ≡ n - length xs = omega arith in rw less (ap (λ zs. x ∷ zs) (take-append n xs ys))

pub pieces : {X : Type 0} (xs ys : List X) (from most first some : ℕ) → first ≡ min from (length xs) → some ≡ min most (length xs - first) → take some (drop first xs) ++ take (most - some) (drop (from - first) ys) ≡ take most (drop from (xs ++ ys))
pieces xs ys from most first some e f =
    let front : drop first xs ≡ drop from xs = ap (λ (n : ℕ). drop n xs) e ∙ drop_min from xs in
    let some_is : some ≡ min most (length (drop from xs)) = omega (arith, length-drop from xs) in
    let part : take some (drop first xs) ≡ take most (drop from xs) = ap (λ zs. take some zs) front ∙ ap (λ (n : ℕ). take n (drop from xs)) some_is ∙ take_min most (drop from xs) in
    let behind : from - first ≡ from - length xs = omega arith in
    let rest : most - some ≡ most - length (drop from xs) = omega (arith, length-drop from xs) in
    rw (part, behind, rest) (sym (ap (λ zs. take most zs) (drop-append from xs ys) ∙ take-append most (drop from xs) (drop (from - length xs) ys)))

pub walked : (xs : List ℕ) (vs : List Posting) (from most first some : ℕ) → first ≡ min from (length xs) → some ≡ min most (length xs - first)
    → map (λ n. Uid n) (take some (drop first xs)) ++ take (most - some) (drop (from - first) vs) ≡ take most (drop from (map (λ n. Uid n) xs ++ vs))
walked xs vs from most first some e f =
    let long = length-map xs (λ n. Uid n) in
    let moved : map (λ n. Uid n) (take some (drop first xs)) ≡ take some (drop first (map (λ n. Uid n) xs)) = sym (take-map (λ n. Uid n) some (drop first xs)) ∙ ap (λ (ps : List Posting). take some ps) (sym (drop-map (λ n. Uid n) first xs)) in
    ap (λ (ps : List Posting). ps ++ take (most - some) (drop (from - first) vs)) moved ∙ pieces (map (λ n. Uid n) xs) vs from most first some (omega (arith, long)) (omega (arith, long))

pub length-uids_of : (ps : List Posting) → length (uids_of ps) ≤ length ps
length-uids_of [] = omega arith
length-uids_of (Uid n ∷ ps) = omega (arith, length-uids_of ps)
length-uids_of (Val v ∷ ps) = omega (arith, length-uids_of ps)
