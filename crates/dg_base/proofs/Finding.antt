-- Where a number stands among numbers that ascend, or where it belongs.
use Rattle.std.proofs.Common.{◌≡◌, ℕ, zero, suc, ◌*◌, ◌<◌, ◌≤◌, true, false, List, [], ◌∷◌, length, get_or, refl, ap, sym, ◌∙◌, arith}
use Rattle.std.specs.Prelude.{nat_lt, nat_le, ◌==◌, count_by}
use Rattle.std.specs.Ordering.{nat_cmp, is_lt, is_eq}
use Rattle.std.specs.Cmp.{nat_cmp_total, tied_itself}
use Rattle.std.specs.List.{AllWithin}
use Rattle.std.specs.List.Sorted.{IsPartitionedBy}
use Rattle.std.proofs.lemmas.Bool.Decides.{nat_tests}
use Rattle.std.proofs.lemmas.List.{get_or_default}
use Rattle.std.proofs.lemmas.Map.Lookups.{exact_unsigned}
use Rattle.dg_values.specs.Ascending.{Ascends, has}
use Rattle.dg_values.specs.Order.{IsOrder}
use Rattle.dg_sets.proofs.Places.{stands, belongs}
use Rattle.dg_base.specs.declared.packing.Start.{Start}
use Rattle.dg_base.proofs.Counts.{count_from_point}
use Rattle.dg_base.proofs.Numbers.{less}
use Rattle.dg_base.proofs.Postings.{all_at}
use Rattle.dg_base.proofs.Groups.{by_bool}
use Rattle.dg_base.proofs.Blocks.{IsStart}

order : IsOrder nat_cmp
order = record { antisymm = nat_cmp_total.antisymm; trans = nat_cmp_total.trans; same = exact_unsigned; itself = tied_itself nat_cmp_total }

pub ascends_at : (xs : List ℕ) (i j : ℕ) → Ascends nat_cmp xs → i < j → j < length xs → get_or xs i 0 < get_or xs j 0
ascends_at [] i j a l h = absurd (omega arith)
ascends_at (x ∷ xs) i zero a l h = absurd (omega arith)
ascends_at (x ∷ xs) zero (suc j) a l h = less x (get_or xs j 0) (all_at (λ y. nat_cmp x y ≡ _) xs j 0 (omega arith) a.0)
ascends_at (x ∷ xs) (suc i) (suc j) a l h = ascends_at xs i j a.1 (omega arith) (omega arith)

low_test : (x u : ℕ) → x < u → is_lt (nat_cmp x u) ≡ true
low_test x u h = let e : nat_lt x u ≡ true = grind (arith, nat_tests) in rw e refl

high_test : (x u : ℕ) → u ≤ x → is_lt (nat_cmp x u) ≡ false
high_test x u h = let e : nat_lt x u ≡ false = grind (arith, nat_tests) in rw e (by_bool (x == u) (λ f. rw f refl) (λ f. rw f refl))

eq_test : (x u : ℕ) → u ≤ x → is_eq (nat_cmp x u) ≡ (x == u)
eq_test x u h = let e : nat_lt x u ≡ false = grind (arith, nat_tests) in rw e (by_bool (x == u) (λ f. rw f refl) (λ f. rw f refl))

module _ (xs : List ℕ) (u n : ℕ) (a : Ascends nat_cmp xs) (in_reach : n ≤ length xs) (low : (j : ℕ) → j < n → get_or xs j 0 < u) where
  front : AllWithin (λ y. is_lt (nat_cmp y u) ≡ true) xs 0 n
  front k d from to =
      let within : k < length xs = omega arith in
      let same : get_or xs k d ≡ get_or xs k 0 = get_or_default xs k d 0 within in
      low_test (get_or xs k d) u (omega (arith, same, low k to))

  module _ (high : n < length xs → u ≤ get_or xs n 0) where
    back : AllWithin (λ y. is_lt (nat_cmp y u) ≡ false) xs n (length xs)
    back k d from to =
        let within : n < length xs = omega arith in
        let least : u ≤ get_or xs n 0 = high within in
        let same : get_or xs k d ≡ get_or xs k 0 = get_or_default xs k d 0 to in
        let up : get_or xs n 0 ≤ get_or xs k 0 = by n k from to in
        high_test (get_or xs k d) u (omega (arith, same, least, up))
      where
        by : (n k : ℕ) → n ≤ k → k < length xs → get_or xs n 0 ≤ get_or xs k 0
        by n k from to = by_bool (nat_lt n k)
            (λ e. let l : n < k = grind (arith, nat_tests) in let m = ascends_at xs n k a l to in omega arith)
            (λ e. let s : n ≡ k = grind (arith, nat_tests) in rw s (omega arith))

    -- how many are below
    pub counted : n ≡ count_by (λ y. is_lt (nat_cmp y u)) xs
    counted = count_from_point (λ y. is_lt (nat_cmp y u)) xs n in_reach (front, back)

    -- whether it is the first that isn't below
    pub found : n < length xs → (get_or xs n 0 == u) ≡ has nat_cmp xs u
    found within = by_bool (get_or xs n 0 == u)
        (λ e. e ∙ sym ((stands nat_cmp order u xs n 0 a within front (eq_test (get_or xs n 0) u (high within) ∙ e)).there))
        (λ e. e ∙ sym ((belongs nat_cmp order u xs n a in_reach front back (λ d h. ap (λ y. is_eq (nat_cmp y u)) (get_or_default xs n d 0 h) ∙ eq_test (get_or xs n 0) u (high h) ∙ e)).missing))

  -- where the first that isn't below is above
  pub missing : (n < length xs → u < get_or xs n 0) → false ≡ has nat_cmp xs u
  missing above =
      let high : n < length xs → u ≤ get_or xs n 0 = λ h. (let l = above h in omega arith) in
      sym ((belongs nat_cmp order u xs n a in_reach front (back high) (λ d h. ap (λ y. is_eq (nat_cmp y u)) (get_or_default xs n d 0 h) ∙ eq_test (get_or xs n 0) u (high h) ∙ not_equal (get_or xs n 0) (above h))).missing)
    where
      not_equal : (x : ℕ) → u < x → (x == u) ≡ false
      not_equal x h = grind (arith, nat_tests)

-- blocks are parted by their first numbers
pub starts_parted : (bytes : List ℕ) (starts : List Start) (xs : List ℕ) (u : ℕ) → ((k : ℕ) (d : Start) → k < length starts → IsStart bytes xs (128 * k) (get_or starts k d)) → Ascends nat_cmp xs → IsPartitionedBy (λ (s : Start). nat_le s.first u) starts
starts_parted bytes starts xs u is a i j d le lt e =
    let si = is i d (omega arith) in
    let sj = is j d lt in
    let low : (get_or starts j d).first ≤ u = grind (arith, nat_tests) in
    by_bool (nat_lt i j)
    (λ f. let l : i < j = grind (arith, nat_tests) in
    let m = ascends_at xs (128 * i) (128 * j) a (omega arith) sj.within in
    let le : (get_or starts i d).first ≤ u = omega (arith, m, si.first, sj.first, low) in
    grind (arith, nat_tests))
    (λ f. let s : i ≡ j = grind (arith, nat_tests) in rw s e)
