-- Operations that stand on as many postings of a list as it has stand on all of it.
use Rattle.std.proofs.Common.{◌≡◌, ◌∙◌, sym, ap, refl, arith, ℕ, suc, ◌≤◌, Bool, true, false, cond, List, [], ◌∷◌, length, map}
use Rattle.std.specs.Prelude.{◌&&◌, ◌||◌, filter, nat_le, ◌==◌}
use Rattle.std.specs.List.{AllByRecursion, list_all}
use Rattle.std.specs.declared.cmp.Ordering.TheVariants.{Less}
use Rattle.std.proofs.lemmas.Bool.Decides.{nat_tests}
use Rattle.std.specs.Ordering.{is_eq}
use Rattle.dg_values.specs.Ascending.{Ascends, has}
use Rattle.dg_values.specs.Order.{posting_cmp}
use Rattle.dg_values.specs.declared.value.Posting.{Posting}
use Rattle.dg_values.proofs.OrderLaws.{posting_order}
use Rattle.dg_sets.proofs.Sets.{one_list, has_passed, ascends_passed}
use Rattle.dg_delta.specs.declared.op.Op.{Op}
use Rattle.dg_delta.specs.Ops.{posting_of, op_cmp}
use Rattle.dg_list.specs.Gathered.{stand_on, stand_on_all}
use Rattle.dg_list.proofs.OpLemmas.{IsCovered, all_from_covered}

-- ---- how many pass a test

few_pass : {X : Type 0} (p : X → Bool) (xs : List X) → length (filter p xs) ≤ length xs
few_pass p [] = omega arith
few_pass p (x ∷ xs) = by (p x) (few_pass p xs)
  where
    by : (v : Bool) → length (filter p xs) ≤ length xs → length (cond v (x ∷ filter p xs) (filter p xs)) ≤ length (x ∷ xs)
    by true h = omega (arith, h)
    by false h = omega (arith, h)

both_next : (m n : ℕ) → (suc m == suc n) ≡ (m == n)
both_next m n = grind (arith, nat_tests)

-- all do where it is as many as there are
all_pass : {X : Type 0} (p : X → Bool) (xs : List X) → (length (filter p xs) == length xs) ≡ list_all p xs
all_pass p [] = refl
all_pass p (x ∷ xs) = by (p x) (few_pass p xs) (all_pass p xs)
  where
    by : (v : Bool) → length (filter p xs) ≤ length xs → (length (filter p xs) == length xs) ≡ list_all p xs → (length (cond v (x ∷ filter p xs) (filter p xs)) == length (x ∷ xs)) ≡ (v && list_all p xs)
    by true h e = both_next (length (filter p xs)) (length xs) ∙ e
    by false h e = grind (arith, nat_tests)

alike_pass : {X : Type 0} (p q : X → Bool) → ((x : X) → p x ≡ q x) → (xs : List X) → filter p xs ≡ filter q xs
alike_pass p q e [] = refl
alike_pass p q e (x ∷ xs) = (λ i. cond (e x i) (x ∷ alike_pass p q e xs i) (alike_pass p q e xs i))

mapped_pass : {X Y : Type 0} (p : Y → Bool) (f : X → Y) (xs : List X) → length (filter p (map f xs)) ≡ length (filter (λ x. p (f x)) xs)
mapped_pass p f [] = refl
mapped_pass p f (x ∷ xs) = by (p (f x)) (mapped_pass p f xs)
  where
    by : (v : Bool) → length (filter p (map f xs)) ≡ length (filter (λ y. p (f y)) xs) → length (cond v (f x ∷ filter p (map f xs)) (filter p (map f xs))) ≡ length (cond v (x ∷ filter (λ y. p (f y)) xs) (filter (λ y. p (f y)) xs))
    by true e = ap suc e
    by false e = e

-- ---- the postings of operations

ascend_each : (op : Op) (ops : List Op) → AllByRecursion (λ other. op_cmp op other ≡ Less) ops → AllByRecursion (λ p. posting_cmp (posting_of op) p ≡ Less) (map posting_of ops)
ascend_each op [] a = tt
ascend_each op (o ∷ os) a = (a.0, ascend_each op os a.1)

postings_ascend : (ops : List Op) → Ascends op_cmp ops → Ascends posting_cmp (map posting_of ops)
postings_ascend [] a = tt
postings_ascend (op ∷ ops) a = (ascend_each op ops a.0, postings_ascend ops a.1)

stood_is_there : (ops : List Op) (q : Posting) → stand_on ops q ≡ has posting_cmp (map posting_of ops) q
stood_is_there [] q = refl
stood_is_there (op ∷ ops) q = ap (λ b. is_eq (posting_cmp (posting_of op) q) || b) (stood_is_there ops q)

and_turn : (a b : Bool) → (a && b) ≡ (b && a)
and_turn true true = refl
and_turn true false = refl
and_turn false true = refl
and_turn false false = refl

-- what two ascending lists share is one list from either side
shared : (xs ys : List Posting) → Ascends posting_cmp xs → Ascends posting_cmp ys → filter (has posting_cmp ys) xs ≡ filter (has posting_cmp xs) ys
shared xs ys a b =
    one_list posting_cmp posting_order (filter (has posting_cmp ys) xs) (filter (has posting_cmp xs) ys)
    (ascends_passed posting_cmp posting_order (has posting_cmp ys) xs a)
    (ascends_passed posting_cmp posting_order (has posting_cmp xs) ys b)
    (λ q. has_passed posting_cmp posting_order (has posting_cmp ys) xs q
    ∙ and_turn (has posting_cmp ys q) (has posting_cmp xs q)
    ∙ sym (has_passed posting_cmp posting_order (has posting_cmp xs) ys q))

module _ (ops : List Op) (base : List Posting) (a : Ascends op_cmp ops) (b : Ascends posting_cmp base) where
  -- as many operations are on its postings as it has postings that they stand on
  counted : length (filter (λ op. has posting_cmp base (posting_of op)) ops) ≡ length (filter (stand_on ops) base)
  counted =
      sym (mapped_pass (has posting_cmp base) posting_of ops)
      ∙ ap length (shared (map posting_of ops) base (postings_ascend ops a) b ∙ sym (alike_pass (stand_on ops) (has posting_cmp (map posting_of ops)) (stood_is_there ops) base))

  all_counted : (length (filter (λ op. has posting_cmp base (posting_of op)) ops) == length base) ≡ stand_on_all ops base
  all_counted = ap (λ n. n == length base) counted ∙ all_pass (stand_on ops) base

  pub counted_tells : (found len : ℕ) → found ≡ length (filter (λ op. has posting_cmp base (posting_of op)) ops) → len ≡ length base → len ≤ length ops → (found == len) ≡ (nat_le (length base) (length ops) && stand_on_all ops base)
  counted_tells found len e f h =
      let fits : nat_le (length base) (length ops) ≡ true = grind (arith, nat_tests) in
      (λ i. e i == f i) ∙ all_counted ∙ sym (ap (λ b. b && stand_on_all ops base) fits)

  -- a list that they stand on all of has no more postings than there are operations
  not_longer : stand_on_all ops base ≡ true → length base ≤ length ops
  not_longer h =
      let whole : (length (filter (stand_on ops) base) == length base) ≡ true = all_pass (stand_on ops) base ∙ h in
      let fewer = few_pass (λ op. has posting_cmp base (posting_of op)) ops in
      let same = counted in
      grind (arith, nat_tests)

  pub base_told : IsCovered ops base → (nat_le (length base) (length ops) && stand_on_all ops base) ≡ true
  base_told c =
      let all = all_from_covered ops base c in
      let short = not_longer all in
      let fits : nat_le (length base) (length ops) ≡ true = grind (arith, nat_tests) in
      rw (fits, all) refl
