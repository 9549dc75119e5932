-- What ascending operations say of a posting, by the place where they are no longer below it.
use Rattle.std.proofs.Common.{◌≡◌, ℕ, zero, suc, ◌<◌, ◌≤◌, Bool, true, false, cond, List, [], ◌∷◌, length, get_or, refl, ap, subst, sym, ◌∙◌, arith}
use Rattle.std.specs.List.{AllByRecursion, AllWithin}
use Rattle.std.specs.List.Sorted.{IsPartitionedBy}
use Rattle.std.specs.declared.cmp.Ordering.{Ordering}
use Rattle.std.specs.declared.cmp.Ordering.TheVariants.{Less, Equal, Greater}
use Rattle.std.specs.Ordering.{is_eq, is_lt}
use Rattle.dg_values.specs.Order.{posting_cmp}
use Rattle.dg_values.specs.Ascending.{Ascends}
use Rattle.dg_values.specs.declared.value.Posting.{Posting}
use Rattle.dg_values.proofs.OrderLaws.{posting_total, posting_order}
use Rattle.dg_sets.proofs.Sets.{is_one}
use Rattle.dg_sets.proofs.Merges.{all_at, turned_back}
use Rattle.dg_delta.specs.declared.op.Op.{Op}
use Rattle.dg_delta.specs.Ops.{posting_of, op_cmp}
use Rattle.dg_delta.specs.Effects.{is_set}
use Rattle.dg_delta.proofs.OpLaws.{hits, there_after, missed}

-- the operation is on a posting below this one
abbrev pub falls_below : Posting → Op → Bool
falls_below q op = is_lt (posting_cmp (posting_of op) q)

less_from : (v : Ordering) → is_lt v ≡ true → v ≡ Less
less_from Less e = refl
less_from Equal e = cc
less_from Greater e = cc

greater_from : (v : Ordering) → is_lt v ≡ false → is_eq v ≡ false → v ≡ Greater
greater_from Less e f = cc
greater_from Equal e f = cc
greater_from Greater e f = refl

-- those below come first
pub parted : (q : Posting) (ops : List Op) → Ascends op_cmp ops → IsPartitionedBy (falls_below q) ops
parted q [] a i j d le lt e = absurd (omega arith)
parted q (op ∷ ops) a zero zero d le lt e = e
parted q (op ∷ ops) a zero (suc j) d le lt e =
    let next = get_or ops j d in
    ap is_lt (posting_total.trans (posting_of op) (posting_of next) q (all_at (λ other. op_cmp op other ≡ Less) ops j d a.0 (omega arith)) (less_from (posting_cmp (posting_of next) q) e))
parted q (op ∷ ops) a (suc i) zero d le lt e = absurd (omega arith)
parted q (op ∷ ops) a (suc i) (suc j) d le lt e = parted q ops a.1 i j d (omega arith) (omega arith) e

skipped : (op : Op) (ops : List Op) (q : Posting) (was : Bool) → falls_below q op ≡ true → there_after (op ∷ ops) q was ≡ there_after ops q was
skipped op ops q was e = ap (λ v. there_after ops q (cond (is_eq v) (is_set op) was)) (less_from (posting_cmp (posting_of op) q) e)

-- the one that is found says it
pub found_says : (ops : List Op) (i : ℕ) (q : Posting) (op : Op) (was : Bool) → Ascends op_cmp ops → i < length ops → AllWithin (λ o. falls_below q o ≡ true) ops 0 i → op ≡ get_or ops i op → hits op q ≡ true → there_after ops q was ≡ is_set op
found_says [] i q op was a lt f e h = absurd (omega arith)
found_says (o ∷ os) zero q op was a lt f e h =
    let here : hits o q ≡ true = subst (λ (p : Op). hits p q ≡ true) e h in
    let above : AllByRecursion (λ other. posting_cmp q (posting_of other) ≡ Less) os = subst (λ (p : Posting). AllByRecursion (λ other. posting_cmp p (posting_of other) ≡ Less) os) (is_one posting_cmp posting_order (posting_of o) q here) a.0 in
    ap (λ v. there_after os q (cond v (is_set o) was)) here ∙ missed q os (is_set o) above ∙ ap is_set (sym e)
found_says (o ∷ os) (suc i) q op was a lt f e h =
    skipped o os q was (f zero o (omega arith) (omega arith)) ∙ found_says os i q op was a.1 (omega arith) (λ k d p r. f (suc k) d (omega arith) (omega arith)) e h

-- where none is found, nothing is said
pub none_says : (ops : List Op) (i : ℕ) (q : Posting) (was : Bool) → Ascends op_cmp ops → i ≤ length ops → AllWithin (λ o. falls_below q o ≡ true) ops 0 i → AllWithin (λ o. falls_below q o ≡ false) ops i (length ops) → ((d : Op) → i < length ops → hits (get_or ops i d) q ≡ false) → there_after ops q was ≡ was
none_says [] zero q was a le f b n = refl
none_says [] (suc i) q was a le f b n = absurd (omega arith)
none_says (o ∷ os) zero q was a le f b n =
    let g : posting_cmp (posting_of o) q ≡ Greater = greater_from (posting_cmp (posting_of o) q) (b zero o (omega arith) (omega arith)) (n o (omega arith)) in
    let l : posting_cmp q (posting_of o) ≡ Less = turned_back posting_cmp posting_total (posting_of o) q g in
    ap (λ v. there_after os q (cond (is_eq v) (is_set o) was)) g ∙ missed q os was (above q o os l a.0)
  where
    above : (p : Posting) (op : Op) (ops : List Op) → posting_cmp p (posting_of op) ≡ Less → AllByRecursion (λ other. op_cmp op other ≡ Less) ops → AllByRecursion (λ other. posting_cmp p (posting_of other) ≡ Less) ops
    above p op [] l a = tt
    above p op (x ∷ xs) l a = (posting_total.trans p (posting_of op) (posting_of x) l a.0, above p op xs l a.1)
none_says (o ∷ os) (suc i) q was a le f b n =
    skipped o os q was (f zero o (omega arith) (omega arith)) ∙ none_says os i q was a.1 (omega arith) (λ k d p r. f (suc k) d (omega arith) (omega arith)) (λ k d p r. b (suc k) d (omega arith) (omega arith)) (λ d p. n d (omega arith))
