-- What operations do to ascending lists, posting by posting; and two runs of operations put together.
use Rattle.std.proofs.Common.{◌≡◌, Bool, true, false, cond, List, [], ◌∷◌, refl, ap, subst, sym, ◌∙◌}
use Rattle.std.specs.Prelude.{◌&&◌, ◌||◌, not, Option, unwrap_or}
use Rattle.std.specs.List.{AllByRecursion}
use Rattle.std.specs.declared.cmp.Ordering.{Ordering}
use Rattle.std.specs.declared.cmp.Ordering.TheVariants.{Less, Equal, Greater}
use Rattle.std.specs.Ordering.{is_eq}
use Rattle.std.specs.Cmp.{IsTotalOrder, on_total}
use Rattle.dg_values.specs.Order.{posting_cmp}
use Rattle.dg_values.specs.Ascending.{Ascends, has, placed, with_one}
use Rattle.dg_values.specs.declared.value.Posting.{Posting}
use Rattle.dg_values.proofs.OrderLaws.{posting_total, posting_order}
use Rattle.dg_sets.proofs.Sets.{is_one, eq_turn, one_list, has_with, ascends_with, has_passed, ascends_passed}
use Rattle.dg_sets.proofs.Merges.{turned, joined}
use Rattle.dg_delta.specs.declared.op.Op.{Op}
use Rattle.dg_delta.specs.declared.op.Op.TheVariants.{Set, Del}
use Rattle.dg_delta.specs.Ops.{posting_of, op_cmp, after_op, after_ops}
use Rattle.dg_delta.specs.Effects.{is_set, AppliesBoth, Says}

pub op_total : IsTotalOrder op_cmp
op_total = on_total posting_of posting_total

-- the operation is on this posting
abbrev pub hits : Op → Posting → Bool
hits op q = is_eq (posting_cmp (posting_of op) q)

-- whether the posting is there after operations, where it was there before or not
abbrev pub there_after : List Op → Posting → Bool → Bool
there_after [] q was = was
there_after (op ∷ ops) q was = there_after ops q (cond (hits op q) (is_set op) was)

or_cond : (a b : Bool) → (a || b) ≡ cond a true b
or_cond true b = refl
or_cond false b = refl

and_cond : (a b : Bool) → (not a && b) ≡ cond a false b
and_cond true b = refl
and_cond false b = refl

has_after_op : (op : Op) (xs : List Posting) (q : Posting) → has posting_cmp (after_op xs op) q ≡ cond (hits op q) (is_set op) (has posting_cmp xs q)
has_after_op (Set p) xs q = has_with posting_cmp posting_order xs p q ∙ or_cond (is_eq (posting_cmp p q)) (has posting_cmp xs q)
has_after_op (Del p) xs q =
    has_passed posting_cmp posting_order (λ y. not (is_eq (posting_cmp y p))) xs q
    ∙ ap (λ b. not b && has posting_cmp xs q) (eq_turn posting_cmp posting_order q p)
    ∙ and_cond (is_eq (posting_cmp p q)) (has posting_cmp xs q)

pub has_after : (ops : List Op) (xs : List Posting) (q : Posting) → has posting_cmp (after_ops xs ops) q ≡ there_after ops q (has posting_cmp xs q)
has_after [] xs q = refl
has_after (op ∷ ops) xs q = has_after ops (after_op xs op) q ∙ ap (there_after ops q) (has_after_op op xs q)

ascends_after_op : (op : Op) (xs : List Posting) → Ascends posting_cmp xs → Ascends posting_cmp (after_op xs op)
ascends_after_op (Set p) xs a = ascends_with posting_cmp posting_order xs p a
ascends_after_op (Del p) xs a = ascends_passed posting_cmp posting_order (λ y. not (is_eq (posting_cmp y p))) xs a

pub ascends_after : (ops : List Op) (xs : List Posting) → Ascends posting_cmp xs → Ascends posting_cmp (after_ops xs ops)
ascends_after [] xs a = a
ascends_after (op ∷ ops) xs a = ascends_after ops (after_op xs op) (ascends_after_op op xs a)

-- what is said of a posting for each answer before, is said of it for each list
pub says_from : (ops : List Op) (q : Posting) (answer : Option Bool) → ((was : Bool) → there_after ops q was ≡ unwrap_or answer was) → Says ops q answer
says_from ops q answer f xs a = has_after ops xs q ∙ f (has posting_cmp xs q)

-- ---- operations above a posting leave it to itself

pub missed : (q : Posting) (ops : List Op) (was : Bool) → AllByRecursion (λ op. posting_cmp q (posting_of op) ≡ Less) ops → there_after ops q was ≡ was
missed q [] was a = refl
missed q (op ∷ ops) was a = ap (λ v. there_after ops q (cond (is_eq v) (is_set op) was)) (turned posting_cmp posting_total q (posting_of op) a.0) ∙ missed q ops was a.1

-- an operation before others that are above it, or behind them
pub moved : (op : Op) (ops : List Op) (q : Posting) (was : Bool) → AllByRecursion (λ other. op_cmp op other ≡ Less) ops → there_after ops q (cond (hits op q) (is_set op) was) ≡ cond (hits op q) (is_set op) (there_after ops q was)
moved op ops q was a = by (hits op q) refl
  where
    by : (v : Bool) → hits op q ≡ v → there_after ops q (cond v (is_set op) was) ≡ cond v (is_set op) (there_after ops q was)
    by true e = missed q ops (is_set op) (subst (λ (p : Posting). AllByRecursion (λ other. posting_cmp p (posting_of other) ≡ Less) ops) (is_one posting_cmp posting_order (posting_of op) q e) a)
    by false e = refl

-- ---- operations put into others

two_hits : (a b was e f : Bool) → (a ≡ true → b ≡ true → ⊥) → cond a e (cond b f was) ≡ cond b f (cond a e was)
two_hits true true was e f apart = absurd (apart refl refl)
two_hits true false was e f apart = refl
two_hits false b was e f apart = refl

-- one that is put in counts before the others
put_says : (op : Op) (ops : List Op) (q : Posting) (was : Bool) → there_after (with_one op_cmp ops op) q was ≡ there_after ops q (cond (hits op q) (is_set op) was)
put_says op [] q was = refl
put_says op (o ∷ os) q was = by (op_cmp op o) refl (put_says op os q (cond (hits o q) (is_set o) was))
  where
    both : op_cmp op o ≡ Greater → hits op q ≡ true → hits o q ≡ true → ⊥
    both e h k =
        let first = is_one posting_cmp posting_order (posting_of op) q h in
        let second = is_one posting_cmp posting_order (posting_of o) q k in
        let alike : posting_cmp (posting_of op) (posting_of o) ≡ posting_cmp q q = λ i. posting_cmp (first i) (second i) in
        let same = posting_order.itself q in
        cc

    by : (v : Ordering) → op_cmp op o ≡ v → there_after (with_one op_cmp os op) q (cond (hits o q) (is_set o) was) ≡ there_after os q (cond (hits op q) (is_set op) (cond (hits o q) (is_set o) was)) → there_after (placed v op o os (with_one op_cmp os op)) q was ≡ there_after os q (cond (hits o q) (is_set o) (cond (hits op q) (is_set op) was))
    by Less e rest = refl
    by Equal e rest = ap (there_after os q) (again (hits op q) (hits o q) (ap is_eq (posting_total.congr (posting_of op) (posting_of o) q e)))
      where
        again : (a b : Bool) → a ≡ b → cond b (is_set o) was ≡ cond b (is_set o) (cond a (is_set op) was)
        again a true e = refl
        again true false e = cc
        again false false e = refl
    by Greater e rest = rest ∙ ap (there_after os q) (two_hits (hits op q) (hits o q) was (is_set op) (is_set o) (both e))

-- the older ones put into the newer ones count before them
pub joined_says : (older newer : List Op) (q : Posting) (was : Bool) → Ascends op_cmp older → there_after (joined op_cmp older newer) q was ≡ there_after newer q (there_after older q was)
joined_says [] newer q was a = refl
joined_says (op ∷ ops) newer q was a =
    joined_says ops (with_one op_cmp newer op) q was a.1
    ∙ put_says op newer q (there_after ops q was)
    ∙ ap (there_after newer q) (sym (moved op ops q was a.0))

pub joined_applies : (older newer : List Op) → Ascends op_cmp older → AppliesBoth older newer (joined op_cmp older newer)
joined_applies older newer a xs s =
    one_list posting_cmp posting_order (after_ops xs (joined op_cmp older newer)) (after_ops (after_ops xs older) newer)
    (ascends_after (joined op_cmp older newer) xs s)
    (ascends_after newer (after_ops xs older) (ascends_after older xs s))
    (λ q. has_after (joined op_cmp older newer) xs q
    ∙ joined_says older newer q (has posting_cmp xs q) a
    ∙ sym (has_after newer (after_ops xs older) q ∙ ap (there_after newer q) (has_after older xs q)))
