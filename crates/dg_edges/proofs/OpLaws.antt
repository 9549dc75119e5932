-- Which operations lead from one list to another.
use Rattle.std.proofs.Common.{◌≡◌, Bool, true, false, not, List, [], ◌∷◌, fold, map, refl, ap, subst, sym, ◌∙◌}
use Rattle.std.specs.Prelude.{◌&&◌, ◌||◌}
use Rattle.std.specs.List.{AllByRecursion}
use Rattle.std.specs.declared.cmp.Ordering.{Ordering}
use Rattle.std.specs.declared.cmp.Ordering.TheVariants.{Less, Equal, Greater}
use Rattle.std.specs.Ordering.{is_eq}
use Rattle.dg_values.specs.Ascending.{Ascends, has, placed, with_one}
use Rattle.dg_values.specs.Order.{posting_cmp}
use Rattle.dg_values.specs.declared.value.Posting.{Posting}
use Rattle.dg_values.proofs.OrderLaws.{posting_order}
use Rattle.dg_sets.proofs.Sets.{is_itself, from_each, has_passed, ascends_passed, has_more, ascends_more}
use Rattle.dg_delta.specs.declared.op.Op.{Op}
use Rattle.dg_delta.specs.declared.op.Op.TheVariants.{Set, Del}
use Rattle.dg_delta.specs.Ops.{posting_of, op_cmp, missing, changes_between}

-- ---- the postings of operations

postings_with : (ops : List Op) (op : Op) → map posting_of (with_one op_cmp ops op) ≡ with_one posting_cmp (map posting_of ops) (posting_of op)
postings_with [] op = refl
postings_with (o ∷ ops) op = by (op_cmp op o) (postings_with ops op)
  where
    by : (v : Ordering) → map posting_of (with_one op_cmp ops op) ≡ with_one posting_cmp (map posting_of ops) (posting_of op) → map posting_of (placed v op o ops (with_one op_cmp ops op)) ≡ placed v (posting_of op) (posting_of o) (map posting_of ops) (with_one posting_cmp (map posting_of ops) (posting_of op))
    by Less e = refl
    by Equal e = refl
    by Greater e = ap (λ (os : List Posting). posting_of o ∷ os) e

postings_more : (base ops : List Op) → map posting_of (fold (with_one op_cmp) base ops) ≡ fold (with_one posting_cmp) (map posting_of base) (map posting_of ops)
postings_more base [] = refl
postings_more base (op ∷ ops) = postings_more (with_one op_cmp base op) ops ∙ ap (λ (os : List Posting). fold (with_one posting_cmp) os (map posting_of ops)) (postings_with base op)

of_dels : (os : List Posting) → map posting_of (map Del os) ≡ os
of_dels [] = refl
of_dels (o ∷ os) = ap (λ (ps : List Posting). o ∷ ps) (of_dels os)

of_sets : (os : List Posting) → map posting_of (map Set os) ≡ os
of_sets [] = refl
of_sets (o ∷ os) = ap (λ (ps : List Posting). o ∷ ps) (of_sets os)

pub postings_between : (old new : List Posting) → map posting_of (changes_between old new) ≡ fold (with_one posting_cmp) (missing new old) (missing old new)
postings_between old new = postings_more (map Del (missing new old)) (map Set (missing old new)) ∙ λ i. fold (with_one posting_cmp) (of_dels (missing new old) i) (of_sets (missing old new) i)

-- ---- they ascend

each_above : (op : Op) (ops : List Op) → AllByRecursion (λ o. posting_cmp (posting_of op) o ≡ Less) (map posting_of ops) → AllByRecursion (λ o. op_cmp op o ≡ Less) ops
each_above op [] a = tt
each_above op (o ∷ ops) a = (a.0, each_above op ops a.1)

ops_ascend : (ops : List Op) → Ascends posting_cmp (map posting_of ops) → Ascends op_cmp ops
ops_ascend [] a = tt
ops_ascend (op ∷ ops) a = (each_above op ops a.0, ops_ascend ops a.1)

pub between_ascends : (old new : List Posting) → Ascends posting_cmp old → Ascends op_cmp (changes_between old new)
between_ascends old new a =
    ops_ascend (changes_between old new) (subst (λ (os : List Posting). Ascends posting_cmp os) (sym (postings_between old new))
    (ascends_more posting_cmp posting_order (missing new old) (missing old new) (ascends_passed posting_cmp posting_order (λ o. not (has posting_cmp new o)) old a)))

-- ---- which postings they have

pub between_has : (old new : List Posting) (o : Posting) → has posting_cmp (map posting_of (changes_between old new)) o ≡ ((not (has posting_cmp new o) && has posting_cmp old o) || (not (has posting_cmp old o) && has posting_cmp new o))
between_has old new o =
    ap (λ (os : List Posting). has posting_cmp os o) (postings_between old new)
    ∙ (has_more posting_cmp posting_order (missing new old) (missing old new) o
    ∙ λ i. has_passed posting_cmp posting_order (λ w. not (has posting_cmp new w)) old o i || has_passed posting_cmp posting_order (λ w. not (has posting_cmp old w)) new o i)

-- a list without elements
pub nothing : (os : List Posting) → ((o : Posting) → has posting_cmp os o ≡ false) → os ≡ []
nothing [] f = refl
nothing (o ∷ os) f = absurd (none (is_eq (posting_cmp o o)) (has posting_cmp os o) (is_itself posting_cmp posting_order o) (f o))
  where
    none : (a b : Bool) → a ≡ true → (a || b) ≡ false → ⊥
    none true b e f = cc
    none false b e f = cc

none_missing : (os : List Posting) → missing os os ≡ []
none_missing os = nothing (missing os os) (λ o. has_passed posting_cmp posting_order (λ w. not (has posting_cmp os w)) os o ∙ never (has posting_cmp os o))
  where
    never : (b : Bool) → (not b && b) ≡ false
    never true = refl
    never false = refl

pub none_between : (os : List Posting) → changes_between os os ≡ []
none_between os = λ i. fold (with_one op_cmp) (map Del (none_missing os i)) (map Set (none_missing os i))

-- ---- none leaves its posting as it was

abbrev pub Differs : List Posting → List Posting → Op → Type 0
Differs old new op = has posting_cmp old (posting_of op) ≡ has posting_cmp new (posting_of op) → ⊥

all_postings : (P : Posting → Type 0) (ops : List Op) → AllByRecursion P (map posting_of ops) → AllByRecursion (λ op. P (posting_of op)) ops
all_postings P [] a = tt
all_postings P (op ∷ ops) a = (a.0, all_postings P ops a.1)

pub between_differs : (old new : List Posting) → AllByRecursion (Differs old new) (changes_between old new)
between_differs old new =
    all_postings (λ o. has posting_cmp old o ≡ has posting_cmp new o → ⊥) (changes_between old new)
    (from_each posting_cmp posting_order (λ o. has posting_cmp old o ≡ has posting_cmp new o → ⊥) (map posting_of (changes_between old new)) (λ o h. apart (has posting_cmp old o) (has posting_cmp new o) (sym (between_has old new o) ∙ h)))
  where
    apart : (a b : Bool) → ((not b && a) || (not a && b)) ≡ true → a ≡ b → ⊥
    apart true true e f = cc
    apart true false e f = cc
    apart false true e f = cc
    apart false false e f = cc

-- each posting that differs has one
pub between_covers : (old new : List Posting) (o : Posting) → (has posting_cmp old o ≡ has posting_cmp new o → ⊥) → has posting_cmp (map posting_of (changes_between old new)) o ≡ true
between_covers old new o ne = between_has old new o ∙ apart (has posting_cmp old o) (has posting_cmp new o) ne
  where
    apart : (a b : Bool) → (a ≡ b → ⊥) → ((not b && a) || (not a && b)) ≡ true
    apart true true f = absurd (f refl)
    apart true false f = refl
    apart false true f = refl
    apart false false f = absurd (f refl)
