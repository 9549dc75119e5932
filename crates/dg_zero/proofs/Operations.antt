-- The operations from one list to another agree with the other.
use Rattle.std.proofs.Common.{◌≡◌, Bool, true, false, not, List, [], ◌∷◌, fold, map, refl, sym, ◌∙◌}
use Rattle.std.specs.Prelude.{◌&&◌}
use Rattle.std.specs.List.{AllByRecursion}
use Rattle.std.specs.declared.cmp.Ordering.{Ordering}
use Rattle.std.specs.declared.cmp.Ordering.TheVariants.{Less, Equal, Greater}
use Rattle.dg_values.specs.Ascending.{has, placed, with_one}
use Rattle.dg_values.specs.Order.{posting_cmp}
use Rattle.dg_values.specs.declared.value.Posting.{Posting}
use Rattle.dg_values.proofs.OrderLaws.{posting_order}
use Rattle.dg_sets.proofs.Sets.{from_each, has_passed}
use Rattle.dg_delta.specs.declared.op.Op.{Op}
use Rattle.dg_delta.specs.declared.op.Op.TheVariants.{Set, Del}
use Rattle.dg_delta.specs.Ops.{op_cmp, missing, changes_between}

-- the operation leaves its posting as the list has it
abbrev pub Agrees : List Posting → Op → Type 0
Agrees new (Set o) = has posting_cmp new o ≡ true
Agrees new (Del o) = has posting_cmp new o ≡ false

all_put : (P : Op → Type 0) (ops : List Op) (op : Op) → P op → AllByRecursion P ops → AllByRecursion P (with_one op_cmp ops op)
all_put P [] op p a = (p, tt)
all_put P (o ∷ ops) op p a = by (op_cmp op o) (all_put P ops op p a.1)
  where
    by : (v : Ordering) → AllByRecursion P (with_one op_cmp ops op) → AllByRecursion P (placed v op o ops (with_one op_cmp ops op))
    by Less r = (p, a)
    by Equal r = a
    by Greater r = (a.0, r)

all_puts : (P : Op → Type 0) (base ops : List Op) → AllByRecursion P base → AllByRecursion P ops → AllByRecursion P (fold (with_one op_cmp) base ops)
all_puts P base [] a b = a
all_puts P base (op ∷ ops) a b = all_puts P (with_one op_cmp base op) ops (all_put P base op b.0 a) b.1

all_dels : (P : Op → Type 0) (os : List Posting) → AllByRecursion (λ o. P (Del o)) os → AllByRecursion P (map Del os)
all_dels P [] a = tt
all_dels P (o ∷ os) a = (a.0, all_dels P os a.1)

all_sets : (P : Op → Type 0) (os : List Posting) → AllByRecursion (λ o. P (Set o)) os → AllByRecursion P (map Set os)
all_sets P [] a = tt
all_sets P (o ∷ os) a = (a.0, all_sets P os a.1)

split_and : (a b : Bool) → (not a && b) ≡ true → (a ≡ false) × (b ≡ true)
split_and true b e = absurd (cc)
split_and false b e = (refl, e)

pub between_agrees : (old new : List Posting) → AllByRecursion (Agrees new) (changes_between old new)
between_agrees old new =
    all_puts (Agrees new) (map Del (missing new old)) (map Set (missing old new))
    (all_dels (Agrees new) (missing new old) (from_each posting_cmp posting_order (λ o. has posting_cmp new o ≡ false) (missing new old) (λ o h. (split_and (has posting_cmp new o) (has posting_cmp old o) (sym (has_passed posting_cmp posting_order (λ w. not (has posting_cmp new w)) old o) ∙ h)).0)))
    (all_sets (Agrees new) (missing old new) (from_each posting_cmp posting_order (λ o. has posting_cmp new o ≡ true) (missing old new) (λ o h. (split_and (has posting_cmp old o) (has posting_cmp new o) (sym (has_passed posting_cmp posting_order (λ w. not (has posting_cmp old w)) new o) ∙ h)).1)))
