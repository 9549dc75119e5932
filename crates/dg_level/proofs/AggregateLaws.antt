-- The least and the greatest of values, and the sum of the numbers among them, value by value.
use Rattle.std.proofs.Common.{◌≡◌, ℕ, ◌+◌, ◌<◌, ◌≤◌, ◌⊎◌, inl, inr, ℤ, pos, negsuc, ◌+ℤ◌, true, false, List, [], ◌∷◌, ◌++◌, flat_map, fold, take, length, get_or, refl, sym, ap, ◌∙◌, subst, arith, append-nil}
use Rattle.std.specs.Prelude.{if◌then◌else◌, Option, Some, is_some, reverse, unsigned_abs}
use Rattle.std.specs.Option.{option_or}
use Rattle.std.specs.Fmt.{signed_decimal}
use Rattle.std.specs.declared.cmp.Ordering.{Ordering}
use Rattle.std.specs.declared.cmp.Ordering.TheVariants.{Less, Equal, Greater}
use Rattle.std.specs.Ordering.{is_lt, is_gt}
use Rattle.std.proofs.lemmas.Bool.{false≢true}
use Rattle.std.proofs.lemmas.List.{reverse-append, take_more}
use Rattle.std.proofs.lemmas.List.Concat.{flat_map-append}
use Rattle.std.proofs.lemmas.List.Sums.{fold-append}
use borrow.Author.Differences.{up, down, sum_is_lem}
use Rattle.dg_values.specs.declared.value.Value.{Value}
use Rattle.dg_values.specs.declared.value.Value.TheVariants as values
use Rattle.dg_values.specs.Ascending.{Ascends, placed, with_one, ascending}
use Rattle.dg_values.specs.Order.{value_cmp}
use Rattle.dg_values.proofs.OrderLaws.{value_order}
use Rattle.dg_sets.proofs.OnceEach.{ascending_ascends}
use Rattle.dg_parse.specs.declared.query.AggOp.{AggOp}
use Rattle.dg_parse.specs.declared.query.AggOp.TheVariants as ops
use Rattle.dg_tree.specs.declared.tree.Tree.TheVariants as trees
use Rattle.dg_tree.specs.declared.tree.Tree.TheOpen.{Tree-F}
use Rattle.dg_tree.specs.declared.tree.Tree.TheFolds.{fold-roll-Tree}
use Rattle.dg_tree.specs.Texts.{text_of_tree, text_of_field, tree_text}
use Rattle.dg_level.specs.Aggregates.{number_in, sum_of, aggregate}
use Rattle.dg_level.specs.declared.folds.Found.{Found}
use Rattle.dg_level.specs.Folded.{found_in}
use Rattle.dg_level.specs.Lists.{first_value}
use Rattle.dg_level.specs.PlannedAggregates.{lesser, greater, text_where}

-- one more in ascending order
ascending_more : (values : List Value) (i : ℕ) (value : Value) → i < length values → value ≡ get_or values i value → ascending value_cmp (take (i + 1) values) ≡ with_one value_cmp (ascending value_cmp (take i values)) value
ascending_more values i value lt is = ap (ascending value_cmp) (take_more values i value lt ∙ ap (λ v. take i values ++ v ∷ []) (sym is)) ∙ fold-append (with_one value_cmp) [] (take i values) (value ∷ [])

-- ---- the least

-- the first once a value is put in at its place
put_first : (ys : List Value) (x : Value) → Some (lesser (first_value ys) x) ≡ first_value (with_one value_cmp ys x)
put_first [] x = refl
put_first (y ∷ ys) x = by (value_cmp x y)
  where
    by : (o : Ordering) → Some (if is_lt o then x else y) ≡ first_value (placed o x y ys (with_one value_cmp ys x))
    by Less = refl
    by Equal = refl
    by Greater = refl

pub least_more : (values : List Value) (i : ℕ) (value : Value) → i < length values → value ≡ get_or values i value → (so_far : Option Value) → so_far ≡ first_value (ascending value_cmp (take i values))
    → Some (lesser so_far value) ≡ first_value (ascending value_cmp (take (i + 1) values))
least_more values i value lt is so_far known =
    ap (λ o. Some (lesser o value)) known ∙ put_first (ascending value_cmp (take i values)) value ∙ ap first_value (sym (ascending_more values i value lt is))

-- ---- the greatest

-- the last of a value and those after it
abbrev last_of : Value → List Value → Value
last_of y [] = y
last_of y (z ∷ zs) = last_of z zs

first_joined : (xs ys : List Value) → first_value (xs ++ ys) ≡ option_or (first_value xs) (first_value ys)
first_joined [] ys = refl
first_joined (x ∷ xs) ys = refl

last_first : (y : Value) (ys : List Value) → first_value (reverse (y ∷ ys)) ≡ Some (last_of y ys)
last_first y [] = refl
last_first y (z ∷ zs) =
    ap first_value (reverse-append (y ∷ []) (z ∷ zs)) ∙ first_joined (reverse (z ∷ zs)) (reverse (y ∷ [])) ∙ ap (λ o. option_or o (first_value (reverse (y ∷ [])))) (last_first z zs)

-- what is below the first is below the last
below_last : (y : Value) (ys : List Value) → Ascends value_cmp (y ∷ ys) → (x : Value) → value_cmp x y ≡ Less → value_cmp x (last_of y ys) ≡ Less
below_last y [] a x less = less
below_last y (z ∷ zs) a x less = below_last z zs a.1 x (value_order.trans x y z less a.0.0)

-- what is the first isn't above the last
first_below : (y : Value) (ys : List Value) → Ascends value_cmp (y ∷ ys) → (x : Value) → value_cmp x y ≡ Equal → is_gt (value_cmp x (last_of y ys)) ≡ false
first_below y [] a x same = ap is_gt same
first_below y (z ∷ zs) a x same = ap is_gt (below_last z zs a.1 x (subst (λ (v : Value). value_cmp v z ≡ Less) (sym (value_order.same x y same)) a.0.0))

not_greater : (last x : Value) → is_gt (value_cmp x last) ≡ false → Some last ≡ Some (greater (Some last) x)
not_greater last x below = ap (λ b. Some (if b then x else last)) (sym below)

-- a value before others changes nothing of the last
ahead : (o : Ordering) (y x z : Value) (zs more : List Value) → first_value (reverse (y ∷ placed o x z zs more)) ≡ first_value (reverse (placed o x z zs more))
ahead Less y x z zs more = last_first y (x ∷ z ∷ zs) ∙ sym (last_first x (z ∷ zs))
ahead Equal y x z zs more = last_first y (z ∷ zs) ∙ sym (last_first z zs)
ahead Greater y x z zs more = last_first y (z ∷ more) ∙ sym (last_first z more)

put_by : (o : Ordering) (y : Value) (ys : List Value) → Ascends value_cmp (y ∷ ys) → (x : Value) → value_cmp x y ≡ o
    → (value_cmp x y ≡ Greater → first_value (reverse (y ∷ with_one value_cmp ys x)) ≡ Some (greater (Some (last_of y ys)) x))
    → first_value (reverse (placed o x y ys (with_one value_cmp ys x))) ≡ Some (greater (Some (last_of y ys)) x)
put_by Less y ys a x is after = last_first x (y ∷ ys) ∙ not_greater (last_of y ys) x (ap is_gt (below_last y ys a x is))
put_by Equal y ys a x is after = last_first y ys ∙ not_greater (last_of y ys) x (first_below y ys a x is)
put_by Greater y ys a x is after = after is

-- the last once a value is put in at its place
put_last : (y : Value) (ys : List Value) → Ascends value_cmp (y ∷ ys) → (x : Value) → first_value (reverse (with_one value_cmp (y ∷ ys) x)) ≡ Some (greater (Some (last_of y ys)) x)
put_last y [] a x = put_by (value_cmp x y) y [] a x refl (λ above. ap (λ o. Some (if is_gt o then x else y)) (sym above))
put_last y (z ∷ zs) a x = put_by (value_cmp x y) y (z ∷ zs) a x refl (λ above. ahead (value_cmp x z) y x z zs (with_one value_cmp zs x) ∙ put_last z zs a.1 x)

put_in : (ys : List Value) → Ascends value_cmp ys → (x : Value) → Some (greater (first_value (reverse ys)) x) ≡ first_value (reverse (with_one value_cmp ys x))
put_in [] a x = refl
put_in (y ∷ ys) a x = ap (λ o. Some (greater o x)) (last_first y ys) ∙ sym (put_last y ys a x)

pub greatest_more : (values : List Value) (i : ℕ) (value : Value) → i < length values → value ≡ get_or values i value → (so_far : Option Value) → so_far ≡ first_value (reverse (ascending value_cmp (take i values)))
    → Some (greater so_far value) ≡ first_value (reverse (ascending value_cmp (take (i + 1) values)))
greatest_more values i value lt is so_far known =
    ap (λ o. Some (greater o value)) known
    ∙ put_in (ascending value_cmp (take i values)) (ascending_ascends value_cmp value_order (take i values)) value
    ∙ ap (λ vs. first_value (reverse vs)) (sym (ascending_more values i value lt is))

-- ---- the sum

sum_with : (ns : List ℤ) (value : Value) → sum_of (ns ++ number_in value) ≡ sum_of ns +ℤ sum_of (number_in value)
sum_with ns (values.Int n) = fold-append (λ a b. a +ℤ b) (pos 0) ns (n ∷ []) ∙ grind arith
sum_with ns (values.Bool b) = ap sum_of (append-nil ns) ∙ grind arith
sum_with ns (values.Text text) = ap sum_of (append-nil ns) ∙ grind arith
sum_with ns (values.Time moment) = ap sum_of (append-nil ns) ∙ grind arith

pub sum_more : (values : List Value) (i : ℕ) (value : Value) → i < length values → value ≡ get_or values i value → (so_far : ℤ) → so_far ≡ sum_of (flat_map number_in (take i values))
    → so_far +ℤ sum_of (number_in value) ≡ sum_of (flat_map number_in (take (i + 1) values))
sum_more values i value lt is so_far known =
    ap (λ n. n +ℤ sum_of (number_in value)) known
    ∙ sym (sum_with (flat_map number_in (take i values)) value)
    ∙ ap sum_of (
    ap (λ ns. flat_map number_in (take i values) ++ ns) (sym (append-nil (number_in value)))
    ∙ sym (flat_map-append number_in (take i values) (value ∷ []))
    ∙ ap (flat_map number_in) (sym (take_more values i value lt ∙ ap (λ v. take i values ++ v ∷ []) (sym is)))
    )

-- one of the two parts of a number is 0
one_part : (z : ℤ) → (up z ≡ 0) ⊎ (down z ≡ 0)
one_part (pos n) = inr refl
one_part (negsuc n) = inl refl

abs_parts : (z : ℤ) → unsigned_abs z ≡ up z + down z
abs_parts (pos n) = omega arith
abs_parts (negsuc n) = omega arith

-- a sum is no farther from 0 than both numbers together
pub abs_sum : (a b : ℤ) → unsigned_abs (a +ℤ b) ≤ unsigned_abs a + unsigned_abs b
abs_sum a b = omega (arith, sum_is_lem a b, abs_parts a, abs_parts b, abs_parts (a +ℤ b), one_part a, one_part b, one_part (a +ℤ b))

-- ---- where there are values

-- something is first among values, one of which is put in at its place
kept_by : (o : Ordering) (x y : Value) (ys more later : List Value) → ((z : Value) (zs : List Value) → is_some (first_value (fold (with_one value_cmp) (z ∷ zs) later)) ≡ true) → is_some (first_value (fold (with_one value_cmp) (placed o x y ys more) later)) ≡ true
kept_by Less x y ys more later some = some x (y ∷ ys)
kept_by Equal x y ys more later some = some y ys
kept_by Greater x y ys more later some = some y more

some_first : (later : List Value) (y : Value) (ys : List Value) → is_some (first_value (fold (with_one value_cmp) (y ∷ ys) later)) ≡ true
some_first [] y ys = refl
some_first (x ∷ later) y ys = kept_by (value_cmp x y) x y ys (with_one value_cmp ys x) later (λ z zs. some_first later z zs)

some_last : (ys : List Value) → is_some (first_value ys) ≡ true → is_some (first_value (reverse ys)) ≡ true
some_last [] some = absurd (false≢true some)
some_last (y ∷ ys) some = ap is_some (last_first y ys)

-- an aggregate gives a value of any values
pub some_found : (op : AggOp) (all : List Value) → 0 < length all → is_some (aggregate op all) ≡ true
some_found op [] some = absurd (omega (arith, some))
some_found ops.Min (value ∷ more) some = some_first more value []
some_found ops.Max (value ∷ more) some = some_last (ascending value_cmp (value ∷ more)) (some_first more value [])
some_found ops.Sum (value ∷ more) some = refl

-- ---- the text of a sum

pub sum_text : (all : List Value) → 0 < length all → (text : List ℕ) → text ≡ signed_decimal (sum_of (flat_map number_in all)) → text ≡ text_where (aggregate ops.Sum all)
sum_text [] some text is = absurd (omega (arith, some))
sum_text (value ∷ more) some text is =
    let n = sum_of (flat_map number_in (value ∷ more)) in
    is ∙ sym (ap tree_text (sym (trees.rolls-Int n)) ∙ fold-roll-Tree (List ℕ) (List ℕ) text_of_tree text_of_field (Tree-F.Int n))

-- ---- what was found

-- there are values where something is the least of them, and none where nothing is
pub some_values : (all : List Value) (found : Found) → found ≡ found_in all → is_some found.least ≡ true → 0 < length all
some_values [] found is some = absurd (false≢true (sym (ap (λ (f : Found). is_some f.least) is) ∙ some))
some_values (value ∷ more) found is some = omega arith

pub no_values : (all : List Value) (found : Found) → found ≡ found_in all → is_some found.least ≡ false → all ≡ []
no_values [] found is none = refl
no_values (value ∷ more) found is none = absurd (false≢true (sym none ∙ ap (λ (f : Found). is_some f.least) is ∙ some_found ops.Min (value ∷ more) (omega arith)))
