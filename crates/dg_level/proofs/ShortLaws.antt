-- A single edge leads to one node at most.
use Rattle.std.proofs.Common.{◌≡◌, ℕ, suc, ◌+◌, ◌≤◌, Bool, true, false, cond, not, List, [], ◌∷◌, fold, take, drop, length, refl, sym, ◌∙◌, subst, arith, true≢false}
use Rattle.std.specs.Prelude.{◌&&◌, ◌||◌, ◌-◌, ℤ, pos, negsuc, Option, Some, None, filter, filter_map, nat_lt}
use Rattle.std.specs.List.{list_any}
use Rattle.std.specs.declared.cmp.Ordering.{Ordering}
use Rattle.std.specs.declared.cmp.Ordering.TheVariants.{Less, Equal, Greater}
use Rattle.std.proofs.lemmas.Bool.{and_parts}
use Rattle.std.proofs.lemmas.List.{length-take, length-drop, length-map}
use Rattle.dg_values.specs.declared.kind.Kind.{Kind}
use Rattle.dg_values.specs.declared.kind.Kind.TheVariants as kinds
use Rattle.dg_values.specs.Ascending.{placed, with_one}
use Rattle.dg_values.specs.declared.value.Value.{Value}
use Rattle.dg_values.specs.declared.value.Posting.{Posting}
use Rattle.dg_values.specs.declared.value.Posting.TheVariants.{Uid, Val}
use Rattle.dg_schema.specs.declared.definition.PredDef.{PredDef}
use Rattle.dg_schema.specs.Definitions.{is_single, is_single_by}
use Rattle.dg_graph.specs.declared.change.Triple.{Triple}
use Rattle.dg_graph.specs.Graphs.{is_of_subject, objects, stands_alone, has_single_objects}
use Rattle.dg_graph.specs.Lookups.{node_in}
use Rattle.dg_graph.proofs.GraphLaws.{same_subject}
use Rattle.dg_parse.specs.declared.query.QArg.{QArg}
use Rattle.dg_shape.specs.Orders.{node_cmp, ordered, first_in, offset_in, after_in, above, past, at_most, page}
use Rattle.dg_level.specs.Shown.{sort_of_kind, sort_of}
use Rattle.dg_level.specs.Planned.{is_single as is_one}

-- ---- lists don't get longer

-- those that pass are no more
pub filter_short : {X : Type 0} (f : X → Bool) (xs : List X) → length (filter f xs) ≤ length xs
filter_short f [] = omega arith
filter_short f (x ∷ xs) = by (f x) (filter_short f xs)
  where
    by : (b : Bool) → length (filter f xs) ≤ length xs → length (cond b (x ∷ filter f xs) (filter f xs)) ≤ suc (length xs)
    by true rest = omega (arith, rest)
    by false rest = omega (arith, rest)

with_short : (cmp : ℕ → ℕ → Ordering) (ys : List ℕ) (x : ℕ) → length (with_one cmp ys x) ≤ suc (length ys)
with_short cmp [] x = omega arith
with_short cmp (y ∷ ys) x = by (cmp x y) (with_short cmp ys x)
  where
    by : (v : Ordering) → length (with_one cmp ys x) ≤ suc (length ys) → length (placed v x y ys (with_one cmp ys x)) ≤ suc (suc (length ys))
    by Less rest = omega arith
    by Equal rest = omega arith
    by Greater rest = omega (arith, rest)

fold_short : (cmp : ℕ → ℕ → Ordering) (base xs : List ℕ) → length (fold (with_one cmp) base xs) ≤ length base + length xs
fold_short cmp base [] = omega arith
fold_short cmp base (x ∷ xs) = omega (arith, fold_short cmp (with_one cmp base x) xs, with_short cmp base x)

ordered_short : (keys : List (Bool × (ℕ → Option Value))) (xs : List ℕ) → length (ordered keys xs) ≤ length xs
ordered_short keys xs = omega (arith, fold_short (node_cmp keys) [] xs)

take_short : (n : ℕ) (xs : List ℕ) → length (take n xs) ≤ length xs
take_short n xs = omega (arith, length-take n xs)

drop_short : (n : ℕ) (xs : List ℕ) → length (drop n xs) ≤ length xs
drop_short n xs = omega (arith, length-drop n xs)

above_short : (n : Option ℕ) (xs : List ℕ) → length (above n xs) ≤ length xs
above_short None xs = omega arith
above_short (Some n) xs = filter_short (nat_lt n) xs

past_short : (n : Option ℤ) (xs : List ℕ) → length (past n xs) ≤ length xs
past_short None xs = omega arith
past_short (Some (pos n)) xs = drop_short n xs
past_short (Some (negsuc n)) xs = omega arith

most_short : (n : Option ℤ) (xs : List ℕ) → length (at_most n xs) ≤ length xs
most_short None xs = omega arith
most_short (Some (pos n)) xs = take_short n xs
most_short (Some (negsuc n)) xs = drop_short (length xs - suc n) xs

page_short : (args : List QArg) (xs : List ℕ) → length (page args xs) ≤ length xs
page_short args xs =
    let first = above (after_in args) xs in
    let rest = past (offset_in args) first in
    omega (arith, above_short (after_in args) xs, past_short (offset_in args) first, most_short (first_in args) rest)

-- what is put in order and cut isn't longer than what was there
pub list_short : (args : List QArg) (keys : List (Bool × (ℕ → Option Value))) (f : ℕ → Bool) (xs : List ℕ) → length (page args (ordered keys (filter f xs))) ≤ length xs
list_short args keys f xs = omega (arith, page_short args (ordered keys (filter f xs)), ordered_short keys (filter f xs), filter_short f xs)

-- ---- one object at most

none_passes : (f : Triple → Bool) (graph : List Triple) → list_any f graph ≡ false → length (filter f graph) ≤ 0
none_passes f [] e = omega arith
none_passes f (t ∷ graph) e = by (f t) e (λ h. none_passes f graph h)
  where
    by : (b : Bool) → (b || list_any f graph) ≡ false → (list_any f graph ≡ false → length (filter f graph) ≤ 0) → length (cond b (t ∷ filter f graph) (filter f graph)) ≤ 0
    by true h rest = absurd (true≢false h)
    by false h rest = rest h

not_both : (a b : Bool) → not (a && b) ≡ true → a ≡ true → b ≡ false
not_both true true e f = absurd (true≢false (sym e))
not_both true false e f = refl
not_both false b e f = absurd (true≢false (sym f))

one_triple : (schema : List PredDef) (graph : List Triple) (p : List ℕ) (s : ℕ) → has_single_objects schema graph ≡ true → is_single schema p ≡ true → length (filter (is_of_subject p s) graph) ≤ 1
one_triple schema [] p s single e = omega arith
one_triple schema (t ∷ graph) p s single e = by (is_of_subject p s t) refl (one_triple schema graph p s both.1 e)
  where
    both : (stands_alone schema t graph ≡ true) × (has_single_objects schema graph ≡ true)
    both = and_parts (stands_alone schema t graph) (has_single_objects schema graph) single

    others : is_of_subject p s t ≡ true → length (filter (is_of_subject p s) graph) ≤ 0
    others own =
        let same = same_subject p s t own in
        let alone : list_any (is_of_subject t.p t.s) graph ≡ false =
        not_both (is_single schema t.p) (list_any (is_of_subject t.p t.s) graph) both.0 (subst (λ (q : List ℕ). is_single schema q ≡ true) (sym same.0) e) in
        none_passes (is_of_subject p s) graph (sym (λ j. list_any (is_of_subject (same.0 j) (same.1 j)) graph) ∙ alone)

    by : (b : Bool) → is_of_subject p s t ≡ b → length (filter (is_of_subject p s) graph) ≤ 1 → length (cond b (t ∷ filter (is_of_subject p s) graph) (filter (is_of_subject p s) graph)) ≤ 1
    by true own rest = omega (arith, others own)
    by false own rest = rest

nodes_short : (objects : List Posting) → length (filter_map node_in objects) ≤ length objects
nodes_short [] = omega arith
nodes_short (Uid n ∷ objects) = omega (arith, nodes_short objects)
nodes_short (Val v ∷ objects) = omega (arith, nodes_short objects)

-- a node has one node at most by a predicate that is no list
pub one_node : (schema : List PredDef) (graph : List Triple) (p : List ℕ) (s : ℕ) → has_single_objects schema graph ≡ true → is_single schema p ≡ true → length (filter_map node_in (objects graph p s)) ≤ 1
one_node schema graph p s single e =
    omega (arith, nodes_short (objects graph p s), length-map (filter (is_of_subject p s) graph) (λ (t : Triple). t.o), one_triple schema graph p s single e)

-- ---- which edges are single

kind_single : (kind : Kind) (list : Bool) → is_one (sort_of_kind kind list) ≡ true → not list ≡ true
kind_single kinds.Uid true e = absurd (true≢false (sym e))
kind_single kinds.Uid false e = refl
kind_single kinds.Int list e = absurd (true≢false (sym e))
kind_single kinds.Text list e = absurd (true≢false (sym e))
kind_single kinds.Default list e = absurd (true≢false (sym e))
kind_single kinds.Bool list e = absurd (true≢false (sym e))
kind_single kinds.Time list e = absurd (true≢false (sym e))

pub sort_single : (d : Option PredDef) (back : Bool) → is_one (sort_of d back) ≡ true → (back ≡ false) × (is_single_by d ≡ true)
sort_single None back e = absurd (true≢false (sym e))
sort_single (Some d) true e = absurd (true≢false (sym e))
sort_single (Some d) false e = (refl, kind_single d.kind d.list e)
