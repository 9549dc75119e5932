-- How many flat objects there are at least.
use Rattle.std.proofs.Common.{◌≡◌, ℕ, zero, suc, ◌+◌, ◌*◌, ◌<◌, ◌≤◌, Bool, true, false, cond, List, [], ◌∷◌, ◌++◌, length, refl, ap, subst, sym, ◌∙◌, true≢false, length-append, arith}
use Rattle.std.specs.Prelude.{◌&&◌, ◌||◌, map, flat_map, filter, bytes_eq}
use Rattle.std.specs.List.{list_all, list_any}
use Rattle.std.proofs.lemmas.List.{length-map}
use Rattle.dg_tree.specs.declared.tree.Tree.{Tree}
use Rattle.dg_tree.specs.declared.tree.Tree.TheOpen.{Tree-F}
use Rattle.dg_tree.specs.declared.tree.Tree.TheViews.{out-Tree}
use Rattle.dg_tree.specs.declared.tree.Field.{Field}
use Rattle.dg_shape.specs.Normalize.{with_pair, joined, times, has_pair, with_value, Flattened, after_fields, flat_fields, flat_layer, flat_tree, flat_trees}
use Rattle.dg_shape.specs.Tallies.{IsTally}

-- ---- objects that have a field

filled_with : (o : List Field) (f : Field) → has_pair (with_pair o f) ≡ true
filled_with [] f = refl
filled_with (p ∷ o) f = by (list_any (λ q. bytes_eq q.key f.key) (p ∷ o))
  where
    by : (b : Bool) → has_pair (cond b (p ∷ o) (p ∷ (o ++ f ∷ []))) ≡ true
    by true = refl
    by false = refl

stays_filled : (o more : List Field) → has_pair o ≡ true → has_pair (joined o more) ≡ true
stays_filled o [] h = h
stays_filled o (f ∷ more) h = stays_filled (with_pair o f) more (filled_with o f)

joined_filled : (o more : List Field) → has_pair more ≡ true → has_pair (joined o more) ≡ true
joined_filled o [] h = absurd (true≢false (sym h))
joined_filled o (f ∷ more) h = stays_filled (with_pair o f) more (filled_with o f)

and_left : (a b : Bool) → (a && b) ≡ true → a ≡ true
and_left true b e = refl
and_left false b e = e

and_right : (a b : Bool) → (a && b) ≡ true → b ≡ true
and_right true b e = e
and_right false b e = absurd (true≢false (sym e))

and_both : (a b : Bool) → a ≡ true → b ≡ true → (a && b) ≡ true
and_both a b e f = (λ i. e i && b) ∙ f

all_behind : (xs ys : List (List Field)) → list_all has_pair xs ≡ true → list_all has_pair ys ≡ true → list_all has_pair (xs ++ ys) ≡ true
all_behind [] ys e f = f
all_behind (x ∷ xs) ys e f = and_both (has_pair x) (list_all has_pair (xs ++ ys)) (and_left (has_pair x) (list_all has_pair xs) e) (all_behind xs ys (and_right (has_pair x) (list_all has_pair xs) e) f)

all_kept : (xs : List (List Field)) → list_all has_pair (filter has_pair xs) ≡ true
all_kept [] = refl
all_kept (x ∷ xs) = by (has_pair x) refl (all_kept xs)
  where
    by : (b : Bool) → has_pair x ≡ b → list_all has_pair (filter has_pair xs) ≡ true → list_all has_pair (cond b (x ∷ filter has_pair xs) (filter has_pair xs)) ≡ true
    by true e rest = and_both (has_pair x) (list_all has_pair (filter has_pair xs)) e rest
    by false e rest = rest

pub fields_filled : (asked : List Flattened) (fields : List Field) → list_all has_pair (flat_fields asked fields) ≡ true
fields_filled asked fields = all_kept (after_fields asked fields ([] ∷ []))

layer_filled : (asked : List Flattened) (y : Tree-F Tree Field) → list_all has_pair (flat_layer asked y) ≡ true
layer_filled asked (Tree-F.Int n) = refl
layer_filled asked (Tree-F.Bool b) = refl
layer_filled asked (Tree-F.Text text) = refl
layer_filled asked (Tree-F.Array items) = refl
layer_filled asked (Tree-F.Node fields) = fields_filled asked fields

pub trees_filled : (asked : List Flattened) (items : List Tree) → list_all has_pair (flat_trees asked items) ≡ true
trees_filled asked [] = refl
trees_filled asked (t ∷ items) = all_behind (flat_tree asked t) (flat_trees asked items) (layer_filled asked (out-Tree t)) (trees_filled asked items)

kept_whole : (xs : List (List Field)) → list_all has_pair xs ≡ true → filter has_pair xs ≡ xs
kept_whole [] e = refl
kept_whole (x ∷ xs) e =
    (λ i. cond (and_left (has_pair x) (list_all has_pair xs) e i) (x ∷ filter has_pair xs) (filter has_pair xs)) ∙ ap (λ l. x ∷ l) (kept_whole xs (and_right (has_pair x) (list_all has_pair xs) e))

-- ---- tallies

pub begun : IsTally 1 false ([] ∷ [])
begun = (omega arith, λ e. absurd (true≢false (sym e)))

pub tally_ends : (total : ℕ) (filled : Bool) (objects : List (List Field)) → IsTally total filled objects → filled ≡ true → total ≤ length (filter has_pair objects)
tally_ends total filled objects t e = subst (λ (xs : List (List Field)). total ≤ length xs) (sym (kept_whole objects (t.1 e))) t.0

pub value_tally : (total : ℕ) (filled alias : Bool) (f : Field) (objects : List (List Field)) → IsTally total filled objects → IsTally total (filled || alias) (with_value alias f objects)
value_tally total filled true f objects t = (omega (arith, t.0, length-map objects (λ o. with_pair o f)), λ e. all objects)
  where
    all : (xs : List (List Field)) → list_all has_pair (map (λ o. with_pair o f) xs) ≡ true
    all [] = refl
    all (x ∷ xs) = and_both (has_pair (with_pair x f)) (list_all has_pair (map (λ o. with_pair o f) xs)) (filled_with x f) (all xs)
value_tally total true false f objects t = t
value_tally total false false f objects t = t

-- ---- each object followed by each of others

all_joined : (o : List Field) (others : List (List Field)) → list_all has_pair others ≡ true → list_all has_pair (map (joined o) others) ≡ true
all_joined o [] e = refl
all_joined o (p ∷ others) e =
    and_both (has_pair (joined o p)) (list_all has_pair (map (joined o) others)) (joined_filled o p (and_left (has_pair p) (list_all has_pair others) e)) (all_joined o others (and_right (has_pair p) (list_all has_pair others) e))

all_crossed : (objects others : List (List Field)) → list_all has_pair others ≡ true → list_all has_pair (flat_map (λ o. map (joined o) others) objects) ≡ true
all_crossed [] others e = refl
all_crossed (o ∷ objects) others e = all_behind (map (joined o) others) (flat_map (λ p. map (joined p) others) objects) (all_joined o others e) (all_crossed objects others e)

-- as many as there are, times as many as the others are
many : (objects others : List (List Field)) (n k : ℕ) → n ≤ length objects → k ≤ length others → n * k ≤ length (flat_map (λ o. map (joined o) others) objects)
many objects others zero k le lk = grind arith
many [] others (suc n) k le lk = absurd (omega (arith, le))
many (o ∷ objects) others (suc n) k le lk =
    let more = many objects others n k (omega (arith, le)) lk in
    let one = length-map others (joined o) in
    let both = length-append (map (joined o) others) (flat_map (λ p. map (joined p) others) objects) in
    let step : suc n * k ≡ k + n * k = grind arith in
    omega (arith, more, one, both, step, lk)

pub times_many : (total k : ℕ) (filled : Bool) (objects others : List (List Field)) → IsTally total filled objects → 0 < k → k ≤ length others → list_all has_pair others ≡ true
    → (product : ℕ) → product ≤ total * k → IsTally product true (times objects others)
times_many total k filled objects [] t above le e product p = absurd (omega (arith, above, le))
times_many total k filled objects (o ∷ others) t above le e product p =
    let few = many objects (o ∷ others) total k t.0 le in
    (omega (arith, few, p), λ _. all_crossed objects (o ∷ others) e)

pub times_none : (total : ℕ) (filled : Bool) (objects others : List (List Field)) → IsTally total filled objects → list_all has_pair others ≡ true → IsTally total filled (times objects others)
times_none total filled objects [] t e = t
times_none total filled objects (o ∷ others) t e =
    let few = many objects (o ∷ others) total 1 t.0 (omega arith) in
    let same : total * 1 ≡ total = grind arith in
    (omega (arith, few, same), λ _. all_crossed objects (o ∷ others) e)
