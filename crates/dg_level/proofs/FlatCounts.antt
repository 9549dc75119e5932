-- How many bytes flat objects take at least, and objects whose keys differ.
use Rattle.std.proofs.Common.{◌≡◌, ℕ, ◌+◌, ◌*◌, ◌<◌, ◌≤◌, Bool, true, false, cond, List, [], ◌∷◌, ◌++◌, map, flat_map, fold, length, take, drop, get_or, refl, sym, ap, ◌∙◌, arith, length-append, take-append-drop}
use Rattle.std.specs.Prelude.{sum_by, count_by, filter, bytes_eq, not, ◌||◌}
use Rattle.std.proofs.Math.Nat.{mul-zero, suc-mul}
use Rattle.std.proofs.lemmas.List.Folds.{list_any-append}
use Rattle.std.proofs.lemmas.Bool.Decides.{same_from_decides, Decides-like}
use Rattle.std.proofs.lemmas.Slice.Eq.{bytes_eq-Decides}
use Rattle.std.proofs.lemmas.Bool.{false≢true, true≢false}
use Rattle.std.specs.List.{list_any, list_all}
use Rattle.std.proofs.lemmas.List.{take_more, drop_more, get_or_at, length-map, length-take-le}
use Rattle.std.proofs.lemmas.List.Sums.{sum_by-append, sum_by-cons, count_by-le-length}
use Rattle.std.specs.declared.cmp.Ordering.{Ordering}
use Rattle.std.specs.declared.cmp.Ordering.TheVariants.{Less, Equal, Greater}
use Rattle.std.specs.Ordering.{nat_cmp}
use Rattle.dg_values.specs.Ascending.{ascending, placed, with_one}
use Rattle.dg_tree.specs.declared.tree.Field.{Field}
use Rattle.dg_shape.specs.Normalize.{with_pair, joined, times, has_pair}
use Rattle.dg_level.specs.Flats.{weight, weight_in, AreApartPairs, AreAllApart, has_object}

-- ---- weights

-- an object with no fewer fields is no lighter
heavier : (object more : List Field) → length object ≤ length more → weight object ≤ weight more
heavier [] more le = omega arith
heavier (pair ∷ object) [] le = absurd (omega (arith, le))
heavier (pair ∷ object) (other ∷ more) le = omega (arith, le)

pub weight_first : (object : List Field) (objects : List (List Field)) → weight_in (object ∷ objects) ≡ weight object + weight_in objects
weight_first object objects = sum_by-cons weight object objects

pub weight_joined : (objects more : List (List Field)) → weight_in (objects ++ more) ≡ weight_in objects + weight_in more
weight_joined objects more = sum_by-append weight objects more

-- ---- a loop that adds objects while there is room

module _ {X : Type 0} (made : List X → List (List Field)) (joins : (xs more : List X) → made (xs ++ more) ≡ made xs ++ made more) (xs : List X) (i : ℕ) (x : X) (lt : i < length xs) (is : x ≡ get_or xs i x) where
  -- what there is no room for with one more there is no room for with all
  pub none_for_all : (left room : ℕ) (one : List (List Field)) → made (x ∷ []) ≡ one → left + weight_in (made (take i xs)) ≡ room → left < weight_in one → room < weight_in (made xs)
  none_for_all left room one this so above =
      let whole : take (i + 1) xs ++ drop (i + 1) xs ≡ xs = take-append-drop (i + 1) xs in
      let front : take (i + 1) xs ≡ take i xs ++ x ∷ [] = take_more xs i x lt ∙ ap (λ y. take i xs ++ y ∷ []) (sym is) in
      omega (
        arith,
        so,
        above,
        ap weight_in this,
        ap (λ l. weight_in (made l)) whole,
        ap (λ l. weight_in (made l)) front,
        ap weight_in (joins (take (i + 1) xs) (drop (i + 1) xs)),
        ap weight_in (joins (take i xs) (x ∷ [])),
        weight_joined (made (take (i + 1) xs)) (made (drop (i + 1) xs)),
        weight_joined (made (take i xs)) (made (x ∷ [])),
      )

  -- the room that is left after one more
  pub left_for_more : (left now room : ℕ) (one : List (List Field)) → made (x ∷ []) ≡ one → left + weight_in (made (take i xs)) ≡ room → now + weight_in one ≡ left → now + weight_in (made (take (i + 1) xs)) ≡ room
  left_for_more left now room one this so after =
      let front : take (i + 1) xs ≡ take i xs ++ x ∷ [] = take_more xs i x lt ∙ ap (λ y. take i xs ++ y ∷ []) (sym is) in
      omega (
        arith,
        so,
        after,
        ap weight_in this,
        ap (λ l. weight_in (made l)) front,
        ap weight_in (joins (take i xs) (x ∷ [])),
        weight_joined (made (take i xs)) (made (x ∷ [])),
      )

-- what stands at a place of a list that is changed up to that place
pub still_there : {X : Type 0} (f : X → X) (old now : List X) (i : ℕ) (x : X) → i < length old → now ≡ map f (take i old) ++ drop i old → x ≡ get_or now i x → x ≡ get_or old i x
still_there f old now i x lt is here =
    let long : length (map f (take i old)) ≡ i = omega (arith, length-map (take i old) f, length-take-le i old (omega arith)) in
    here ∙ ap (λ l. get_or l i x) (is ∙ ap (λ l. map f (take i old) ++ l) (drop_more old i x lt)) ∙ get_or_at (map f (take i old)) (get_or old i x) (drop (i + 1) old) x i long

-- objects that are each followed by one other
pub times_one : (objects : List (List Field)) (other : List Field) → map (λ object. joined object other) objects ≡ times objects (other ∷ [])
times_one [] other = refl
times_one (object ∷ objects) other = ap (λ made. joined object other ∷ made) (times_one objects other)

-- whether a part has an object
pub any_object : {X : Type 0} (now : X → List (List Field)) (parts : List X) → list_any (λ part. has_object (now part)) parts ≡ has_object (flat_map now parts)
any_object now [] = refl
any_object now (part ∷ parts) = ap (λ has. has_object (now part) || has) (any_object now parts) ∙ by (now part) (flat_map now parts)
  where
    by : (objects more : List (List Field)) → (has_object objects || has_object more) ≡ has_object (objects ++ more)
    by [] more = refl
    by (object ∷ objects) more = refl

-- objects without a field have none
pub filled_weight : (objects : List (List Field)) → weight_in (filter has_pair objects) ≡ weight_in objects
filled_weight [] = refl
filled_weight ([] ∷ objects) = omega (arith, weight_first [] objects, filled_weight objects)
filled_weight ((pair ∷ object) ∷ objects) = omega (arith, weight_first (pair ∷ object) objects, weight_first (pair ∷ object) (filter has_pair objects), filled_weight objects)

-- and each that is left has a field
pub filled_have : (objects : List (List Field)) → list_all has_pair (filter has_pair objects) ≡ true
filled_have [] = refl
filled_have ([] ∷ objects) = filled_have objects
filled_have ((pair ∷ object) ∷ objects) = filled_have objects

-- ---- keys

-- whether a field of this key is there
abbrev pub has_key : List Field → List ℕ → Bool
has_key fields key = list_any (λ p. bytes_eq p.key key) fields

keys_alike : (a b : List ℕ) → bytes_eq a b ≡ bytes_eq b a
keys_alike a b = same_from_decides (bytes_eq a b) (bytes_eq b a) (bytes_eq-Decides a b) (Decides-like (bytes_eq b a) sym sym (bytes_eq-Decides b a))

key_joined : (fields more : List Field) (key : List ℕ) → has_key (fields ++ more) key ≡ (has_key fields key || has_key more key)
key_joined fields more key = list_any-append (λ p. bytes_eq p.key key) fields more

or_false : (a b : Bool) → (a || b) ≡ false → (a ≡ false) × (b ≡ false)
or_false true b e = absurd (true≢false e)
or_false false b e = (refl, e)

neither : {a b : Bool} → a ≡ false → b ≡ false → (a || b) ≡ false
neither first second = λ i. first i || second i

-- a field of another key keeps keys apart
apart_one : (object : List Field) (pair : Field) → AreApartPairs object → has_key object pair.key ≡ false → AreApartPairs (object ++ pair ∷ [])
apart_one [] pair apart none = (refl, tt)
apart_one (other ∷ object) pair apart none =
    let parts = or_false (bytes_eq other.key pair.key) (has_key object pair.key) none in (
      key_joined object (pair ∷ []) other.key ∙ neither apart.0 (neither (keys_alike pair.key other.key ∙ parts.0) refl),
      apart_one object pair apart.1 parts.1,
    )

-- objects keep their keys apart
pub apart_with : (object : List Field) (pair : Field) → AreApartPairs object → AreApartPairs (with_pair object pair)
apart_with object pair apart = by (has_key object pair.key) refl
  where
    by : (v : Bool) → has_key object pair.key ≡ v → AreApartPairs (cond v object (object ++ pair ∷ []))
    by true e = apart
    by false e = apart_one object pair apart e

pub apart_joined : (object more : List Field) → AreApartPairs object → AreApartPairs (joined object more)
apart_joined object [] apart = apart
apart_joined object (pair ∷ more) apart = apart_joined (with_pair object pair) more (apart_with object pair apart)

-- ---- an object followed by another

with_longer : (object : List Field) (pair : Field) → length object ≤ length (with_pair object pair)
with_longer object pair = by (has_key object pair.key)
  where
    by : (v : Bool) → length object ≤ length (cond v object (object ++ pair ∷ []))
    by true = omega arith
    by false = omega (arith, length-append object (pair ∷ []))

-- it has at least the fields that it had
joined_longer : (object more : List Field) → length object ≤ length (joined object more)
joined_longer object [] = omega arith
joined_longer object (pair ∷ more) = omega (arith, with_longer object pair, joined_longer (with_pair object pair) more)

pub joined_heavier : (object more : List Field) → weight object ≤ weight (joined object more)
joined_heavier object more = heavier object (joined object more) (joined_longer object more)

-- ---- at least the fields of the other

-- how many fields of an object have a key that isn't among others
abbrev others_in : List Field → List Field → ℕ
others_in more object = count_by (λ p. not (has_key more p.key)) object

module _ (more : List Field) (pair : Field) (apart : has_key more pair.key ≡ false) where
  one_of : Field → ℕ
  one_of p = cond (not (has_key more p.key)) 1 0

  one_besides : Field → ℕ
  one_besides p = cond (not (has_key (pair ∷ more) p.key)) 1 0

  fewer : (p : Field) → one_besides p ≤ one_of p
  unfolding one_of one_besides
  fewer p = by (bytes_eq pair.key p.key) (has_key more p.key)
    where
      by : (a b : Bool) → cond (not (a || b)) 1 0 ≤ cond (not b) 1 0
      by true true = omega arith
      by true false = omega arith
      by false b = omega arith

  -- at a field of this key
  one_fewer : (p : Field) → bytes_eq p.key pair.key ≡ true → one_besides p + 1 ≡ one_of p
  unfolding one_of one_besides
  one_fewer p e =
      let besides : has_key (pair ∷ more) p.key ≡ true = ap (λ b. b || has_key more p.key) (keys_alike pair.key p.key ∙ e) in
      let here : has_key more p.key ≡ false = ap (has_key more) ((bytes_eq-Decides p.key pair.key).0 e) ∙ apart in
      ap (λ b. cond (not b) 1 0 + 1) besides ∙ ap (λ b. cond (not b) 1 0) (sym here)

  others_fewer : (object : List Field) → sum_by one_besides object ≤ sum_by one_of object
  others_fewer [] = omega arith
  others_fewer (p ∷ object) = omega (arith, sum_by-cons one_besides p object, sum_by-cons one_of p object, fewer p, others_fewer object)

  others_one_fewer : (object : List Field) → has_key object pair.key ≡ true → sum_by one_besides object + 1 ≤ sum_by one_of object
  others_one_fewer [] there = absurd (false≢true there)
  others_one_fewer (p ∷ object) there = by (bytes_eq p.key pair.key) refl there (others_one_fewer object)
    where
      by : (v : Bool) → bytes_eq p.key pair.key ≡ v → (v || has_key object pair.key) ≡ true → (has_key object pair.key ≡ true → sum_by one_besides object + 1 ≤ sum_by one_of object)
          → sum_by one_besides (p ∷ object) + 1 ≤ sum_by one_of (p ∷ object)
      by true e there rest = omega (arith, sum_by-cons one_besides p object, sum_by-cons one_of p object, one_fewer p e, others_fewer object)
      by false e there rest = omega (arith, sum_by-cons one_besides p object, sum_by-cons one_of p object, fewer p, rest there)

  -- with a field more
  others_with : (object : List Field) → others_in (pair ∷ more) object + 1 ≤ others_in more (with_pair object pair)
  unfolding one_of one_besides
  others_with object = by (has_key object pair.key) refl
    where
      by : (v : Bool) → has_key object pair.key ≡ v → others_in (pair ∷ more) object + 1 ≤ others_in more (cond v object (object ++ pair ∷ []))
      by true e = others_one_fewer object e
      by false e = omega (arith, others_fewer object, sum_by-append one_of object (pair ∷ []), sum_by-cons one_of pair [], ap {B = ℕ} (λ b. cond (not b) 1 0) apart)

others_within : (object more : List Field) → AreApartPairs more → others_in more object + length more ≤ length (joined object more)
others_within object [] apart = omega (arith, count_by-le-length (λ (p : Field). not (has_key [] p.key)) object)
others_within object (pair ∷ more) apart = omega (arith, others_with more pair apart.0 object, others_within (with_pair object pair) more apart.1)

-- an object behind another has at least its fields, where their keys differ
pub joined_holds : (object more : List Field) → AreApartPairs more → weight more ≤ weight (joined object more)
joined_holds object more apart = heavier more (joined object more) (omega (arith, others_within object more apart))

-- ---- objects followed by others

heavier_each : (objects : List (List Field)) (other : List Field) → weight_in objects ≤ weight_in (map (λ object. joined object other) objects)
heavier_each [] other = omega arith
heavier_each (object ∷ objects) other =
    omega (arith, weight_first object objects, weight_first (joined object other) (map (λ object. joined object other) objects), joined_heavier object other, heavier_each objects other)

-- objects don't become lighter when each is joined with what is shown
pub shown_heavier : (objects : List (List Field)) (shown : List Field) → weight_in objects ≤ weight_in (map (λ object. joined object shown) objects)
shown_heavier objects shown = heavier_each objects shown

-- nor when each is followed by each of others
pub times_heavier : (objects others : List (List Field)) → weight_in objects ≤ weight_in (times objects others)
times_heavier objects [] = omega arith
times_heavier objects (other ∷ others) = each objects
  where
    each : (objects : List (List Field)) → weight_in objects ≤ weight_in (flat_map (λ object. map (joined object) (other ∷ others)) objects)
    each [] = omega arith
    each (object ∷ objects) =
        omega (
          arith,
          weight_first object objects,
          weight_joined (map (joined object) (other ∷ others)) (flat_map (λ object. map (joined object) (other ∷ others)) objects),
          weight_first (joined object other) (map (joined object) others),
          joined_heavier object other,
          each objects,
        )

holds_each : (object : List Field) (others : List (List Field)) → AreAllApart others → weight_in others ≤ weight_in (map (joined object) others)
holds_each object [] apart = omega arith
holds_each object (other ∷ others) apart =
    omega (arith, weight_first other others, weight_first (joined object other) (map (joined object) others), joined_holds object other apart.0, holds_each object others apart.1)

-- the others are no heavier than objects that are followed by them, where there is one and each of the others has its keys apart
pub times_holds : (objects others : List (List Field)) → has_object objects ≡ true → AreAllApart others → weight_in others ≤ weight_in (times objects others)
times_holds [] others has apart = absurd (false≢true has)
times_holds (object ∷ objects) [] has apart = omega arith
times_holds (object ∷ objects) (other ∷ others) has apart =
    omega (
      arith,
      weight_joined (map (joined object) (other ∷ others)) (flat_map (λ object. map (joined object) (other ∷ others)) objects),
      holds_each object (other ∷ others) apart,
    )

-- so they are as often as there are objects
pub times_many : (objects others : List (List Field)) → AreAllApart others → length objects * weight_in others ≤ weight_in (times objects others)
times_many objects [] apart = omega (arith, mul-zero (length objects))
times_many objects (other ∷ others) apart = each objects
  where
    each : (objects : List (List Field)) → length objects * weight_in (other ∷ others) ≤ weight_in (flat_map (λ object. map (joined object) (other ∷ others)) objects)
    each [] = omega arith
    each (object ∷ objects) =
        omega (
          arith,
          suc-mul (length objects) (weight_in (other ∷ others)),
          weight_joined (map (joined object) (other ∷ others)) (flat_map (λ object. map (joined object) (other ∷ others)) objects),
          holds_each object (other ∷ others) apart,
          each objects,
        )

-- ---- there is an object still

pub shown_has : (objects : List (List Field)) (shown : List Field) → has_object objects ≡ true → has_object (map (λ object. joined object shown) objects) ≡ true
shown_has [] shown has = has
shown_has (object ∷ objects) shown has = refl

pub times_has : (objects others : List (List Field)) → has_object objects ≡ true → has_object (times objects others) ≡ true
times_has objects [] has = has
times_has [] (other ∷ others) has = has
times_has (object ∷ objects) (other ∷ others) has = refl

-- ---- their keys are apart still

pub all_apart_joined : (objects more : List (List Field)) → AreAllApart objects → AreAllApart more → AreAllApart (objects ++ more)
all_apart_joined [] more apart others = others
all_apart_joined (object ∷ objects) more apart others = (apart.0, all_apart_joined objects more apart.1 others)

pub shown_apart : (objects : List (List Field)) (shown : List Field) → AreAllApart objects → AreAllApart (map (λ object. joined object shown) objects)
shown_apart [] shown apart = tt
shown_apart (object ∷ objects) shown apart = (apart_joined object shown apart.0, shown_apart objects shown apart.1)

pub filled_apart : (objects : List (List Field)) → AreAllApart objects → AreAllApart (filter has_pair objects)
filled_apart [] apart = tt
filled_apart ([] ∷ objects) apart = filled_apart objects apart.1
filled_apart ((pair ∷ object) ∷ objects) apart = (apart.0, filled_apart objects apart.1)

followed_apart : (object : List Field) (others : List (List Field)) → AreApartPairs object → AreAllApart (map (joined object) others)
followed_apart object [] apart = tt
followed_apart object (other ∷ others) apart = (apart_joined object other apart, followed_apart object others apart)

pub times_apart : (objects others : List (List Field)) → AreAllApart objects → AreAllApart (times objects others)
times_apart objects [] apart = apart
times_apart objects (other ∷ others) apart = each objects apart
  where
    each : (objects : List (List Field)) → AreAllApart objects → AreAllApart (flat_map (λ object. map (joined object) (other ∷ others)) objects)
    each [] apart = tt
    each (object ∷ objects) apart = all_apart_joined (map (joined object) (other ∷ others)) _ (followed_apart object (other ∷ others) apart.0) (each objects apart.1)

-- so those of the nodes of a list
pub nodes_apart : (flats : ℕ → List (List Field)) (nodes : List ℕ) → ((n : ℕ) → AreAllApart (flats n)) → AreAllApart (flat_map flats nodes)
nodes_apart flats [] each = tt
nodes_apart flats (n ∷ nodes) each = all_apart_joined (flats n) (flat_map flats nodes) (each n) (nodes_apart flats nodes each)

-- ---- a level, each node once

pub weight_of_list : (flats : ℕ → List (List Field)) (nodes : List ℕ) → weight_in (flat_map flats nodes) ≡ sum_by (λ n. weight_in (flats n)) nodes
weight_of_list flats [] = refl
weight_of_list flats (n ∷ nodes) = omega (arith, weight_joined (flats n) (flat_map flats nodes), weight_of_list flats nodes, sum_by-cons (λ n. weight_in (flats n)) n nodes)

module _ (flats : ℕ → List (List Field)) where
  all : List ℕ → ℕ
  all nodes = sum_by (λ n. weight_in (flats n)) nodes

  all_first : (n : ℕ) (nodes : List ℕ) → all (n ∷ nodes) ≡ weight_in (flats n) + all nodes
  unfolding all
  all_first n nodes = sum_by-cons (λ n. weight_in (flats n)) n nodes

  none : all [] ≡ 0
  unfolding all
  none = refl

  one_more : (nodes : List ℕ) (n : ℕ) → all (with_one nat_cmp nodes n) ≤ all nodes + weight_in (flats n)
  one_more [] n = omega (arith, all_first n [])
  one_more (m ∷ nodes) n = by (nat_cmp n m) (one_more nodes n)
    where
      by : (v : Ordering) → all (with_one nat_cmp nodes n) ≤ all nodes + weight_in (flats n)
          → all (placed v n m nodes (with_one nat_cmp nodes n)) ≤ all (m ∷ nodes) + weight_in (flats n)
      by Less rest = omega (arith, all_first n (m ∷ nodes))
      by Equal rest = omega arith
      by Greater rest = omega (arith, rest, all_first m (with_one nat_cmp nodes n), all_first m nodes)

  more : (base nodes : List ℕ) → all (fold (with_one nat_cmp) base nodes) ≤ all base + all nodes
  more base [] = omega (arith, none)
  more base (n ∷ nodes) = omega (arith, more (with_one nat_cmp base n) nodes, one_more base n, all_first n nodes)

  once : (nodes : List ℕ) → all (ascending nat_cmp nodes) ≤ all nodes
  once nodes = omega (arith, more [] nodes, none)

  -- a level is no heavier than the list from which it was gathered
  pub level_of_list : (nodes : List ℕ) → sum_by (λ n. weight_in (flats n)) (ascending nat_cmp nodes) ≤ weight_in (flat_map flats nodes)
  unfolding all
  level_of_list nodes = omega (arith, once nodes, weight_of_list flats nodes)

  module _ {X : Type 0} (list_of : X → List ℕ) where
    -- the nodes of all lists, as often as they are there
    all_lists : (xs : List X) → all (flat_map list_of xs) ≡ sum_by (λ x. weight_in (flat_map flats (list_of x))) xs
    unfolding all
    all_lists [] = refl
    all_lists (x ∷ xs) =
        omega (
          arith,
          sum_by-append (λ n. weight_in (flats n)) (list_of x) (flat_map list_of xs),
          weight_of_list flats (list_of x),
          all_lists xs,
          sum_by-cons (λ x. weight_in (flat_map flats (list_of x))) x xs,
        )

    -- a level is no heavier than the lists from which it was gathered
    pub level_weight : (xs : List X) → sum_by (λ n. weight_in (flats n)) (ascending nat_cmp (flat_map list_of xs)) ≤ sum_by (λ x. weight_in (flat_map flats (list_of x))) xs
    unfolding all
    level_weight xs = omega (arith, once (flat_map list_of xs), all_lists xs)

    -- nor than the objects that these lists' nodes stand in
    pub level_within : (upper : X → List (List Field)) → ((x : X) → weight_in (flat_map flats (list_of x)) ≤ weight_in (upper x)) → (xs : List X)
        → sum_by (λ n. weight_in (flats n)) (ascending nat_cmp (flat_map list_of xs)) ≤ sum_by (λ x. weight_in (upper x)) xs
    level_within upper each xs = omega (arith, level_weight xs, each_within xs)
      where
        each_within : (xs : List X) → sum_by (λ x. weight_in (flat_map flats (list_of x))) xs ≤ sum_by (λ x. weight_in (upper x)) xs
        each_within [] = omega arith
        each_within (x ∷ xs) = omega (arith, sum_by-cons (λ x. weight_in (flat_map flats (list_of x))) x xs, sum_by-cons (λ x. weight_in (upper x)) x xs, each x, each_within xs)
