-- Lists of nodes, and the level below them.
use Rattle.std.proofs.Common.{◌≡◌, ℕ, Bool, true, false, List, [], ◌∷◌, map, flat_map, refl, sym, ap, ◌∙◌}
use Rattle.std.specs.Prelude.{◌&&◌, ◌||◌, filter}
use Rattle.std.specs.Ordering.{nat_cmp}
use Rattle.dg_values.specs.Ascending.{Ascends, ascending, has}
use Rattle.dg_sets.proofs.MadeOrders.{nat_order}
use Rattle.dg_sets.proofs.OnceEach.{ascending_ascends}
use Rattle.dg_sets.proofs.Sets.{one_list, has_joined, has_passed, has_more}
use Rattle.dg_uids.specs.Sets.{common}
use Rattle.dg_graph.specs.declared.change.Triple.{Triple}
use Rattle.dg_check.specs.declared.parts.Filter.{Filter}
use Rattle.dg_check.specs.declared.vars.Variable.{Variable}
use Rattle.dg_funcs.proofs.PassLaws.{or_true, and_true, filter_same, filter_true}
use Rattle.dg_level.specs.Planned.{passed_each}

-- ---- sets

pub ascending_has : (xs : List ℕ) (u : ℕ) → has nat_cmp (ascending nat_cmp xs) u ≡ has nat_cmp xs u
ascending_has xs u = has_more nat_cmp nat_order [] xs u

pub ascending_same : (xs : List ℕ) → Ascends nat_cmp xs → ascending nat_cmp xs ≡ xs
ascending_same xs a = one_list nat_cmp nat_order (ascending nat_cmp xs) xs (ascending_ascends nat_cmp nat_order xs) a (ascending_has xs)

-- ---- maps

-- one map after another
pub map_twice : {X Y Z : Type 0} (f : Y → Z) (g : X → Y) (xs : List X) → map f (map g xs) ≡ map (λ x. f (g x)) xs
map_twice f g [] = refl
map_twice f g (x ∷ xs) = ap (λ zs. f (g x) ∷ zs) (map_twice f g xs)

pub map_same : {X Y : Type 0} (f g : X → Y) → ((x : X) → f x ≡ g x) → (xs : List X) → map f xs ≡ map g xs
map_same f g e [] = refl
map_same f g e (x ∷ xs) = λ j. e x j ∷ map_same f g e xs j

pub map_itself : {X : Type 0} (f : X → X) → ((x : X) → f x ≡ x) → (xs : List X) → map f xs ≡ xs
map_itself f e [] = refl
map_itself f e (x ∷ xs) = λ j. e x j ∷ map_itself f e xs j

-- ---- each list is in the level below

or_left : (a b : Bool) → a ≡ true → (a || b) ≡ true
or_left true b e = refl
or_left false b e = absurd (cc)

-- where what holds of the lists that have no other node than these holds of two functions alike
pub map_within : {Y : Type 0} (f g : List ℕ → Y) (level : List ℕ) (lists : List (List ℕ))
    → ((cs : List ℕ) → ((u : ℕ) → has nat_cmp cs u ≡ true → has nat_cmp level u ≡ true) → f cs ≡ g cs)
    → ((u : ℕ) → has nat_cmp (flat_map (λ l. l) lists) u ≡ true → has nat_cmp level u ≡ true) → map f lists ≡ map g lists
map_within f g level [] same sub = refl
map_within f g level (cs ∷ lists) same sub =
    let first : f cs ≡ g cs = same cs (λ u h. sub u (has_joined nat_cmp nat_order cs (flat_map (λ l. l) lists) u ∙ or_left (has nat_cmp cs u) (has nat_cmp (flat_map (λ l. l) lists) u) h)) in
    let rest = map_within f g level lists same (λ u h. sub u (has_joined nat_cmp nat_order cs (flat_map (λ l. l) lists) u ∙ or_true (has nat_cmp cs u) (has nat_cmp (flat_map (λ l. l) lists) u) h)) in
    λ j. first j ∷ rest j

-- the same over the set of all their nodes
pub map_alike : {Y : Type 0} (f g : List ℕ → Y) (lists : List (List ℕ))
    → ((cs : List ℕ) → ((u : ℕ) → has nat_cmp cs u ≡ true → has nat_cmp (ascending nat_cmp (flat_map (λ l. l) lists)) u ≡ true) → f cs ≡ g cs) → map f lists ≡ map g lists
map_alike f g lists same = map_within f g (ascending nat_cmp (flat_map (λ l. l) lists)) lists same (λ u h. ascending_has (flat_map (λ l. l) lists) u ∙ h)

-- ---- a filter asked once of all nodes is the filter asked of each list

narrow_one : (f : ℕ → Bool) (all cs : List ℕ) → ((u : ℕ) → has nat_cmp cs u ≡ true → has nat_cmp all u ≡ true) → common cs (filter f all) ≡ filter f cs
narrow_one f all cs sub =
    filter_same (λ u. has nat_cmp (filter f all) u) f cs (λ u h. has_passed nat_cmp nat_order f all u ∙ ((λ i. f u && sub u h i) ∙ and_true (f u)))

pub narrow : (f : ℕ → Bool) (lists : List (List ℕ)) → map (λ cs. common cs (filter f (ascending nat_cmp (flat_map (λ l. l) lists)))) lists ≡ map (filter f) lists
narrow f lists =
    map_alike (λ cs. common cs (filter f (ascending nat_cmp (flat_map (λ l. l) lists)))) (filter f) lists (λ cs sub. narrow_one f (ascending nat_cmp (flat_map (λ l. l) lists)) cs sub)

-- without a filter all are left
pub no_filters : (graph : List Triple) (vars : List Variable) (filters : List Filter) (lists : List (List ℕ)) → filters ≡ [] → lists ≡ map (passed_each graph vars filters) lists
no_filters graph vars filters lists none = sym (map_itself (passed_each graph vars []) filter_true lists) ∙ λ j. map (passed_each graph vars (sym none j)) lists
