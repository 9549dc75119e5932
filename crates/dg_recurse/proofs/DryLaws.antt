-- Places at which nothing is shown.
use Rattle.std.proofs.Common.{◌≡◌, ◌⊎◌, inl, inr, ℕ, zero, suc, ◌+◌, ◌<◌, ◌≤◌, ◌==◌, Bool, true, false, ◌&&◌, ◌||◌, if◌then◌else◌, List, [], ◌∷◌, ◌++◌, map, get_or, refl, ap, ◌∙◌, arith, subst}
use Rattle.std.specs.Prelude.{nat_le}
use Rattle.std.specs.List.{list_all, AllByRecursion}
use Rattle.std.proofs.lemmas.Bool.{false≢true, leb-true, eqb-true}
use Rattle.std.proofs.lemmas.List.Folds.{list_any-append}
use Rattle.dg_recurse.specs.declared.column.Column.{Column}
use Rattle.dg_recurse.specs.declared.column.Column.TheVariants as columns
use Rattle.dg_recurse.specs.Unfolding.{is_on}
use Rattle.dg_recurse.specs.Rows.{objects_of, joined, enclosed}
use Rattle.dg_recurse.specs.Columns.{nodes_of}
use Rattle.dg_recurse.specs.Written.{edge_text, column_text, row_at, child_at, IsDry}
use Rattle.dg_recurse.specs.Near.{is_nothing, is_bare, are_near, AreNear}

pub both : (a b : Bool) → (a && b) ≡ true → (a ≡ true) × (b ≡ true)
both true b e = (refl, e)
both false b e = absurd (false≢true e)

pub either : (a b : Bool) → (a || b) ≡ true → (a ≡ true) ⊎ (b ≡ true)
either true b e = inl refl
either false b e = inr e

pub or_left : (a b : Bool) → a ≡ true → (a || b) ≡ true
or_left a b e = ap (λ a. a || b) e

pub or_right : (a b : Bool) → b ≡ true → (a || b) ≡ true
or_right true b e = refl
or_right false b e = e

-- ---- nodes of lists

pub is_here : (n : ℕ) → (n == n) ≡ true
is_here n = grind arith

pub first_on : (n : ℕ) (nodes : List ℕ) → is_on (n ∷ nodes) n ≡ true
first_on n nodes = or_left (n == n) (is_on nodes n) (is_here n)

pub behind_on : (m n : ℕ) (nodes : List ℕ) → is_on nodes n ≡ true → is_on (m ∷ nodes) n ≡ true
behind_on m n nodes e = or_right (m == n) (is_on nodes n) e

pub on_front : (path more : List ℕ) (n : ℕ) → is_on path n ≡ true → is_on (path ++ more) n ≡ true
on_front path more n e = list_any-append (λ p. p == n) path more ∙ or_left (is_on path n) (is_on more n) e

-- a fact on each node of a list, by a test
pub each_on : (test : ℕ → Bool) (nodes : List ℕ) → list_all test nodes ≡ true → (n : ℕ) → is_on nodes n ≡ true → test n ≡ true
each_on test [] all n on = absurd (false≢true on)
each_on test (m ∷ nodes) all n on = by (each_on test nodes (both (test m) (list_all test nodes) all).1 n) (either (m == n) (is_on nodes n) on)
  where
    by : (is_on nodes n ≡ true → test n ≡ true) → ((m == n) ≡ true) ⊎ (is_on nodes n ≡ true) → test n ≡ true
    by later (inl e) = subst (λ n. test n ≡ true) (eqb-true m n e) (both (test m) (list_all test nodes) all).0
    by later (inr e) = later e

-- ---- rows in which nothing stands

objects_none : (row : ℕ → List ℕ) (nodes : List ℕ) → ((n : ℕ) → is_on nodes n ≡ true → row n ≡ []) → objects_of (map row nodes) ≡ []
objects_none row [] none = refl
objects_none row (m ∷ nodes) none =
    ap (λ first. objects_of (first ∷ map row nodes)) (none m (first_on m nodes)) ∙ objects_none row nodes (λ n on. none n (behind_on m n nodes on))

empty_text : (text : List ℕ) → is_nothing text ≡ true → text ≡ []
empty_text [] e = refl
empty_text (byte ∷ text) e = absurd (false≢true e)

-- a row is empty where the node shows nothing of itself, and no node to which it leads shows anything
nothing_there : (rows_of : List ℕ → List (List ℕ)) (place : ℕ) (fetched : List Column) → is_bare fetched place ≡ true
    → AllByRecursion (λ column. objects_of (rows_of (nodes_of column place)) ≡ []) fetched → joined (map (column_text rows_of place) fetched) ≡ []
nothing_there rows_of place [] bare none = refl
nothing_there rows_of place (columns.Own texts ∷ fetched) bare none =
    let parts = both (is_nothing (get_or texts.items place [])) (is_bare fetched place) bare in
    ap (λ (text : List ℕ). joined (text ∷ map (column_text rows_of place) fetched)) (empty_text (get_or texts.items place []) parts.0) ∙ nothing_there rows_of place fetched parts.1 none.1
nothing_there rows_of place (columns.Edge key single lists ∷ fetched) bare none =
    ap (λ (objects : List (List ℕ)). joined (enclosed key (edge_text single objects) [] ∷ map (column_text rows_of place) fetched)) none.0 ∙ nothing_there rows_of place fetched bare none.1

-- ---- what is dry

pub dry_less : (fetched : List Column) (path : List ℕ) (most less node : ℕ) → less ≤ most → IsDry fetched path most node → IsDry fetched path less node
dry_less fetched path most less node below dry = λ left upto longer covers. dry left (omega (arith, upto, below)) longer covers

-- where no edge is followed only the node itself counts
bare_row : (fetched : List Column) (path : List ℕ) (place : ℕ) → is_bare fetched place ≡ true → row_at fetched 0 path place ≡ []
unfolding row_at
bare_row fetched path place bare = nothing_there (λ nodes. []) place fetched bare (each fetched)
  where
    each : (fetched : List Column) → AllByRecursion (λ (column : Column). ◌≡◌ {A = List (List ℕ)} [] []) fetched
    each [] = tt
    each (column ∷ fetched) = (refl, each fetched)

-- a child of which nothing is shown, since it is on the path or dry
child_none : (fetched : List Column) (path longer : List ℕ) (most left n : ℕ) → ((n : ℕ) → is_on path n ≡ true → is_on longer n ≡ true) → left ≤ most
    → (is_on path n ≡ true) ⊎ IsDry fetched path most n → child_at fetched left longer n ≡ []
child_none fetched path longer most left n covers upto (inl on) = ap (λ (t : Bool). if t then [] else row_at fetched left (longer ++ n ∷ []) n) (covers n on)
child_none fetched path longer most left n covers upto (inr dry) = by (is_on longer n) (dry left upto (longer ++ n ∷ []) (λ m on. on_front longer (n ∷ []) m (covers m on)))
  where
    by : (t : Bool) → row_at fetched left (longer ++ n ∷ []) n ≡ [] → (if t then [] else row_at fetched left (longer ++ n ∷ []) n) ≡ []
    by true e = refl
    by false e = e

-- the children of a place, by column, are each on the path or dry
abbrev pub ChildrenDry : List Column → List Column → List ℕ → ℕ → ℕ → Type 0
ChildrenDry fetched here path most place = AllByRecursion (λ column. (n : ℕ) → is_on (nodes_of column place) n ≡ true → (is_on path n ≡ true) ⊎ IsDry fetched path most n) here

edge_row : (fetched : List Column) (path longer : List ℕ) (most left place : ℕ) → is_bare fetched place ≡ true → ChildrenDry fetched fetched path most place
    → ((n : ℕ) → is_on path n ≡ true → is_on longer n ≡ true) → left ≤ most → row_at fetched (suc left) longer place ≡ []
unfolding row_at
edge_row fetched path longer most left place bare dry covers upto = nothing_there (map (child_at fetched left longer)) place fetched bare (each fetched dry)
  where
    each : (here : List Column) → ChildrenDry fetched here path most place → AllByRecursion (λ column. objects_of (map (child_at fetched left longer) (nodes_of column place)) ≡ []) here
    each [] dry = tt
    each (column ∷ here) dry = (
      objects_none (child_at fetched left longer) (nodes_of column place) (λ n on. child_none fetched path longer most left n covers upto (dry.0 n on)),
      each here dry.1,
    )

pub dry_here : (fetched : List Column) (path : List ℕ) (place : ℕ) → is_bare fetched place ≡ true → IsDry fetched path 0 place
dry_here fetched path place bare = λ left upto longer covers. subst (λ left. row_at fetched left longer place ≡ []) (omega (arith, upto)) (bare_row fetched longer place bare)

-- a place that shows nothing of itself is dry where all to which it leads are, one edge less far
pub dry_more : (fetched : List Column) (path : List ℕ) (most place : ℕ) → is_bare fetched place ≡ true → ChildrenDry fetched fetched path most place → IsDry fetched path (suc most) place
dry_more fetched path most place bare dry = by
  where
    by : IsDry fetched path (suc most) place
    by zero upto longer covers = bare_row fetched longer place bare
    by (suc left) upto longer covers = edge_row fetched path longer most left place bare dry covers (omega (arith, upto))

-- ---- by how near places are

least_parts : (near : List ℕ) (fetched : List Column) (place : ℕ) → AreNear near fetched → 0 < get_or near place 0
    → (is_bare fetched place ≡ true) × (list_all (λ column. are_near near (get_or near place 0) (nodes_of column place)) fetched ≡ true)
least_parts near fetched place least far = by (either (get_or near place 0 == 0) _ (least place))
  where
    rest : Bool
    rest = is_bare fetched place && list_all (λ column. are_near near (get_or near place 0) (nodes_of column place)) fetched

    by : ((get_or near place 0 == 0) ≡ true) ⊎ ((is_bare fetched place && list_all (λ column. are_near near (get_or near place 0) (nodes_of column place)) fetched) ≡ true)
        → (is_bare fetched place ≡ true) × (list_all (λ column. are_near near (get_or near place 0) (nodes_of column place)) fetched ≡ true)
    by (inl e) = absurd (omega (arith, far, eqb-true (get_or near place 0) 0 e))
    by (inr e) = both (is_bare fetched place) (list_all (λ column. are_near near (get_or near place 0) (nodes_of column place)) fetched) e

pub bare_far : (near : List ℕ) (fetched : List Column) (place : ℕ) → AreNear near fetched → 0 < get_or near place 0 → is_bare fetched place ≡ true
bare_far near fetched place least far = (least_parts near fetched place least far).0

-- a place from which none that shows something of itself is near enough is dry
pub dry_far : (near : List ℕ) (fetched : List Column) (path : List ℕ) → AreNear near fetched → (most place : ℕ) → most < get_or near place 0 → IsDry fetched path most place
dry_far near fetched path least zero place far = dry_here fetched path place (bare_far near fetched place least far)
dry_far near fetched path least (suc most) place far =
    let parts = least_parts near fetched place least (omega (arith, far)) in
    dry_more fetched path most place parts.0 (each (dry_far near fetched path least most) fetched parts.1)
  where
    each : ((n : ℕ) → most < get_or near n 0 → IsDry fetched path most n) → (here : List Column) → list_all (λ column. are_near near (get_or near place 0) (nodes_of column place)) here ≡ true
        → ChildrenDry fetched here path most place
    each so [] all = tt
    each so (column ∷ here) all =
        let parts = both (are_near near (get_or near place 0) (nodes_of column place)) (list_all (λ column. are_near near (get_or near place 0) (nodes_of column place)) here) all in (
          λ n on. inr (so n (omega (arith, far, leb-true (get_or near place 0) (1 + get_or near n 0) (each_on (λ n. nat_le (get_or near place 0) (1 + get_or near n 0)) (nodes_of column place) parts.0 n on)))),
          each so here parts.1,
        )

-- a child that is on no path and dry, or too far, shows nothing
pub no_child : (fetched : List Column) (path : List ℕ) (most node : ℕ) → IsDry fetched path most node → child_at fetched most path node ≡ []
no_child fetched path most node dry = child_none fetched path path most most node (λ n on. on) (omega arith) (inr dry)

pub child_on : (fetched : List Column) (path : List ℕ) (most node : ℕ) → is_on path node ≡ true → child_at fetched most path node ≡ []
child_on fetched path most node on = ap (λ (t : Bool). if t then [] else row_at fetched most (path ++ node ∷ []) node) on

pub child_off : (fetched : List Column) (path : List ℕ) (most node : ℕ) → is_on path node ≡ false → child_at fetched most path node ≡ row_at fetched most (path ++ node ∷ []) node
child_off fetched path most node off = ap (λ (t : Bool). if t then [] else row_at fetched most (path ++ node ∷ []) node) off
