-- What was learned of places, on a path.
use Rattle.std.proofs.Common.{◌≡◌, ◌⊎◌, inl, inr, ℕ, zero, suc, ◌+◌, ◌<◌, ◌≤◌, Bool, true, false, ◌&&◌, ◌||◌, if◌then◌else◌, List, [], ◌∷◌, ◌++◌, length, take, get_or, refl, sym, ap, ◌∙◌, arith, subst}
use Rattle.std.specs.Prelude.{nat_le, max}
use Rattle.std.specs.List.{list_all}
use Rattle.std.proofs.lemmas.Bool.{leb-true, le-leb}
use Rattle.std.proofs.lemmas.List.Folds.{list_all_more}
use Rattle.dg_recurse.specs.declared.column.Column.{Column}
use Rattle.dg_recurse.specs.declared.way.Raised.{Raised}
use Rattle.dg_recurse.specs.declared.way.Way.{Way}
use Rattle.dg_recurse.specs.Columns.{nodes_of}
use Rattle.dg_recurse.specs.Unfolding.{is_on}
use Rattle.dg_recurse.specs.Written.{child_at, IsDry}
use Rattle.dg_recurse.specs.Near.{AreNear}
use Rattle.dg_recurse.specs.Ways.{are_on, Covers, no_raise, raise_at, raised_at, IsLearned, IsSound, IsSoundWay, IsKept, IsAtNone, far_at, is_far, are_far, are_far_from}
use Rattle.dg_recurse.proofs.DryLaws.{both, either, or_left, or_right, each_on, dry_here, dry_more, dry_far, bare_far, no_child, ChildrenDry}

-- ---- paths

dry_path : (fetched : List Column) (path longer : List ℕ) (most node : ℕ) → Covers path longer → IsDry fetched path most node → IsDry fetched longer most node
dry_path fetched path longer most node on dry = λ left upto longest covers. dry left upto longest (λ n here. covers n (on n here))

-- the nodes of a list are on a longer path too
on_longer : (path longer : List ℕ) → Covers path longer → (nodes : List ℕ) → are_on path nodes ≡ true → are_on longer nodes ≡ true
on_longer path longer covers [] all = refl
on_longer path longer covers (n ∷ nodes) all =
    let parts = both (is_on path n) (are_on path nodes) all in
    (λ i. covers n parts.0 i && are_on longer nodes) ∙ on_longer path longer covers nodes parts.1

-- ---- what is told of a place

valid : (path : List ℕ) (found : Raised) (left : ℕ) → left < raise_at path found → (are_on path found.blockers ≡ true) × (left < found.edges)
valid path found left lt = by (are_on path found.blockers) refl lt
  where
    by : (t : Bool) → are_on path found.blockers ≡ t → left < (if t then found.edges else 0) → (are_on path found.blockers ≡ true) × (left < found.edges)
    by true e lt = (e, lt)
    by false e lt = absurd (omega (arith, lt))

told : (path : List ℕ) (found : Raised) → are_on path found.blockers ≡ true → raise_at path found ≡ found.edges
told path found on = ap (λ (t : Bool). if t then found.edges else 0) on

-- as many edges are told of it wherever its blockers are
told_where : (path other : List ℕ) (found : Raised) (edges : ℕ) → (are_on path found.blockers ≡ true → are_on other found.blockers ≡ true) → edges ≤ raise_at path found → edges ≤ raise_at other found
told_where path other found zero on le = omega arith
told_where path other found (suc edges) on le =
    let so = valid path found edges (omega (arith, le)) in
    omega (arith, so.1, told other found (on so.0))

-- ---- what was learned stays so

nothing_learned : (fetched : List Column) → IsSound fetched []
nothing_learned fetched = record { dry = λ place left lt. absurd (omega (arith, lt)) }

sound_learned : (fetched : List Column) (before after : List Raised) (place : ℕ) (found : Raised) → IsSound fetched before → IsLearned before after place found
    → ((left : ℕ) → left < found.edges → IsDry fetched found.blockers left place) → IsSound fetched after
sound_learned fetched before after place found sound learned dry_place = record { dry = λ n left lt. by n left lt (learned n) }
  where
    by : (n left : ℕ) → left < (get_or after n no_raise).edges → (get_or after n no_raise ≡ get_or before n no_raise) ⊎ ((n ≡ place) × (get_or after n no_raise ≡ found))
        → IsDry fetched (get_or after n no_raise).blockers left n
    by n left lt (inl same) =
        subst (λ (it : Raised). IsDry fetched it.blockers left n) (sym same) (sound.dry n left (subst (λ (it : Raised). left < it.edges) same lt))
    by n left lt (inr it) =
        subst (λ (it : Raised). IsDry fetched it.blockers left n) (sym it.1) (
        subst (λ (place : ℕ). IsDry fetched found.blockers left place) (sym it.0) (dry_place left (subst (λ (it : Raised). left < it.edges) it.1 lt))
        )

-- ---- how far a place is

-- what the test says
abbrev IsFar : List ℕ → List ℕ → List Raised → ℕ → ℕ → Type 0
IsFar near path raised edges place = (is_on path place ≡ true) ⊎ ((edges ≤ get_or near place 0) ⊎ (edges ≤ raised_at path raised place))

module _ (near : List ℕ) (raised : List Raised) (place : ℕ) where
  far_parts : (path : List ℕ) (edges : ℕ) → is_far near path raised edges place ≡ true → IsFar near path raised edges place
  far_parts path edges e = by (either (is_on path place) (nat_le edges (get_or near place 0) || nat_le edges (raised_at path raised place)) e)
    where
      next : (nat_le edges (get_or near place 0) ≡ true) ⊎ (nat_le edges (raised_at path raised place) ≡ true) → IsFar near path raised edges place
      next (inl e) = inr (inl (leb-true edges (get_or near place 0) e))
      next (inr e) = inr (inr (leb-true edges (raised_at path raised place) e))

      by : (is_on path place ≡ true) ⊎ ((nat_le edges (get_or near place 0) || nat_le edges (raised_at path raised place)) ≡ true) → IsFar near path raised edges place
      by (inl e) = inl e
      by (inr e) = next (either (nat_le edges (get_or near place 0)) (nat_le edges (raised_at path raised place)) e)

  far_made : (path : List ℕ) (edges : ℕ) → IsFar near path raised edges place → is_far near path raised edges place ≡ true
  far_made path edges (inl e) = or_left (is_on path place) (nat_le edges (get_or near place 0) || nat_le edges (raised_at path raised place)) e
  far_made path edges (inr (inl e)) =
      or_right (is_on path place) (nat_le edges (get_or near place 0) || nat_le edges (raised_at path raised place))
      (or_left (nat_le edges (get_or near place 0)) (nat_le edges (raised_at path raised place)) (le-leb edges (get_or near place 0) e))
  far_made path edges (inr (inr e)) =
      or_right (is_on path place) (nat_le edges (get_or near place 0) || nat_le edges (raised_at path raised place))
      (or_right (nat_le edges (get_or near place 0)) (nat_le edges (raised_at path raised place)) (le-leb edges (raised_at path raised place) e))

  -- fewer edges, on a longer path
  far_weaker : (path longer : List ℕ) (a b : ℕ) → Covers path longer → a ≤ b → is_far near path raised b place ≡ true → is_far near longer raised a place ≡ true
  far_weaker path longer a b covers le far = far_made longer a (by (far_parts path b far))
    where
      by : IsFar near path raised b place → IsFar near longer raised a place
      by (inl on) = inl (covers place on)
      by (inr (inl x)) = inr (inl (omega (arith, le, x)))
      by (inr (inr x)) = inr (inr (told_where path longer (get_or raised place no_raise) a (on_longer path longer covers (get_or raised place no_raise).blockers) (omega (arith, le, x))))

either_less : (a b left : ℕ) → left < max a b → (left < a) ⊎ (left < b)
either_less a b left lt = grind (arith, lt)

module _ (fetched : List Column) (path near : List ℕ) (raised : List Raised) (least : AreNear near fetched) (sound : IsSound fetched raised) where
  dry_raised : (place left : ℕ) → left < raised_at path raised place → IsDry fetched path left place
  dry_raised place left lt =
      let so = valid path (get_or raised place no_raise) left lt in
      dry_path fetched (get_or raised place no_raise).blockers path left place (each_on (λ n. is_on path n) (get_or raised place no_raise).blockers so.0) (sound.dry place left so.1)

  -- nothing is shown of a place with fewer edges than it is away
  dry_at : (place left : ℕ) → left < far_at near path raised place → IsDry fetched path left place
  dry_at place left lt = by (either_less (get_or near place 0) (raised_at path raised place) left lt)
    where
      by : (left < get_or near place 0) ⊎ (left < raised_at path raised place) → IsDry fetched path left place
      by (inl lt) = dry_far near fetched path least left place lt
      by (inr lt) = dry_raised place left lt

  children : (edges left place : ℕ) → left < edges → (here : List Column) → list_all (λ column. are_far near path raised edges (nodes_of column place)) here ≡ true → ChildrenDry fetched here path left place
  children edges left place lt [] all = tt
  children edges left place lt (column ∷ here) all =
      let parts = both (are_far near path raised edges (nodes_of column place)) (list_all (λ column. are_far near path raised edges (nodes_of column place)) here) all in (
        λ n on. first n (far_parts near raised n path edges (each_on (λ n. is_far near path raised edges n) (nodes_of column place) parts.0 n on)),
        children edges left place lt here parts.1,
      )
    where
      first : (n : ℕ) → IsFar near path raised edges n → (is_on path n ≡ true) ⊎ IsDry fetched path left n
      first n (inl on) = inl on
      first n (inr (inl e)) = inr (dry_far near fetched path least left n (omega (arith, lt, e)))
      first n (inr (inr e)) = inr (dry_raised n left (omega (arith, lt, e)))

  -- a place that shows nothing of itself is one edge farther than all to which it leads
  dry_behind : (place edges : ℕ) → 0 < get_or near place 0 → are_far_from fetched near path raised edges place ≡ true → (left : ℕ) → left < edges + 1 → IsDry fetched path left place
  dry_behind place edges far all zero lt = dry_here fetched path place (bare_far near fetched place least far)
  dry_behind place edges far all (suc left) lt = dry_more fetched path left place (bare_far near fetched place least far) (children edges left place (omega (arith, lt)) fetched all)

-- ---- loops over nodes and columns

-- one node more is there
pub one_more_on : (path longer nodes : List ℕ) (i : ℕ) → i < length nodes → Covers path longer → are_on path (take i nodes) ≡ true → is_on longer (get_or nodes i 0) ≡ true → are_on longer (take (i + 1) nodes) ≡ true
one_more_on path longer nodes i lt covers so one = list_all_more (λ n. is_on longer n) nodes i 0 lt ∙ (λ j. on_longer path longer covers (take i nodes) so j && one j)

module _ (near : List ℕ) (raised : List Raised) (path longer : List ℕ) (a b : ℕ) (covers : Covers path longer) (le : a ≤ b) where
  far_less : (nodes : List ℕ) → are_far near path raised b nodes ≡ true → are_far near longer raised a nodes ≡ true
  far_less [] all = refl
  far_less (n ∷ nodes) all =
      let parts = both (is_far near path raised b n) (are_far near path raised b nodes) all in
      (λ i. far_weaker near raised n path longer a b covers le parts.0 i && are_far near longer raised a nodes) ∙ far_less nodes parts.1

  far_from_less : (place : ℕ) (fetched : List Column) → are_far_from fetched near path raised b place ≡ true → are_far_from fetched near longer raised a place ≡ true
  far_from_less place [] all = refl
  far_from_less place (column ∷ fetched) all =
      let parts = both (are_far near path raised b (nodes_of column place)) (are_far_from fetched near path raised b place) all in
      (λ i. far_less (nodes_of column place) parts.0 i && are_far_from fetched near longer raised a place) ∙ far_from_less place fetched parts.1

  -- one node more, where fewer edges count or the path is longer
  pub node_more : (nodes : List ℕ) (i : ℕ) → i < length nodes → are_far near path raised b (take i nodes) ≡ true → is_far near longer raised a (get_or nodes i 0) ≡ true
      → are_far near longer raised a (take (i + 1) nodes) ≡ true
  node_more nodes i lt so one = list_all_more (λ n. is_far near longer raised a n) nodes i 0 lt ∙ (λ j. far_less (take i nodes) so j && one j)

  -- and one column
  pub column_more : (place : ℕ) (fetched : List Column) (i : ℕ) (column : Column) → i < length fetched → column ≡ get_or fetched i column
      → are_far_from (take i fetched) near path raised b place ≡ true → are_far near longer raised a (nodes_of column place) ≡ true → are_far_from (take (i + 1) fetched) near longer raised a place ≡ true
  column_more place fetched i column lt is so one =
      list_all_more (λ column. are_far near longer raised a (nodes_of column place)) fetched i column lt
      ∙ (λ j. far_from_less place (take i fetched) so j && (ap (λ (column : Column). are_far near longer raised a (nodes_of column place)) (sym is) ∙ one) j)

-- ---- ways after a walk

pub kept_same : (fetched : List Column) (way : Way) → IsSoundWay fetched way → IsKept fetched way way
kept_same fetched way sound = record { path = refl; sound = sound }

pub kept_then : (fetched : List Column) (a b c : Way) → IsKept fetched a b → IsKept fetched b c → IsKept fetched a c
kept_then fetched a b c f g = record { path = g.path ∙ f.path; sound = g.sound }

-- a place is told one edge more than all to which it leads, on whatever path the blockers of these are
pub learned_kept : (fetched : List Column) (near : List ℕ) → AreNear near fetched → (before after : Way) (place edges : ℕ) (found : Raised) → IsSoundWay fetched before
    → after.path ≡ before.path → IsLearned before.raised.items after.raised.items place found
    → 0 < get_or near place 0 → are_far_from fetched near found.blockers before.raised.items edges place ≡ true → found.edges ≤ edges + 1 → IsKept fetched before after
learned_kept fetched near least before after place edges found sound path learned far all upto = record {
  path = ap (λ nodes. nodes.items) path;
  sound =
      sound_learned fetched before.raised.items after.raised.items place found sound learned (
      λ left lt. dry_behind fetched found.blockers near before.raised.items least sound place edges far all left (omega (arith, lt, upto))
      );
}

-- nothing is shown of a place that is told more edges than may be followed
pub dry_told : (fetched : List Column) (near : List ℕ) → AreNear near fetched → (from way : Way) (place left : ℕ) → IsKept fetched from way → left < far_at near way.path.items way.raised.items place
    → IsDry fetched from.path.items left place
dry_told fetched near least from way place left kept lt =
    subst (λ (path : List ℕ). IsDry fetched path left place) kept.path (dry_at fetched way.path.items near way.raised.items least kept.sound place left lt)

pub far_child : (fetched : List Column) (near : List ℕ) → AreNear near fetched → (from way : Way) (place left : ℕ) → IsKept fetched from way → left < far_at near way.path.items way.raised.items place
    → child_at fetched left from.path.items place ≡ []
far_child fetched near least from way place left kept lt = no_child fetched from.path.items left place (dry_told fetched near least from way place left kept lt)

-- ---- one node farther, and back

-- what was learned is so wherever the path goes
pub still_sound : (fetched : List Column) (before after : Way) → after.raised ≡ before.raised → IsSoundWay fetched before → IsSoundWay fetched after
still_sound fetched before after raised sound = subst (λ told. IsSound fetched told.items) (sym raised) sound

pub left_again : (fetched : List Column) (from inside below after : Way) (node : ℕ) → inside.path.items ≡ from.path.items ++ node ∷ [] → IsKept fetched inside below
    → ((front : List ℕ) (node : ℕ) → below.path.items ≡ front ++ node ∷ [] → after.path.items ≡ front) → after.raised ≡ below.raised → IsKept fetched from after
left_again fetched from inside below after node path kept path_left raised = record {
  path = path_left from.path.items node (kept.path ∙ path);
  sound = still_sound fetched below after raised kept.sound;
}

-- a way that is at no node again
pub none_again : (fetched : List Column) (from after : Way) → IsAtNone fetched from → IsKept fetched from after → IsAtNone fetched after
none_again fetched from after none kept = record { path = kept.path ∙ none.path; sound = kept.sound }

-- so is one along which nothing was learned
pub none_at_first : (fetched : List Column) (way : Way) → way.path.items ≡ [] → way.raised.items ≡ [] → IsAtNone fetched way
none_at_first fetched way path raised = record {
  path = path;
  sound = subst (λ (raised : List Raised). IsSound fetched raised) (sym raised) (nothing_learned fetched);
}
