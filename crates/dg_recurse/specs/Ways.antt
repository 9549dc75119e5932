-- What was learned of how far places are from one that shows something of itself, off the path.
use Rattle.std.specs.Prelude.{◌≡◌, ◌⊎◌, ℕ, ◌<◌, nat_le, Bool, true, ◌||◌, max, if◌then◌else◌, List, [], get_or}
use Rattle.std.specs.List.{list_all}
use Rattle.dg_recurse.specs.declared.column.Column.{Column}
use Rattle.dg_recurse.specs.declared.way.Raised.{Raised}
use Rattle.dg_recurse.specs.declared.way.Way.{Way}
use Rattle.dg_recurse.specs.Columns.{nodes_of}
use Rattle.dg_recurse.specs.Unfolding.{is_on}
use Rattle.dg_recurse.specs.Written.{IsDry}

-- all these nodes are on a path
abbrev pub are_on : List ℕ → List ℕ → Bool
are_on path nodes = list_all (λ n. is_on path n) nodes

-- each node of a path is on another
abbrev pub Covers : List ℕ → List ℕ → Type 0
Covers path longer = (n : ℕ) → is_on path n ≡ true → is_on longer n ≡ true

-- nothing was learned
abbrev pub no_raise : Raised
no_raise = record { edges = 0; blockers = [] }

-- the edges of what was learned, where its blockers are on the path
abbrev pub raise_at : List ℕ → Raised → ℕ
raise_at path found = if are_on path found.blockers then found.edges else 0

-- so many edges are told of a place on a path
abbrev pub raised_at : List ℕ → List Raised → ℕ → ℕ
raised_at path raised place = raise_at path (get_or raised place no_raise)

-- what was learned of a place is as before, or it is this, of this one place
abbrev pub IsLearned : List Raised → List Raised → ℕ → Raised → Type 0
IsLearned before after place found = (n : ℕ) → (get_or after n no_raise ≡ get_or before n no_raise) ⊎ ((n ≡ place) × (get_or after n no_raise ≡ found))

-- what was learned is so: nothing is shown of the place with fewer edges, at the end of whatever path has its blockers on it
pub record IsSound (fetched : List Column) (raised : List Raised) : Type 0 where
  pub dry : (place left : ℕ) → left < (get_or raised place no_raise).edges → IsDry fetched (get_or raised place no_raise).blockers left place

-- so of a way
abbrev pub IsSoundWay : List Column → Way → Type 0
IsSoundWay fetched way = IsSound fetched way.raised.items

-- a way that is at no node
pub record IsAtNone (fetched : List Column) (way : Way) : Type 0 where
  pub path : way.path.items ≡ []
  pub sound : IsSoundWay fetched way

-- a way after a walk from its end is the one before, and what was learned is so
pub record IsKept (fetched : List Column) (from to : Way) : Type 0 where
  pub path : to.path.items ≡ from.path.items
  pub sound : IsSoundWay fetched to

-- how many edges a place is away at least
abbrev pub far_at : List ℕ → List ℕ → List Raised → ℕ → ℕ
far_at near path raised place = max (get_or near place 0) (raised_at path raised place)

-- a place is on the path, or it is so far
abbrev pub is_far : List ℕ → List ℕ → List Raised → ℕ → ℕ → Bool
is_far near path raised edges place = is_on path place || (nat_le edges (get_or near place 0) || nat_le edges (raised_at path raised place))

-- so is each of these
abbrev pub are_far : List ℕ → List ℕ → List Raised → ℕ → List ℕ → Bool
are_far near path raised edges nodes = list_all (λ n. is_far near path raised edges n) nodes

-- so are all to which columns lead from a place
abbrev pub are_far_from : List Column → List ℕ → List ℕ → List Raised → ℕ → ℕ → Bool
are_far_from fetched near path raised edges place = list_all (λ column. are_far near path raised edges (nodes_of column place)) fetched
