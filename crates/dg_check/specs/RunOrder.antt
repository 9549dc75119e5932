-- The order in which the blocks run: again and again the first block of the text whose variables are known.
use Rattle.std.specs.Prelude.{ℕ, zero, suc, ◌+◌, List, [], ◌∷◌, ◌++◌, Bool, true, false, Option, Some, None, not, ◌&&◌, if◌then◌else◌, map, flat_map, slice_get}
use Rattle.std.specs.BTreeMap.{BTreeMap, get_by}
use Rattle.std.specs.List.{list_all}
use denote.Ref.{Bor}
use Rattle.dg_values.specs.Order.{text_cmp}
use Rattle.dg_parse.specs.declared.query.Query.{Query}
use Rattle.dg_check.specs.declared.blocks.BlockNames.{BlockNames}
use Rattle.dg_check.specs.Blocks.{names_of_blocks}
use Rattle.dg_check.specs.Cycles.{is_place_in, definers}

-- for each block the places of those whose variables it uses
abbrev pub dependencies : List BlockNames → List (List ℕ)
dependencies blocks = map (λ block. flat_map (definers blocks) block.used) blocks

-- the blocks that stand under a name
abbrev pub blocks_under : BTreeMap (Bor (List ℕ)) (List ℕ) → List ℕ → List ℕ
blocks_under under x = elim (get_by (λ name. text_cmp x name.now) under) [ None ↦ [] | Some blocks ↦ blocks ]

-- a place, or none
abbrev pub alone_where : Bool → ℕ → List ℕ
alone_where true at = at ∷ []
alone_where false at = []

-- the dependencies of the block at a place
abbrev pub deps_at : List (List ℕ) → ℕ → List ℕ
deps_at [] at = []
deps_at (needs ∷ more) zero = needs
deps_at (needs ∷ more) (suc at) = deps_at more at

-- the first block that hasn't run and depends on none that hasn't; these are those from a place on
abbrev pub first_ready : List ℕ → ℕ → List (List ℕ) → Option ℕ
first_ready ran at [] = None
first_ready ran at (needs ∷ more) = if not (is_place_in ran at) && list_all (is_place_in ran) needs then Some at else first_ready ran (at + 1) more

-- one block more for each turn, as long as one is ready
abbrev pub run_more : List (List ℕ) → List (List ℕ) → List ℕ → List ℕ
run_more [] deps ran = ran
run_more (turn ∷ turns) deps ran = elim (first_ready ran 0 deps) [ None ↦ ran | Some at ↦ run_more turns deps (ran ++ at ∷ []) ]

-- the places of the blocks in the order in which they run: as many turns as there are blocks
abbrev pub run_order : List (List ℕ) → List ℕ
run_order deps = run_more deps deps []

-- of a query
abbrev pub order_of : Query → List ℕ
order_of query = run_order (dependencies (names_of_blocks query.blocks))

-- each block comes after those that it depends on, of blocks behind those before
abbrev pub is_ordered : List (List ℕ) → List ℕ → List ℕ → Bool
is_ordered deps before [] = true
is_ordered deps before (at ∷ more) = list_all (is_place_in before) (deps_at deps at) && is_ordered deps (before ++ at ∷ []) more

-- a block that hasn't run, and all of whose dependencies have
abbrev pub is_ready : List ℕ → ℕ → Option (List ℕ) → Bool
is_ready ran at None = false
is_ready ran at (Some needs) = not (is_place_in ran at) && list_all (is_place_in ran) needs

-- each is a block that is ready when it runs, behind those before; so none runs twice
abbrev pub are_ready : List (List ℕ) → List ℕ → List ℕ → Bool
are_ready deps before [] = true
are_ready deps before (at ∷ more) = is_ready before at (slice_get deps at) && are_ready deps (before ++ at ∷ []) more
