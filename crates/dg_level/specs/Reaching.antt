-- The nodes that a recursion reaches.
use Rattle.std.specs.Prelude.{◌≡◌, ℕ, zero, suc, ◌<◌, Bool, true, if◌then◌else◌, List, [], ◌++◌, map, filter, flat_map}
use Rattle.std.specs.List.{AllByRecursion, list_any}
use Rattle.std.specs.Ordering.{nat_cmp}
use Rattle.dg_values.specs.Ascending.{has}
use Rattle.dg_graph.specs.declared.change.Triple.{Triple}
use Rattle.dg_check.specs.declared.vars.Variable.{Variable}
use Rattle.dg_level.specs.declared.reaching.Step.{Step}
use Rattle.dg_level.specs.Looping.{PieceOf, nodes_in, AreFetched}
use Rattle.dg_level.specs.Unfolding.{Piece, own, edge}

-- the nodes to which pieces lead
abbrev pub nodes_of_pieces : List Piece → List ℕ
nodes_of_pieces pieces = flat_map nodes_in pieces

-- the nodes one step from these
abbrev pub one_step : (ℕ → List Piece) → List ℕ → List ℕ
one_step pieces nodes = flat_map (λ n. nodes_of_pieces (pieces n)) nodes

-- the nodes at most so many steps from these
abbrev pub within_steps : (ℕ → List Piece) → ℕ → List ℕ → List ℕ
within_steps pieces zero nodes = nodes
within_steps pieces (suc steps) nodes = within_steps pieces steps nodes ++ one_step pieces (within_steps pieces steps nodes)

-- a piece that leads to no other nodes than these
abbrev pub piece_within : List ℕ → Piece → Piece
piece_within set (own fields) = own fields
piece_within set (edge key single nodes) = edge key single (filter (λ n. has nat_cmp set n) nodes)

-- the nodes to which a node may lead: those of a set, where it is near, and else none
abbrev pub led_to : (ℕ → Bool) → List ℕ → ℕ → List ℕ
led_to near set node = if near node then set else []

-- all pieces of a node so
abbrev pub pieces_within : (ℕ → List ℕ) → (ℕ → List Piece) → ℕ → List Piece
pieces_within nodes_for pieces node = map (piece_within (nodes_for node)) (pieces node)

-- a set has all nodes at most so many steps from these, and those fewer steps away are near
pub record Reaches (pieces : ℕ → List Piece) (steps : ℕ) (roots : List ℕ) (near : ℕ → Bool) (set : List ℕ) : Type 0 where
  pub all : (u : ℕ) → has nat_cmp (within_steps pieces steps roots) u ≡ true → has nat_cmp set u ≡ true
  pub nearer : (k u : ℕ) → k < steps → has nat_cmp (within_steps pieces k roots) u ≡ true → near u ≡ true

-- a step has the node
abbrev pub is_near : List Step → ℕ → Bool
is_near steps node = list_any (λ step. has nat_cmp step.nodes node) steps

-- each step has what was fetched of its nodes
abbrev pub AreSteps : List Triple → List Variable → List PieceOf → List Step → Type 0
AreSteps graph vars pieces steps = AllByRecursion (λ step. AreFetched graph vars step.nodes step.all.items pieces) steps
