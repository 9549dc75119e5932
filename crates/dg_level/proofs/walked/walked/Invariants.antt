use Rattle.std.proofs.Common.{◌≡◌, ℕ, ◌-◌, Bool, false, List, [], ◌∷◌, map, take}
use Rattle.dg_recurse.specs.Ways.{IsAtNone}
use Rattle.dg_level.specs.Looping.{PieceOf, pieces_by}
use Rattle.dg_level.specs.Placing.{ArePlaced}
use Rattle.dg_level.specs.Reaching.{Reaches}
use Rattle.dg_level.specs.Rows.{row_text}
use Rattle.dg_level.specs.Unfolding.{unfolded}
use Rattle.dg_level.proofs.walked.walked.Given as goal

-- a row for each node so far
abbrev pub invariant-loop-node : goal.invariant-loop-node
invariant-loop-node l =
    ((near : ℕ → Bool) (pieces : List PieceOf) → ArePlaced near l.set l.columns pieces → Reaches (pieces_by pieces) (l.depth - 1) l.nodes near l.set
    → l.rows.rows ≡ map (λ n. row_text (unfolded (pieces_by pieces) false (l.depth - 1) (n ∷ []) n)) (take l.node-index l.nodes))
    × (l.rows.begun ≡ [])
    × IsAtNone l.columns l.way
    × (l.rows.limit ≡ l.limit)
