use Rattle.std.proofs.Common.{◌≡◌, ◌⊎◌, inl, inr, ℕ, ◌<◌, ◌≤◌, ◌==◌, true, ◌&&◌, ◌||◌, List, length, ap, arith}
use Rattle.std.specs.List.{list_all}
use Rattle.std.proofs.lemmas.List.{get_or_past}
use Rattle.dg_recurse.specs.Columns.{nodes_of}
use Rattle.dg_recurse.specs.Near.{is_bare, are_near, is_least}
use Rattle.dg_recurse.specs.declared.column.Column.{Column}
use Rattle.dg_recurse.proofs.near.are_least.Goals as goal

-- behind the last place nothing is told
behind : (near : List ℕ) (fetched : List Column) (place : ℕ) → length near ≤ place → is_least near fetched place ≡ true
behind near fetched place past = ap (λ (edges : ℕ). (edges == 0) || (is_bare fetched place && list_all (λ column. are_near near edges (nodes_of column place)) fetched)) (get_or_past near place 0 past)

at_most : (a b : ℕ) → (a < b) ⊎ (b ≤ a)
at_most a b = grind arith

pub returns : goal.returns
returns c = λ yes place. by place (at_most place (length c.args.near.now))
  where
    by : (place : ℕ) → (place < length c.args.near.now) ⊎ (length c.args.near.now ≤ place) → is_least c.args.near.now c.args.columns.now place ≡ true
    by place (inl below) = c.loop-place.invariant place (omega (arith, below, c.loop-place-test.false))
    by place (inr past) = behind c.args.near.now c.args.columns.now place past
