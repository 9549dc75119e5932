-- Posting lists: a base, and layers of operations above it.
use Rattle.std.specs.Prelude.{◌≡◌, ℕ, ◌<◌, ◌≤◌, cond, nat_le, nat_lt, List, [], ◌∷◌, filter}
use Rattle.dg_values.specs.Order.{posting_cmp}
use Rattle.dg_values.specs.Ascending.{Ascends}
use Rattle.dg_values.specs.declared.value.Posting.{Posting}
use Rattle.dg_delta.specs.Ops.{after_ops}
use Rattle.dg_delta.specs.Layers.{Changes}
use Rattle.dg_delta.specs.declared.op.Op.{Op}

-- a base with its timestamp, and the layers above it, the newest first
pub record Layered : Type 0 where
  pub base_ts : ℕ
  pub base : List Posting
  pub layers : List Changes

-- the operations of a layer that count at a timestamp: all, or none
abbrev pub ops_upto : ℕ → Changes → List Op
ops_upto ts layer = cond (nat_le layer.ts ts) layer.ops []

-- the base after the layers at or below a timestamp, the oldest first
abbrev pub after_layers : ℕ → List Changes → List Posting → List Posting
after_layers ts [] base = base
after_layers ts (layer ∷ older) base = after_ops (after_layers ts older base) (ops_upto ts layer)

-- the list at a timestamp
abbrev pub reading : Layered → ℕ → List Posting
reading list ts = after_layers ts list.layers list.base

-- the timestamp of the newest layer, or else of the base
abbrev pub newest_of : ℕ → List Changes → ℕ
newest_of base_ts [] = base_ts
newest_of base_ts (layer ∷ older) = layer.ts

-- the newest timestamp of a list
abbrev pub newest_ts : Layered → ℕ
newest_ts list = newest_of list.base_ts list.layers

-- each layer's timestamp is above those below it
abbrev pub IsStacked : ℕ → List Changes → Type 0
IsStacked base_ts [] = Unit {0}
IsStacked base_ts (layer ∷ older) = (newest_of base_ts older < layer.ts) × IsStacked base_ts older

-- what holds of every posting list
pub record IsSound (list : Layered) : Type 0 where
  pub base : Ascends posting_cmp list.base
  pub layers : IsStacked list.base_ts list.layers

-- the list with one more layer
abbrev pub with_layer : Layered → Changes → Layered
with_layer list layer = record { base_ts = list.base_ts; base = list.base; layers = layer ∷ list.layers }

-- the list with another base, under its layers above a timestamp
abbrev pub with_base : Layered → List Posting → ℕ → Layered
with_base list base upto = record { base_ts = upto; base = base; layers = filter (λ layer. nat_lt upto layer.ts) list.layers }

-- two lists read the same from a timestamp on
abbrev pub ReadsAlike : ℕ → Layered → Layered → Type 0
ReadsAlike from list other = (ts : ℕ) → from ≤ ts → reading other ts ≡ reading list ts
