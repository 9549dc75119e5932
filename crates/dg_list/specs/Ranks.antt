-- Numbers by which postings are sorted before they are compared.
use Rattle.std.specs.Prelude.{◌≡◌, ◌<◌, ◌-◌, ◌^◌, ℕ, Bool}
use Rattle.dg_values.specs.declared.value.Posting.{Posting}
use Rattle.dg_values.specs.declared.value.Posting.TheVariants.{Uid, Val}
use Rattle.dg_delta.specs.declared.op.Op.{Op}
use Rattle.dg_delta.specs.Ops.{posting_of}
use Rattle.dg_delta.specs.Effects.{is_set}

-- a node's number, and for values, which come after all nodes, the greatest
abbrev pub rank_of : Posting → ℕ
rank_of (Uid node) = node
rank_of (Val value) = 2 ^ 64 - 1

-- the rank of a posting, in eight bytes
pub record IsRank (rank : ℕ) (posting : Posting) : Type 0 where
  pub is : rank ≡ rank_of posting
  pub fits : rank < 2 ^ 64

-- what is kept beside an operation: the rank of its posting, and whether it puts that in
pub record AreKeptOf (rank : ℕ) (set : Bool) (op : Op) : Type 0 where
  pub posting : IsRank rank (posting_of op)
  pub puts_in : set ≡ is_set op
