-- Ascending numbers as packed bytes, in a byte form of this project's own.
use Rattle.std.specs.Prelude.{ℕ, zero, suc, ◌+◌, ◌-◌, ◌/◌, ◌%◌, nat_lt, min, cond, Bool, true, false, List, [], ◌∷◌, ◌++◌, length}
use Rattle.std.specs.Int.{w64, to_be_bytes}
use Rattle.dg_values.specs.declared.value.Posting.{Posting}
use Rattle.dg_values.specs.declared.value.Posting.TheVariants.{Uid, Val}

-- a number in groups of 7 bits, the lowest first, where each but the last has its high bit set
-- at most so many groups follow the first
unfoldable pub groups : ℕ → ℕ → List ℕ
groups zero n = n ∷ []
groups (suc more) n = cond (nat_lt n 128) (n ∷ []) ((128 + n % 128) ∷ groups more (n / 128))

-- the bytes of ascending numbers behind a last one, whose block has room for so many of them
-- where there is none a block begins, of 128 numbers or of those that are left: a byte says how many follow its first number,
-- which stands there in 8 bytes, the highest first; a later number is its difference to the one before, in at most ten groups
abbrev pub packed_after : ℕ → ℕ → List ℕ → List ℕ
packed_after last room [] = []
packed_after last zero (x ∷ xs) = min 127 (length xs) ∷ (to_be_bytes w64 x ++ packed_after x 127 xs)
packed_after last (suc room) (x ∷ xs) = groups 9 (x - last) ++ packed_after x room xs

-- numbers as bytes: the first one begins a block
abbrev pub packed : List ℕ → List ℕ
packed xs = packed_after 0 0 xs

-- a node
abbrev pub is_uid : Posting → Bool
is_uid (Uid n) = true
is_uid (Val v) = false

-- the numbers of the nodes among postings, in their order
abbrev pub uids_of : List Posting → List ℕ
uids_of [] = []
uids_of (Uid n ∷ ps) = n ∷ uids_of ps
uids_of (Val v ∷ ps) = uids_of ps
