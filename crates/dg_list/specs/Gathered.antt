-- What operations say that were gathered from layers, those of the newest layer first.
use Rattle.std.specs.Prelude.{◌≡◌, ◌||◌, Bool, cond, not, List, [], ◌∷◌}
use Rattle.std.specs.List.{list_any, list_all}
use Rattle.std.specs.Ordering.{is_eq}
use Rattle.dg_values.specs.Order.{posting_cmp}
use Rattle.dg_values.specs.declared.value.Posting.{Posting}
use Rattle.dg_delta.specs.declared.op.Op.{Op}
use Rattle.dg_delta.specs.Ops.{posting_of}
use Rattle.dg_delta.specs.Effects.{is_set}

-- whether an operation is on this posting
abbrev pub is_on : Posting → Op → Bool
is_on posting op = is_eq (posting_cmp (posting_of op) posting)

-- whether a posting is there after operations of which the newest stand first, where it was there before or not
abbrev pub there_by : List Op → Posting → Bool → Bool
there_by [] posting was = was
there_by (op ∷ older) posting was = cond (is_on posting op) (is_set op) (there_by older posting was)

-- both say the same of each posting
abbrev pub SayAlike : List Op → List Op → Type 0
SayAlike ops others = (posting : Posting) (was : Bool) → there_by others posting was ≡ there_by ops posting was

-- whether one of the operations is on this posting
abbrev pub stand_on : List Op → Posting → Bool
stand_on ops posting = list_any (is_on posting) ops

-- whether operations stand on each posting that others put in
abbrev pub stand_on_puts : List Op → List Op → Bool
stand_on_puts ops others = list_all (λ other. not (is_set other) || stand_on ops (posting_of other)) others

-- whether operations stand on each of these postings
abbrev pub stand_on_all : List Op → List Posting → Bool
stand_on_all ops postings = list_all (stand_on ops) postings
