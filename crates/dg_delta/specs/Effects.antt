-- What operations say of one posting, and operations that stand for others.
use Rattle.std.specs.Prelude.{◌≡◌, Bool, true, false, List, [], ◌∷◌, ◌++◌, Option, unwrap_or}
use Rattle.std.specs.List.{flat_map}
use Rattle.dg_values.specs.Order.{posting_cmp}
use Rattle.dg_values.specs.Ascending.{Ascends, has}
use Rattle.dg_values.specs.declared.value.Posting.{Posting}
use Rattle.dg_delta.specs.declared.op.Op.{Op}
use Rattle.dg_delta.specs.declared.op.Op.TheVariants.{Set, Del}
use Rattle.dg_delta.specs.Ops.{after_ops}

-- whether an operation puts its posting in
abbrev pub is_set : Op → Bool
is_set (Set posting) = true
is_set (Del posting) = false

-- what an operation puts in
abbrev pub put_by : Op → List Posting
put_by (Set posting) = posting ∷ []
put_by (Del posting) = []

-- what operations put in
abbrev pub put_by_all : List Op → List Posting
put_by_all ops = flat_map put_by ops

-- these do to each ascending list what the older and then the newer do
abbrev pub AppliesBoth : List Op → List Op → List Op → Type 0
AppliesBoth older newer both =
    (postings : List Posting) → Ascends posting_cmp postings → after_ops postings both ≡ after_ops (after_ops postings older) newer

-- after these, each ascending list has the posting as the answer says, and without an answer as before
abbrev pub Says : List Op → Posting → Option Bool → Type 0
Says ops posting answer =
    (postings : List Posting) → Ascends posting_cmp postings → has posting_cmp (after_ops postings ops) posting ≡ unwrap_or answer (has posting_cmp postings posting)

-- what was added and what operations make of the postings left, is what they made of these and the next posting before
abbrev pub GoesOn : Posting → List Posting → List Op → List Posting → List Op → Type 0
GoesOn next before to_do after left =
    (rest : List Posting) → Ascends posting_cmp (next ∷ rest) → after ++ after_ops rest left ≡ before ++ after_ops (next ∷ rest) to_do
