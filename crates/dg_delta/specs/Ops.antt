-- What operations make of an ascending list of postings, and the operations that lead from one list to another.
use Rattle.std.specs.Prelude.{◌≢◌, List, [], fold, filter, map, not}
use Rattle.std.specs.declared.cmp.Ordering.{Ordering}
use Rattle.dg_values.specs.Order.{posting_cmp}
use Rattle.dg_values.specs.Ascending.{Ascends, has, with_one, without_one}
use Rattle.dg_values.specs.declared.value.Posting.{Posting}
use Rattle.dg_delta.specs.declared.op.Op.{Op}
use Rattle.dg_delta.specs.declared.op.Op.TheVariants.{Set, Del}

-- the posting that an operation puts in or takes out
abbrev pub posting_of : Op → Posting
posting_of (Set posting) = posting
posting_of (Del posting) = posting

-- operations in the order of their postings
abbrev pub op_cmp : Op → Op → Ordering
op_cmp a b = posting_cmp (posting_of a) (posting_of b)

-- the list after one operation: a list has each posting once, in ascending order
abbrev pub after_op : List Posting → Op → List Posting
after_op postings (Set posting) = with_one posting_cmp postings posting
after_op postings (Del posting) = without_one posting_cmp postings posting

-- the list after operations in turn
abbrev pub after_ops : List Posting → List Op → List Posting
after_ops postings ops = fold after_op postings ops

-- the postings of the second list that the first lacks
abbrev pub missing : List Posting → List Posting → List Posting
missing have want = filter (λ posting. not (has posting_cmp have posting)) want

-- the operations from one list to another, ascending by posting: what is lost is taken out, and what is gained is put in
abbrev pub changes_between : List Posting → List Posting → List Op
changes_between old new = fold (with_one op_cmp) (map Del (missing new old)) (map Set (missing old new))

-- one or more operations, one for each posting, in ascending order
pub record AreOps (ops : List Op) : Type 0 where
  pub some : ops ≢ []
  pub ascend : Ascends op_cmp ops
