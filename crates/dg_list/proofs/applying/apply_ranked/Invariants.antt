use Rattle.std.proofs.Common.{◌≡◌, ◌≤◌, ◌++◌, List, length, drop}
use Rattle.dg_values.specs.declared.value.Posting.{Posting}
use Rattle.dg_delta.specs.Ops.{after_ops}
use Rattle.dg_list.proofs.applying.apply_ranked.Given as goal

abbrev pub invariant-loop-posting : goal.invariant-loop-posting
invariant-loop-posting l = record {
  within : l.done ≤ length l.ops;
  so_far : (rest : List Posting) → l.yielded ++ rest ≡ l.fn.postings.items → l.list.items ++ after_ops rest (drop l.done l.ops) ≡ after_ops l.fn.postings.items l.ops;
}
