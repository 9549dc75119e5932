use Rattle.std.proofs.Common.{◌≡◌, ◌≤◌, ◌-◌, ◌++◌, ◌∷◌, List, length, drop}
use Rattle.dg_values.specs.Order.{posting_cmp}
use Rattle.dg_values.specs.Ascending.{Ascends}
use Rattle.dg_values.specs.declared.value.Posting.{Posting}
use Rattle.dg_delta.specs.Ops.{after_ops}
use Rattle.dg_list.proofs.applying.put_upto.Given as goal

abbrev pub invariant-loop-next : goal.invariant-loop-next
invariant-loop-next l = record {
  within : l.next ≤ length l.ops;
  so_far : (rest : List Posting) → Ascends posting_cmp (l.posting ∷ rest) → l.list.items ++ after_ops (l.posting ∷ rest) (drop l.next l.ops) ≡ l.initial.list.items ++ after_ops (l.posting ∷ rest) (drop l.done l.ops);
}

abbrev pub decreases-loop-next : goal.decreases-loop-next
decreases-loop-next l = length l.ops - l.next
