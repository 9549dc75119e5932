use Rattle.std.proofs.Common.{[], ◌≡◌, ◌++◌, sym, ap, subst, ◌∙◌}
use Rattle.dg_values.specs.Ascending.{Ascends}
use Rattle.dg_values.specs.Order.{posting_cmp}
use Rattle.dg_delta.specs.Ops.{after_ops}
use Rattle.dg_delta.specs.Effects.{put_by_all}
use Rattle.dg_delta.proofs.OpLaws.{ascends_after}
use Rattle.dg_delta.proofs.Passes.{after_none}
use Rattle.dg_delta.proofs.overlay.put_in.Goals as goal
use Rattle.dg_delta.proofs.overlay.put_in.Goals.{In_ok-put_all}

is_after : (c : In_ok-put_all) → c.put_all.new.list.items ≡ after_ops [] c.args.ops.now
is_after c =
    c.in_ok-put_all.ensures ∙ ap (λ xs. xs ++ put_by_all c.args.ops.now) c.new-list.ensures.items ∙ sym (after_none c.args.ops.now c.requires)

pub returns-clause-after : goal.returns-clause-after
returns-clause-after c = is_after c

pub returns-clause-ascend : goal.returns-clause-ascend
returns-clause-ascend c = subst (Ascends posting_cmp) (sym (is_after c)) (ascends_after c.args.ops.now [] tt)
