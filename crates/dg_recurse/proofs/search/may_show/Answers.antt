use Rattle.std.proofs.Common.{sym, ◌∙◌}
use Rattle.dg_recurse.proofs.DryLaws.{child_on}
use Rattle.dg_recurse.proofs.WayLaws.{far_child, kept_same}
use Rattle.dg_recurse.proofs.search.may_show.Goals as goal
use Rattle.dg_recurse.proofs.search.may_show.Goals.{then-is_too_far-via-then-is_too_far, then-is_too_far-via-else-is_too_far+then-is_on}

pub returns-then-is_too_far-clause-none : goal.returns-then-is_too_far-clause-none
returns-then-is_too_far-clause-none c = λ _. elim c.then-is_too_far.branch [
  | then-is_too_far-via-then-is_too_far w ↦ far_child c.args.columns.now c.args.reach.now.edges c.requires.near.near c.args.way.now c.args.way.now c.args.node c.args.left (kept_same c.args.columns.now c.args.way.now c.requires.sound) (c.is_too_far.ensures.0 w.if-is_too_far.true)
  | then-is_too_far-via-else-is_too_far+then-is_on w ↦ child_on c.args.columns.now c.args.way.now.path.items c.args.left c.args.node (sym w.is_on.ensures ∙ w.if-is_on.true)
]
