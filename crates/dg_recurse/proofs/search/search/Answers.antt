use Rattle.dg_recurse.proofs.WayLaws.{dry_told}
use Rattle.dg_recurse.proofs.search.search.Goals as goal

pub returns-then-is_too_far-clause-dry : goal.returns-then-is_too_far-clause-dry
returns-then-is_too_far-clause-dry c = λ _.
    let l = c.loop-step in
    dry_told c.args.columns.now c.args.reach.now.edges c.requires.near.near c.args.way.now l.way c.args.node c.args.left l.invariant (c.is_too_far.ensures.0 c.if-is_too_far.true)
