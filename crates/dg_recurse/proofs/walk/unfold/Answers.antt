use Rattle.dg_recurse.proofs.walk.unfold.Goals as goal

pub unfold_along-requires-clause-way : goal.unfold_along-requires-clause-way
unfold_along-requires-clause-way c = c.new.ensures c.args.columns.now
