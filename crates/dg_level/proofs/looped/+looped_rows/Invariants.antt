use Rattle.dg_level.proofs.looped.+looped_rows.Given as goal

abbrev pub decreases-looped_rows : goal.decreases-looped_rows
decreases-looped_rows g l = l.left
