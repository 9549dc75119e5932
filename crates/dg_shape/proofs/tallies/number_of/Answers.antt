use Rattle.std.proofs.Common.{rules}
use Rattle.dg_shape.proofs.TallyLaws.{tally_ends}
use Rattle.dg_shape.proofs.tallies.number_of.Goals as goal

pub returns-then-tally : goal.returns-then-tally
returns-then-tally c objects t = tally_ends c.args.tally.total c.args.tally.filled objects t (search rules)
