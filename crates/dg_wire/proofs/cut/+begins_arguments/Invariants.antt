use Rattle.std.proofs.Common.{length}
use Rattle.dg_wire.proofs.cut.+begins_arguments.Given as goal

abbrev pub decreases-begins_arguments : goal.decreases-begins_arguments
decreases-begins_arguments l = length l.arguments.now
