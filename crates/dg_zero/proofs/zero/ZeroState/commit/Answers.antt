use Rattle.dg_keys.proofs.Ascents.{sorted_from_ascends}
use Rattle.dg_zero.proofs.zero.ZeroState.commit.Goals as goal

pub judge-requires-clause-ascend : goal.judge-requires-clause-ascend
judge-requires-clause-ascend c = rw c.as_slice.ensures (sorted_from_ascends c.args.offer.keys c.requires.sound.ascend)
