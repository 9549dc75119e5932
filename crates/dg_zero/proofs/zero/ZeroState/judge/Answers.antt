use Rattle.dg_keys.proofs.Ascents.{sorted_from_ascends}
use Rattle.dg_zero.proofs.zero.ZeroState.judge.Goals as goal

pub judge-requires-clause-ascend : goal.judge-requires-clause-ascend
judge-requires-clause-ascend c = sorted_from_ascends c.args.keys.now c.requires.ascend
