use Rattle.dg_group.proofs.Entries.{entries_keep_in_step, all_applied_is_readable}
use Rattle.dg_group.proofs.Alters.{alters_keep_in_step}
use Rattle.dg_group.proofs.laws.entries_of_histories.Goals as goal

pub returns-clause-keep : goal.returns-clause-keep
returns-clause-keep c = entries_keep_in_step

pub returns-clause-readable : goal.returns-clause-readable
returns-clause-readable c = all_applied_is_readable

pub returns-clause-keep_alters : goal.returns-clause-keep_alters
returns-clause-keep_alters c = alters_keep_in_step
