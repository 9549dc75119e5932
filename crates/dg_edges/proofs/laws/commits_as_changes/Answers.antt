use Rattle.dg_edges.proofs.CommitsSince.{commits_do_as_asked}
use Rattle.dg_edges.proofs.KeysStay.{keys_stand_still}
use Rattle.dg_edges.proofs.KindsStay.{commits_are_exact}
use Rattle.dg_edges.proofs.laws.commits_as_changes.Goals as goal

pub returns : goal.returns
returns c = record { asked = commits_do_as_asked; still = keys_stand_still; exact = commits_are_exact }
