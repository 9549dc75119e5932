use Rattle.dg_zero.proofs.SharedCopies.{shared_copies_stay}
use Rattle.dg_zero.proofs.TabletsAndCopies.{tablets_are_declared, owners_have_copies, copies_are_apart, copies_are_of_tablets}
use Rattle.dg_zero.proofs.laws.tablets_and_copies.Goals as goal

pub returns : goal.returns
returns c = record { declared = tablets_are_declared; owned = owners_have_copies; apart = copies_are_apart; theirs = copies_are_of_tablets; shared = shared_copies_stay }
