use Rattle.dg_nquad.proofs.GroupsListed.{groups_listed, grouped_listed}
use Rattle.dg_nquad.proofs.laws.groups_are_listed.Goals as goal

pub returns : goal.returns
returns c = record { read = groups_listed; whole = grouped_listed }
