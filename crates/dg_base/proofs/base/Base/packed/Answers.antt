use Rattle.dg_base.proofs.Postings.{uids_of-parted}
use Rattle.dg_base.proofs.base.Base.packed.Goals as goal

pub returns : goal.returns
returns c = rw (← c.self.view_is) (rw (uids_of-parted c.self.inside.nodes c.self.inside.values.items c.self.invariant.none) c.packed.ensures)
