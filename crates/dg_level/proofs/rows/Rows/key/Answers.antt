use Rattle.dg_level.proofs.KeepLemmas.{begun_anew}
use Rattle.dg_level.proofs.rows.Rows.key.Goals as goal

pub invariant_of-self : goal.invariant_of-self
invariant_of-self c = begun_anew c.self.invariant c.push_key.new.out c.room-room.result c.args.self.now c.self.view_is c.room-room.ensures c.push_key.ensures.within
