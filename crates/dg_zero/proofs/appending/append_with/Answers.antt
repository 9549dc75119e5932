use Rattle.dg_zero.proofs.RecordsApart.{appended}
use Rattle.dg_zero.proofs.appending.append_with.Goals as goal

pub returns : goal.returns
returns c = appended c.args.past.now.records.items c.push_reserved.new.self.items c.args.past.now.chain c.put.new.chain c.args.slip c.args.what c.args.written c.args.past.now.counted c.push_reserved.ensures.items c.put.ensures.entries
