use Rattle.table_zero.proofs.Mirroring.{begun_open}
use Rattle.table_zero.proofs.bench.mirror.Mirror.begin.Goals as goal

pub returns-clause-opened : goal.returns-clause-opened
returns-clause-opened c = begun_open c.args.self.now.zero c.begin.new.self c.args.self.now.at c.in_ok-slip.slip _ c.in_ok-slip.ensures c.requires c.in_ok-begin.ensures.ok c.in_ok-begin.ensures.legal c.in_ok-begin.ensures.start
