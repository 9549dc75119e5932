use Rattle.table_zero.proofs.Mirroring.{mirror_lawful}
use Rattle.table_zero.proofs.bench.mirror.Mirror.offer.Goals as goal

pub offered-requires-clause-lawful : goal.offered-requires-clause-lawful
offered-requires-clause-lawful c = mirror_lawful c.args.self.now.zero c.args.self.now.at c.requires.mirror
