use Rattle.dg_keys.proofs.Spelled.{read_back}
use Rattle.dg_keys.proofs.reading.read_key.Goals as goal

pub returns-clause-back : goal.returns-clause-back
returns-clause-back c = read_back c.args.bytes.now c.key_of.result c.key_of.ensures
