use Rattle.std.proofs.Common.{rules}
use Rattle.std.specs.Int.{w32, w64, to_be_bytes}
use Rattle.dg_keys.specs.KeyBytes.{flipped}
use Rattle.dg_keys.proofs.Pushed.{two_pushed}
use Rattle.dg_keys.proofs.writing.push_moment.Goals as goal

pub returns-clause-pushed : goal.returns-clause-pushed
returns-clause-pushed c = two_pushed _ c.push_number.new.bytes.items _ (to_be_bytes w64 (flipped c.args.m.secs)) (to_be_bytes w32 c.args.m.nanos) (search rules) (search rules)
