use Rattle.std.specs.Arc.{arc_value}
use Rattle.dg_level.proofs.FlatLaws.{key_added}
use Rattle.dg_level.proofs.flats.insert_key.Goals as goal

pub returns : goal.returns
returns c = λ fields are. key_added c.args.keys.now c.insert.new.self fields (arc_value c.args.pair.now) c.in_ok-of.field-0 c.in_ok-of.ensures c.in_ok-insert.ensures.updates are
