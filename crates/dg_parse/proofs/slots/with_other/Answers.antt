use Rattle.dg_parse.proofs.Slotted.{indexed_other}
use Rattle.dg_parse.proofs.slots.with_other.Goals as goal

pub returns-clause-made : goal.returns-clause-made
returns-clause-made c before groups are =
    indexed_other before c.args.field.now groups _ c.args.others c.insert.new.self are c.in_ok-key.ensures.made c.in_ok-insert.ensures.updates
