use Rattle.dg_wire.proofs.NameLemmas.{name_text}
use Rattle.dg_wire.proofs.arguments.name_in.Goals as goal

pub unreachable-requires : goal.unreachable-requires
unreachable-requires c = c.in-Err.ensures.cases.0 (name_text c.args.word.now c.requires)
