use Rattle.std.proofs.Common.{sym, subst, List}
use Rattle.std.specs.Arc.{arc_value}
use Rattle.dg_graph.specs.declared.change.Triple.{Triple}
use Rattle.dg_graph.specs.Graphs.{IsLawful}
use Rattle.dg_txn.specs.Pins.{ArePinsOf}
use Rattle.dg_txn.proofs.PinLaws.{pins_have_one}
use Rattle.dg_txn.proofs.present.Present.of.Goals as goal

pub invariant_of-result : goal.invariant_of-result
invariant_of-result c =
    subst (λ (g : List Triple). ArePinsOf c.args.at (arc_value c.args.schema) (arc_value c.args.owners) c.args.pins.items g) (sym (pins_have_one c.args.at (arc_value c.args.schema) (arc_value c.args.owners) c.args.pins.items c.requires.pins.0 c.requires.pins.1)) c.requires.pins.1

pub returns-clause-graph : goal.returns-clause-graph
returns-clause-graph c = λ graph a i. record { schema = arc_value c.args.schema; graph = pins_have_one c.args.at (arc_value c.args.schema) (arc_value c.args.owners) c.args.pins.items graph a i }

pub returns-clause-lawful : goal.returns-clause-lawful
returns-clause-lawful c =
    subst (λ (g : List Triple). IsLawful (arc_value c.args.schema) g) (sym (pins_have_one c.args.at (arc_value c.args.schema) (arc_value c.args.owners) c.args.pins.items c.requires.pins.0 c.requires.pins.1)) c.requires.pins.1.lawful
