use Rattle.dg_node.proofs.SpentLemmas.{starting_kept, starting_stands}
use Rattle.dg_node.proofs.engine.Engine.starting_at.Goals as goal

pub invariant_of-result : goal.invariant_of-result
invariant_of-result c = starting_kept c.args.groups c.args.next _ _ c.requires.least c.requires.first c.requires.last c.in_ok-starting_at.ensures.new c.new.ensures.items

pub returns : goal.returns
returns c = starting_stands c.args.groups c.args.next _ _ c.requires.least c.requires.first c.requires.last c.in_ok-starting_at.ensures.new c.new.ensures.items
