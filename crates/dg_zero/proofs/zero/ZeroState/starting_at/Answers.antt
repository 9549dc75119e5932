use Rattle.std.proofs.Common.{◌∙◌, length, ap, sym}
use Rattle.dg_zero.proofs.SpentTimestamps.{starting_keeps}
use Rattle.dg_zero.proofs.zero.ZeroState.starting_at.Goals as goal

pub invariant_of-result : goal.invariant_of-result
invariant_of-result c = record { counted = ap length (sym c.new-5.ensures.items) }

pub invariant_of-result-2 : goal.invariant_of-result-2
invariant_of-result-2 c =
    starting_keeps c.args.groups c.args.next _ _ _ _ _ c.requires.least c.requires.first c.requires.last c.in_ok-starting_at.ensures.new (c.in_ok-new.ensures.ok ∙ c.new.ensures) c.new-3.ensures.items (c.in_ok-new-2.ensures.ok ∙ c.none.ensures) c.in_ok-no_counts.ensures
