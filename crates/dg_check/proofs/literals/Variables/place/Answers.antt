use Rattle.std.proofs.Common.{◌∙◌}
use Rattle.std.specs.List.{position_or_len}
use Rattle.dg_values.specs.Order.{same_text}
use Rattle.dg_check.proofs.literals.Variables.place.Goals as goal

pub returns : goal.returns
returns c = rw (← c.self.view_is) (c.place.ensures ∙ (λ i. position_or_len (same_text c.args.name.now) (c.self.invariant i)))
