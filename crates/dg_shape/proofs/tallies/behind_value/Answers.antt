use Rattle.std.proofs.Common.{Bool, subst, sym}
use Rattle.dg_shape.specs.Normalize.{with_value}
use Rattle.dg_shape.specs.Tallies.{IsTally}
use Rattle.dg_shape.proofs.TallyLaws.{value_tally}
use Rattle.dg_shape.proofs.tallies.behind_value.Goals as goal

pub returns : goal.returns
returns c objects t =
    subst (λ (b : Bool). IsTally c.args.tally.total b (with_value c.args.alias c.args.part.now objects)) (sym c.either-filled.ensures) (value_tally c.args.tally.total c.args.tally.filled c.args.alias c.args.part.now objects t)
