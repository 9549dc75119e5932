use Rattle.std.proofs.Common.{◌∙◌}
use Rattle.dg_parse.proofs.OwnKeys.{kept}
use Rattle.dg_parse.proofs.listed.Blocks.with.Goals as goal

pub invariant_of-result : goal.invariant_of-result
invariant_of-result c =
    kept (λ b. b.name) _ c.args.block c.self.inside.names c.insert.new.self _ c.push.new.self c.self.invariant (c.in_ok-name.ensures.made ∙ c.as_str.ensures) c.in_ok-insert.ensures.updates c.in_ok-push.ensures.ok
