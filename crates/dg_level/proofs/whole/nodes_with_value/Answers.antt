use Rattle.std.proofs.Common.{◌∙◌, rules}
use Rattle.dg_check.specs.declared.parts.Item.TheViews.{out-Item}
use Rattle.dg_level.specs.Planned.{value_there}
use Rattle.dg_level.proofs.WholeLaws.{none_pass}
use Rattle.dg_level.proofs.whole.nodes_with_value.Goals as goal

pub returns-in-Plain : goal.returns-in-Plain
returns-in-Plain c = c.no_nodes.ensures ∙ none_pass (λ n. value_there c.args.vars.now.variables n (out-Item c.args.kept.now)) (λ n. search rules) c.args.nodes.now
