use Rattle.std.proofs.Common.{rules}
use Rattle.std.specs.Prelude.{nat_lt}
use Rattle.std.proofs.lemmas.Fn.{filter_same}
use Rattle.dg_oracle.proofs.kept.drop_times.Goals as goal

pub returns : goal.returns
returns c = filter_same _ (λ ts. nat_lt c.args.line ts) _ (λ x b f' k. search rules) _ _ c.retain.ensures.filtered
