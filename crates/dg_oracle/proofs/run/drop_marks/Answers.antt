use Rattle.std.proofs.Common.{rules}
use Rattle.std.specs.Prelude.{nat_lt}
use Rattle.std.proofs.lemmas.Fn.{filter_same}
use Rattle.dg_oracle.proofs.run.drop_marks.Goals as goal

pub returns : goal.returns
returns g c = filter_same _ (λ m. nat_lt c.args.line m.ts) _ (λ x b f' k. search rules) _ _ c.retain.ensures.filtered
