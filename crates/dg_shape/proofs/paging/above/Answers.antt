use Rattle.std.proofs.Common.{rules}
use Rattle.std.specs.Prelude.{nat_lt}
use Rattle.std.proofs.lemmas.Fn.{filter_same}
use Rattle.dg_shape.proofs.paging.above.Goals as goal

pub returns-in-Some : goal.returns-in-Some
returns-in-Some c = rw c.in-Some.is (filter_same _ (λ n. nat_lt c.in-Some.after n) _ (λ x b f' k. search rules) _ _ c.retain.ensures.filtered)
