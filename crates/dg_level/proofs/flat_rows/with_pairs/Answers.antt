use Rattle.std.proofs.Common.{rules}
use Rattle.std.proofs.lemmas.Fn.{filter_same}
use Rattle.dg_shape.specs.Normalize.{has_pair}
use Rattle.dg_level.proofs.flat_rows.with_pairs.Goals as goal

pub returns : goal.returns
returns c = filter_same _ has_pair _ (λ x b f' k. search rules) _ _ c.retain.ensures.filtered
