use Rattle.std.proofs.Common.{◌∙◌}
use Rattle.std.specs.Prelude.{bytes_eq}
use Rattle.std.proofs.lemmas.List.Filters.{dedup_is}
use Rattle.dg_tokens.proofs.Sorted.{kept_once}
use Rattle.dg_tokens.proofs.distinct.distinct.Goals as goal

pub returns : goal.returns
returns c =
    dedup_is bytes_eq c.sort_unstable.new.self.items c.dedup.new.self.items c.dedup.ensures.filtered
    ∙ kept_once c.args.texts.items c.sort_unstable.new.self.items c.sort_unstable.ensures.permutation c.sort_unstable.ensures.sorted
