use Rattle.std.proofs.Common.{not, rules}
use Rattle.std.specs.Prelude.{◌==◌}
use Rattle.std.proofs.lemmas.Fn.{filter_same}
use Rattle.dg_zero.specs.Counters.{Started}
use Rattle.table_runs.proofs.groups.starts.drop_start.Goals as goal

pub returns : goal.returns
returns c = filter_same _ (λ (s : Started). not (s.start == c.args.start)) _ (λ x b f' k. search rules) _ _ c.retain.ensures.filtered
