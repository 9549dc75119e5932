use Rattle.std.proofs.Common.{not, rules}
use Rattle.std.specs.Prelude.{◌==◌}
use Rattle.std.proofs.lemmas.Fn.{filter_same}
use Rattle.table_runs.specs.declared.groups.sessions.Session.{Session}
use Rattle.table_runs.proofs.groups.sessions.drop_session.Goals as goal

pub returns : goal.returns
returns c = filter_same _ (λ (s : Session). not (s.number == c.args.number)) _ (λ x b f' k. search rules) _ _ c.retain.ensures.filtered
