use Rattle.dg_wire.proofs.ScriptLemmas.{generated_valid}
use Rattle.dg_wire.proofs.laws.generated_are_requests.Goals as goal

pub returns : goal.returns
returns c = generated_valid
