use Rattle.std.proofs.lemmas.Result.{IfOk-weaker}
use Rattle.dg_base.proofs.packing.Packing.add.Goals as goal

pub returns-else-self-eq0-clause-written : goal.returns-else-self-eq0-clause-written
returns-else-self-eq0-clause-written c = IfOk-weaker c.go_on.result _ _ (λ x e whole later packed left. e whole later packed) c.go_on.ensures
