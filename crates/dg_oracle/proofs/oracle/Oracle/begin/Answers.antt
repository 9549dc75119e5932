use Rattle.std.proofs.Common.{◌≡◌, ◌++◌, ◌∷◌, [], arith}
use Rattle.std.proofs.lemmas.Grind.{common_steps}
use Rattle.dg_oracle.proofs.Oracles.{begun_is}
use Rattle.dg_oracle.proofs.oracle.Oracle.begin.Goals as goal

pub invariant_of-self-2 : goal.invariant_of-self-2
invariant_of-self-2 g c =
    let e : c.push.new.self.items ≡ c.self.inside.active.items ++ c.self.inside.next ∷ [] = grind (arith, common_steps) in
    rw e (begun_is _ c.self.invariant (omega arith))

pub returns-clause-valid : goal.returns-clause-valid
returns-clause-valid g c =
    let e : c.push.new.self.items ≡ c.self.inside.active.items ++ c.self.inside.next ∷ [] = grind (arith, common_steps) in
    rw e (begun_is _ c.self.invariant (omega arith))
