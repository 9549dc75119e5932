use Rattle.std.proofs.Common.{List, ℕ, ◌≡◌, subst}
use Rattle.std.specs.Prelude.{IfOk}
use Rattle.dg_funcs.proofs.NumberLaws.{pointed_counted}
use Rattle.dg_funcs.proofs.numbers.pointed_by_numbers.Goals as goal

pub returns : goal.returns
returns g c =
    subst (λ (ys : List ℕ). IfOk c.by_count.result (λ uids. uids ≡ ys)) (pointed_counted (g.S.Snapshot.graph c.args.snap.now) c.args.p.now) c.by_count.ensures.nodes
