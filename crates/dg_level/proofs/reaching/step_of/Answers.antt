use Rattle.std.proofs.Common.{◌≡◌, ℕ, List, true, sym, ◌∙◌, subst}
use Rattle.dg_level.specs.Looping.{planned_pieces, AreFetched}
use Rattle.dg_level.proofs.reaching.step_of.Goals as goal

pub returns-clause-fetched : goal.returns-clause-fetched
returns-clause-fetched g c =
    let schema = g.S.Snapshot.declared c.args.snap.now in
    let graph = g.S.Snapshot.graph c.args.snap.now in
    let vars = c.args.vars.now.variables in
    let pieces = planned_pieces true schema graph vars c.args.fields.now c.args.kept.now in
    let same : c.as_slice-slice.result.now ≡ c.in_ok-copy.copy = c.as_slice-slice.ensures.items ∙ sym c.in_ok-copy.ensures in
    subst (λ (ns : List ℕ). AreFetched graph vars ns c.in_ok-all.all.items pieces) same c.in_ok-all.ensures
