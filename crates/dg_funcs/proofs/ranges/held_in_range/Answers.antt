use Rattle.std.proofs.Common.{◌≡◌, ℕ, List, subst}
use Rattle.std.specs.Prelude.{IfOk, filter}
use Rattle.dg_funcs.specs.Truth.{holds_at}
use Rattle.dg_funcs.proofs.ranges.held_in_range.Goals as goal

pub returns : goal.returns
returns g c =
    let graph = g.S.Snapshot.graph c.args.snap.now in
    let vars = c.args.vars.now.variables in
    subst (λ (ns : List ℕ). IfOk c.held.result (λ uids. uids ≡ filter (λ n. holds_at graph vars n c.args.func.now) ns)) c.in_ok-nodes.ensures.nodes c.held.ensures
