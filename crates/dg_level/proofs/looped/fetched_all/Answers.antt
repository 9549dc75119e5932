use Rattle.std.proofs.Common.{◌≤◌, ◌<◌, ◌+◌, List, ◌++◌, [], ◌∷◌, take, length, subst, sym, arith}
use Rattle.dg_level.specs.declared.looped.Fetched.{Fetched}
use Rattle.dg_level.specs.Looping.{PieceOf, planned_piece, planned_pieces, AreFetched}
use Rattle.dg_level.proofs.LoopFetch.{pieces_next, pieces_end, pieces_kept}
use Rattle.dg_level.proofs.LoopRows.{fetched_more}
use Rattle.dg_level.proofs.looped.fetched_all.Goals as goal

pub returns-then-place-kept : goal.returns-then-place-kept
returns-then-place-kept g c =
    let schema = g.S.Snapshot.declared c.args.snap.now in
    let graph = g.S.Snapshot.graph c.args.snap.now in
    let vars = c.args.vars.now.variables in
    let past : length c.args.kept.now ≤ c.loop-place.place = omega (arith, c.if-place-kept.true) in
    subst (λ (ps : List PieceOf). AreFetched graph vars c.args.nodes.now c.loop-place.all.items ps) (pieces_kept c.args.further schema graph vars c.args.fields.now c.args.kept.now c.loop-place.place past) c.loop-place.invariant

pub returns : goal.returns
returns g c =
    let schema = g.S.Snapshot.declared c.args.snap.now in
    let graph = g.S.Snapshot.graph c.args.snap.now in
    let vars = c.args.vars.now.variables in
    let past : length c.args.fields.now ≤ c.loop-place.place = omega (arith, c.loop-place-test.false) in
    subst (λ (ps : List PieceOf). AreFetched graph vars c.args.nodes.now c.loop-place.all.items ps) (pieces_end c.args.further schema graph vars c.args.fields.now c.args.kept.now c.loop-place.place past) c.loop-place.invariant

pub loop-place-preserved : goal.loop-place-preserved
loop-place-preserved g c =
    let schema = g.S.Snapshot.declared c.args.snap.now in
    let graph = g.S.Snapshot.graph c.args.snap.now in
    let vars = c.args.vars.now.variables in
    let nodes = c.args.nodes.now in
    let l = c.loop-place in
    let field = c.index-fields-place.result in
    let part = c.index-kept-place.result in
    let whole = planned_pieces c.args.further schema graph vars c.args.fields.now c.args.kept.now in
    let piece = planned_piece c.args.further schema graph vars field part in
    let lt : l.place < length c.args.fields.now = omega (arith, c.loop-place-test.true) in
    let lk : l.place < length c.args.kept.now = omega (arith, c.if-place-kept.false) in
    let more = pieces_next c.args.further schema graph vars c.args.fields.now c.args.kept.now l.place field part field part lt lk c.index-fields-place.is c.index-kept-place.is in
    subst (λ (fs : List Fetched). AreFetched graph vars nodes fs (take (l.place + 1) whole)) (sym c.in_ok-add.ensures)
    (subst (λ (ps : List PieceOf). AreFetched graph vars nodes (l.all.items ++ c.in_ok-fetched.fetched ∷ []) ps) (sym more)
    (fetched_more graph vars nodes l.all.items (take l.place whole) c.in_ok-fetched.fetched piece l.invariant c.in_ok-fetched.ensures))
