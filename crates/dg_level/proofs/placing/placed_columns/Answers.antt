use Rattle.std.proofs.Common.{◌+◌, ◌<◌, ◌≤◌, List, [], ◌∷◌, ◌++◌, take, length, get_or, sym, subst, arith}
use Rattle.std.proofs.lemmas.List.{take_more, take_all}
use Rattle.dg_recurse.specs.declared.column.Column.{Column}
use Rattle.dg_level.specs.Looping.{PieceOf}
use Rattle.dg_level.specs.Placing.{ArePlaced}
use Rattle.dg_level.specs.Reaching.{is_near}
use Rattle.dg_level.proofs.LoopRows.{nowhere, as_many, fetched_at}
use Rattle.dg_level.proofs.PlaceLaws.{piece_there, placed_more}
use Rattle.dg_level.proofs.placing.placed_columns.Goals as goal

pub loop-field-preserved : goal.loop-field-preserved
loop-field-preserved g c = λ pieces steps are.
    let graph = g.S.Snapshot.graph c.args.snap.now in
    let vars = c.args.vars.now.variables in
    let set = c.args.found.now.set in
    let near = is_near c.args.found.now.steps.items in
    let all = c.args.all.now in
    let l = c.loop-field in
    let i = l.field in
    let column = c.in_ok-column.column in
    let lt : i < length all = omega (arith, c.loop-field-test.true) in
    let lp : i < length pieces = omega (arith, lt, as_many graph vars [] all pieces are) in
    let piece = get_or pieces i nowhere in
    let is = fetched_at graph vars [] all pieces i c.index-all-field.result are lt c.index-all-field.is in
    subst (λ (cs : List Column). ArePlaced near set cs (take (i + 1) pieces)) (sym c.in_ok-add.ensures)
    (subst (λ (ps : List PieceOf). ArePlaced near set (l.columns.items ++ column ∷ []) ps) (sym (take_more pieces i nowhere lp))
    (placed_more near set l.columns.items (take i pieces) column piece (l.invariant pieces steps are) (c.in_ok-column.ensures pieces piece steps (piece_there pieces i lp) is)))

pub returns : goal.returns
returns g c = λ pieces steps are.
    let graph = g.S.Snapshot.graph c.args.snap.now in
    let vars = c.args.vars.now.variables in
    let found = c.args.found.now in
    let l = c.loop-field in
    let past : length pieces ≤ l.field = omega (arith, c.loop-field-test.false, as_many graph vars [] c.args.all.now pieces are) in
    subst (λ (ps : List PieceOf). ArePlaced (is_near found.steps.items) found.set l.columns.items ps) (take_all l.field pieces past) (l.invariant pieces steps are)
