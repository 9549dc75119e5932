use Rattle.std.proofs.Common.{◌+◌, ◌<◌, ◌≤◌, [], ◌∷◌, ◌++◌, map, length, refl, ap, ◌∙◌, arith, rules}
use Rattle.dg_tree.specs.Texts.{field_text}
use Rattle.dg_level.specs.Rows.{total, with_fields}
use Rattle.dg_level.specs.Shown.{under}
use Rattle.dg_level.proofs.WritingLaws.{as_many, column_at, row_begins, row_goes_on, row_passes, row_ends}
use Rattle.dg_level.proofs.writing.push_row.Goals as goal

pub loop-column-init : goal.loop-column-init
loop-column-init g c = (λ nodes all are at. row_begins all c.args.node c.args.rows.now.begun c.requires, refl, refl)

pub returns-in_err-push_column-clause-too_large : goal.returns-in_err-push_column-clause-too_large
returns-in_err-push_column-clause-too_large g c = λ nodes all are at e.
    let graph = g.S.Snapshot.graph c.args.snap.now in
    let vars = c.args.vars.now.variables in
    let columns = c.args.columns.now in
    let l = c.loop-column in
    let i = l.column-index in
    let column = c.column-item.result in
    let lt : i < length columns = omega (arith, c.loop-column-test.true) in
    let shows = column_at graph vars nodes columns all i column are lt c.column-item.is in
    let lt_all : i < length all = omega (arith, lt, as_many graph vars nodes columns all are) in
    let above : l.rows.limit < total l.rows.rows + length (with_fields l.rows.begun (map field_text (map (under shows.name) (shows.shown c.args.node)))) =
    c.push_column.ensures.too_large shows.name nodes shows.shown (c.as_str-key.ensures ∙ shows.key_is) shows.by at (search rules) in
    row_passes all i c.args.node lt_all l.rows.begun shows.name (shows.shown c.args.node) (l.invariant.0 nodes all are at) (shows.fields_are c.args.node) c.args.rows.now.rows c.args.rows.now.limit
    (omega (arith, above, ap total l.invariant.1, l.invariant.2))

pub loop-column-preserved : goal.loop-column-preserved
loop-column-preserved g c = (
  λ nodes all are at.
      let graph = g.S.Snapshot.graph c.args.snap.now in
      let vars = c.args.vars.now.variables in
      let columns = c.args.columns.now in
      let l = c.loop-column in
      let i = l.column-index in
      let column = c.column-item.result in
      let lt : i < length columns = omega (arith, c.loop-column-test.true) in
      let shows = column_at graph vars nodes columns all i column are lt c.column-item.is in
      let lt_all : i < length all = omega (arith, lt, as_many graph vars nodes columns all are) in
      row_goes_on all i c.args.node lt_all l.rows.begun shows.name (shows.shown c.args.node) (l.invariant.0 nodes all are at) (shows.fields_are c.args.node) c.push_column.new.rows.begun
      (c.in_ok-push_column.ensures.ok shows.name nodes shows.shown (c.as_str-key.ensures ∙ shows.key_is) shows.by at),
  c.push_column.ensures.rows ∙ c.loop-column.invariant.1,
  c.push_column.ensures.limit ∙ c.loop-column.invariant.2,
)

pub returns-clause-ok : goal.returns-clause-ok
returns-clause-ok g c = λ nodes all are at.
    let graph = g.S.Snapshot.graph c.args.snap.now in
    let vars = c.args.vars.now.variables in
    let l = c.loop-column in
    let past : length all ≤ l.column-index = omega (arith, c.loop-column-test.false, as_many graph vars nodes c.args.columns.now all are) in
    let whole = row_ends all l.column-index c.args.node l.rows.begun past (l.invariant.0 nodes all are at) in
    c.in_ok-close.ensures.rows ∙ (λ j. l.invariant.1 j ++ whole j ∷ [])
