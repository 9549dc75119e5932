use Rattle.std.proofs.Common.{◌+◌, ◌<◌, ◌≤◌, [], ◌∷◌, ◌++◌, map, length, get_or, ap, ◌∙◌, arith, rules}
use Rattle.dg_tree.specs.Texts.{field_text}
use Rattle.dg_level.specs.Rows.{total, with_fields}
use Rattle.dg_level.specs.Rows.{AreOfLevel}
use Rattle.dg_level.specs.Looping.{fields_by, piece_fields, nodes_in}
use Rattle.dg_level.proofs.WritingLaws.{row_ends}
use Rattle.dg_level.proofs.LoopRows.{nowhere, as_many, fetched_at, one_of, field_more, field_passes, all_past}
use Rattle.dg_level.proofs.looped.push_row.Goals as goal

pub returns-in_err-push_field-clause-too_large : goal.returns-in_err-push_field-clause-too_large
returns-in_err-push_field-clause-too_large g c = λ nodes pieces at are here rows among err.
    let graph = g.S.Snapshot.graph c.args.snap.now in
    let vars = c.args.vars.now.variables in
    let all = c.args.all.now in
    let l = c.loop-fetched in
    let i = l.fetched-index in
    let lt : i < length all = omega (arith, c.loop-fetched-test.true) in
    let lp : i < length pieces = omega (arith, lt, as_many graph vars nodes all pieces are) in
    let is = fetched_at graph vars nodes all pieces i c.fetched-item.result are lt c.fetched-item.is in
    let of = one_of (λ piece. AreOfLevel c.args.level.now (nodes_in (piece c.args.node))) pieces i nowhere among lp in
    let above : l.rows.limit < total l.rows.rows + length (with_fields l.rows.begun (map field_text (piece_fields at (get_or pieces i nowhere c.args.node)))) =
    c.push_field.ensures.too_large nodes (get_or pieces i nowhere) at is here rows of (search rules) in
    field_passes at pieces i c.args.node lp l.rows.begun (l.invariant.0 nodes pieces at are here rows among) c.args.rows.now.rows c.args.rows.now.limit (omega (arith, above, ap total l.invariant.1, l.invariant.2))

pub loop-fetched-preserved : goal.loop-fetched-preserved
loop-fetched-preserved g c = (
  λ nodes pieces at are here rows among.
      let graph = g.S.Snapshot.graph c.args.snap.now in
      let vars = c.args.vars.now.variables in
      let all = c.args.all.now in
      let l = c.loop-fetched in
      let i = l.fetched-index in
      let lt : i < length all = omega (arith, c.loop-fetched-test.true) in
      let lp : i < length pieces = omega (arith, lt, as_many graph vars nodes all pieces are) in
      let is = fetched_at graph vars nodes all pieces i c.fetched-item.result are lt c.fetched-item.is in
      let of = one_of (λ piece. AreOfLevel c.args.level.now (nodes_in (piece c.args.node))) pieces i nowhere among lp in
      c.in_ok-push_field.ensures.ok nodes (get_or pieces i nowhere) at is here rows of ∙ field_more at pieces i c.args.node lp l.rows.begun (l.invariant.0 nodes pieces at are here rows among),
  c.push_field.ensures.rows ∙ c.loop-fetched.invariant.1,
  c.push_field.ensures.limit ∙ c.loop-fetched.invariant.2,
)

pub returns-clause-ok : goal.returns-clause-ok
returns-clause-ok g c = λ nodes pieces at are here rows among.
    let graph = g.S.Snapshot.graph c.args.snap.now in
    let vars = c.args.vars.now.variables in
    let l = c.loop-fetched in
    let past : length pieces ≤ l.fetched-index = omega (arith, c.loop-fetched-test.false, as_many graph vars nodes c.args.all.now pieces are) in
    let whole = row_ends (map (fields_by at) pieces) l.fetched-index c.args.node l.rows.begun (all_past at pieces l.fetched-index past) (l.invariant.0 nodes pieces at are here rows among) in
    c.in_ok-close.ensures.rows ∙ (λ j. l.invariant.1 j ++ whole j ∷ [])
