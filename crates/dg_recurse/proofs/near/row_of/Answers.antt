use Rattle.std.proofs.Common.{◌≡◌, ℕ, ◌<◌, List, [], ◌∷◌, get_or, length, ap, ◌∙◌, arith}
use Rattle.dg_recurse.specs.declared.column.Column.{Column}
use Rattle.dg_recurse.specs.Columns.{own_of}
use Rattle.dg_recurse.specs.Rows.{joined}
use Rattle.dg_recurse.proofs.WalkLaws.{then_joined, all_parts}
use Rattle.dg_recurse.proofs.near.row_of.Goals as goal

pub loop-column-preserved : goal.loop-column-preserved
loop-column-preserved c =
    let l = c.loop-column in
    let columns = c.args.columns.now in
    let x = c.column-item.result in
    let lt : l.column-index < length columns = omega (arith, c.loop-column-test.true) in
    let said : c.own.result.now ≡ own_of (get_or columns l.column-index x) c.args.place = c.own.ensures ∙ ap (λ (column : Column). own_of column c.args.place) c.column-item.is in
    c.in_ok-add_text.ensures ∙ ap (λ (text : List ℕ). joined (l.out ∷ text ∷ [])) said ∙ then_joined (λ column. own_of column c.args.place) columns l.column-index x lt l.out l.invariant

pub returns : goal.returns
returns c =
    let l = c.loop-column in
    all_parts (λ column. own_of column c.args.place) c.args.columns.now l.column-index l.out (omega (arith, c.loop-column-test.false)) l.invariant
