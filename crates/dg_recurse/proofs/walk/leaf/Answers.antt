use Rattle.std.proofs.Common.{◌≡◌, ℕ, ◌<◌, List, [], length, sym, ap, ◌∙◌, subst, arith, rules}
use Rattle.dg_recurse.specs.Rows.{enclosed}
use Rattle.dg_recurse.specs.Near.{own_row}
use Rattle.dg_recurse.specs.Written.{row_at}
use Rattle.dg_recurse.proofs.RowLaws.{bare_enclosed}
use Rattle.dg_recurse.proofs.LeafLaws.{leaf_is}
use Rattle.dg_recurse.proofs.walk.leaf.Goals as goal

pub returns-in_err-enclose-in-Some-clause-too_large : goal.returns-in_err-enclose-in-Some-clause-too_large
returns-in_err-enclose-in-Some-clause-too_large c = λ fetched path least e.
    let none : c.args.left ≡ 0 = omega (arith, c.if-left-ne0.false) in
    let told : c.in-Some.row.now ≡ own_row fetched c.args.node = least.own c.args.node c.in-Some.row.now (sym c.in-Some.ensures) in
    let above : c.args.limit < length (enclosed [] c.as_str.result.now []) = c.enclose.ensures.too_large (search rules) in
    subst (λ (text : List ℕ). c.args.limit < length text)
    (bare_enclosed c.as_str.result.now ∙ (c.as_str.ensures ∙ told) ∙ sym (leaf_is fetched path c.args.node) ∙ ap (λ (n : ℕ). row_at fetched n path c.args.node) (sym none))
    above

pub returns-in_ok-enclose-in-Some-clause-text : goal.returns-in_ok-enclose-in-Some-clause-text
returns-in_ok-enclose-in-Some-clause-text c = λ fetched path least.
    let none : c.args.left ≡ 0 = omega (arith, c.if-left-ne0.false) in
    let told : c.in-Some.row.now ≡ own_row fetched c.args.node = least.own c.args.node c.in-Some.row.now (sym c.in-Some.ensures) in
    c.in_ok-enclose-in-Some.ensures.text
    ∙ bare_enclosed c.as_str.result.now
    ∙ (c.as_str.ensures ∙ told)
    ∙ sym (leaf_is fetched path c.args.node)
    ∙ ap (λ (n : ℕ). row_at fetched n path c.args.node) (sym none)
