use Rattle.std.proofs.Common.{◌≡◌, ℕ, ◌<◌, true, false, List, [], ◌∷◌, length, get_or, sym, ap, ◌∙◌, arith, rules}
use Rattle.dg_level.specs.Parts.{has_parts}
use Rattle.dg_level.specs.Rows.{objects_of}
use Rattle.dg_level.proofs.PartLaws.{of_level, none_more, first_object, nothing_shown}
use Rattle.dg_level.proofs.arrays.first_shown.Goals as goal

pub returns-then-shows : goal.returns-then-shows
returns-then-shows c = λ f rows among.
    let nodes = c.args.list.now in
    let i = c.loop-node.node-index in
    let lt : i < length nodes = omega (arith, c.loop-node-test.true) in
    let row : c.row_of-row.result.now ≡ f (get_or nodes i 0) = c.row_of-row.ensures f rows (of_level c.args.level.now nodes i 0 among lt) in
    let there : c.shows.result ≡ true = search rules in
    ap (λ (r : List ℕ). objects_of (r ∷ [])) row
    ∙ first_object f nodes i 0 lt (c.loop-node.invariant f rows among) (ap (λ (r : List ℕ). has_parts false (objects_of (r ∷ []))) (sym row) ∙ sym c.shows.ensures ∙ there)

pub loop-node-preserved : goal.loop-node-preserved
loop-node-preserved c = λ f rows among.
    let nodes = c.args.list.now in
    let i = c.loop-node.node-index in
    let lt : i < length nodes = omega (arith, c.loop-node-test.true) in
    let row : c.row_of-row.result.now ≡ f (get_or nodes i 0) = c.row_of-row.ensures f rows (of_level c.args.level.now nodes i 0 among lt) in
    let none : c.shows.result ≡ false = search rules in
    none_more f nodes i 0 lt (ap (λ (r : List ℕ). has_parts false (objects_of (r ∷ []))) (sym row) ∙ sym c.shows.ensures ∙ none) (c.loop-node.invariant f rows among)

pub returns : goal.returns
returns c = λ f rows among. nothing_shown f c.args.list.now c.loop-node.node-index (omega (arith, c.loop-node-test.false)) (c.loop-node.invariant f rows among)
