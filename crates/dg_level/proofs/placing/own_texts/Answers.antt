use Rattle.std.proofs.Common.{ℕ, ◌<◌, ◌≤◌, List, [], ◌∷◌, ◌++◌, map, length, sym, ap, ◌∙◌, arith}
use Rattle.std.proofs.lemmas.List.{map_more, take_all}
use Rattle.dg_level.specs.Rows.{row_text}
use Rattle.dg_level.specs.Shown.{under}
use Rattle.dg_level.proofs.WritingLaws.{node_at}
use Rattle.dg_level.proofs.placing.own_texts.Goals as goal

pub loop-place-preserved : goal.loop-place-preserved
loop-place-preserved g c = λ name shown key by.
    let nodes = c.args.nodes.now in
    let l = c.loop-place in
    let f = λ (n : ℕ). row_text (map (under name) (shown n)) in
    let lt : l.place < length nodes = omega (arith, c.loop-place-test.true) in
    let here = node_at nodes l.place 0 lt in
    c.in_ok-push.ensures.items ∙ ((λ j. l.invariant name shown key by j ++ c.in_ok-text.ensures name nodes shown key by here j ∷ []) ∙ sym (map_more f nodes l.place 0 lt))

pub returns : goal.returns
returns g c = λ name shown key by.
    let nodes = c.args.nodes.now in
    let l = c.loop-place in
    let f = λ (n : ℕ). row_text (map (under name) (shown n)) in
    let past : length nodes ≤ l.place = omega (arith, c.loop-place-test.false) in
    l.invariant name shown key by ∙ ap (λ (ns : List ℕ). map f ns) (take_all l.place nodes past)
