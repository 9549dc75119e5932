use Rattle.std.proofs.Common.{◌<◌, ◌≤◌, List, ◌++◌, length, map, flat_map, ap, ◌∙◌, arith, rules, Bor}
use Rattle.std.proofs.lemmas.List.{map-append, append-nil, take_all}
use Rattle.std.proofs.lemmas.List.Concat.{flat_map-append}
use Rattle.dg_tree.specs.declared.tree.Field.{Field}
use Rattle.dg_shape.specs.Normalize.{joined}
use Rattle.dg_level.specs.Flats.{weight_in}
use Rattle.dg_level.proofs.FlatCounts.{none_for_all}
use Rattle.dg_level.proofs.flat_rows.push_parts.Goals as goal

-- the objects of a part
now : Bor (List (List Field)) → List (List Field)
now part = part.now

pub returns-in_err-left-clause-too_large : goal.returns-in_err-left-clause-too_large
unfolding now
returns-in_err-left-clause-too_large c = λ e.
    let l = c.loop-part in
    let made = λ (parts : List (Bor (List (List Field)))). map (joined c.args.object.now) (flat_map now parts) in
    let lt : l.part-index < length c.args.parts.now = omega (arith, c.loop-part-test.true) in
    let above : l.left < weight_in (map (joined c.args.object.now) c.part-item.result.now) = c.push_part.ensures.too_large (search rules) in
    none_for_all made
    (λ parts more. ap (map (joined c.args.object.now)) (flat_map-append now parts more) ∙ map-append (joined c.args.object.now) (flat_map now parts) (flat_map now more))
    c.args.parts.now l.part-index c.part-item.result lt c.part-item.is
    l.left c.args.room (map (joined c.args.object.now) c.part-item.result.now) (ap (map (joined c.args.object.now)) (append-nil c.part-item.result.now)) l.invariant.1 above

pub returns-clause-ok : goal.returns-clause-ok
unfolding now
returns-clause-ok c =
    let l = c.loop-part in
    let past : length c.args.parts.now ≤ l.part-index = omega (arith, c.loop-part-test.false) in
    l.invariant.0 ∙ ap (λ parts. c.args.out.now.items ++ map (joined c.args.object.now) (flat_map now parts)) (take_all l.part-index c.args.parts.now past)

pub returns-clause-left : goal.returns-clause-left
unfolding now
returns-clause-left c =
    let l = c.loop-part in
    let past : length c.args.parts.now ≤ l.part-index = omega (arith, c.loop-part-test.false) in
    let all = take_all l.part-index c.args.parts.now past in
    omega (arith, l.invariant.1, ap (λ parts. weight_in (map (joined c.args.object.now) (flat_map now parts))) all)
