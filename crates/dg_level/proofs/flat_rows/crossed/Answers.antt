use Rattle.std.proofs.Common.{◌≡◌, ◌<◌, ◌+◌, List, length, map, flat_map, take, ap, ◌∙◌, sym, arith, rules, Bor}
use Rattle.std.proofs.lemmas.List.{append-nil}
use Rattle.std.proofs.lemmas.List.Concat.{flat_map-append}
use Rattle.dg_tree.specs.declared.tree.Field.{Field}
use Rattle.dg_shape.specs.Normalize.{joined}
use Rattle.dg_level.specs.Flats.{weight_in}
use Rattle.dg_level.proofs.FlatCounts.{none_for_all}
use Rattle.dg_level.proofs.flat_rows.crossed.Goals as goal

pub returns-in_err-left-clause-too_large : goal.returns-in_err-left-clause-too_large
returns-in_err-left-clause-too_large c = λ e.
    let l = c.loop-object in
    let others = flat_map (λ (part : Bor (List (List Field))). part.now) c.args.parts.now in
    let one = map (joined c.object-item.result) others in
    let made = flat_map (λ (object : List Field). map (joined object) others) in
    let lt : l.object-index < length c.args.firsts.now = omega (arith, c.loop-object-test.true) in
    let above : l.left < weight_in one = c.push_parts.ensures.too_large (search rules) in
    let so : l.left + weight_in (made (take l.object-index c.args.firsts.now)) ≡ c.args.room = ap (λ objects. l.left + weight_in objects) (sym l.invariant.0) ∙ l.invariant.1 in
    none_for_all made (flat_map-append (λ (object : List Field). map (joined object) others)) c.args.firsts.now l.object-index c.object-item.result lt c.object-item.is
    l.left c.args.room one (append-nil one) so above
