use Rattle.std.proofs.Common.{◌≡◌, ℕ, ◌+◌, ◌<◌, ◌≤◌, List, [], ◌∷◌, ◌++◌, map, take, length, get_or, sym, ap, ◌∙◌, subst, arith}
use Rattle.std.proofs.lemmas.List.{map_more, take_all}
use Rattle.dg_level.specs.Placing.{leads_from, ArePlaces, AllPlaces}
use Rattle.dg_level.specs.Reaching.{is_near}
use Rattle.dg_level.proofs.PlaceLaws.{all_more}
use Rattle.dg_level.proofs.placing.lists_placed.Goals as goal

pub loop-node-preserved : goal.loop-node-preserved
loop-node-preserved c = λ graph vars pieces piece are there.
    let set = c.args.set.now in
    let steps = c.args.steps.now in
    let list = leads_from (is_near steps) piece in
    let l = c.loop-node in
    let i = l.node-index in
    let places = c.in_ok-places.places in
    let lt : i < length set = omega (arith, c.loop-node-test.true, ap (λ (ns : List ℕ). length ns) c.as_slice-node-items.ensures.items) in
    let here : get_or c.as_slice-node-items.result.now i 0 ≡ get_or set i 0 = ap (λ (ns : List ℕ). get_or ns i 0) c.as_slice-node-items.ensures.items in
    let is : ArePlaces set (list (get_or set i 0)) places = subst (λ (ns : List ℕ). ArePlaces set ns places) (c.list_from.ensures graph vars pieces piece are there ∙ ap list here) c.in_ok-places.ensures in
    subst (λ (ms : List (List ℕ)). AllPlaces set (map list (take (i + 1) set)) ms) (sym c.in_ok-push.ensures.items)
    (subst (λ (ls : List (List ℕ)). AllPlaces set ls (l.made.items ++ places ∷ [])) (sym (map_more list set i 0 lt)) (all_more set (map list (take i set)) l.made.items (list (get_or set i 0)) places (l.invariant graph vars pieces piece are there) is))

pub returns : goal.returns
returns c = λ graph vars pieces piece are there.
    let set = c.args.set.now in
    let l = c.loop-node in
    let list = leads_from (is_near c.args.steps.now) piece in
    let past : length set ≤ l.node-index = omega (arith, c.loop-node-test.false, ap (λ (ns : List ℕ). length ns) c.as_slice-node-items.ensures.items) in
    subst (λ (ns : List ℕ). AllPlaces set (map list ns) l.made.items) (take_all l.node-index set past) (l.invariant graph vars pieces piece are there)
