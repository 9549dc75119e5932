use Rattle.std.proofs.Common.{◌≡◌, ℕ, ◌+◌, ◌<◌, ◌*◌, List, flat_map, length, get_or, rules, sym, ap, ◌∙◌, subst, arith}
use Rattle.std.proofs.lemmas.List.{length-map, get_or-map}
use Rattle.dg_level.specs.Flats.{weight_in}
use Rattle.dg_level.specs.Rows.{AreOfLevel}
use Rattle.dg_level.proofs.ShownLaws.{of_node}
use Rattle.dg_level.proofs.FlatTurns.{node_at}
use Rattle.dg_level.proofs.FlatRoom.{following, left_for_node, none_for_level}
use Rattle.dg_level.proofs.flat_room.check_room.Goals as goal

pub returns-in_err-left : goal.returns-in_err-left
returns-in_err-left c = λ g f list nodes made_is lists_are level_is below_is apart err.
    let l = c.loop-place in
    let lt : l.place < length nodes = omega (arith, c.loop-place-test.true, ap length made_is, length-map nodes g) in
    let node = get_or nodes l.place 0 in
    let own : c.list_at-list.result.now ≡ list node = c.list_at-list.ensures list nodes node lists_are (node_at nodes l.place lt) in
    let there : AreOfLevel c.args.level.now c.list_at-list.result.now = subst (λ (ns : List ℕ). AreOfLevel c.args.level.now ns) (sym own) (of_node list nodes c.args.level.now l.place node level_is (node_at nodes l.place lt)) in
    let old : c.index-made-place.result ≡ g node = c.index-made-place.is ∙ ap (λ objects. get_or objects l.place c.index-made-place.result) made_is ∙ get_or-map g nodes l.place 0 c.index-made-place.result lt in
    let many : c.len.result ≡ length (g node) = c.len.ensures ∙ ap length old in
    let above : l.left < c.len.result * weight_in (flat_map f c.list_at-list.result.now) = c.room_behind_list.ensures.too_large f below_is there (search rules) in
    let same : c.len.result * weight_in (flat_map f c.list_at-list.result.now) ≡ following nodes l.place lt g f list node = λ j. many j * weight_in (flat_map f (own j)) in
    none_for_level nodes l.place lt g f list apart l.left (l.invariant g f list nodes made_is lists_are level_is below_is) (omega (arith, above, same))

pub loop-place-preserved : goal.loop-place-preserved
loop-place-preserved c = λ g f list nodes made_is lists_are level_is below_is.
    let l = c.loop-place in
    let lt : l.place < length nodes = omega (arith, c.loop-place-test.true, ap length made_is, length-map nodes g) in
    let node = get_or nodes l.place 0 in
    let own : c.list_at-list.result.now ≡ list node = c.list_at-list.ensures list nodes node lists_are (node_at nodes l.place lt) in
    let there : AreOfLevel c.args.level.now c.list_at-list.result.now = subst (λ (ns : List ℕ). AreOfLevel c.args.level.now ns) (sym own) (of_node list nodes c.args.level.now l.place node level_is (node_at nodes l.place lt)) in
    let old : c.index-made-place.result ≡ g node = c.index-made-place.is ∙ ap (λ objects. get_or objects l.place c.index-made-place.result) made_is ∙ get_or-map g nodes l.place 0 c.index-made-place.result lt in
    let many : c.len.result ≡ length (g node) = c.len.ensures ∙ ap length old in
    let left : c.in_ok-left.left + c.len.result * weight_in (flat_map f c.list_at-list.result.now) ≡ l.left = c.in_ok-left.ensures.left f below_is there in
    let same : c.len.result * weight_in (flat_map f c.list_at-list.result.now) ≡ following nodes l.place lt g f list node = λ j. many j * weight_in (flat_map f (own j)) in
    left_for_node nodes l.place lt g f list l.left c.in_ok-left.left (l.invariant g f list nodes made_is lists_are level_is below_is) (omega (arith, left, same))
