use Rattle.std.proofs.Common.{◌≡◌, ℕ, ◌-◌, ◌<◌, ◌≤◌, List, flat_map, length, get_or, rules, sym, ap, ◌∙◌, subst, arith}
use Rattle.std.specs.Prelude.{Some, slice_get}
use Rattle.dg_shape.specs.Normalize.{times}
use Rattle.dg_level.specs.Flats.{weight_in}
use Rattle.dg_level.specs.Rows.{AreOfLevel}
use Rattle.dg_level.specs.FlatLevels.{FlatsOf, changed}
use Rattle.dg_level.proofs.ShownLaws.{of_node}
use Rattle.dg_level.proofs.FlatTurns.{node_at, changed_length, all_changed, next_is, one_changed, none_for_all, used_next}
use Rattle.dg_level.proofs.flat_each.times_each.Goals as goal

pub returns-in_err-multiply-clause-too_large : goal.returns-in_err-multiply-clause-too_large
returns-in_err-multiply-clause-too_large c = λ g f list nodes before lists_are level_is below_is apart err.
    let l = c.loop-place in
    let after : FlatsOf = λ n. times (g n) (flat_map f (list n)) in
    let made : l.made ≡ changed after g l.place nodes = l.invariant.0 g f list nodes before lists_are level_is below_is in
    let lt : l.place < length nodes = omega (arith, c.loop-place-test.true, ap length made, changed_length after g l.place nodes) in
    let node = get_or nodes l.place 0 in
    let got : slice_get nodes l.place ≡ Some node = node_at nodes l.place lt in
    let own : c.list_at-list.result.now ≡ list node = c.list_at-list.ensures list nodes node lists_are got in
    let there : AreOfLevel c.args.level.now c.list_at-list.result.now = subst (λ (ns : List ℕ). AreOfLevel c.args.level.now ns) (sym own) (of_node list nodes c.args.level.now l.place node level_is got) in
    let old : get_or l.made l.place c.index-made-place.result ≡ g node = (λ j. get_or (made j) l.place c.index-made-place.result) ∙ next_is after g l.place nodes c.index-made-place.result lt in
    let above = c.multiply.ensures.too_large f below_is there (search rules) in
    let same : weight_in (times (get_or l.made l.place c.index-made-place.result) (flat_map f c.list_at-list.result.now)) ≡ weight_in (after node) = λ j. weight_in (times (old j) (flat_map f (own j))) in
    none_for_all after g weight_in l.made l.place nodes l.used 16777216 made lt l.invariant.1 (omega (arith, above, same, l.invariant.2))

pub loop-place-preserved : goal.loop-place-preserved
loop-place-preserved c =
    let l = c.loop-place in
    let new = c.multiply.new.flats in
    let within : weight_in new ≤ 16777216 - l.used = c.in_ok-multiply.ensures.within in
    let size : c.weight-used.result ≡ weight_in new = search rules in
    let there_are : l.place < length l.made = omega (arith, c.loop-place-test.true) in (
      λ g f list nodes before lists_are level_is below_is.
          let after : FlatsOf = λ n. times (g n) (flat_map f (list n)) in
          let made : l.made ≡ changed after g l.place nodes = l.invariant.0 g f list nodes before lists_are level_is below_is in
          let lt : l.place < length nodes = omega (arith, c.loop-place-test.true, ap length made, changed_length after g l.place nodes) in
          let node = get_or nodes l.place 0 in
          let got : slice_get nodes l.place ≡ Some node = node_at nodes l.place lt in
          let own : c.list_at-list.result.now ≡ list node = c.list_at-list.ensures list nodes node lists_are got in
          let there : AreOfLevel c.args.level.now c.list_at-list.result.now = subst (λ (ns : List ℕ). AreOfLevel c.args.level.now ns) (sym own) (of_node list nodes c.args.level.now l.place node level_is got) in
          let old : get_or l.made l.place c.index-made-place.result ≡ g node = (λ j. get_or (made j) l.place c.index-made-place.result) ∙ next_is after g l.place nodes c.index-made-place.result lt in
          let is : new ≡ after node = c.in_ok-multiply.ensures.ok f below_is there ∙ (λ j. times (old j) (flat_map f (own j))) in
          one_changed after g l.made l.place nodes new made lt is,
      omega (arith, l.invariant.1, size, used_next weight_in l.made l.place new there_are),
      omega (arith, l.invariant.2, size, within),
    )

pub returns-clause-ok : goal.returns-clause-ok
returns-clause-ok c = λ g f list nodes before lists_are level_is below_is.
    let l = c.loop-place in
    let after : FlatsOf = λ n. times (g n) (flat_map f (list n)) in
    let made : l.made ≡ changed after g l.place nodes = l.invariant.0 g f list nodes before lists_are level_is below_is in
    made ∙ all_changed after g l.place nodes (omega (arith, c.loop-place-test.false, ap length made, changed_length after g l.place nodes))
