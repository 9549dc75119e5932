use Rattle.std.proofs.Common.{◌≡◌, ◌<◌, ◌≤◌, ◌+◌, true, false, cond, List, [], ◌∷◌, drop, length, refl, subst, sym, ap, ◌∙◌, rules, arith}
use Rattle.std.specs.Prelude.{bytes_eq, is_some, filter}
use Rattle.std.proofs.lemmas.List.{get_or_default, drop_all, drop_more}
use Rattle.dg_tree.specs.declared.tree.Field.{Field}
use Rattle.dg_tree.specs.declared.tree.Tree.TheVariants as trees
use Rattle.dg_tree.specs.declared.tree.Tree.TheOpen.{Tree-F}
use Rattle.dg_tree.specs.declared.tree.Tree.TheViews.{out-Tree}
use Rattle.std.specs.List.{list_all}
use Rattle.dg_shape.specs.Strip.{is_node}
use Rattle.dg_parse.specs.Keys.{key_of}
use Rattle.dg_shape.specs.Normalize.{after_fields, after_edge, with_value, flat_fields, flat_trees, flattened, flattened_item, has_pair, times, to_flatten}
use Rattle.dg_shape.specs.Tallies.{IsTally}
use Rattle.dg_shape.proofs.FlattenTurns.{flattened_key, flattened_after, after_last, after_other, after_own, edge_after}
use Rattle.dg_shape.proofs.TallyLaws.{begun, fields_filled, trees_filled}
use Rattle.dg_shape.proofs.tallies.+tally.Goals as goal

pub count_node-loop-field-init : goal.count_node-loop-field-init
count_node-loop-field-init t c = ([] ∷ [], begun, refl)

pub count_node-loop-field-preserved : goal.count_node-loop-field-preserved
count_node-loop-field-preserved t c =
    let l = c.loop-field in
    let fs = c.args.fields.now in
    let x = c.field-item.result in
    let here : drop l.field-index fs ≡ x ∷ drop (l.field-index + 1) fs = drop_more fs l.field-index x (omega arith) ∙ ap (λ y. y ∷ drop (l.field-index + 1) fs) (sym c.field-item.is) in
    let made = c.count_field-so_far.ensures l.invariant.0 l.invariant.1 in
    (made.0, made.1, sym (made.2 (to_flatten (drop (l.field-index + 1) fs))) ∙ ((λ j. after_fields (to_flatten (sym here j)) (drop l.so_far.at c.args.parts.now) l.invariant.0) ∙ l.invariant.2))

pub count_node-returns : goal.count_node-returns
count_node-returns t c =
    let l = c.loop-field in
    let none : drop l.field-index c.args.fields.now ≡ [] = drop_all l.field-index c.args.fields.now c.loop-field-test.false in
    let whole : l.invariant.0 ≡ after_fields (to_flatten c.args.fields.now) c.args.parts.now ([] ∷ []) = (λ j. after_fields (to_flatten (sym none j)) (drop l.so_far.at c.args.parts.now) l.invariant.0) ∙ l.invariant.2 in
    subst (λ (os : List (List Field)). c.number_of.result ≤ length (filter has_pair os)) whole (c.number_of.ensures l.invariant.0 l.invariant.1)

pub count_field-returns-then-at-parts : goal.count_field-returns-then-at-parts
count_field-returns-then-at-parts t c objects tally = (objects, tally, λ more. after_last c.args.parts.now c.args.so_far.at (flattened c.args.field.now) more objects c.if-at-parts.true)

pub count_field-returns-then-not-is_key_of : goal.count_field-returns-then-not-is_key_of
count_field-returns-then-not-is_key_of t c objects tally =
    let f = c.index-parts-at.result in
    let within : c.args.so_far.at < length c.args.parts.now = omega arith in
    let told : bytes_eq c.index-parts-at.result.key (key_of c.args.field.now) ≡ false = search rules in
    (objects, tally, λ more. after_other c.args.parts.now c.args.so_far.at (flattened c.args.field.now) more objects f within c.index-parts-at.is ((λ i. bytes_eq f.key (flattened_key c.args.field.now i)) ∙ told))

pub count_field-returns : goal.count_field-returns
count_field-returns t c objects tally =
    let f = c.index-parts-at-2.result in
    let first = c.index-parts-at.result in
    let within : c.args.so_far.at < length c.args.parts.now = omega arith in
    let same : first ≡ f = c.index-parts-at.is ∙ (get_or_default c.args.parts.now c.args.so_far.at first f within ∙ sym c.index-parts-at-2.is) in
    let told : bytes_eq c.index-parts-at.result.key (key_of c.args.field.now) ≡ true = search rules in
    let made : List (List Field) = (flattened_item c.args.field.now.item).after c.is_some.result f objects in
    let alias : c.is_some.result ≡ is_some c.args.field.now.alias = search rules in
    let is : made ≡ (flattened c.args.field.now).after f objects = ap (λ b. (flattened_item c.args.field.now.item).after b f objects) alias ∙ sym (flattened_after c.args.field.now f objects) in (
      made,
      c.count_under-tally.ensures objects tally,
      λ more. after_own c.args.parts.now c.args.so_far.at (flattened c.args.field.now) more objects f within c.index-parts-at-2.is ((λ i. bytes_eq (sym same i).key (flattened_key c.args.field.now i)) ∙ told) made is,
    )

pub count_below-returns-in-Node : goal.count_below-returns-in-Node
count_below-returns-in-Node t c objects tally =
    let asked = to_flatten c.args.fields.now in
    let told : out-Tree c.args.part.now.tree ≡ Tree-F.Node c.in-Node.parts = ap out-Tree c.in-Node.is ∙ trees.outs-Node c.in-Node.parts in
    subst (λ (os : List (List Field)). IsTally c.times.result.total c.times.result.filled os)
    (ap (λ ps. times objects (flat_fields asked ps)) c.as_slice.ensures ∙ λ i. after_edge asked c.args.alias c.args.part.now objects (sym told i))
    (c.times.ensures objects (flat_fields asked c.as_slice.result.now) tally c.count_node.ensures (fields_filled asked c.as_slice.result.now))

pub count_below-returns-else-not-are_nodes : goal.count_below-returns-else-not-are_nodes
count_below-returns-else-not-are_nodes t c objects tally =
    let asked = to_flatten c.args.fields.now in
    let nodes = c.in-Array.items in
    let told : out-Tree c.args.part.now.tree ≡ Tree-F.Array c.in-Array.items = ap out-Tree c.in-Array.is ∙ trees.outs-Array c.in-Array.items in
    let are : list_all is_node c.in-Array.items ≡ true = search rules in
    subst (λ (os : List (List Field)). IsTally c.times-in-Array.result.total c.times-in-Array.result.filled os)
    (ap (λ ts. times objects (flat_trees asked ts)) c.as_slice-in-Array-2.ensures
    ∙ ((λ i. cond (sym are i) (times objects (flat_trees asked nodes)) (with_value c.args.alias c.args.part.now objects)) ∙ λ i. after_edge asked c.args.alias c.args.part.now objects (sym told i)))
    (c.times-in-Array.ensures objects (flat_trees asked c.as_slice-in-Array-2.result.now) tally c.count.ensures (trees_filled asked c.as_slice-in-Array-2.result.now))

pub count_under-returns-in-Some : goal.count_under-returns-in-Some
count_under-returns-in-Some t c objects tally =
    subst (λ (os : List (List Field)). IsTally c.count_below.result.total c.count_below.result.filled os)
    (ap (λ fs. after_edge (to_flatten fs) c.args.alias c.args.part.now objects (out-Tree c.args.part.now.tree)) c.as_slice.ensures
    ∙ sym (edge_after c.args.item.now c.in-Edge.edge c.in-Edge.args c.in-Edge.dirs c.in-Some.fields c.args.alias c.args.part.now objects (search rules)))
    (c.count_below.ensures objects tally)
