use Rattle.std.proofs.Common.{◌≡◌, ℕ, ◌+◌, ◌<◌, ◌≤◌, Bool, true, false, List, [], ◌∷◌, ◌++◌, map, flat_map, take, drop, length, rules, refl, sym, ap, subst, ◌∙◌, arith}
use Rattle.std.proofs.lemmas.List.{length-map}
use Rattle.std.specs.Prelude.{Some, IfOk, sum_by, filter}
use Rattle.std.specs.Ordering.{nat_cmp}
use Rattle.std.proofs.lemmas.List.Folds.{flat_map-map}
use Rattle.dg_values.specs.Ascending.{ascending}
use Rattle.dg_schema.specs.Definitions.{definition_of}
use Rattle.dg_parse.specs.declared.query.QArg.{QArg}
use Rattle.dg_parse.specs.declared.query.QDir.{QDir}
use Rattle.dg_parse.specs.declared.query.QEdge.{QEdge}
use Rattle.dg_parse.specs.declared.query.QField.{QField}
use Rattle.dg_parse.specs.declared.query.QItem.TheOpen.{QItem-F}
use Rattle.dg_parse.specs.declared.query.QItem.TheVariants as items
use Rattle.dg_parse.specs.declared.query.QItem.TheViews.{out-QItem}
use Rattle.dg_check.specs.declared.parts.Field.{Field as Kept}
use Rattle.dg_check.specs.declared.parts.Item.{Item-F}
use Rattle.dg_check.specs.declared.parts.Item.TheVariants as kept
use Rattle.dg_check.specs.declared.parts.Item.TheViews.{out-Item}
use Rattle.dg_shape.specs.Normalize.{times, has_pair}
use Rattle.dg_level.specs.declared.left.Left.{Left}
use Rattle.dg_level.specs.Shown.{sort_of, cascades, remaining}
use Rattle.dg_level.specs.Left.{first_left, after_first, IsLeft, AreLeft, IsLeftBelow, IsLeftOf, IsLeftIn}
use Rattle.dg_level.specs.Planned.{is_single, planned_there, planned_flats}
use Rattle.dg_level.specs.Levels.{list_of, left_of, leads_to_nodes}
use Rattle.dg_level.specs.Flats.{weight_in}
use Rattle.dg_level.specs.FlatLevels.{FlatsOf, weight_of, own_trees, with_own, sort_in, list_flats, behind_edge, behind_item, behind_field, behind_fields}
use Rattle.dg_level.proofs.ListLaws.{map_twice}
use Rattle.dg_level.proofs.LeftLaws.{knows_item, in_these, knows_lists, of_edge, next_known, known_behind}
use Rattle.dg_level.proofs.FlatCounts.{filled_weight}
use Rattle.dg_level.proofs.FlatTurns.{written_back}
use Rattle.dg_level.proofs.FlatSums.{sums_within, none_of, filled_sum, below_within}
use Rattle.dg_level.proofs.FlatPlans.{field_alone, field_nodes, after_has, field_next, after_front, after_ended, after_kept, flats_apart}
use Rattle.dg_level.proofs.flat_levels.+flat.Goals as goal

-- ---- an edge

pub behind_edge-returns-clause-flats : goal.behind_edge-returns-clause-flats
behind_edge-returns-clause-flats g t c = λ known f before.
    let schema = g.S.Snapshot.declared c.args.snap.now in
    let graph = g.S.Snapshot.graph c.args.snap.now in
    let vars = c.args.vars.now.variables in
    let b = c.in-Edge in
    let same_list : list_of graph vars c.args.edge.now c.args.args.now b.orders b.filters c.args.single ≡ list_of graph vars c.args.edge.now c.args.args.now c.as_slice-2.result.now c.as_slice-3.result.now c.args.single =
    sym (λ j. list_of graph vars c.args.edge.now c.args.args.now (c.as_slice-2.ensures j) (c.as_slice-3.ensures j) c.args.single) in
    let under : IsLeftBelow schema graph vars (list_of graph vars c.args.edge.now c.args.args.now c.as_slice-2.result.now c.as_slice-3.result.now c.args.single) c.args.braces.now c.as_slice.result.now c.args.nodes.now c.args.left =
    subst (λ (ks : List Kept). IsLeftBelow schema graph vars (list_of graph vars c.args.edge.now c.args.args.now c.as_slice-2.result.now c.as_slice-3.result.now c.args.single) c.args.braces.now ks c.args.nodes.now c.args.left) (sym c.as_slice.ensures)
    (subst (λ (lists : ℕ → List ℕ). IsLeftBelow schema graph vars lists c.args.braces.now b.inner c.args.nodes.now c.args.left) same_list (known b.orders b.filters b.inner b.is)) in
    let layer : out-Item c.args.kept.now ≡ Item-F.Edge c.in-Edge.orders c.in-Edge.filters c.in-Edge.inner = ap out-Item c.in-Edge.is ∙ kept.outs-Edge c.in-Edge.orders c.in-Edge.filters c.in-Edge.inner in
    let after : FlatsOf = λ n. behind_edge schema graph vars c.args.edge.now c.args.args.now c.args.braces.now c.args.single c.args.cascade (out-Item c.args.kept.now) n (f n) in
    let made : FlatsOf = λ n. times (f n) (list_flats schema graph vars c.args.edge.now c.args.args.now c.as_slice-2.result.now c.as_slice-3.result.now c.args.braces.now c.as_slice.result.now c.args.single c.args.cascade n) in
    let read : made ≡ (λ (n : ℕ). times (f n) (list_flats schema graph vars c.args.edge.now c.args.args.now c.in-Edge.orders c.in-Edge.filters c.args.braces.now c.in-Edge.inner c.args.single c.args.cascade n)) =
    λ j n. times (f n) (list_flats schema graph vars c.args.edge.now c.args.args.now (c.as_slice-2.ensures j) (c.as_slice-3.ensures j) c.args.braces.now (c.as_slice.ensures j) c.args.single c.args.cascade n) in
    let same : after ≡ (λ (n : ℕ). times (f n) (list_flats schema graph vars c.args.edge.now c.args.args.now c.in-Edge.orders c.in-Edge.filters c.args.braces.now c.in-Edge.inner c.args.single c.args.cascade n)) =
    λ j n. behind_edge schema graph vars c.args.edge.now c.args.args.now c.args.braces.now c.args.single c.args.cascade (layer j) n (f n) in
    subst (λ (h : FlatsOf). IfOk c.behind_nodes.result (λ v. v.items ≡ map h c.args.nodes.now)) (read ∙ sym same) (c.behind_nodes.ensures.flats under f before)

pub behind_edge-returns-clause-too_large : goal.behind_edge-returns-clause-too_large
behind_edge-returns-clause-too_large g t c = λ known f before has over.
    let schema = g.S.Snapshot.declared c.args.snap.now in
    let graph = g.S.Snapshot.graph c.args.snap.now in
    let vars = c.args.vars.now.variables in
    let b = c.in-Edge in
    let same_list : list_of graph vars c.args.edge.now c.args.args.now b.orders b.filters c.args.single ≡ list_of graph vars c.args.edge.now c.args.args.now c.as_slice-2.result.now c.as_slice-3.result.now c.args.single =
    sym (λ j. list_of graph vars c.args.edge.now c.args.args.now (c.as_slice-2.ensures j) (c.as_slice-3.ensures j) c.args.single) in
    let under : IsLeftBelow schema graph vars (list_of graph vars c.args.edge.now c.args.args.now c.as_slice-2.result.now c.as_slice-3.result.now c.args.single) c.args.braces.now c.as_slice.result.now c.args.nodes.now c.args.left =
    subst (λ (ks : List Kept). IsLeftBelow schema graph vars (list_of graph vars c.args.edge.now c.args.args.now c.as_slice-2.result.now c.as_slice-3.result.now c.args.single) c.args.braces.now ks c.args.nodes.now c.args.left) (sym c.as_slice.ensures)
    (subst (λ (lists : ℕ → List ℕ). IsLeftBelow schema graph vars lists c.args.braces.now b.inner c.args.nodes.now c.args.left) same_list (known b.orders b.filters b.inner b.is)) in
    let layer : out-Item c.args.kept.now ≡ Item-F.Edge c.in-Edge.orders c.in-Edge.filters c.in-Edge.inner = ap out-Item c.in-Edge.is ∙ kept.outs-Edge c.in-Edge.orders c.in-Edge.filters c.in-Edge.inner in
    let after : FlatsOf = λ n. behind_edge schema graph vars c.args.edge.now c.args.args.now c.args.braces.now c.args.single c.args.cascade (out-Item c.args.kept.now) n (f n) in
    let made : FlatsOf = λ n. times (f n) (list_flats schema graph vars c.args.edge.now c.args.args.now c.as_slice-2.result.now c.as_slice-3.result.now c.args.braces.now c.as_slice.result.now c.args.single c.args.cascade n) in
    let read : made ≡ (λ (n : ℕ). times (f n) (list_flats schema graph vars c.args.edge.now c.args.args.now c.in-Edge.orders c.in-Edge.filters c.args.braces.now c.in-Edge.inner c.args.single c.args.cascade n)) =
    λ j n. times (f n) (list_flats schema graph vars c.args.edge.now c.args.args.now (c.as_slice-2.ensures j) (c.as_slice-3.ensures j) c.args.braces.now (c.as_slice.ensures j) c.args.single c.args.cascade n) in
    let same : after ≡ (λ (n : ℕ). times (f n) (list_flats schema graph vars c.args.edge.now c.args.args.now c.in-Edge.orders c.in-Edge.filters c.args.braces.now c.in-Edge.inner c.args.single c.args.cascade n)) =
    λ j n. behind_edge schema graph vars c.args.edge.now c.args.args.now c.args.braces.now c.args.single c.args.cascade (layer j) n (f n) in
    subst (λ (h : FlatsOf). 16777216 < weight_of h c.args.nodes.now) (read ∙ sym same) (c.behind_nodes.ensures.too_large under f before has over)

-- ---- an item

pub behind_item-returns-in-Some-clause-flats : goal.behind_item-returns-in-Some-clause-flats
behind_item-returns-in-Some-clause-flats g t c = λ known f before.
    let schema = g.S.Snapshot.declared c.args.snap.now in
    let graph = g.S.Snapshot.graph c.args.snap.now in
    let vars = c.args.vars.now.variables in
    let item = c.args.item.now in
    let k = c.args.kept.now in
    let b = c.in-Edge in
    let braces = c.in-Some.braces in
    let is : item ≡ items.Edge b.edge b.args b.dirs (Some braces) = b.is ∙ ap (items.Edge b.edge b.args b.dirs) c.in-Some.is in
    let layer : out-QItem item ≡ QItem-F.Edge b.edge b.args b.dirs (Some braces) = ap out-QItem is ∙ items.outs-Edge b.edge b.args b.dirs (Some braces) in
    let flag : c.cascades.result ≡ cascades c.args.cascade b.dirs = c.cascades.ensures ∙ ap (cascades c.args.cascade) c.as_slice.ensures in
    let of : IsLeftOf schema graph vars c.args.single b.edge c.as_slice-in-Some-2.result.now c.as_slice-in-Some.result.now k c.args.nodes.now c.args.left =
    subst (λ (xs : List QArg). IsLeftOf schema graph vars c.args.single b.edge xs c.as_slice-in-Some.result.now k c.args.nodes.now c.args.left) (sym c.as_slice-in-Some-2.ensures)
    (subst (λ (qs : List QField). IsLeftOf schema graph vars c.args.single b.edge b.args qs k c.args.nodes.now c.args.left) (sym c.as_slice-in-Some.ensures) (known b.edge b.args b.dirs braces is)) in
    let made : FlatsOf = λ n. behind_edge schema graph vars b.edge c.as_slice-in-Some-2.result.now c.as_slice-in-Some.result.now c.args.single c.cascades.result (out-Item k) n (f n) in
    let after : FlatsOf = λ n. behind_item schema graph vars c.args.single c.args.cascade (out-QItem item) (out-Item k) n (f n) in
    let read : made ≡ (λ (n : ℕ). behind_edge schema graph vars b.edge b.args braces c.args.single (cascades c.args.cascade b.dirs) (out-Item k) n (f n)) =
    λ j n. behind_edge schema graph vars b.edge (c.as_slice-in-Some-2.ensures j) (c.as_slice-in-Some.ensures j) c.args.single (flag j) (out-Item k) n (f n) in
    let same : after ≡ (λ (n : ℕ). behind_edge schema graph vars b.edge b.args braces c.args.single (cascades c.args.cascade b.dirs) (out-Item k) n (f n)) =
    λ j n. behind_item schema graph vars c.args.single c.args.cascade (layer j) (out-Item k) n (f n) in
    subst (λ (h : FlatsOf). IfOk c.behind_edge.result (λ v. v.items ≡ map h c.args.nodes.now)) (read ∙ sym same) (c.behind_edge.ensures.flats of f before)

pub behind_item-returns-in-Some-clause-too_large : goal.behind_item-returns-in-Some-clause-too_large
behind_item-returns-in-Some-clause-too_large g t c = λ known f before has over.
    let schema = g.S.Snapshot.declared c.args.snap.now in
    let graph = g.S.Snapshot.graph c.args.snap.now in
    let vars = c.args.vars.now.variables in
    let item = c.args.item.now in
    let k = c.args.kept.now in
    let b = c.in-Edge in
    let braces = c.in-Some.braces in
    let is : item ≡ items.Edge b.edge b.args b.dirs (Some braces) = b.is ∙ ap (items.Edge b.edge b.args b.dirs) c.in-Some.is in
    let layer : out-QItem item ≡ QItem-F.Edge b.edge b.args b.dirs (Some braces) = ap out-QItem is ∙ items.outs-Edge b.edge b.args b.dirs (Some braces) in
    let flag : c.cascades.result ≡ cascades c.args.cascade b.dirs = c.cascades.ensures ∙ ap (cascades c.args.cascade) c.as_slice.ensures in
    let of : IsLeftOf schema graph vars c.args.single b.edge c.as_slice-in-Some-2.result.now c.as_slice-in-Some.result.now k c.args.nodes.now c.args.left =
    subst (λ (xs : List QArg). IsLeftOf schema graph vars c.args.single b.edge xs c.as_slice-in-Some.result.now k c.args.nodes.now c.args.left) (sym c.as_slice-in-Some-2.ensures)
    (subst (λ (qs : List QField). IsLeftOf schema graph vars c.args.single b.edge b.args qs k c.args.nodes.now c.args.left) (sym c.as_slice-in-Some.ensures) (known b.edge b.args b.dirs braces is)) in
    let made : FlatsOf = λ n. behind_edge schema graph vars b.edge c.as_slice-in-Some-2.result.now c.as_slice-in-Some.result.now c.args.single c.cascades.result (out-Item k) n (f n) in
    let after : FlatsOf = λ n. behind_item schema graph vars c.args.single c.args.cascade (out-QItem item) (out-Item k) n (f n) in
    let read : made ≡ (λ (n : ℕ). behind_edge schema graph vars b.edge b.args braces c.args.single (cascades c.args.cascade b.dirs) (out-Item k) n (f n)) =
    λ j n. behind_edge schema graph vars b.edge (c.as_slice-in-Some-2.ensures j) (c.as_slice-in-Some.ensures j) c.args.single (flag j) (out-Item k) n (f n) in
    let same : after ≡ (λ (n : ℕ). behind_edge schema graph vars b.edge b.args braces c.args.single (cascades c.args.cascade b.dirs) (out-Item k) n (f n)) =
    λ j n. behind_item schema graph vars c.args.single c.args.cascade (layer j) (out-Item k) n (f n) in
    subst (λ (h : FlatsOf). 16777216 < weight_of h c.args.nodes.now) (read ∙ sym same) (c.behind_edge.ensures.too_large of f before has over)

-- ---- a field

pub behind_field-returns-then-not-leads_to_nodes-clause-flats : goal.behind_field-returns-then-not-leads_to_nodes-clause-flats
behind_field-returns-then-not-leads_to_nodes-clause-flats g t c = λ known f before.
    let schema = g.S.Snapshot.declared c.args.snap.now in
    let graph = g.S.Snapshot.graph c.args.snap.now in
    let vars = c.args.vars.now.variables in
    let q = c.args.field.now in
    let k = c.args.kept.now in
    let no : c.leads_to_nodes.result ≡ false = search rules in
    let none : leads_to_nodes (sort_in schema (out-QItem q.item)) ≡ false = sym (c.leads_to_nodes.ensures ∙ ap leads_to_nodes c.sort_in-sort.ensures) ∙ no in
    let after : FlatsOf = λ n. behind_field schema graph vars c.args.cascade q k n (f n) in
    let made : FlatsOf = λ n. with_own q.alias (own_trees schema graph vars (out-QItem q.item) (out-Item k.item) n) (f n) in
    let same : after ≡ made = λ j n. field_alone schema graph vars q c.args.cascade k n (f n) none j in
    subst (λ (h : FlatsOf). IfOk c.behind_own.result (λ v. v.items ≡ map h c.args.nodes.now)) (sym same) (c.behind_own.ensures.flats (knows_item schema graph vars q.item k.item c.args.nodes.now c.args.left known) f before)

pub behind_field-returns-then-not-leads_to_nodes-clause-too_large : goal.behind_field-returns-then-not-leads_to_nodes-clause-too_large
behind_field-returns-then-not-leads_to_nodes-clause-too_large g t c = λ known f before has over.
    let schema = g.S.Snapshot.declared c.args.snap.now in
    let graph = g.S.Snapshot.graph c.args.snap.now in
    let vars = c.args.vars.now.variables in
    let q = c.args.field.now in
    let k = c.args.kept.now in
    let no : c.leads_to_nodes.result ≡ false = search rules in
    let none : leads_to_nodes (sort_in schema (out-QItem q.item)) ≡ false = sym (c.leads_to_nodes.ensures ∙ ap leads_to_nodes c.sort_in-sort.ensures) ∙ no in
    let after : FlatsOf = λ n. behind_field schema graph vars c.args.cascade q k n (f n) in
    let made : FlatsOf = λ n. with_own q.alias (own_trees schema graph vars (out-QItem q.item) (out-Item k.item) n) (f n) in
    let same : after ≡ made = λ j n. field_alone schema graph vars q c.args.cascade k n (f n) none j in
    subst (λ (h : FlatsOf). 16777216 < weight_of h c.args.nodes.now) (sym same) (c.behind_own.ensures.too_large (knows_item schema graph vars q.item k.item c.args.nodes.now c.args.left known) f before over)

pub behind_field-returns-clause-flats : goal.behind_field-returns-clause-flats
behind_field-returns-clause-flats g t c = λ known f before.
    let schema = g.S.Snapshot.declared c.args.snap.now in
    let graph = g.S.Snapshot.graph c.args.snap.now in
    let vars = c.args.vars.now.variables in
    let q = c.args.field.now in
    let k = c.args.kept.now in
    let yes : c.leads_to_nodes.result ≡ true = search rules in
    let some : leads_to_nodes (sort_in schema (out-QItem q.item)) ≡ true = sym (c.leads_to_nodes.ensures ∙ ap leads_to_nodes c.sort_in-sort.ensures) ∙ yes in
    let single : c.is_single.result ≡ is_single (sort_in schema (out-QItem q.item)) = c.is_single.ensures ∙ ap is_single c.sort_in-sort.ensures in
    let here : (e : QEdge) (args : List QArg) (dirs : List QDir) (braces : List QField) → q.item ≡ items.Edge e args dirs (Some braces) → IsLeftOf schema graph vars c.is_single.result e args braces k.item c.args.nodes.now c.args.left =
    λ e args dirs braces is.
    let one : is_single (sort_of (definition_of schema e.pred) e.back) ≡ c.is_single.result = sym (single ∙ ap is_single (ap (sort_in schema) (ap out-QItem is ∙ items.outs-Edge e args dirs (Some braces)))) in
    subst (λ (b : Bool). IsLeftOf schema graph vars b e args braces k.item c.args.nodes.now c.args.left) one (of_edge schema graph vars q.item k.item c.args.nodes.now c.args.left known e args dirs braces is) in
    let after : FlatsOf = λ n. behind_field schema graph vars c.args.cascade q k n (f n) in
    let made : FlatsOf = λ n. behind_item schema graph vars c.is_single.result c.args.cascade (out-QItem q.item) (out-Item k.item) n (f n) in
    let read : made ≡ (λ (n : ℕ). behind_item schema graph vars (is_single (sort_in schema (out-QItem q.item))) c.args.cascade (out-QItem q.item) (out-Item k.item) n (f n)) =
    λ j n. behind_item schema graph vars (single j) c.args.cascade (out-QItem q.item) (out-Item k.item) n (f n) in
    let same : after ≡ (λ (n : ℕ). behind_item schema graph vars (is_single (sort_in schema (out-QItem q.item))) c.args.cascade (out-QItem q.item) (out-Item k.item) n (f n)) =
    λ j n. field_nodes schema graph vars q c.args.cascade k n (f n) some j in
    subst (λ (h : FlatsOf). IfOk c.behind_item.result (λ v. v.items ≡ map h c.args.nodes.now)) (read ∙ sym same) (c.behind_item.ensures.flats here f before)

pub behind_field-returns-clause-too_large : goal.behind_field-returns-clause-too_large
behind_field-returns-clause-too_large g t c = λ known f before has over.
    let schema = g.S.Snapshot.declared c.args.snap.now in
    let graph = g.S.Snapshot.graph c.args.snap.now in
    let vars = c.args.vars.now.variables in
    let q = c.args.field.now in
    let k = c.args.kept.now in
    let yes : c.leads_to_nodes.result ≡ true = search rules in
    let some : leads_to_nodes (sort_in schema (out-QItem q.item)) ≡ true = sym (c.leads_to_nodes.ensures ∙ ap leads_to_nodes c.sort_in-sort.ensures) ∙ yes in
    let single : c.is_single.result ≡ is_single (sort_in schema (out-QItem q.item)) = c.is_single.ensures ∙ ap is_single c.sort_in-sort.ensures in
    let here : (e : QEdge) (args : List QArg) (dirs : List QDir) (braces : List QField) → q.item ≡ items.Edge e args dirs (Some braces) → IsLeftOf schema graph vars c.is_single.result e args braces k.item c.args.nodes.now c.args.left =
    λ e args dirs braces is.
    let one : is_single (sort_of (definition_of schema e.pred) e.back) ≡ c.is_single.result = sym (single ∙ ap is_single (ap (sort_in schema) (ap out-QItem is ∙ items.outs-Edge e args dirs (Some braces)))) in
    subst (λ (b : Bool). IsLeftOf schema graph vars b e args braces k.item c.args.nodes.now c.args.left) one (of_edge schema graph vars q.item k.item c.args.nodes.now c.args.left known e args dirs braces is) in
    let after : FlatsOf = λ n. behind_field schema graph vars c.args.cascade q k n (f n) in
    let made : FlatsOf = λ n. behind_item schema graph vars c.is_single.result c.args.cascade (out-QItem q.item) (out-Item k.item) n (f n) in
    let read : made ≡ (λ (n : ℕ). behind_item schema graph vars (is_single (sort_in schema (out-QItem q.item))) c.args.cascade (out-QItem q.item) (out-Item k.item) n (f n)) =
    λ j n. behind_item schema graph vars (single j) c.args.cascade (out-QItem q.item) (out-Item k.item) n (f n) in
    let same : after ≡ (λ (n : ℕ). behind_item schema graph vars (is_single (sort_in schema (out-QItem q.item))) c.args.cascade (out-QItem q.item) (out-Item k.item) n (f n)) =
    λ j n. field_nodes schema graph vars q c.args.cascade k n (f n) some j in
    subst (λ (h : FlatsOf). 16777216 < weight_of h c.args.nodes.now) (read ∙ sym same) (c.behind_item.ensures.too_large here f before has over)

-- ---- fields

pub behind_fields-loop-place-init : goal.behind_fields-loop-place-init
behind_fields-loop-place-init g t c = (λ known. c.in_ok-made.ensures, omega (arith, ap (sum_by weight_in) c.in_ok-made.ensures, none_of c.args.nodes.now), c.into_iter-known.ensures.rest ∙ c.into_vec.ensures)

pub behind_fields-returns-then-place-kept-clause-flats : goal.behind_fields-returns-then-place-kept-clause-flats
behind_fields-returns-then-place-kept-clause-flats g t c = λ known.
    let schema = g.S.Snapshot.declared c.args.snap.now in
    let graph = g.S.Snapshot.graph c.args.snap.now in
    let vars = c.args.vars.now.variables in
    let past : length c.args.kept.now ≤ c.loop-place.place = omega (arith, c.if-place-kept.true) in
    c.loop-place.invariant.0 known ∙ (λ j. map (λ n. after_kept schema graph vars c.args.cascade c.args.fields.now c.args.kept.now c.loop-place.place n ([] ∷ []) past j) c.args.nodes.now)

pub behind_fields-returns-clause-flats : goal.behind_fields-returns-clause-flats
behind_fields-returns-clause-flats g t c = λ known.
    let schema = g.S.Snapshot.declared c.args.snap.now in
    let graph = g.S.Snapshot.graph c.args.snap.now in
    let vars = c.args.vars.now.variables in
    let past : length c.args.fields.now ≤ c.loop-place.place = omega (arith, c.loop-place-test.false) in
    c.loop-place.invariant.0 known ∙ (λ j. map (λ n. after_ended schema graph vars c.args.cascade c.args.fields.now c.args.kept.now c.loop-place.place n ([] ∷ []) past j) c.args.nodes.now)

pub behind_fields-returns-in_err-made-2-clause-too_large : goal.behind_fields-returns-in_err-made-2-clause-too_large
behind_fields-returns-in_err-made-2-clause-too_large g t c = λ known over.
    let schema = g.S.Snapshot.declared c.args.snap.now in
    let graph = g.S.Snapshot.graph c.args.snap.now in
    let vars = c.args.vars.now.variables in
    let cascade = c.args.cascade in
    let fields = c.args.fields.now in
    let kept = c.args.kept.now in
    let nodes = c.args.nodes.now in
    let l = c.loop-place in
    let q = c.index-fields-place.result in
    let k = c.index-kept-place.result in
    let lt : l.place < length fields = omega (arith, c.loop-place-test.true) in
    let lk : l.place < length kept = omega (arith, c.if-place-kept.false) in
    let first : c.next_left-left.result ≡ first_left (drop l.place c.args.left) = c.next_left-left.ensures.first ∙ ap first_left l.invariant.2 in
    let here : IsLeft schema graph vars q.item k.item nodes c.next_left-left.result =
    subst (λ (x : Left). IsLeft schema graph vars q.item k.item nodes x) (sym first) (next_known schema graph vars fields kept l.place q k lt lk c.index-fields-place.is c.index-kept-place.is nodes c.args.left known) in
    let f : FlatsOf = behind_fields schema graph vars cascade (take l.place fields) (take l.place kept) in
    let after : FlatsOf = λ n. behind_field schema graph vars cascade q k n (f n) in
    let above : 16777216 < weight_of after nodes = c.behind_field.ensures.too_large here f (l.invariant.0 known) (λ n. after_has schema graph vars cascade (take l.place fields) (take l.place kept) n ([] ∷ []) refl) (search rules) in
    omega (
      arith,
      above,
      sums_within (λ n. weight_in (after n)) (λ n. weight_in (behind_fields schema graph vars cascade fields kept n))
          (λ n. omega (
            arith,
            ap weight_in (field_next schema graph vars cascade fields kept l.place q k lt lk c.index-fields-place.is c.index-kept-place.is n),
            after_front schema graph vars cascade fields kept (l.place + 1) n ([] ∷ []),
          ))
          nodes,
    )

pub behind_fields-loop-place-preserved : goal.behind_fields-loop-place-preserved
behind_fields-loop-place-preserved g t c =
    let schema = g.S.Snapshot.declared c.args.snap.now in
    let graph = g.S.Snapshot.graph c.args.snap.now in
    let vars = c.args.vars.now.variables in
    let cascade = c.args.cascade in
    let fields = c.args.fields.now in
    let kept = c.args.kept.now in
    let nodes = c.args.nodes.now in
    let l = c.loop-place in
    let q = c.index-fields-place.result in
    let k = c.index-kept-place.result in
    let lt : l.place < length fields = omega (arith, c.loop-place-test.true) in
    let lk : l.place < length kept = omega (arith, c.if-place-kept.false) in
    let f : FlatsOf = behind_fields schema graph vars cascade (take l.place fields) (take l.place kept) in (
      λ known.
          let first : c.next_left-left.result ≡ first_left (drop l.place c.args.left) = c.next_left-left.ensures.first ∙ ap first_left l.invariant.2 in
          let here : IsLeft schema graph vars q.item k.item nodes c.next_left-left.result =
          subst (λ (x : Left). IsLeft schema graph vars q.item k.item nodes x) (sym first) (next_known schema graph vars fields kept l.place q k lt lk c.index-fields-place.is c.index-kept-place.is nodes c.args.left known) in
          c.in_ok-made-2.ensures.flats here f (l.invariant.0 known)
          ∙ sym (λ j. map (λ n. field_next schema graph vars cascade fields kept l.place q k lt lk c.index-fields-place.is c.index-kept-place.is n j) nodes),
      c.in_ok-made-2.ensures.within l.invariant.1,
      c.next_left-left.ensures.rest ∙ (ap after_first l.invariant.2 ∙ known_behind l.place c.args.left),
    )

-- ---- the level below

pub behind_nodes-returns-in_err-below-clause-too_large : goal.behind_nodes-returns-in_err-below-clause-too_large
behind_nodes-returns-in_err-below-clause-too_large g t c = λ known f before has over.
    let schema = g.S.Snapshot.declared c.args.snap.now in
    let graph = g.S.Snapshot.graph c.args.snap.now in
    let vars = c.args.vars.now.variables in
    let nodes = c.args.nodes.now in
    let own = list_of graph vars c.args.edge.now c.args.args.now c.args.orders.now c.args.filters.now c.args.single in
    let read : c.in_ok-lists.lists.items ≡ map own nodes = c.in_ok-lists.ensures (knows_lists schema graph vars own c.args.braces.now c.args.inner.now nodes c.args.left known) in
    let in_them : IsLeftIn schema graph vars c.args.braces.now c.args.inner.now c.in_ok-lists.lists.items c.args.left =
    in_these schema graph vars own c.args.braces.now c.args.inner.now nodes c.in_ok-lists.lists.items c.args.left read known in
    let same_level : ascending nat_cmp (flat_map (λ (l : List ℕ). l) c.in_ok-from.from.lists.items) ≡ c.as_slice-2.result.now =
    sym (c.as_slice-2.ensures.items ∙ (c.in_ok-level.ensures ∙ (λ j. ascending nat_cmp (flat_map (λ (l : List ℕ). l) (c.as_slice.ensures.value j))))) in
    let inside : AreLeft schema graph vars c.args.braces.now c.args.inner.now c.as_slice-2.result.now c.in_ok-from.from.inside =
    subst (λ (ns : List ℕ). AreLeft schema graph vars c.args.braces.now c.args.inner.now ns c.in_ok-from.from.inside) same_level (c.in_ok-from.ensures.inside in_them) in
    let whole = planned_there schema graph vars c.args.braces.now c.args.inner.now in
    let list = left_of schema graph vars c.args.edge.now c.args.args.now c.args.orders.now c.args.filters.now c.args.braces.now c.args.inner.now c.args.single c.args.cascade in
    let lists : c.in_ok-from.from.lists.items ≡ map list nodes = c.in_ok-from.ensures.lists in_them ∙ (ap (map (remaining c.args.cascade whole)) read ∙ map_twice (remaining c.args.cascade whole) own nodes) in
    let level : c.in_ok-level.level ≡ ascending nat_cmp (flat_map list nodes) =
    c.in_ok-level.ensures ∙ ((λ j. ascending nat_cmp (flat_map (λ (l : List ℕ). l) ((c.as_slice.ensures.value ∙ lists) j))) ∙ ap (ascending nat_cmp) (flat_map-map (λ (l : List ℕ). l) list nodes)) in
    let flats : FlatsOf = planned_flats schema graph vars c.args.cascade c.args.braces.now c.args.inner.now in
    let above : 16777216 < weight_of flats c.as_slice-2.result.now = c.level_flats.ensures.too_large inside (search rules) in
    omega (
      arith,
      above,
      ap (weight_of flats) (c.as_slice-2.ensures.items ∙ level),
      below_within flats (flats_apart schema graph vars c.args.cascade c.args.braces.now c.args.inner.now) f list has nodes,
    )

pub behind_nodes-returns-in_err-times_each-clause-too_large : goal.behind_nodes-returns-in_err-times_each-clause-too_large
behind_nodes-returns-in_err-times_each-clause-too_large g t c = λ known f before has over.
    let schema = g.S.Snapshot.declared c.args.snap.now in
    let graph = g.S.Snapshot.graph c.args.snap.now in
    let vars = c.args.vars.now.variables in
    let nodes = c.args.nodes.now in
    let own = list_of graph vars c.args.edge.now c.args.args.now c.args.orders.now c.args.filters.now c.args.single in
    let read : c.in_ok-lists.lists.items ≡ map own nodes = c.in_ok-lists.ensures (knows_lists schema graph vars own c.args.braces.now c.args.inner.now nodes c.args.left known) in
    let in_them : IsLeftIn schema graph vars c.args.braces.now c.args.inner.now c.in_ok-lists.lists.items c.args.left =
    in_these schema graph vars own c.args.braces.now c.args.inner.now nodes c.in_ok-lists.lists.items c.args.left read known in
    let same_level : ascending nat_cmp (flat_map (λ (l : List ℕ). l) c.in_ok-from.from.lists.items) ≡ c.as_slice-2.result.now =
    sym (c.as_slice-2.ensures.items ∙ (c.in_ok-level.ensures ∙ (λ j. ascending nat_cmp (flat_map (λ (l : List ℕ). l) (c.as_slice.ensures.value j))))) in
    let inside : AreLeft schema graph vars c.args.braces.now c.args.inner.now c.as_slice-2.result.now c.in_ok-from.from.inside =
    subst (λ (ns : List ℕ). AreLeft schema graph vars c.args.braces.now c.args.inner.now ns c.in_ok-from.from.inside) same_level (c.in_ok-from.ensures.inside in_them) in
    let whole = planned_there schema graph vars c.args.braces.now c.args.inner.now in
    let list = left_of schema graph vars c.args.edge.now c.args.args.now c.args.orders.now c.args.filters.now c.args.braces.now c.args.inner.now c.args.single c.args.cascade in
    let lists : c.in_ok-from.from.lists.items ≡ map list nodes = c.in_ok-from.ensures.lists in_them ∙ (ap (map (remaining c.args.cascade whole)) read ∙ map_twice (remaining c.args.cascade whole) own nodes) in
    let level : c.in_ok-level.level ≡ ascending nat_cmp (flat_map list nodes) =
    c.in_ok-level.ensures ∙ ((λ j. ascending nat_cmp (flat_map (λ (l : List ℕ). l) ((c.as_slice.ensures.value ∙ lists) j))) ∙ ap (ascending nat_cmp) (flat_map-map (λ (l : List ℕ). l) list nodes)) in
    let flats : FlatsOf = planned_flats schema graph vars c.args.cascade c.args.braces.now c.args.inner.now in
    let below : c.as_slice-4.result.now ≡ map flats c.in_ok-level.level = c.as_slice-4.ensures.value ∙ (c.in_ok-below.ensures.flats inside ∙ ap (map flats) c.as_slice-2.ensures.items) in
    c.times_each.ensures.too_large f flats list nodes (c.as_mut_slice.ensures.value ∙ before) (c.as_slice-3.ensures.value ∙ lists) level below (flats_apart schema graph vars c.args.cascade c.args.braces.now c.args.inner.now) (search rules)

pub behind_nodes-returns-clause-flats : goal.behind_nodes-returns-clause-flats
behind_nodes-returns-clause-flats g t c = λ known f before.
    let schema = g.S.Snapshot.declared c.args.snap.now in
    let graph = g.S.Snapshot.graph c.args.snap.now in
    let vars = c.args.vars.now.variables in
    let nodes = c.args.nodes.now in
    let own = list_of graph vars c.args.edge.now c.args.args.now c.args.orders.now c.args.filters.now c.args.single in
    let read : c.in_ok-lists.lists.items ≡ map own nodes = c.in_ok-lists.ensures (knows_lists schema graph vars own c.args.braces.now c.args.inner.now nodes c.args.left known) in
    let in_them : IsLeftIn schema graph vars c.args.braces.now c.args.inner.now c.in_ok-lists.lists.items c.args.left =
    in_these schema graph vars own c.args.braces.now c.args.inner.now nodes c.in_ok-lists.lists.items c.args.left read known in
    let same_level : ascending nat_cmp (flat_map (λ (l : List ℕ). l) c.in_ok-from.from.lists.items) ≡ c.as_slice-2.result.now =
    sym (c.as_slice-2.ensures.items ∙ (c.in_ok-level.ensures ∙ (λ j. ascending nat_cmp (flat_map (λ (l : List ℕ). l) (c.as_slice.ensures.value j))))) in
    let inside : AreLeft schema graph vars c.args.braces.now c.args.inner.now c.as_slice-2.result.now c.in_ok-from.from.inside =
    subst (λ (ns : List ℕ). AreLeft schema graph vars c.args.braces.now c.args.inner.now ns c.in_ok-from.from.inside) same_level (c.in_ok-from.ensures.inside in_them) in
    let whole = planned_there schema graph vars c.args.braces.now c.args.inner.now in
    let list = left_of schema graph vars c.args.edge.now c.args.args.now c.args.orders.now c.args.filters.now c.args.braces.now c.args.inner.now c.args.single c.args.cascade in
    let lists : c.in_ok-from.from.lists.items ≡ map list nodes = c.in_ok-from.ensures.lists in_them ∙ (ap (map (remaining c.args.cascade whole)) read ∙ map_twice (remaining c.args.cascade whole) own nodes) in
    let level : c.in_ok-level.level ≡ ascending nat_cmp (flat_map list nodes) =
    c.in_ok-level.ensures ∙ ((λ j. ascending nat_cmp (flat_map (λ (l : List ℕ). l) ((c.as_slice.ensures.value ∙ lists) j))) ∙ ap (ascending nat_cmp) (flat_map-map (λ (l : List ℕ). l) list nodes)) in
    let flats : FlatsOf = planned_flats schema graph vars c.args.cascade c.args.braces.now c.args.inner.now in
    let below : c.as_slice-4.result.now ≡ map flats c.in_ok-level.level = c.as_slice-4.ensures.value ∙ (c.in_ok-below.ensures.flats inside ∙ ap (map flats) c.as_slice-2.ensures.items) in
    let made : c.times_each.new.made ≡ map (λ n. times (f n) (flat_map flats (list n))) nodes = c.in_ok-times_each.ensures.ok f flats list nodes (c.as_mut_slice.ensures.value ∙ before) (c.as_slice-3.ensures.value ∙ lists) level below in
    let many : length c.args.made.items ≡ c.args.made.len = omega (arith, c.as_mut_slice.ensures.len, ap length c.as_mut_slice.ensures.value) in
    let all : take c.args.made.len (c.times_each.new.made ++ drop (length c.times_each.new.made) c.args.made.items) ≡ c.times_each.new.made =
    written_back c.times_each.new.made c.args.made.items c.args.made.len
    (omega (arith, many, ap length made, length-map nodes (λ n. times (f n) (flat_map flats (list n))), ap length before, length-map nodes f)) many in
    all ∙ made

-- ---- the whole level

pub level_flats-returns-in_err-made-clause-too_large : goal.level_flats-returns-in_err-made-clause-too_large
level_flats-returns-in_err-made-clause-too_large g t c = λ known over.
    let schema = g.S.Snapshot.declared c.args.snap.now in
    let graph = g.S.Snapshot.graph c.args.snap.now in
    let vars = c.args.vars.now.variables in
    let f : FlatsOf = behind_fields schema graph vars c.args.cascade c.args.fields.now c.args.kept.now in
    let above : 16777216 < weight_of f c.args.nodes.now = c.behind_fields.ensures.too_large known (search rules) in
    subst (λ (t : ℕ). 16777216 < t) (sym (λ j. sum_by (λ n. filled_weight (f n) j) c.args.nodes.now)) above

pub level_flats-returns-clause-flats : goal.level_flats-returns-clause-flats
level_flats-returns-clause-flats g t c = λ known.
    let schema = g.S.Snapshot.declared c.args.snap.now in
    let graph = g.S.Snapshot.graph c.args.snap.now in
    let vars = c.args.vars.now.variables in
    let f : FlatsOf = behind_fields schema graph vars c.args.cascade c.args.fields.now c.args.kept.now in
    let filled : c.filled_each.new.made ≡ map (filter has_pair) c.in_ok-made.made.items = c.filled_each.ensures ∙ ap (map (filter has_pair)) c.as_mut_slice.ensures.value in
    let many : length c.in_ok-made.made.items ≡ c.in_ok-made.made.len = omega (arith, c.as_mut_slice.ensures.len, ap length c.as_mut_slice.ensures.value) in
    let all : take c.in_ok-made.made.len (c.filled_each.new.made ++ drop (length c.filled_each.new.made) c.in_ok-made.made.items) ≡ c.filled_each.new.made =
    written_back c.filled_each.new.made c.in_ok-made.made.items c.in_ok-made.made.len (omega (arith, many, ap length filled, length-map c.in_ok-made.made.items (filter has_pair))) many in
    all ∙ (filled ∙ (ap (map (filter has_pair)) (c.in_ok-made.ensures.flats known) ∙ map_twice (filter has_pair) f c.args.nodes.now))

pub level_flats-returns-clause-within : goal.level_flats-returns-clause-within
level_flats-returns-clause-within g t c =
    let filled : c.filled_each.new.made ≡ map (filter has_pair) c.in_ok-made.made.items = c.filled_each.ensures ∙ ap (map (filter has_pair)) c.as_mut_slice.ensures.value in
    let many : length c.in_ok-made.made.items ≡ c.in_ok-made.made.len = omega (arith, c.as_mut_slice.ensures.len, ap length c.as_mut_slice.ensures.value) in
    let all : take c.in_ok-made.made.len (c.filled_each.new.made ++ drop (length c.filled_each.new.made) c.in_ok-made.made.items) ≡ c.filled_each.new.made =
    written_back c.filled_each.new.made c.in_ok-made.made.items c.in_ok-made.made.len (omega (arith, many, ap length filled, length-map c.in_ok-made.made.items (filter has_pair))) many in
    omega (arith, ap (sum_by weight_in) (all ∙ filled), filled_sum c.in_ok-made.made.items, c.in_ok-made.ensures.within)
