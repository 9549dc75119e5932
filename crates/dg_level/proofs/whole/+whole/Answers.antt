use Rattle.std.proofs.Common.{◌≡◌, ℕ, ◌<◌, ◌≤◌, Bool, true, false, List, [], ◌∷◌, ◌++◌, map, flat_map, length, rules, refl, sym, ap, ◌∙◌, subst, arith, length-append}
use Rattle.std.specs.Prelude.{IfOk, filter, option_copied, Some, None}
use Rattle.std.specs.List.{list_any}
use Rattle.std.specs.Ordering.{nat_cmp}
use Rattle.std.proofs.lemmas.List.Folds.{flat_map-map}
use Rattle.dg_values.specs.Ascending.{ascending, has}
use Rattle.dg_schema.specs.Definitions.{definition_of}
use Rattle.dg_graph.specs.Graphs.{objects}
use Rattle.dg_parse.specs.declared.query.QItem.{QItem}
use Rattle.dg_parse.specs.declared.query.QItem.TheVariants as items
use Rattle.dg_check.specs.declared.parts.Field.{Field as Kept}
use Rattle.dg_check.specs.declared.parts.Item.TheViews.{out-Item}
use Rattle.dg_level.specs.declared.left.Left.{Left}
use Rattle.dg_level.specs.Answers.{shown}
use Rattle.dg_level.specs.Shown.{sort_of, some_trees}
use Rattle.dg_level.specs.Planned.{is_single, cut_to, planned_list, planned_there}
use Rattle.dg_level.specs.Left.{IsLeft, unknown, AreLeft}
use Rattle.dg_level.specs.Levels.{planned_item, list_of, leads_to_nodes, kept_there}
use Rattle.dg_level.proofs.LeftLaws.{passed_in, fewer, all_fewer, none_known, learned, one_learned}
use Rattle.dg_level.proofs.PlannedLaws.{never_missing, there_edge, there_bare}
use Rattle.dg_level.proofs.WholeLaws.{none_pass, all_pass, values_left, nodes_left, one_more, no_field, no_kept}
use Rattle.dg_level.proofs.whole.+whole.Goals as goal

-- ---- fields

pub whole_nodes-loop-place-init : goal.whole_nodes-loop-place-init
whole_nodes-loop-place-init g t c =
    let schema = g.S.Snapshot.declared c.args.snap.now in
    let graph = g.S.Snapshot.graph c.args.snap.now in
    let fresh : c.new-inside.result ≡ [] = c.new-inside.ensures in (
      refl,
      subst (λ (ls : List Left). AreLeft schema graph c.args.vars.now.variables c.args.fields.now c.args.kept.now c.args.nodes ls) (sym fresh) (none_known schema graph c.args.vars.now.variables c.args.fields.now c.args.kept.now c.args.nodes),
      ap length fresh,
    )

pub whole_nodes-returns-then-place-kept-clause-nodes : goal.whole_nodes-returns-then-place-kept-clause-nodes
whole_nodes-returns-then-place-kept-clause-nodes g t c =
    let schema = g.S.Snapshot.declared c.args.snap.now in
    let graph = g.S.Snapshot.graph c.args.snap.now in
    let past : length c.args.kept.now ≤ c.loop-place.place = omega (arith, c.if-place-kept.true) in
    sym (no_kept schema graph c.args.vars.now.variables c.args.fields.now c.args.kept.now c.loop-place.place c.loop-place.left past) ∙ c.loop-place.invariant.0

pub whole_nodes-returns-clause-nodes : goal.whole_nodes-returns-clause-nodes
whole_nodes-returns-clause-nodes g t c =
    let schema = g.S.Snapshot.declared c.args.snap.now in
    let graph = g.S.Snapshot.graph c.args.snap.now in
    let past : length c.args.fields.now ≤ c.loop-place.place = omega (arith, c.loop-place-test.false) in
    sym (no_field schema graph c.args.vars.now.variables c.args.fields.now c.args.kept.now c.loop-place.place c.loop-place.left past) ∙ c.loop-place.invariant.0

pub whole_nodes-loop-place-preserved : goal.whole_nodes-loop-place-preserved
whole_nodes-loop-place-preserved g t c =
    let schema = g.S.Snapshot.declared c.args.snap.now in
    let graph = g.S.Snapshot.graph c.args.snap.now in
    let vars = c.args.vars.now.variables in
    let fields = c.args.fields.now in
    let kept = c.args.kept.now in
    let l = c.loop-place in
    let field = c.index-fields-place.result in
    let part = c.index-kept-place.result in
    let with = c.in_ok-with.with in
    let lt : l.place < length fields = omega (arith, c.loop-place-test.true) in
    let lk : l.place < length kept = omega (arith, c.if-place-kept.false) in
    let made : with.nodes ≡ filter ((planned_item schema graph vars field.item).there part.item) l.left = c.in_ok-with.ensures.nodes in
    let pushed : c.push.new.self ≡ l.inside ++ with.left ∷ [] = c.in_ok-push.ensures.ok in
    let sub : (n : ℕ) → has nat_cmp with.nodes n ≡ true → has nat_cmp l.left n ≡ true = λ n h. passed_in ((planned_item schema graph vars field.item).there part.item) l.left with.nodes made n h in (
      sym (one_more schema graph vars fields kept l.place l.left field part lt lk c.index-fields-place.is c.index-kept-place.is with.nodes made) ∙ l.invariant.0,
      one_learned schema graph vars fields kept l.place field part lt lk c.index-fields-place.is c.index-kept-place.is with.nodes l.inside c.push.new.self with.left l.invariant.2 pushed
          (all_fewer schema graph vars fields kept with.nodes l.left l.inside sub l.invariant.1)
          (fewer schema graph vars field.item part.item with.nodes l.left with.left sub c.in_ok-with.ensures.left),
      omega (arith, ap length pushed, length-append l.inside (with.left ∷ []), l.invariant.2),
    )

-- ---- items

pub nodes_with-returns-in-Uid-clause-nodes : goal.nodes_with-returns-in-Uid-clause-nodes
nodes_with-returns-in-Uid-clause-nodes g t c =
    let schema = g.S.Snapshot.declared c.args.snap.now in
    let graph = g.S.Snapshot.graph c.args.snap.now in
    let vars = c.args.vars.now.variables in
    c.with_nodes-in-Uid.ensures.0
    ∙ all_pass ((planned_item schema graph vars c.args.item.now).there c.args.kept.now) (never_missing schema graph vars c.args.item.now c.args.kept.now c.in-Uid.is) c.args.nodes

pub nodes_with-returns-in-Uid-clause-left : goal.nodes_with-returns-in-Uid-clause-left
nodes_with-returns-in-Uid-clause-left g t c =
    let schema = g.S.Snapshot.declared c.args.snap.now in
    let graph = g.S.Snapshot.graph c.args.snap.now in
    subst (λ (l : Left). IsLeft schema graph c.args.vars.now.variables c.args.item.now c.args.kept.now c.args.nodes l) (sym c.with_nodes-in-Uid.ensures.1) (unknown c.args.item.now c.args.kept.now c.args.nodes)

pub nodes_with-returns-in_ok-nodes_with_value-in-Val-clause-left : goal.nodes_with-returns-in_ok-nodes_with_value-in-Val-clause-left
nodes_with-returns-in_ok-nodes_with_value-in-Val-clause-left g t c =
    let schema = g.S.Snapshot.declared c.args.snap.now in
    let graph = g.S.Snapshot.graph c.args.snap.now in
    subst (λ (l : Left). IsLeft schema graph c.args.vars.now.variables c.args.item.now c.args.kept.now c.args.nodes l) (sym c.with_nodes.ensures.1) (unknown c.args.item.now c.args.kept.now c.args.nodes)

pub nodes_with-returns-in-None-clause-left : goal.nodes_with-returns-in-None-clause-left
nodes_with-returns-in-None-clause-left g t c =
    let schema = g.S.Snapshot.declared c.args.snap.now in
    let graph = g.S.Snapshot.graph c.args.snap.now in
    let vars = c.args.vars.now.variables in
    let item = c.args.item.now in
    let b = c.in-Edge in
    let is : item ≡ items.Edge b.edge b.args b.dirs None = b.is ∙ ap (items.Edge b.edge b.args b.dirs) c.in-None.is in
    let e : items.Edge b.edge c.as_slice.result.now b.dirs None ≡ item = (λ j. items.Edge b.edge (c.as_slice.ensures j) b.dirs None) ∙ sym is in
    subst (λ (q : QItem). IfOk c.nodes_with_edge.result (λ with. IsLeft schema graph vars q c.args.kept.now c.args.nodes with.left)) e (c.nodes_with_edge.ensures.left b.dirs None refl)

pub nodes_with-returns-in-Some-clause-left : goal.nodes_with-returns-in-Some-clause-left
nodes_with-returns-in-Some-clause-left g t c =
    let schema = g.S.Snapshot.declared c.args.snap.now in
    let graph = g.S.Snapshot.graph c.args.snap.now in
    let vars = c.args.vars.now.variables in
    let item = c.args.item.now in
    let b = c.in-Edge in
    let braces = c.in-Some.braces in
    let is : item ≡ items.Edge b.edge b.args b.dirs (Some braces) = b.is ∙ ap (items.Edge b.edge b.args b.dirs) c.in-Some.is in
    let e : items.Edge b.edge c.as_slice-in-Some.result.now b.dirs (Some braces) ≡ item = (λ j. items.Edge b.edge (c.as_slice-in-Some.ensures j) b.dirs (Some braces)) ∙ sym is in
    subst (λ (q : QItem). IfOk c.nodes_with_edge-in-Some.result (λ with. IsLeft schema graph vars q c.args.kept.now c.args.nodes with.left)) e (c.nodes_with_edge-in-Some.ensures.left b.dirs (Some braces) (sym c.as_slice-in-Some-2.ensures))

pub nodes_with-returns-in-None-clause-nodes : goal.nodes_with-returns-in-None-clause-nodes
nodes_with-returns-in-None-clause-nodes g t c =
    let schema = g.S.Snapshot.declared c.args.snap.now in
    let graph = g.S.Snapshot.graph c.args.snap.now in
    let vars = c.args.vars.now.variables in
    let item = c.args.item.now in
    let kept = c.args.kept.now in
    let b = c.in-Edge in
    let is : item ≡ items.Edge b.edge b.args b.dirs None = b.is ∙ ap (items.Edge b.edge b.args b.dirs) c.in-None.is in
    let e : kept_there schema graph vars b.edge c.as_slice.result.now [] (out-Item kept) ≡ (planned_item schema graph vars item).there kept =
    (λ j. kept_there schema graph vars b.edge (c.as_slice.ensures j) [] (out-Item kept)) ∙ sym (there_bare schema graph vars item kept b.edge b.args b.dirs is) in
    subst (λ (p : ℕ → Bool). IfOk c.nodes_with_edge.result (λ with. with.nodes ≡ filter p c.args.nodes)) e c.nodes_with_edge.ensures.nodes

pub nodes_with-returns-in-Some-clause-nodes : goal.nodes_with-returns-in-Some-clause-nodes
nodes_with-returns-in-Some-clause-nodes g t c =
    let schema = g.S.Snapshot.declared c.args.snap.now in
    let graph = g.S.Snapshot.graph c.args.snap.now in
    let vars = c.args.vars.now.variables in
    let item = c.args.item.now in
    let kept = c.args.kept.now in
    let b = c.in-Edge in
    let braces = c.in-Some.braces in
    let is : item ≡ items.Edge b.edge b.args b.dirs (Some braces) = b.is ∙ ap (items.Edge b.edge b.args b.dirs) c.in-Some.is in
    let e : kept_there schema graph vars b.edge c.as_slice-in-Some.result.now c.as_slice-in-Some-2.result.now (out-Item kept) ≡ (planned_item schema graph vars item).there kept =
    (λ j. kept_there schema graph vars b.edge (c.as_slice-in-Some.ensures j) (c.as_slice-in-Some-2.ensures j) (out-Item kept)) ∙ sym (there_edge schema graph vars item kept b.edge b.args b.dirs braces is) in
    subst (λ (p : ℕ → Bool). IfOk c.nodes_with_edge-in-Some.result (λ with. with.nodes ≡ filter p c.args.nodes)) e c.nodes_with_edge-in-Some.ensures.nodes

-- ---- edges

pub nodes_with_edge-returns-in_default-clause-left : goal.nodes_with_edge-returns-in_default-clause-left
nodes_with_edge-returns-in_default-clause-left g t c = λ dirs fields in_them.
    let schema = g.S.Snapshot.declared c.args.snap.now in
    let graph = g.S.Snapshot.graph c.args.snap.now in
    let q = items.Edge c.args.edge.now c.args.args.now dirs fields in
    subst (λ (l : Left). IsLeft schema graph c.args.vars.now.variables q c.args.kept.now c.args.nodes l) (sym c.with_nodes.ensures.1) (unknown q c.args.kept.now c.args.nodes)

pub nodes_with_edge-returns-then-not-leads_to_nodes-clause-left : goal.nodes_with_edge-returns-then-not-leads_to_nodes-clause-left
nodes_with_edge-returns-then-not-leads_to_nodes-clause-left g t c = λ dirs fields in_them.
    c.nodes_with_values.ensures.left (g.S.Snapshot.declared c.args.snap.now) c.args.vars.now.variables c.args.edge.now c.args.args.now dirs fields c.args.kept.now (sym c.as_str-then-not-leads_to_nodes.ensures)

pub nodes_with_edge-returns-in_default-clause-nodes : goal.nodes_with_edge-returns-in_default-clause-nodes
nodes_with_edge-returns-in_default-clause-nodes g t c =
    c.with_nodes.ensures.0 ∙ c.no_nodes.ensures
    ∙ none_pass (kept_there (g.S.Snapshot.declared c.args.snap.now) (g.S.Snapshot.graph c.args.snap.now) c.args.vars.now.variables c.args.edge.now c.args.args.now c.args.braces.now (out-Item c.args.kept.now)) (λ n. search rules) c.args.nodes

pub nodes_with_edge-returns-then-not-leads_to_nodes-clause-nodes : goal.nodes_with_edge-returns-then-not-leads_to_nodes-clause-nodes
nodes_with_edge-returns-then-not-leads_to_nodes-clause-nodes g t c =
    let schema = g.S.Snapshot.declared c.args.snap.now in
    let graph = g.S.Snapshot.graph c.args.snap.now in
    let vars = c.args.vars.now.variables in
    let e = c.args.edge.now in
    let args = c.args.args.now in
    let braces = c.args.braces.now in
    let nodes = c.args.nodes in
    let b = c.in-Edge in
    let def : option_copied c.lookup-definition.result ≡ definition_of schema e.pred = c.lookup-definition.ensures ∙ (λ j. definition_of (c.schema.ensures j) (c.as_str.ensures j)) in
    let sort : c.sort_of-sort.result ≡ sort_of (definition_of schema e.pred) e.back = c.sort_of-sort.ensures ∙ (λ j. sort_of (def j) e.back) in
    let no : c.leads_to_nodes.result ≡ false = search rules in
    let none : leads_to_nodes (sort_of (definition_of schema e.pred) e.back) ≡ false = sym (c.leads_to_nodes.ensures ∙ ap leads_to_nodes sort) ∙ no in
    let left : filter (λ n. some_trees (shown (option_copied c.lookup-definition.result) (objects graph c.as_str-then-not-leads_to_nodes.result.now n))) nodes ≡ filter (kept_there schema graph vars e args braces (out-Item c.args.kept.now)) nodes =
    (λ j. filter (λ n. some_trees (shown (def j) (objects graph (c.as_str-then-not-leads_to_nodes.ensures j) n))) nodes)
    ∙ values_left schema graph vars e args braces c.args.kept.now b.orders b.filters b.inner b.is none nodes in
    subst (λ (ns : List ℕ). IfOk c.nodes_with_values.result (λ with. with.nodes ≡ ns)) left c.nodes_with_values.ensures.nodes

pub nodes_with_edge-returns-clause-nodes : goal.nodes_with_edge-returns-clause-nodes
nodes_with_edge-returns-clause-nodes g t c =
    let schema = g.S.Snapshot.declared c.args.snap.now in
    let graph = g.S.Snapshot.graph c.args.snap.now in
    let vars = c.args.vars.now.variables in
    let e = c.args.edge.now in
    let args = c.args.args.now in
    let braces = c.args.braces.now in
    let nodes = c.args.nodes in
    let b = c.in-Edge in
    let def : option_copied c.lookup-definition.result ≡ definition_of schema e.pred = c.lookup-definition.ensures ∙ (λ j. definition_of (c.schema.ensures j) (c.as_str.ensures j)) in
    let sort : c.sort_of-sort.result ≡ sort_of (definition_of schema e.pred) e.back = c.sort_of-sort.ensures ∙ (λ j. sort_of (def j) e.back) in
    let yes : c.leads_to_nodes.result ≡ true = search rules in
    let some : leads_to_nodes (sort_of (definition_of schema e.pred) e.back) ≡ true = sym (c.leads_to_nodes.ensures ∙ ap leads_to_nodes sort) ∙ yes in
    let single : c.is_single.result ≡ is_single (sort_of (definition_of schema e.pred) e.back) = c.is_single.ensures ∙ ap is_single sort in
    let list = list_of graph vars e args b.orders b.filters (is_single (sort_of (definition_of schema e.pred) e.back)) in
    let lists : c.in_ok-lists.lists.items ≡ map list nodes =
    c.in_ok-lists.ensures ∙ (λ j. map (λ n. cut_to (single j) (planned_list graph vars e args (c.as_slice.ensures j) (c.as_slice-2.ensures j) n)) (c.as_slice-3.ensures.items j)) in
    let level : c.in_ok-level.level ≡ ascending nat_cmp (flat_map list nodes) =
    c.in_ok-level.ensures ∙ ((λ j. ascending nat_cmp (flat_map (λ (l : List ℕ). l) ((c.as_slice-4.ensures.value ∙ lists) j))) ∙ ap (ascending nat_cmp) (flat_map-map (λ (l : List ℕ). l) list nodes)) in
    let whole : c.in_ok-below.below.nodes ≡ filter (planned_there schema graph vars braces b.inner) c.in_ok-level.level =
    c.in_ok-below.ensures.nodes ∙ (λ j. filter (planned_there schema graph vars braces (c.as_slice-5.ensures j)) c.in_ok-level.level) in
    let left : filter (λ n. list_any (has nat_cmp c.in_ok-below.below.nodes) (list n)) nodes ≡ filter (kept_there schema graph vars e args braces (out-Item c.args.kept.now)) nodes =
    nodes_left schema graph vars e args braces c.args.kept.now b.orders b.filters b.inner b.is some nodes c.in_ok-level.level c.in_ok-below.below.nodes level whole in
    c.in_ok-leading.ensures list (c.as_slice-6.ensures.value ∙ lists) ∙ left

pub nodes_with_edge-returns-clause-left : goal.nodes_with_edge-returns-clause-left
nodes_with_edge-returns-clause-left g t c = λ dirs fields in_them.
    let schema = g.S.Snapshot.declared c.args.snap.now in
    let graph = g.S.Snapshot.graph c.args.snap.now in
    let vars = c.args.vars.now.variables in
    let e = c.args.edge.now in
    let args = c.args.args.now in
    let braces = c.args.braces.now in
    let nodes = c.args.nodes in
    let b = c.in-Edge in
    let def : option_copied c.lookup-definition.result ≡ definition_of schema e.pred = c.lookup-definition.ensures ∙ (λ j. definition_of (c.schema.ensures j) (c.as_str.ensures j)) in
    let sort : c.sort_of-sort.result ≡ sort_of (definition_of schema e.pred) e.back = c.sort_of-sort.ensures ∙ (λ j. sort_of (def j) e.back) in
    let single : c.is_single.result ≡ is_single (sort_of (definition_of schema e.pred) e.back) = c.is_single.ensures ∙ ap is_single sort in
    let list = list_of graph vars e args b.orders b.filters (is_single (sort_of (definition_of schema e.pred) e.back)) in
    let lists : c.in_ok-lists.lists.items ≡ map list nodes =
    c.in_ok-lists.ensures ∙ (λ j. map (λ n. cut_to (single j) (planned_list graph vars e args (c.as_slice.ensures j) (c.as_slice-2.ensures j) n)) (c.as_slice-3.ensures.items j)) in
    let level : c.in_ok-level.level ≡ ascending nat_cmp (flat_map list nodes) =
    c.in_ok-level.ensures ∙ ((λ j. ascending nat_cmp (flat_map (λ (l : List ℕ). l) ((c.as_slice-4.ensures.value ∙ lists) j))) ∙ ap (ascending nat_cmp) (flat_map-map (λ (l : List ℕ). l) list nodes)) in
    let whole : c.in_ok-below.below.nodes ≡ filter (planned_there schema graph vars braces b.inner) c.in_ok-level.level =
    c.in_ok-below.ensures.nodes ∙ (λ j. filter (planned_there schema graph vars braces (c.as_slice-5.ensures j)) c.in_ok-level.level) in
    let inside : AreLeft schema graph vars braces b.inner c.in_ok-below.below.nodes c.in_ok-below.below.inside =
    subst (λ (ks : List Kept). AreLeft schema graph vars braces ks c.in_ok-below.below.nodes c.in_ok-below.below.inside) c.as_slice-5.ensures c.in_ok-below.ensures.inside in
    learned schema graph vars e args dirs fields braces c.args.kept.now b.orders b.filters b.inner nodes c.from_vec.result c.in_ok-level.level c.in_ok-below.below.nodes c.in_ok-below.below.inside in_them b.is (c.from_vec.ensures ∙ lists) level whole inside
