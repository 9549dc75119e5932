use Rattle.std.proofs.Common.{◌≡◌, ℕ, ◌+◌, ◌-◌, ◌<◌, ◌≤◌, true, false, List, [], ◌∷◌, ◌++◌, map, flat_map, take, drop, length, refl, sym, ap, subst, ◌∙◌, arith, rules}
use Rattle.std.specs.Prelude.{IfOk, pos, Some, None, option_copied}
use Rattle.dg_schema.specs.Definitions.{definition_of}
use Rattle.dg_graph.specs.Graphs.{objects}
use Rattle.std.specs.Ordering.{nat_cmp}
use Rattle.std.proofs.lemmas.List.Folds.{flat_map-map}
use Rattle.dg_values.specs.Ascending.{ascending}
use Rattle.dg_parse.specs.declared.query.QArg.{QArg}
use Rattle.dg_parse.specs.declared.query.QEdge.{QEdge}
use Rattle.dg_parse.specs.declared.query.QField.{QField}
use Rattle.dg_parse.specs.declared.query.QItem.TheVariants as items
use Rattle.dg_check.specs.declared.parts.Field.{Field as Kept}
use Rattle.dg_check.specs.declared.parts.Item.TheViews.{out-Item}
use Rattle.dg_funcs.specs.Truth.{count_along}
use Rattle.dg_tree.specs.declared.tree.Tree.TheVariants as trees
use Rattle.dg_level.specs.declared.column.Column.{Column}
use Rattle.dg_level.specs.declared.left.Left.{Left}
use Rattle.dg_level.specs.Known.{values_by, KnowsValues}
use Rattle.dg_level.specs.Left.{first_left, after_first, IsLeft, AreLeft, IsLeftBelow, IsLeftOf, IsLeftIn}
use Rattle.dg_level.specs.Rows.{total, row_text}
use Rattle.dg_level.specs.Answers.{shown}
use Rattle.dg_level.specs.Shown.{sort_of, cascades, remaining}
use Rattle.dg_level.specs.Planned.{PlannedItem, is_single, planned_list, planned_field, planned_there, planned_at}
use Rattle.dg_level.specs.Columns.{FieldsOf, TreesOf, IsBelow, AreShown, ShowsBy, shown_by, held_by, bytes_of}
use Rattle.dg_level.specs.Keys.{all_count_keys}
use Rattle.dg_level.specs.Levels.{trees_of, all_trees, all_fields, list_of, left_of, below_trees, leads_to_nodes, own_shown, bare_trees, kept_trees, all_bytes}
use Rattle.dg_level.proofs.LeftLaws.{knows_item, in_these, knows_lists, of_edge, next_known, known_behind}
use Rattle.dg_level.proofs.PlannedLaws.{item_count, shows_none, trees_val, trees_edge, trees_bare, shown_is, trees_within}
use Rattle.dg_level.proofs.ListLaws.{map_twice}
use Rattle.dg_level.proofs.ShownLaws.{level_shown, left_short, none_below, held_within}
use Rattle.dg_level.proofs.ColumnLaws.{shown_one_more, bytes_more, bytes_front, fields_next, trees_next, all_at_end, all_kept}
use Rattle.dg_level.proofs.EdgeLaws.{bare_is, own_trees, nodes_trees}
use Rattle.dg_level.proofs.columns.+level.Goals as goal

-- ---- rows

pub level_rows-returns-in_err-columns-clause-too_large : goal.level_rows-returns-in_err-columns-clause-too_large
level_rows-returns-in_err-columns-clause-too_large g t c = λ known e.
    let schema = g.S.Snapshot.declared c.args.snap.now in
    let graph = g.S.Snapshot.graph c.args.snap.now in
    omega (arith, c.columns_of.ensures.too_large known (search rules), trees_within schema graph c.args.vars.now.variables c.args.cascade c.args.fields.now c.args.kept.now c.args.nodes.now)

pub level_rows-returns-clause-rows : goal.level_rows-returns-clause-rows
level_rows-returns-clause-rows g t c = λ known.
    let schema = g.S.Snapshot.declared c.args.snap.now in
    let graph = g.S.Snapshot.graph c.args.snap.now in
    let vars = c.args.vars.now.variables in
    let fields = c.args.fields.now in
    let kept = c.args.kept.now in
    let nodes = c.args.nodes.now in
    let all = all_fields schema graph vars c.args.cascade fields kept in
    let are : AreShown graph vars nodes c.as_slice.result.now all = subst (λ (cs : List Column). AreShown graph vars nodes cs all) (sym c.as_slice.ensures.value) (c.in_ok-columns.ensures.shown known) in
    let e : map (λ (n : ℕ). row_text (shown_by all n)) nodes ≡ map (λ (n : ℕ). row_text (planned_at schema graph vars c.args.cascade fields kept n)) nodes = λ i. map (λ (n : ℕ). row_text (shown_is schema graph vars c.args.cascade fields kept n i)) nodes in
    subst (λ (xs : List (List ℕ)). IfOk c.written.result (λ rows. rows.rows ≡ xs)) e (c.written.ensures.rows all are)

pub level_rows-returns-clause-too_large : goal.level_rows-returns-clause-too_large
level_rows-returns-clause-too_large g t c = λ known over.
    let schema = g.S.Snapshot.declared c.args.snap.now in
    let graph = g.S.Snapshot.graph c.args.snap.now in
    let vars = c.args.vars.now.variables in
    let fields = c.args.fields.now in
    let kept = c.args.kept.now in
    let nodes = c.args.nodes.now in
    let all = all_fields schema graph vars c.args.cascade fields kept in
    let are : AreShown graph vars nodes c.as_slice.result.now all = subst (λ (cs : List Column). AreShown graph vars nodes cs all) (sym c.as_slice.ensures.value) (c.in_ok-columns.ensures.shown known) in
    let e : map (λ (n : ℕ). row_text (shown_by all n)) nodes ≡ map (λ (n : ℕ). row_text (planned_at schema graph vars c.args.cascade fields kept n)) nodes = λ i. map (λ (n : ℕ). row_text (shown_is schema graph vars c.args.cascade fields kept n i)) nodes in
    subst (λ (xs : List (List ℕ)). c.args.limit < total xs) e (c.written.ensures.too_large all are over)

-- ---- the level below

pub below_of-returns-in_err-rows-clause-too_large : goal.below_of-returns-in_err-rows-clause-too_large
below_of-returns-in_err-rows-clause-too_large g t c = λ known e.
    let schema = g.S.Snapshot.declared c.args.snap.now in
    let graph = g.S.Snapshot.graph c.args.snap.now in
    let vars = c.args.vars.now.variables in
    let nodes = c.args.nodes.now in
    let own = list_of graph vars c.args.edge.now c.args.args.now c.args.orders.now c.args.filters.now c.args.single in
    let read : c.in_ok-lists.lists.items ≡ map own nodes = c.in_ok-lists.ensures (knows_lists schema graph vars own c.args.braces.now c.args.inner.now nodes c.args.left known) in
    let in_them : IsLeftIn schema graph vars c.args.braces.now c.args.inner.now c.in_ok-lists.lists.items c.args.left =
    in_these schema graph vars own c.args.braces.now c.args.inner.now nodes c.in_ok-lists.lists.items c.args.left read known in
    let same : ascending nat_cmp (flat_map (λ (l : List ℕ). l) c.in_ok-made.made.lists.items) ≡ c.as_slice-2.result.now =
    sym (c.as_slice-2.ensures.items ∙ (c.in_ok-level.ensures ∙ (λ j. ascending nat_cmp (flat_map (λ (l : List ℕ). l) (c.as_slice.ensures.value j))))) in
    let inside : AreLeft schema graph vars c.args.braces.now c.args.inner.now c.as_slice-2.result.now c.in_ok-made.made.inside =
    subst (λ (ns : List ℕ). AreLeft schema graph vars c.args.braces.now c.args.inner.now ns c.in_ok-made.made.inside) same (c.in_ok-made.ensures.inside in_them) in
    let whole = planned_there schema graph vars c.args.braces.now c.args.inner.now in
    let list = left_of schema graph vars c.args.edge.now c.args.args.now c.args.orders.now c.args.filters.now c.args.braces.now c.args.inner.now c.args.single c.args.cascade in
    let lists : c.in_ok-made.made.lists.items ≡ map list nodes = c.in_ok-made.ensures.lists in_them ∙ (ap (map (remaining c.args.cascade whole)) read ∙ map_twice (remaining c.args.cascade whole) own nodes) in
    let at = planned_at schema graph vars c.args.cascade c.args.braces.now c.args.inner.now in
    let level : c.in_ok-level.level ≡ ascending nat_cmp (flat_map list nodes) =
    c.in_ok-level.ensures ∙ ((λ j. ascending nat_cmp (flat_map (λ (l : List ℕ). l) ((c.as_slice.ensures.value ∙ lists) j))) ∙ ap (ascending nat_cmp) (flat_map-map (λ (l : List ℕ). l) list nodes)) in
    let above : c.args.limit < total (map (λ (n : ℕ). row_text (at n)) c.as_slice-2.result.now) = c.level_rows.ensures.too_large inside (search rules) in
    omega (
      arith,
      above,
      ap (λ (l : List ℕ). total (map (λ (n : ℕ). row_text (at n)) l)) (c.as_slice-2.ensures.items ∙ level),
      level_shown c.args.single (all_count_keys c.args.braces.now) at list nodes (λ one n. left_short c.args.cascade c.args.single whole (planned_list graph vars c.args.edge.now c.args.args.now c.args.orders.now c.args.filters.now n) one),
    )

pub below_of-returns-clause-shows : goal.below_of-returns-clause-shows
below_of-returns-clause-shows g t c = λ known.
    let schema = g.S.Snapshot.declared c.args.snap.now in
    let graph = g.S.Snapshot.graph c.args.snap.now in
    let vars = c.args.vars.now.variables in
    let nodes = c.args.nodes.now in
    let own = list_of graph vars c.args.edge.now c.args.args.now c.args.orders.now c.args.filters.now c.args.single in
    let read : c.in_ok-lists.lists.items ≡ map own nodes = c.in_ok-lists.ensures (knows_lists schema graph vars own c.args.braces.now c.args.inner.now nodes c.args.left known) in
    let in_them : IsLeftIn schema graph vars c.args.braces.now c.args.inner.now c.in_ok-lists.lists.items c.args.left =
    in_these schema graph vars own c.args.braces.now c.args.inner.now nodes c.in_ok-lists.lists.items c.args.left read known in
    let same : ascending nat_cmp (flat_map (λ (l : List ℕ). l) c.in_ok-made.made.lists.items) ≡ c.as_slice-2.result.now =
    sym (c.as_slice-2.ensures.items ∙ (c.in_ok-level.ensures ∙ (λ j. ascending nat_cmp (flat_map (λ (l : List ℕ). l) (c.as_slice.ensures.value j))))) in
    let inside : AreLeft schema graph vars c.args.braces.now c.args.inner.now c.as_slice-2.result.now c.in_ok-made.made.inside =
    subst (λ (ns : List ℕ). AreLeft schema graph vars c.args.braces.now c.args.inner.now ns c.in_ok-made.made.inside) same (c.in_ok-made.ensures.inside in_them) in
    let whole = planned_there schema graph vars c.args.braces.now c.args.inner.now in
    let list = left_of schema graph vars c.args.edge.now c.args.args.now c.args.orders.now c.args.filters.now c.args.braces.now c.args.inner.now c.args.single c.args.cascade in
    let lists : c.in_ok-made.made.lists.items ≡ map list nodes = c.in_ok-made.ensures.lists in_them ∙ (ap (map (remaining c.args.cascade whole)) read ∙ map_twice (remaining c.args.cascade whole) own nodes) in
    let at = planned_at schema graph vars c.args.cascade c.args.braces.now c.args.inner.now in
    let level : c.in_ok-level.level ≡ ascending nat_cmp (flat_map list nodes) =
    c.in_ok-level.ensures ∙ ((λ j. ascending nat_cmp (flat_map (λ (l : List ℕ). l) ((c.as_slice.ensures.value ∙ lists) j))) ∙ ap (ascending nat_cmp) (flat_map-map (λ (l : List ℕ). l) list nodes)) in
    record {
      list = list;
      at = at;
      names = all_count_keys c.args.braces.now;
      lists_are = lists;
      level_is = level;
      counts_are = c.in_ok-counts.ensures;
      rows_are = c.in_ok-rows.ensures.rows inside ∙ ap (map (λ (n : ℕ). row_text (at n))) c.as_slice-2.ensures.items;
      short = λ one n. left_short c.args.cascade c.args.single whole (planned_list graph vars c.args.edge.now c.args.args.now c.args.orders.now c.args.filters.now n) one;
      trees_are = λ n. refl;
    }

-- ---- contents

pub content_of-returns-in_ok-copy_edge-in-Count-clause-shows : goal.content_of-returns-in_ok-copy_edge-in-Count-clause-shows
content_of-returns-in_ok-copy_edge-in-Count-clause-shows g t c = λ known n.
    let graph = g.S.Snapshot.graph c.args.snap.now in
    ap (λ (p : PlannedItem). p.at c.args.cascade c.args.kept.now n) (item_count (g.S.Snapshot.declared c.args.snap.now) graph c.args.vars.now.variables c.args.item.now c.in-Count.edge c.in-Count.is)
    ∙ ap (λ (e : QEdge). trees.Int (pos (count_along graph e n)) ∷ []) (sym c.in_ok-copy_edge-in-Count.ensures)

pub content_of-returns-in-CountUid-clause-shows : goal.content_of-returns-in-CountUid-clause-shows
content_of-returns-in-CountUid-clause-shows g t c = λ known place n at.
    shows_none (g.S.Snapshot.declared c.args.snap.now) (g.S.Snapshot.graph c.args.snap.now) c.args.vars.now.variables c.args.item.now c.args.cascade c.args.kept.now c.in-CountUid.is n

pub content_of-returns-in-Val-clause-shows : goal.content_of-returns-in-Val-clause-shows
content_of-returns-in-Val-clause-shows g t c = λ known.
    let schema = g.S.Snapshot.declared c.args.snap.now in
    let graph = g.S.Snapshot.graph c.args.snap.now in
    let vars = c.args.vars.now.variables in
    subst (λ (shown : TreesOf). ShowsBy graph vars c.args.nodes.now c.value_content.result shown) (λ i n. sym (trees_val schema graph vars c.args.item.now c.args.cascade c.args.kept.now _ c.in-Val.is n) i) (c.value_content.ensures.shows graph vars c.args.nodes.now)

pub content_of-returns-in_ok-bare_content-in-None-clause-shows : goal.content_of-returns-in_ok-bare_content-in-None-clause-shows
content_of-returns-in_ok-bare_content-in-None-clause-shows g t c = λ known.
    let schema = g.S.Snapshot.declared c.args.snap.now in
    let graph = g.S.Snapshot.graph c.args.snap.now in
    let vars = c.args.vars.now.variables in
    let item = c.args.item.now in
    let kept = c.args.kept.now in
    let b = c.in-Edge in
    let is : item ≡ items.Edge b.edge b.args b.dirs None = b.is ∙ ap (items.Edge b.edge b.args b.dirs) c.in-None.is in
    let bare : kept_trees schema graph vars b.edge b.args [] (cascades c.args.cascade b.dirs) (out-Item kept) ≡ bare_trees schema graph b.edge (out-Item kept) =
    λ j n. bare_is schema graph vars b.edge b.args (cascades c.args.cascade b.dirs) (out-Item kept) n j in
    subst (λ (shown : TreesOf). ShowsBy graph vars c.args.nodes.now c.in_ok-bare_content-in-None.field-0 shown) (sym (trees_bare schema graph vars item c.args.cascade kept b.edge b.args b.dirs is ∙ bare))
    (c.in_ok-bare_content-in-None.ensures.shows vars c.args.nodes.now (knows_item schema graph vars item kept c.args.nodes.now c.args.left known b.edge b.args b.dirs None is))

pub content_of-returns-in-Some-clause-shows : goal.content_of-returns-in-Some-clause-shows
content_of-returns-in-Some-clause-shows g t c = λ known.
    let schema = g.S.Snapshot.declared c.args.snap.now in
    let graph = g.S.Snapshot.graph c.args.snap.now in
    let vars = c.args.vars.now.variables in
    let item = c.args.item.now in
    let kept = c.args.kept.now in
    let b = c.in-Edge in
    let braces = c.in-Some.braces in
    let is : item ≡ items.Edge b.edge b.args b.dirs (Some braces) = b.is ∙ ap (items.Edge b.edge b.args b.dirs) c.in-Some.is in
    let flag : c.cascades.result ≡ cascades c.args.cascade b.dirs = c.cascades.ensures ∙ ap (cascades c.args.cascade) c.as_slice.ensures in
    let first : c.as_slice-in-Some.result.now ≡ b.args = c.as_slice-in-Some.ensures in
    let second : c.as_slice-in-Some-2.result.now ≡ braces = c.as_slice-in-Some-2.ensures in
    let single = is_single (sort_of (definition_of schema b.edge.pred) b.edge.back) in
    let of : IsLeftOf schema graph vars single b.edge c.as_slice-in-Some.result.now c.as_slice-in-Some-2.result.now kept c.args.nodes.now c.args.left =
    subst (λ (qs : List QField). IsLeftOf schema graph vars single b.edge c.as_slice-in-Some.result.now qs kept c.args.nodes.now c.args.left) (sym second)
    (subst (λ (xs : List QArg). IsLeftOf schema graph vars single b.edge xs braces kept c.args.nodes.now c.args.left) (sym first)
    (of_edge schema graph vars item kept c.args.nodes.now c.args.left known b.edge b.args b.dirs braces is)) in
    let read : kept_trees schema graph vars b.edge c.as_slice-in-Some.result.now c.as_slice-in-Some-2.result.now c.cascades.result (out-Item kept) ≡ kept_trees schema graph vars b.edge b.args braces (cascades c.args.cascade b.dirs) (out-Item kept) =
    λ j. kept_trees schema graph vars b.edge (first j) (second j) (flag j) (out-Item kept) in
    let e : kept_trees schema graph vars b.edge c.as_slice-in-Some.result.now c.as_slice-in-Some-2.result.now c.cascades.result (out-Item kept) ≡ trees_of schema graph vars c.args.cascade item kept =
    read ∙ sym (trees_edge schema graph vars item c.args.cascade kept b.edge b.args b.dirs braces is) in
    subst (λ (shown : TreesOf). IfOk c.edge_content.result (λ content. ShowsBy graph vars c.args.nodes.now content shown)) e (c.edge_content.ensures.shows (of, knows_item schema graph vars item kept c.args.nodes.now c.args.left known b.edge b.args b.dirs (Some braces) is))

pub content_of-returns-in-Some-clause-held : goal.content_of-returns-in-Some-clause-held
content_of-returns-in-Some-clause-held g t c = λ known.
    let schema = g.S.Snapshot.declared c.args.snap.now in
    let graph = g.S.Snapshot.graph c.args.snap.now in
    let vars = c.args.vars.now.variables in
    let item = c.args.item.now in
    let kept = c.args.kept.now in
    let b = c.in-Edge in
    let braces = c.in-Some.braces in
    let is : item ≡ items.Edge b.edge b.args b.dirs (Some braces) = b.is ∙ ap (items.Edge b.edge b.args b.dirs) c.in-Some.is in
    let flag : c.cascades.result ≡ cascades c.args.cascade b.dirs = c.cascades.ensures ∙ ap (cascades c.args.cascade) c.as_slice.ensures in
    let first : c.as_slice-in-Some.result.now ≡ b.args = c.as_slice-in-Some.ensures in
    let second : c.as_slice-in-Some-2.result.now ≡ braces = c.as_slice-in-Some-2.ensures in
    let single = is_single (sort_of (definition_of schema b.edge.pred) b.edge.back) in
    let of : IsLeftOf schema graph vars single b.edge c.as_slice-in-Some.result.now c.as_slice-in-Some-2.result.now kept c.args.nodes.now c.args.left =
    subst (λ (qs : List QField). IsLeftOf schema graph vars single b.edge c.as_slice-in-Some.result.now qs kept c.args.nodes.now c.args.left) (sym second)
    (subst (λ (xs : List QArg). IsLeftOf schema graph vars single b.edge xs braces kept c.args.nodes.now c.args.left) (sym first)
    (of_edge schema graph vars item kept c.args.nodes.now c.args.left known b.edge b.args b.dirs braces is)) in
    let read : kept_trees schema graph vars b.edge c.as_slice-in-Some.result.now c.as_slice-in-Some-2.result.now c.cascades.result (out-Item kept) ≡ kept_trees schema graph vars b.edge b.args braces (cascades c.args.cascade b.dirs) (out-Item kept) =
    λ j. kept_trees schema graph vars b.edge (first j) (second j) (flag j) (out-Item kept) in
    let e : kept_trees schema graph vars b.edge c.as_slice-in-Some.result.now c.as_slice-in-Some-2.result.now c.cascades.result (out-Item kept) ≡ trees_of schema graph vars c.args.cascade item kept =
    read ∙ sym (trees_edge schema graph vars item c.args.cascade kept b.edge b.args b.dirs braces is) in
    subst (λ (shown : TreesOf). IfOk c.edge_content.result (λ content. held_by content ≤ bytes_of shown c.args.nodes.now)) e (c.edge_content.ensures.held (of, knows_item schema graph vars item kept c.args.nodes.now c.args.left known b.edge b.args b.dirs (Some braces) is))

pub content_of-returns-in-Some-clause-too_large : goal.content_of-returns-in-Some-clause-too_large
content_of-returns-in-Some-clause-too_large g t c = λ known over.
    let schema = g.S.Snapshot.declared c.args.snap.now in
    let graph = g.S.Snapshot.graph c.args.snap.now in
    let vars = c.args.vars.now.variables in
    let item = c.args.item.now in
    let kept = c.args.kept.now in
    let b = c.in-Edge in
    let braces = c.in-Some.braces in
    let is : item ≡ items.Edge b.edge b.args b.dirs (Some braces) = b.is ∙ ap (items.Edge b.edge b.args b.dirs) c.in-Some.is in
    let flag : c.cascades.result ≡ cascades c.args.cascade b.dirs = c.cascades.ensures ∙ ap (cascades c.args.cascade) c.as_slice.ensures in
    let first : c.as_slice-in-Some.result.now ≡ b.args = c.as_slice-in-Some.ensures in
    let second : c.as_slice-in-Some-2.result.now ≡ braces = c.as_slice-in-Some-2.ensures in
    let single = is_single (sort_of (definition_of schema b.edge.pred) b.edge.back) in
    let of : IsLeftOf schema graph vars single b.edge c.as_slice-in-Some.result.now c.as_slice-in-Some-2.result.now kept c.args.nodes.now c.args.left =
    subst (λ (qs : List QField). IsLeftOf schema graph vars single b.edge c.as_slice-in-Some.result.now qs kept c.args.nodes.now c.args.left) (sym second)
    (subst (λ (xs : List QArg). IsLeftOf schema graph vars single b.edge xs braces kept c.args.nodes.now c.args.left) (sym first)
    (of_edge schema graph vars item kept c.args.nodes.now c.args.left known b.edge b.args b.dirs braces is)) in
    let read : kept_trees schema graph vars b.edge c.as_slice-in-Some.result.now c.as_slice-in-Some-2.result.now c.cascades.result (out-Item kept) ≡ kept_trees schema graph vars b.edge b.args braces (cascades c.args.cascade b.dirs) (out-Item kept) =
    λ j. kept_trees schema graph vars b.edge (first j) (second j) (flag j) (out-Item kept) in
    let e : kept_trees schema graph vars b.edge c.as_slice-in-Some.result.now c.as_slice-in-Some-2.result.now c.cascades.result (out-Item kept) ≡ trees_of schema graph vars c.args.cascade item kept =
    read ∙ sym (trees_edge schema graph vars item c.args.cascade kept b.edge b.args b.dirs braces is) in
    subst (λ (shown : TreesOf). c.args.limit < bytes_of shown c.args.nodes.now) e (c.edge_content.ensures.too_large (of, knows_item schema graph vars item kept c.args.nodes.now c.args.left known b.edge b.args b.dirs (Some braces) is) over)

-- ---- edges

pub edge_content-returns-then-not-leads_to_nodes-clause-shows : goal.edge_content-returns-then-not-leads_to_nodes-clause-shows
edge_content-returns-then-not-leads_to_nodes-clause-shows g t c = λ known.
    let schema = g.S.Snapshot.declared c.args.snap.now in
    let graph = g.S.Snapshot.graph c.args.snap.now in
    let vars = c.args.vars.now.variables in
    let e = c.args.edge.now in
    let def : option_copied c.lookup-definition.result ≡ definition_of schema e.pred = c.lookup-definition.ensures ∙ (λ j. definition_of (c.schema.ensures j) (c.as_str.ensures j)) in
    let sort : c.sort_of-sort.result ≡ sort_of (definition_of schema e.pred) e.back = c.sort_of-sort.ensures ∙ (λ j. sort_of (def j) e.back) in
    let no : c.leads_to_nodes.result ≡ false = search rules in
    let none : leads_to_nodes (sort_of (definition_of schema e.pred) e.back) ≡ false = sym (c.leads_to_nodes.ensures ∙ ap leads_to_nodes sort) ∙ no in
    let read : (λ (n : ℕ). own_shown c.sort_of-sort.result (shown (option_copied c.lookup-definition.result) (objects graph c.as_str-then-not-leads_to_nodes.result.now n))) ≡ (λ (n : ℕ). own_shown (sort_of (definition_of schema e.pred) e.back) (shown (definition_of schema e.pred) (objects graph e.pred n))) =
    λ j n. own_shown (sort j) (shown (def j) (objects graph (c.as_str-then-not-leads_to_nodes.ensures j) n)) in
    let own : kept_trees schema graph vars e c.args.args.now c.args.braces.now c.args.cascade (out-Item c.args.kept.now) ≡ (λ (n : ℕ). own_shown (sort_of (definition_of schema e.pred) e.back) (shown (definition_of schema e.pred) (objects graph e.pred n))) =
    λ j n. own_trees schema graph vars e c.args.args.now c.args.cascade c.args.braces.now c.args.kept.now c.in-Edge.orders c.in-Edge.filters c.in-Edge.inner c.in-Edge.is n none j in
    subst (λ (trees : TreesOf). ShowsBy graph vars c.args.nodes.now c.in_ok-values_content.field-0 trees) (read ∙ sym own) (c.in_ok-values_content.ensures.shows graph vars c.args.nodes.now (subst (λ (p : List ℕ). KnowsValues (values_by graph p) c.args.left) (sym c.as_str-then-not-leads_to_nodes.ensures) known.1))

pub edge_content-returns-in_err-below-clause-too_large : goal.edge_content-returns-in_err-below-clause-too_large
edge_content-returns-in_err-below-clause-too_large g t c = λ known over.
    let schema = g.S.Snapshot.declared c.args.snap.now in
    let graph = g.S.Snapshot.graph c.args.snap.now in
    let vars = c.args.vars.now.variables in
    let e = c.args.edge.now in
    let args = c.args.args.now in
    let braces = c.args.braces.now in
    let def : option_copied c.lookup-definition.result ≡ definition_of schema e.pred = c.lookup-definition.ensures ∙ (λ j. definition_of (c.schema.ensures j) (c.as_str.ensures j)) in
    let sort : c.sort_of-sort.result ≡ sort_of (definition_of schema e.pred) e.back = c.sort_of-sort.ensures ∙ (λ j. sort_of (def j) e.back) in
    let b = c.in-Edge in
    let same_list : list_of graph vars e args b.orders b.filters (is_single (sort_of (definition_of schema e.pred) e.back)) ≡ list_of graph vars e args c.as_slice-2.result.now c.as_slice-3.result.now c.is_single.result =
    sym (λ j. list_of graph vars e args (c.as_slice-2.ensures j) (c.as_slice-3.ensures j) ((c.is_single.ensures ∙ ap is_single sort) j)) in
    let under : IsLeftBelow schema graph vars (list_of graph vars e args c.as_slice-2.result.now c.as_slice-3.result.now c.is_single.result) braces c.as_slice.result.now c.args.nodes.now c.args.left =
    subst (λ (ks : List Kept). IsLeftBelow schema graph vars (list_of graph vars e args c.as_slice-2.result.now c.as_slice-3.result.now c.is_single.result) braces ks c.args.nodes.now c.args.left) (sym c.as_slice.ensures)
    (subst (λ (lists : ℕ → List ℕ). IsLeftBelow schema graph vars lists braces b.inner c.args.nodes.now c.args.left) same_list (known.0 b.orders b.filters b.inner b.is)) in
    let yes : c.leads_to_nodes.result ≡ true = search rules in
    let some : leads_to_nodes (sort_of (definition_of schema e.pred) e.back) ≡ true = sym (c.leads_to_nodes.ensures ∙ ap leads_to_nodes sort) ∙ yes in
    let below : kept_trees schema graph vars e args braces c.args.cascade (out-Item c.args.kept.now) ≡ below_trees schema graph vars e args c.in-Edge.orders c.in-Edge.filters braces c.in-Edge.inner (is_single (sort_of (definition_of schema e.pred) e.back)) c.args.cascade =
    λ j n. nodes_trees schema graph vars e args c.args.cascade braces c.args.kept.now c.in-Edge.orders c.in-Edge.filters c.in-Edge.inner c.in-Edge.is n some j in
    let all : below_trees schema graph vars e args c.as_slice-2.result.now c.as_slice-3.result.now braces c.as_slice.result.now c.is_single.result c.args.cascade ≡ kept_trees schema graph vars e args braces c.args.cascade (out-Item c.args.kept.now) =
    (λ j. below_trees schema graph vars e args (c.as_slice-2.ensures j) (c.as_slice-3.ensures j) braces (c.as_slice.ensures j) ((c.is_single.ensures ∙ ap is_single sort) j) c.args.cascade) ∙ sym below in
    subst (λ (trees : TreesOf). c.args.limit < bytes_of trees c.args.nodes.now) all (c.below_of.ensures.too_large under (search rules))

pub edge_content-returns-then-shows_none-clause-shows : goal.edge_content-returns-then-shows_none-clause-shows
edge_content-returns-then-shows_none-clause-shows g t c = λ known place n at.
    let schema = g.S.Snapshot.declared c.args.snap.now in
    let graph = g.S.Snapshot.graph c.args.snap.now in
    let vars = c.args.vars.now.variables in
    let e = c.args.edge.now in
    let args = c.args.args.now in
    let braces = c.args.braces.now in
    let def : option_copied c.lookup-definition.result ≡ definition_of schema e.pred = c.lookup-definition.ensures ∙ (λ j. definition_of (c.schema.ensures j) (c.as_str.ensures j)) in
    let sort : c.sort_of-sort.result ≡ sort_of (definition_of schema e.pred) e.back = c.sort_of-sort.ensures ∙ (λ j. sort_of (def j) e.back) in
    let b = c.in-Edge in
    let same_list : list_of graph vars e args b.orders b.filters (is_single (sort_of (definition_of schema e.pred) e.back)) ≡ list_of graph vars e args c.as_slice-2.result.now c.as_slice-3.result.now c.is_single.result =
    sym (λ j. list_of graph vars e args (c.as_slice-2.ensures j) (c.as_slice-3.ensures j) ((c.is_single.ensures ∙ ap is_single sort) j)) in
    let under : IsLeftBelow schema graph vars (list_of graph vars e args c.as_slice-2.result.now c.as_slice-3.result.now c.is_single.result) braces c.as_slice.result.now c.args.nodes.now c.args.left =
    subst (λ (ks : List Kept). IsLeftBelow schema graph vars (list_of graph vars e args c.as_slice-2.result.now c.as_slice-3.result.now c.is_single.result) braces ks c.args.nodes.now c.args.left) (sym c.as_slice.ensures)
    (subst (λ (lists : ℕ → List ℕ). IsLeftBelow schema graph vars lists braces b.inner c.args.nodes.now c.args.left) same_list (known.0 b.orders b.filters b.inner b.is)) in
    let yes : c.leads_to_nodes.result ≡ true = search rules in
    let some : leads_to_nodes (sort_of (definition_of schema e.pred) e.back) ≡ true = sym (c.leads_to_nodes.ensures ∙ ap leads_to_nodes sort) ∙ yes in
    let below : kept_trees schema graph vars e args braces c.args.cascade (out-Item c.args.kept.now) ≡ below_trees schema graph vars e args c.in-Edge.orders c.in-Edge.filters braces c.in-Edge.inner (is_single (sort_of (definition_of schema e.pred) e.back)) c.args.cascade =
    λ j n. nodes_trees schema graph vars e args c.args.cascade braces c.args.kept.now c.in-Edge.orders c.in-Edge.filters c.in-Edge.inner c.in-Edge.is n some j in
    let all : below_trees schema graph vars e args c.as_slice-2.result.now c.as_slice-3.result.now braces c.as_slice.result.now c.is_single.result c.args.cascade ≡ kept_trees schema graph vars e args braces c.args.cascade (out-Item c.args.kept.now) =
    (λ j. below_trees schema graph vars e args (c.as_slice-2.ensures j) (c.as_slice-3.ensures j) braces (c.as_slice.ensures j) ((c.is_single.ensures ∙ ap is_single sort) j) c.args.cascade) ∙ sym below in
    none_below c.args.nodes.now c.in_ok-below.below (kept_trees schema graph vars e args braces c.args.cascade (out-Item c.args.kept.now)) place n
    (subst (λ (trees : TreesOf). IsBelow c.args.nodes.now c.in_ok-below.below trees) all (c.in_ok-below.ensures.shows under)) (c.shows_none.ensures.counts (search rules)) (c.shows_none.ensures.rows (search rules)) at

pub edge_content-returns-clause-shows : goal.edge_content-returns-clause-shows
edge_content-returns-clause-shows g t c = λ known.
    let schema = g.S.Snapshot.declared c.args.snap.now in
    let graph = g.S.Snapshot.graph c.args.snap.now in
    let vars = c.args.vars.now.variables in
    let e = c.args.edge.now in
    let args = c.args.args.now in
    let braces = c.args.braces.now in
    let def : option_copied c.lookup-definition.result ≡ definition_of schema e.pred = c.lookup-definition.ensures ∙ (λ j. definition_of (c.schema.ensures j) (c.as_str.ensures j)) in
    let sort : c.sort_of-sort.result ≡ sort_of (definition_of schema e.pred) e.back = c.sort_of-sort.ensures ∙ (λ j. sort_of (def j) e.back) in
    let b = c.in-Edge in
    let same_list : list_of graph vars e args b.orders b.filters (is_single (sort_of (definition_of schema e.pred) e.back)) ≡ list_of graph vars e args c.as_slice-2.result.now c.as_slice-3.result.now c.is_single.result =
    sym (λ j. list_of graph vars e args (c.as_slice-2.ensures j) (c.as_slice-3.ensures j) ((c.is_single.ensures ∙ ap is_single sort) j)) in
    let under : IsLeftBelow schema graph vars (list_of graph vars e args c.as_slice-2.result.now c.as_slice-3.result.now c.is_single.result) braces c.as_slice.result.now c.args.nodes.now c.args.left =
    subst (λ (ks : List Kept). IsLeftBelow schema graph vars (list_of graph vars e args c.as_slice-2.result.now c.as_slice-3.result.now c.is_single.result) braces ks c.args.nodes.now c.args.left) (sym c.as_slice.ensures)
    (subst (λ (lists : ℕ → List ℕ). IsLeftBelow schema graph vars lists braces b.inner c.args.nodes.now c.args.left) same_list (known.0 b.orders b.filters b.inner b.is)) in
    let yes : c.leads_to_nodes.result ≡ true = search rules in
    let some : leads_to_nodes (sort_of (definition_of schema e.pred) e.back) ≡ true = sym (c.leads_to_nodes.ensures ∙ ap leads_to_nodes sort) ∙ yes in
    let below : kept_trees schema graph vars e args braces c.args.cascade (out-Item c.args.kept.now) ≡ below_trees schema graph vars e args c.in-Edge.orders c.in-Edge.filters braces c.in-Edge.inner (is_single (sort_of (definition_of schema e.pred) e.back)) c.args.cascade =
    λ j n. nodes_trees schema graph vars e args c.args.cascade braces c.args.kept.now c.in-Edge.orders c.in-Edge.filters c.in-Edge.inner c.in-Edge.is n some j in
    let all : below_trees schema graph vars e args c.as_slice-2.result.now c.as_slice-3.result.now braces c.as_slice.result.now c.is_single.result c.args.cascade ≡ kept_trees schema graph vars e args braces c.args.cascade (out-Item c.args.kept.now) =
    (λ j. below_trees schema graph vars e args (c.as_slice-2.ensures j) (c.as_slice-3.ensures j) braces (c.as_slice.ensures j) ((c.is_single.ensures ∙ ap is_single sort) j) c.args.cascade) ∙ sym below in
    subst (λ (trees : TreesOf). IsBelow c.args.nodes.now c.in_ok-below.below trees) all (c.in_ok-below.ensures.shows under)

pub edge_content-returns-clause-held : goal.edge_content-returns-clause-held
edge_content-returns-clause-held g t c = λ known.
    let schema = g.S.Snapshot.declared c.args.snap.now in
    let graph = g.S.Snapshot.graph c.args.snap.now in
    let vars = c.args.vars.now.variables in
    let e = c.args.edge.now in
    let args = c.args.args.now in
    let braces = c.args.braces.now in
    let def : option_copied c.lookup-definition.result ≡ definition_of schema e.pred = c.lookup-definition.ensures ∙ (λ j. definition_of (c.schema.ensures j) (c.as_str.ensures j)) in
    let sort : c.sort_of-sort.result ≡ sort_of (definition_of schema e.pred) e.back = c.sort_of-sort.ensures ∙ (λ j. sort_of (def j) e.back) in
    let b = c.in-Edge in
    let same_list : list_of graph vars e args b.orders b.filters (is_single (sort_of (definition_of schema e.pred) e.back)) ≡ list_of graph vars e args c.as_slice-2.result.now c.as_slice-3.result.now c.is_single.result =
    sym (λ j. list_of graph vars e args (c.as_slice-2.ensures j) (c.as_slice-3.ensures j) ((c.is_single.ensures ∙ ap is_single sort) j)) in
    let under : IsLeftBelow schema graph vars (list_of graph vars e args c.as_slice-2.result.now c.as_slice-3.result.now c.is_single.result) braces c.as_slice.result.now c.args.nodes.now c.args.left =
    subst (λ (ks : List Kept). IsLeftBelow schema graph vars (list_of graph vars e args c.as_slice-2.result.now c.as_slice-3.result.now c.is_single.result) braces ks c.args.nodes.now c.args.left) (sym c.as_slice.ensures)
    (subst (λ (lists : ℕ → List ℕ). IsLeftBelow schema graph vars lists braces b.inner c.args.nodes.now c.args.left) same_list (known.0 b.orders b.filters b.inner b.is)) in
    let yes : c.leads_to_nodes.result ≡ true = search rules in
    let some : leads_to_nodes (sort_of (definition_of schema e.pred) e.back) ≡ true = sym (c.leads_to_nodes.ensures ∙ ap leads_to_nodes sort) ∙ yes in
    let below : kept_trees schema graph vars e args braces c.args.cascade (out-Item c.args.kept.now) ≡ below_trees schema graph vars e args c.in-Edge.orders c.in-Edge.filters braces c.in-Edge.inner (is_single (sort_of (definition_of schema e.pred) e.back)) c.args.cascade =
    λ j n. nodes_trees schema graph vars e args c.args.cascade braces c.args.kept.now c.in-Edge.orders c.in-Edge.filters c.in-Edge.inner c.in-Edge.is n some j in
    let all : below_trees schema graph vars e args c.as_slice-2.result.now c.as_slice-3.result.now braces c.as_slice.result.now c.is_single.result c.args.cascade ≡ kept_trees schema graph vars e args braces c.args.cascade (out-Item c.args.kept.now) =
    (λ j. below_trees schema graph vars e args (c.as_slice-2.ensures j) (c.as_slice-3.ensures j) braces (c.as_slice.ensures j) ((c.is_single.ensures ∙ ap is_single sort) j) c.args.cascade) ∙ sym below in
    held_within c.args.nodes.now c.in_ok-below.below (kept_trees schema graph vars e args braces c.args.cascade (out-Item c.args.kept.now))
    (subst (λ (trees : TreesOf). IsBelow c.args.nodes.now c.in_ok-below.below trees) all (c.in_ok-below.ensures.shows under)) c.in_ok-below.ensures.begun

-- ---- columns

pub columns_of-loop-place-init : goal.columns_of-loop-place-init
columns_of-loop-place-init g t c = (
  λ known. (subst (λ (cs : List Column). AreShown (g.S.Snapshot.graph c.args.snap.now) c.args.vars.now.variables c.args.nodes.now cs []) (sym c.new-columns.ensures.items) tt, omega arith),
  omega arith,
  c.into_iter-known.ensures.rest ∙ c.into_vec.ensures,
)

pub columns_of-returns-then-place-kept-clause-shown : goal.columns_of-returns-then-place-kept-clause-shown
columns_of-returns-then-place-kept-clause-shown g t c = λ known.
    let schema = g.S.Snapshot.declared c.args.snap.now in
    let graph = g.S.Snapshot.graph c.args.snap.now in
    let vars = c.args.vars.now.variables in
    let past : length c.args.kept.now ≤ c.loop-place.place = omega (arith, c.if-place-kept.true) in
    subst (λ (all : List FieldsOf). AreShown graph vars c.args.nodes.now c.loop-place.columns.items all) (all_kept schema graph vars c.args.cascade c.args.fields.now c.args.kept.now c.loop-place.place past) (c.loop-place.invariant.0 known).0

pub columns_of-returns-clause-shown : goal.columns_of-returns-clause-shown
columns_of-returns-clause-shown g t c = λ known.
    let schema = g.S.Snapshot.declared c.args.snap.now in
    let graph = g.S.Snapshot.graph c.args.snap.now in
    let vars = c.args.vars.now.variables in
    let past : length c.args.fields.now ≤ c.loop-place.place = omega (arith, c.loop-place-test.false) in
    subst (λ (all : List FieldsOf). AreShown graph vars c.args.nodes.now c.loop-place.columns.items all) (all_at_end schema graph vars c.args.cascade c.args.fields.now c.args.kept.now c.loop-place.place past) (c.loop-place.invariant.0 known).0

pub columns_of-returns-in_err-column-clause-too_large : goal.columns_of-returns-in_err-column-clause-too_large
columns_of-returns-in_err-column-clause-too_large g t c = λ known over.
    let schema = g.S.Snapshot.declared c.args.snap.now in
    let graph = g.S.Snapshot.graph c.args.snap.now in
    let vars = c.args.vars.now.variables in
    let fields = c.args.fields.now in
    let kept = c.args.kept.now in
    let nodes = c.args.nodes.now in
    let l = c.loop-place in
    let field = c.index-fields-place.result in
    let part = c.index-kept-place.result in
    let all = all_trees schema graph vars c.args.cascade fields kept in
    let shown = trees_of schema graph vars c.args.cascade field.item part.item in
    let lt : l.place < length fields = omega (arith, c.loop-place-test.true) in
    let lk : l.place < length kept = omega (arith, c.if-place-kept.false) in
    let first : c.next_left.result ≡ first_left (drop l.place c.args.left) = c.next_left.ensures.first ∙ ap first_left l.invariant.2 in
    let here : IsLeft schema graph vars field.item part.item nodes c.next_left.result =
    subst (λ (k : Left). IsLeft schema graph vars field.item part.item nodes k) (sym first) (next_known schema graph vars fields kept l.place field part lt lk c.index-fields-place.is c.index-kept-place.is nodes c.args.left known) in
    let above : c.args.limit - l.used < bytes_of shown nodes = c.column_of.ensures.too_large here (search rules) in
    omega (
      arith,
      above,
      (l.invariant.0 known).1,
      l.invariant.1,
      ap (λ (ts : List TreesOf). all_bytes ts nodes) (trees_next schema graph vars c.args.cascade fields kept l.place field part field part lt lk c.index-fields-place.is c.index-kept-place.is),
      bytes_more (take l.place all) shown nodes,
      bytes_front all (l.place + 1) nodes,
    )

pub columns_of-loop-place-preserved : goal.columns_of-loop-place-preserved
columns_of-loop-place-preserved g t c =
    let schema = g.S.Snapshot.declared c.args.snap.now in
    let graph = g.S.Snapshot.graph c.args.snap.now in
    let vars = c.args.vars.now.variables in
    let fields = c.args.fields.now in
    let kept = c.args.kept.now in
    let nodes = c.args.nodes.now in
    let l = c.loop-place in
    let field = c.index-fields-place.result in
    let part = c.index-kept-place.result in
    let column = c.in_ok-column.column in
    let all = all_fields schema graph vars c.args.cascade fields kept in
    let trees = all_trees schema graph vars c.args.cascade fields kept in
    let shown = trees_of schema graph vars c.args.cascade field.item part.item in
    let lt : l.place < length fields = omega (arith, c.loop-place-test.true) in
    let lk : l.place < length kept = omega (arith, c.if-place-kept.false) in
    let next = fields_next schema graph vars c.args.cascade fields kept l.place field part field part lt lk c.index-fields-place.is c.index-kept-place.is in
    let bytes : all_bytes (take (l.place + 1) trees) nodes ≡ all_bytes (take l.place trees) nodes + bytes_of shown nodes =
    ap (λ (ts : List TreesOf). all_bytes ts nodes) (trees_next schema graph vars c.args.cascade fields kept l.place field part field part lt lk c.index-fields-place.is c.index-kept-place.is) ∙ bytes_more (take l.place trees) shown nodes in (
      λ known.
          let first : c.next_left.result ≡ first_left (drop l.place c.args.left) = c.next_left.ensures.first ∙ ap first_left l.invariant.2 in
          let here : IsLeft schema graph vars field.item part.item nodes c.next_left.result =
          subst (λ (k : Left). IsLeft schema graph vars field.item part.item nodes k) (sym first) (next_known schema graph vars fields kept l.place field part lt lk c.index-fields-place.is c.index-kept-place.is nodes c.args.left known) in (
            subst (λ (cs : List Column). AreShown graph vars nodes cs (take (l.place + 1) all)) (sym c.in_ok-add.ensures)
                (subst (λ (fs : List FieldsOf). AreShown graph vars nodes (l.columns.items ++ column ∷ []) fs) (sym next)
                (shown_one_more graph vars nodes l.columns.items (take l.place all) column ((planned_field schema graph vars field).at c.args.cascade part) (l.invariant.0 known).0 (c.in_ok-column.ensures.shows here))),
            omega (arith, bytes, (l.invariant.0 known).1, c.in_ok-column.ensures.held here, c.held_by-used.ensures.bytes),
          ),
      omega (arith, l.invariant.1, c.held_by-used.ensures.within, c.in_ok-column.ensures.within),
      c.next_left.ensures.rest ∙ (ap after_first l.invariant.2 ∙ known_behind l.place c.args.left),
    )
