use Rattle.std.proofs.Common.{◌≡◌, ℕ, List, sym, ap, ◌∙◌, subst}
use Rattle.std.specs.Prelude.{IfOk, option_copied}
use Rattle.dg_schema.specs.Definitions.{definition_of}
use Rattle.dg_graph.specs.Graphs.{objects}
use Rattle.dg_check.specs.declared.parts.Item.{Item, Item-F}
use Rattle.dg_check.specs.declared.parts.Item.TheVariants as kept
use Rattle.dg_check.specs.declared.parts.Item.TheViews.{out-Item}
use Rattle.dg_level.specs.Answers.{shown}
use Rattle.dg_level.specs.Known.{values_by, KnowsValues}
use Rattle.dg_level.specs.Shown.{sort_of}
use Rattle.dg_level.specs.Columns.{TreesOf, ShowsBy}
use Rattle.dg_level.specs.Levels.{own_shown, bare_trees}
use Rattle.dg_level.proofs.columns.bare_content.Goals as goal

pub returns-in-Edge-clause-shows : goal.returns-in-Edge-clause-shows
returns-in-Edge-clause-shows g c = λ vars nodes knows.
    let schema = g.S.Snapshot.declared c.args.snap.now in
    let graph = g.S.Snapshot.graph c.args.snap.now in
    let e = c.args.edge.now in
    let def : option_copied c.lookup-definition.result ≡ definition_of schema e.pred = c.lookup-definition.ensures ∙ (λ j. definition_of (c.schema.ensures j) (c.as_str.ensures j)) in
    let sort : c.sort_of-sort.result ≡ sort_of (definition_of schema e.pred) e.back = c.sort_of-sort.ensures ∙ (λ j. sort_of (def j) e.back) in
    let layer : out-Item c.args.kept.now ≡ Item-F.Edge c.in-Edge.orders c.in-Edge.filters c.in-Edge.fields = ap out-Item c.in-Edge.is ∙ kept.outs-Edge c.in-Edge.orders c.in-Edge.filters c.in-Edge.fields in
    let own : (λ (n : ℕ). own_shown c.sort_of-sort.result (shown (option_copied c.lookup-definition.result) (objects graph c.as_str-in-Edge.result.now n))) ≡ bare_trees {A = Item} schema graph e (Item-F.Edge c.in-Edge.orders c.in-Edge.filters c.in-Edge.fields) =
    λ j n. own_shown (sort j) (shown (def j) (objects graph (c.as_str-in-Edge.ensures j) n)) in
    let all : (λ (n : ℕ). own_shown c.sort_of-sort.result (shown (option_copied c.lookup-definition.result) (objects graph c.as_str-in-Edge.result.now n))) ≡ bare_trees schema graph e (out-Item c.args.kept.now) =
    own ∙ sym (λ j. bare_trees schema graph e (layer j)) in
    subst (λ (trees : TreesOf). IfOk c.values_content.result (λ content. ShowsBy graph vars nodes content trees)) all (c.values_content.ensures.shows graph vars nodes (subst (λ (p : List ℕ). KnowsValues (values_by graph p) c.args.left) (sym c.as_str-in-Edge.ensures) knows))
