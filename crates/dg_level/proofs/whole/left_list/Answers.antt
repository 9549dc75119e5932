use Rattle.std.proofs.Common.{◌≡◌, List, false, true, sym, ap, ◌∙◌, rules, subst}
use Rattle.std.specs.Prelude.{filter}
use Rattle.std.specs.Ordering.{nat_cmp}
use Rattle.dg_values.specs.Ascending.{ascending, has}
use Rattle.dg_level.specs.Shown.{remaining}
use Rattle.dg_level.specs.Planned.{planned_there}
use Rattle.dg_level.specs.declared.left.Left.{Left}
use Rattle.dg_level.specs.Left.{AreLeft}
use Rattle.dg_level.proofs.WholeLaws.{list_left}
use Rattle.dg_level.proofs.LeftLaws.{all_fewer, none_known, left_here}
use Rattle.dg_level.proofs.whole.left_list.Goals as goal

pub returns-then-not-cascade-clause-list : goal.returns-then-not-cascade-clause-list
returns-then-not-cascade-clause-list g c =
    let p = planned_there (g.S.Snapshot.declared c.args.snap.now) (g.S.Snapshot.graph c.args.snap.now) c.args.vars.now.variables c.args.braces.now c.args.inner.now in
    let no : false ≡ c.args.cascade = search rules in
    λ i. remaining (no i) p c.args.list.items

pub returns-then-not-cascade-clause-inside : goal.returns-then-not-cascade-clause-inside
returns-then-not-cascade-clause-inside g c =
    let schema = g.S.Snapshot.declared c.args.snap.now in
    let graph = g.S.Snapshot.graph c.args.snap.now in
    let vars = c.args.vars.now.variables in
    let level = ascending nat_cmp c.args.list.items in
    subst (λ (ls : List Left). AreLeft schema graph vars c.args.braces.now c.args.inner.now level ls) (sym c.new.ensures) (none_known schema graph vars c.args.braces.now c.args.inner.now level)

pub returns-clause-list : goal.returns-clause-list
returns-clause-list g c =
    let schema = g.S.Snapshot.declared c.args.snap.now in
    let graph = g.S.Snapshot.graph c.args.snap.now in
    let vars = c.args.vars.now.variables in
    let p = planned_there schema graph vars c.args.braces.now c.args.inner.now in
    let list = c.args.list.items in
    let yes : true ≡ c.args.cascade = search rules in
    let level : c.in_ok-level.level ≡ ascending nat_cmp list = c.in_ok-level.ensures ∙ ap (ascending nat_cmp) c.as_slice.ensures.value in
    c.in_ok-list.ensures
    ∙ (ap (filter (has nat_cmp c.in_ok-whole.whole.nodes)) c.as_slice-2.ensures.value ∙ (list_left p c.in_ok-level.level c.in_ok-whole.whole.nodes c.in_ok-whole.ensures.nodes list level ∙ (λ i. remaining (yes i) p list)))

pub returns-clause-inside : goal.returns-clause-inside
returns-clause-inside g c =
    let schema = g.S.Snapshot.declared c.args.snap.now in
    let graph = g.S.Snapshot.graph c.args.snap.now in
    let vars = c.args.vars.now.variables in
    let whole = c.in_ok-whole.whole.nodes in
    let left : c.in_ok-list.list.items ≡ filter (has nat_cmp whole) c.as_slice-2.result.now = c.in_ok-list.ensures in
    all_fewer schema graph vars c.args.braces.now c.args.inner.now (ascending nat_cmp c.in_ok-list.list.items) whole c.in_ok-whole.whole.inside
    (λ m h. left_here c.as_slice-2.result.now whole m ((λ i. has nat_cmp (ascending nat_cmp (sym left i)) m) ∙ h)) c.in_ok-whole.ensures.inside
