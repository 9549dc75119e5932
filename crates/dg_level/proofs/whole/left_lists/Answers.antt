use Rattle.std.proofs.Common.{◌≡◌, ℕ, List, false, true, map, flat_map, sym, ap, ◌∙◌, rules, subst}
use Rattle.std.specs.Prelude.{filter}
use Rattle.std.specs.Ordering.{nat_cmp}
use Rattle.dg_values.specs.Ascending.{ascending, has}
use Rattle.dg_level.specs.declared.left.Left.{Left}
use Rattle.dg_level.specs.Left.{TellsIn, AreLeft, IsLeftIn}
use Rattle.dg_level.specs.Shown.{remaining}
use Rattle.dg_level.specs.Planned.{planned_there}
use Rattle.dg_level.proofs.WholeLaws.{none_dropped}
use Rattle.dg_level.proofs.LeftLaws.{told_left, left_inside, all_fewer, none_known}
use Rattle.dg_level.proofs.whole.left_lists.Goals as goal

pub returns-then-not-cascade-clause-lists : goal.returns-then-not-cascade-clause-lists
returns-then-not-cascade-clause-lists g c = λ known.
    let p = planned_there (g.S.Snapshot.declared c.args.snap.now) (g.S.Snapshot.graph c.args.snap.now) c.args.vars.now.variables c.args.braces.now c.args.inner.now in
    let no : false ≡ c.args.cascade = search rules in
    none_dropped p c.args.lists.items ∙ (λ i. map (remaining (no i) p) c.args.lists.items)

pub returns-then-not-cascade-clause-inside : goal.returns-then-not-cascade-clause-inside
returns-then-not-cascade-clause-inside g c = λ known.
    let schema = g.S.Snapshot.declared c.args.snap.now in
    let graph = g.S.Snapshot.graph c.args.snap.now in
    let vars = c.args.vars.now.variables in
    let level = ascending nat_cmp (flat_map (λ l. l) c.args.lists.items) in
    subst (λ (ls : List Left). AreLeft schema graph vars c.args.braces.now c.args.inner.now level ls) (sym c.new.ensures) (none_known schema graph vars c.args.braces.now c.args.inner.now level)

pub returns-clause-lists : goal.returns-clause-lists
returns-clause-lists g c = λ known.
    let seen : IsLeftIn (g.S.Snapshot.declared c.args.snap.now) (g.S.Snapshot.graph c.args.snap.now) c.args.vars.now.variables c.args.braces.now c.args.inner.now c.as_slice.result.now c.args.left =
    subst (λ (ls : List (List ℕ)). IsLeftIn (g.S.Snapshot.declared c.args.snap.now) (g.S.Snapshot.graph c.args.snap.now) c.args.vars.now.variables c.args.braces.now c.args.inner.now ls c.args.left) (sym c.as_slice.ensures.value) known in
    let p = planned_there (g.S.Snapshot.declared c.args.snap.now) (g.S.Snapshot.graph c.args.snap.now) c.args.vars.now.variables c.args.braces.now c.args.inner.now in
    let lists = c.args.lists.items in
    let whole = c.in_ok-whole.whole.nodes in
    let yes : true ≡ c.args.cascade = search rules in
    let tells : TellsIn p lists whole = subst (λ (ls : List (List ℕ)). TellsIn p ls whole) c.as_slice.ensures.value (c.in_ok-whole.ensures.whole seen) in
    c.in_ok-lists.ensures ∙ (ap (map (filter (has nat_cmp whole))) c.as_slice-2.ensures.value ∙ (told_left p lists whole tells ∙ (λ i. map (remaining (yes i) p) lists)))

pub returns-clause-inside : goal.returns-clause-inside
returns-clause-inside g c = λ known.
    let seen : IsLeftIn (g.S.Snapshot.declared c.args.snap.now) (g.S.Snapshot.graph c.args.snap.now) c.args.vars.now.variables c.args.braces.now c.args.inner.now c.as_slice.result.now c.args.left =
    subst (λ (ls : List (List ℕ)). IsLeftIn (g.S.Snapshot.declared c.args.snap.now) (g.S.Snapshot.graph c.args.snap.now) c.args.vars.now.variables c.args.braces.now c.args.inner.now ls c.args.left) (sym c.as_slice.ensures.value) known in
    let schema = g.S.Snapshot.declared c.args.snap.now in
    let graph = g.S.Snapshot.graph c.args.snap.now in
    let vars = c.args.vars.now.variables in
    let whole = c.in_ok-whole.whole.nodes in
    let left : c.in_ok-lists.lists.items ≡ map (filter (has nat_cmp whole)) c.as_slice-2.result.now = c.in_ok-lists.ensures in
    let level = ascending nat_cmp (flat_map (λ l. l) c.in_ok-lists.lists.items) in
    all_fewer schema graph vars c.args.braces.now c.args.inner.now level whole c.in_ok-whole.whole.inside
    (λ m h. left_inside c.as_slice-2.result.now whole m ((λ i. has nat_cmp (ascending nat_cmp (flat_map (λ l. l) (sym left i))) m) ∙ h)) (c.in_ok-whole.ensures.inside seen)
