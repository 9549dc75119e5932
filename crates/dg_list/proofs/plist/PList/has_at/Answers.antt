use Rattle.std.proofs.Common.{◌∙◌, sym, ap, subst}
use Rattle.std.specs.Prelude.{Some, None}
use Rattle.std.specs.Arc.{arc_value}
use Rattle.dg_values.specs.Order.{posting_cmp}
use Rattle.dg_values.specs.Ascending.{has}
use Rattle.dg_list.specs.Lists.{IsSound, reading}
use Rattle.dg_list.specs.Links.{list_of}
use Rattle.dg_list.proofs.ListLemmas.{has_down}
use Rattle.dg_list.proofs.plist.PList.has_at.Goals as goal

pub returns-in-Rolled-clause-has : goal.returns-in-Rolled-clause-has
returns-in-Rolled-clause-has g c =
    let is = ap list_of (sym c.in-Rolled.is) ∙ c.list.view_is in
    c.find.ensures
    ∙ ap (λ xs. has posting_cmp xs c.args.item.now) c.deref.ensures
    ∙ ap (λ v. has posting_cmp (reading v c.args.ts) c.args.item.now) is
    ∙ sym c.loop-list.invariant

pub returns-in-Some-clause-has : goal.returns-in-Some-clause-has
returns-in-Some-clause-has g c =
    let is = ap list_of (sym c.in-Over.is) ∙ c.list.view_is in
    sym (c.loop-list.invariant
    ∙ has_down c.loop-list.list.now (arc_value c.in-Over.older) (arc_value c.in-Over.layer) is (subst IsSound c.list.view_is c.list.invariant.sound) c.args.ts c.args.item.now (Some c.in-Some.there) (rw c.deref-in-Over.ensures at c.in-Some.ensures))

pub loop-list-preserved : goal.loop-list-preserved
loop-list-preserved g c =
    let is = ap list_of (sym c.in-Over.is) ∙ c.list.view_is in
    rw c.deref-list.ensures
    (c.loop-list.invariant
    ∙ has_down c.loop-list.list.now (arc_value c.in-Over.older) (arc_value c.in-Over.layer) is (subst IsSound c.list.view_is c.list.invariant.sound) c.args.ts c.args.item.now None (rw c.deref-in-Over.ensures at c.in_default.ensures))
