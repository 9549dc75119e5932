use Rattle.std.proofs.Common.{◌≤◌, ◌∙◌, ◌++◌, sym, ap, subst, map}
use Rattle.std.specs.Arc.{arc_value}
use Rattle.std.proofs.lemmas.List.{append-nil}
use Rattle.dg_list.specs.Lists.{IsSound, newest_ts}
use Rattle.dg_list.specs.Links.{list_of}
use Rattle.dg_list.proofs.ListLemmas.{none_newer}
use Rattle.dg_list.proofs.plist.PList.layers_above.Goals as goal

pub returns-then-ts-clause-layers : goal.returns-then-ts-clause-layers
returns-then-ts-clause-layers c =
    let list = c.loop-list.list.now in
    let is = ap list_of (sym c.in-Over.is) ∙ c.list.view_is in
    let sound = subst IsSound c.list.view_is c.list.invariant.sound in
    let newest : newest_ts list ≤ c.args.ts = subst (λ v. newest_ts v ≤ c.args.ts) is (rw (c.ts.ensures, c.deref.ensures) at c.if-ts.true) in
    let above = map arc_value c.loop-list.layers.items in
    sym (c.loop-list.invariant.so_far ∙ ap (λ ks. above ++ ks) (none_newer list.base_ts c.args.ts list.layers sound.layers newest) ∙ append-nil above)
