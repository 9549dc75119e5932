use Rattle.std.proofs.Common.{rules, ◌≡◌, ◌∙◌, ap, sym, true, false, cond}
use Rattle.std.specs.Prelude.{Some, None}
use Rattle.std.specs.Arc.{arc_value}
use Rattle.std.specs.Ordering.{is_eq}
use Rattle.dg_sets.proofs.Sets.{is_one}
use Rattle.dg_keys.specs.Keys.{key_cmp}
use Rattle.dg_keys.specs.KeyOrder.{key_order}
use Rattle.dg_store.specs.Stores.{list_under}
use Rattle.dg_store.proofs.StoreLemmas.{own_list, found_is}
use Rattle.dg_store.proofs.store.Store.found.Goals as goal

pub returns-then-is_eq-clause-key : goal.returns-then-is_eq-clause-key
returns-then-is_eq-clause-key c =
    let same : is_eq (key_cmp (arc_value c.in-Some.there.now) c.args.key.now) ≡ true = search rules in
    is_one key_cmp key_order (arc_value c.in-Some.there.now) c.args.key.now same

pub returns-then-is_eq-clause-list : goal.returns-then-is_eq-clause-list
returns-then-is_eq-clause-list c =
    let same : is_eq (key_cmp (arc_value c.in-Some.there.now) c.args.key.now) ≡ true = search rules in
    sym (ap (λ b. cond b (Some (arc_value c.in-Some.list.now)) None) same)
    ∙ ap (own_list c.args.key.now) c.in-Some.ensures.next
    ∙ found_is c.args.key.now _ c.in-Some.ensures.map
    ∙ ap (list_under c.args.key.now) c.self.view_is

pub returns-else-is_eq-clause-list : goal.returns-else-is_eq-clause-list
returns-else-is_eq-clause-list c =
    let other : is_eq (key_cmp (arc_value c.in-Some.there.now) c.args.key.now) ≡ false = search rules in
    sym (ap (λ b. cond b (Some (arc_value c.in-Some.list.now)) None) other)
    ∙ ap (own_list c.args.key.now) c.in-Some.ensures.next
    ∙ found_is c.args.key.now _ c.in-Some.ensures.map
    ∙ ap (list_under c.args.key.now) c.self.view_is

pub returns-in-None-clause-list : goal.returns-in-None-clause-list
returns-in-None-clause-list c =
    ap (own_list c.args.key.now) c.in-None.ensures.next
    ∙ found_is c.args.key.now _ c.in-None.ensures.map
    ∙ ap (list_under c.args.key.now) c.self.view_is
