use Rattle.std.proofs.Common.{◌≡◌, ◌≤◌, ◌<◌, ◌∙◌, sym, ap, subst, ℕ, List, Bool, true, false}
use Rattle.std.specs.Prelude.{◌&&◌, Some, option_map, nat_lt, length}
use Rattle.std.specs.Arc.{arc_value}
use Rattle.dg_keys.specs.declared.key.Key.{Key}
use Rattle.dg_keys.specs.declared.key.Key.TheVariants.{Data}
use Rattle.dg_keys.specs.Keys.{key_cmp}
use Rattle.dg_list.specs.Lists.{Layered, reading}
use Rattle.dg_pages.specs.Entries.{entry_from, entry_above}
use Rattle.dg_txn.specs.Existing.{is_data_of, lists_some}
use Rattle.dg_txn.proofs.Scanning.{Scanned, begun, gone_on, none_left, others_left, one_shows, is_one_of, left_from, fewer_left}
use Rattle.dg_txn.proofs.existing.any_listed.Goals as goal

pub loop-next-init : goal.loop-next-init
loop-next-init g c =
    let pred = c.args.pred.now in
    let is = c.scan-next.ensures.next ∙ ap (λ p. entry_from key_cmp (Data p 0) c.args.store.now) c.in_ok-p.ensures in
    subst (Scanned pred c.args.at c.args.store.now) (sym is) (begun pred c.args.at c.args.store.now c.scan-next.ensures.ascend)

pub returns-then-not-is_data_of-clause-any : goal.returns-then-not-is_data_of-clause-any
returns-then-not-is_data_of-clause-any g c =
    let e : Key × Layered = (arc_value c.in-Some.key.now, arc_value c.in-Some.list.now) in
    let at_it = subst (λ o. Scanned c.args.pred.now c.args.at c.args.store.now (option_map (λ p. (arc_value p.0.now, arc_value p.1.now)) o)) c.in-Some.is c.loop-next.invariant in
    others_left c.args.pred.now c.args.at c.args.store.now e at_it (sym (c.if-not-is_data_of.ensures ∙ ap (is_data_of c.args.pred.now) c.deref.ensures))

pub has_posting-requires : goal.has_posting-requires
has_posting-requires g c =
    let e : Key × Layered = (arc_value c.in-Some.key.now, arc_value c.in-Some.list.now) in
    let at_it = subst (λ o. Scanned c.args.pred.now c.args.at c.args.store.now (option_map (λ p. (arc_value p.0.now, arc_value p.1.now)) o)) c.in-Some.is c.loop-next.invariant in
    subst (λ (list : Layered). list.base_ts ≤ c.args.at) (sym c.deref-in-Some.ensures) (is_one_of c.args.pred.now c.args.at (λ e. e.1.base_ts ≤ c.args.at) c.args.store.now e at_it c.requires.bases)

-- a key of a subject, whose list has a posting or not
shown : (pred : List ℕ) (at : ℕ) (e : Key × Layered) (v : Bool) → is_data_of pred e.0 ≡ true → nat_lt 0 (length (reading e.1 at)) ≡ v → lists_some pred at e ≡ v
shown pred at e v own some = (λ i. own i && nat_lt 0 (length (reading e.1 at))) ∙ some

pub returns-then-found-clause-any : goal.returns-then-found-clause-any
returns-then-found-clause-any g c =
    let e : Key × Layered = (arc_value c.in-Some.key.now, arc_value c.in-Some.list.now) in
    let at_it = subst (λ o. Scanned c.args.pred.now c.args.at c.args.store.now (option_map (λ p. (arc_value p.0.now, arc_value p.1.now)) o)) c.in-Some.is c.loop-next.invariant in
    let own = sym (c.if-not-is_data_of.ensures ∙ ap (is_data_of c.args.pred.now) c.deref.ensures) in
    let some = ap (λ (list : Layered). nat_lt 0 (length (reading list c.args.at))) (sym c.deref-in-Some.ensures) ∙ (sym c.in_ok-found.ensures ∙ c.if-found.true) in
    one_shows c.args.pred.now c.args.at c.args.store.now e at_it (shown c.args.pred.now c.args.at e true own some)

pub loop-next-smaller : goal.loop-next-smaller
loop-next-smaller g c =
    let e : Key × Layered = (arc_value c.in-Some.key.now, arc_value c.in-Some.list.now) in
    let at_it = subst (λ o. Scanned c.args.pred.now c.args.at c.args.store.now (option_map (λ p. (arc_value p.0.now, arc_value p.1.now)) o)) c.in-Some.is c.loop-next.invariant in
    let is = c.scan_above-next.ensures.next ∙ ap (λ key. entry_above key_cmp key c.args.store.now) c.deref-in-Some-2.ensures in
    let fewer = subst (λ o. left_from c.args.store.now o < left_from c.args.store.now (Some e)) (sym is) (fewer_left c.args.pred.now c.args.at c.args.store.now e at_it) in
    subst (λ o. left_from c.args.store.now (option_map (λ p. (arc_value p.0.now, arc_value p.1.now)) c.scan_above-next.result) < left_from c.args.store.now (option_map (λ p. (arc_value p.0.now, arc_value p.1.now)) o)) (sym c.in-Some.is) fewer

pub loop-next-preserved : goal.loop-next-preserved
loop-next-preserved g c =
    let e : Key × Layered = (arc_value c.in-Some.key.now, arc_value c.in-Some.list.now) in
    let at_it = subst (λ o. Scanned c.args.pred.now c.args.at c.args.store.now (option_map (λ p. (arc_value p.0.now, arc_value p.1.now)) o)) c.in-Some.is c.loop-next.invariant in
    let own = sym (c.if-not-is_data_of.ensures ∙ ap (is_data_of c.args.pred.now) c.deref.ensures) in
    let none = ap (λ (list : Layered). nat_lt 0 (length (reading list c.args.at))) (sym c.deref-in-Some.ensures) ∙ (sym c.in_ok-found.ensures ∙ c.if-found.false) in
    let is = c.scan_above-next.ensures.next ∙ ap (λ key. entry_above key_cmp key c.args.store.now) c.deref-in-Some-2.ensures in
    subst (Scanned c.args.pred.now c.args.at c.args.store.now) (sym is) (gone_on c.args.pred.now c.args.at c.args.store.now e at_it (shown c.args.pred.now c.args.at e false own none))

pub returns-clause-any : goal.returns-clause-any
returns-clause-any g c =
    none_left c.args.pred.now c.args.at c.args.store.now (subst (λ o. Scanned c.args.pred.now c.args.at c.args.store.now (option_map (λ p. (arc_value p.0.now, arc_value p.1.now)) o)) c.in_default.is c.loop-next.invariant)
