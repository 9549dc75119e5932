use Rattle.std.proofs.Common.{sym, ap, subst, List, [], ℕ, Some, None}
use Rattle.std.specs.Prelude.{IfSome, option_copied}
use Rattle.dg_delta.specs.Ops.{after_ops}
use Rattle.dg_zero.specs.Listings.{listing}
use Rattle.dg_txn.specs.Own.{seen}
use Rattle.dg_txn.specs.Walks.{HoldsAll, ReadsAs, AreShown}
use Rattle.dg_txn.proofs.StandingKeys.{no_ops}
use Rattle.dg_txn.proofs.StoredWalk.{append_none, none_stored, stored_shown, both_shown}
use Rattle.dg_txn.proofs.walk.nodes_shown.Goals as goal

pub returns-in-None-clause-shown : goal.returns-in-None-clause-shown
returns-in-None-clause-shown g c =
    let span = c.args.span.now in
    let parts = c.args.gains.now in
    let listed = listing c.args.base.now.schema c.args.base.now.graph in
    let all = seen c.args.base.now.schema c.args.base.now.graph parts in
    let found = c.in_ok-found.found.items in
    let holds : HoldsAll span.pred None listed =
    subst (λ (p : List ℕ). HoldsAll p None listed) c.as_str.ensures (subst (λ o. HoldsAll c.as_str.result.now (option_copied o) listed) c.in-None.is c.lists_of-at.ensures.others) in
    subst (AreShown span all) (append_none found)
    (both_shown span parts all listed found [] c.in_ok-found.ensures.shown (none_stored span c.lists_of-at.result.0 parts listed holds) (λ key n. ap (after_ops (listed key)) (no_ops parts key n)))

pub returns-clause-shown : goal.returns-clause-shown
returns-clause-shown g c =
    let span = c.args.span.now in
    let parts = c.args.gains.now in
    let listed = listing c.args.base.now.schema c.args.base.now.graph in
    let all = seen c.args.base.now.schema c.args.base.now.graph parts in
    let found = c.in_ok-found.found.items in
    let at = c.lists_of-at.result.0 in
    let store = c.in-Some.store.now in
    let start = c.in_ok-start.start in
    let holds : HoldsAll span.pred (Some store) listed =
    subst (λ (p : List ℕ). HoldsAll p (Some store) listed) c.as_str.ensures (subst (λ o. HoldsAll c.as_str.result.now (option_copied o) listed) c.in-Some.is c.lists_of-at.ensures.others) in
    let reads : ReadsAs at span.pred listed store =
    subst (λ (p : List ℕ). ReadsAs at p listed store) c.as_str.ensures (subst (λ o. IfSome (option_copied o) (ReadsAs at c.as_str.result.now listed)) c.in-Some.is c.lists_of-at.ensures.reads) in
    let other = stored_shown span at parts listed start store c.in_ok-start.ensures c.in_ok-visit_from-in-Some.ensures.ascend reads holds in
    subst (AreShown span all) (sym c.in_ok-visit_from-in-Some.ensures.found)
    (both_shown span parts all listed found _ c.in_ok-found.ensures.shown other (λ key n. ap (after_ops (listed key)) (no_ops parts key n)))
