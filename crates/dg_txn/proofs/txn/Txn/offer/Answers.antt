use Rattle.std.proofs.Common.{◌≡◌, ◌≢◌, ◌∙◌, sym, ap, subst, ℕ, List, []}
use Rattle.dg_keys.specs.declared.conflict.ConflictKey.{ConflictKey}
use Rattle.dg_keys.specs.declared.record.Part.{Part}
use Rattle.dg_graph.specs.declared.change.Change.{Change}
use Rattle.dg_zero.specs.Listings.{conflict_keys}
use Rattle.dg_zero.specs.Offers.{IsSound, IsMadeOf}
use Rattle.dg_edges.specs.Deltas.{preds_of}
use Rattle.dg_txn.specs.Own.{Transaction}
use Rattle.dg_txn.proofs.OneOffer.{own_sound, own_made}
use Rattle.dg_txn.proofs.txn.Txn.offer.Goals as goal

pub returns-clause-sound : goal.returns-clause-sound
returns-clause-sound c = λ some.
    let schema = c.self.inside.base.schema in
    let base = c.self.inside.base.graph in
    let own = c.self.inside.own.items in
    let is_some : own ≢ [] = subst (λ (t : Transaction). t.own ≢ []) (sym c.self.view_is) some in
    let sound = own_sound schema base own c.self.inside.gains is_some c.self.invariant in
    let preds : preds_of own ≡ c.from_vec.result = sym (c.from_vec.ensures ∙ (c.in_ok-preds_of.ensures ∙ ap preds_of c.as_slice-own.ensures.value)) in
    let keys : conflict_keys schema base own ≡ c.from_vec-2.result = sym (c.from_vec-2.ensures ∙ (c.in_ok-keys.ensures ∙ ap (conflict_keys schema base) c.as_slice-own.ensures.value)) in
    let same : c.self.inside.gains ≡ c.from_vec-4.result = sym (c.from_vec-4.ensures ∙ c.in_ok-parts.ensures) in
    subst (λ (t : Transaction). IsSound t.schema t.base c.from_vec.result c.from_vec-2.result c.from_vec-4.result) c.self.view_is
    (subst (λ (x : List (List ℕ)). IsSound schema base x c.from_vec-2.result c.from_vec-4.result) preds
    (subst (λ (x : List ConflictKey). IsSound schema base (preds_of own) x c.from_vec-4.result) keys
    (subst (λ (x : List Part). IsSound schema base (preds_of own) (conflict_keys schema base own) x) same sound)))

pub returns-clause-made_of : goal.returns-clause-made_of
returns-clause-made_of c =
    let schema = c.self.inside.base.schema in
    let base = c.self.inside.base.graph in
    let own = c.self.inside.own.items in
    let made = own_made schema base own c.self.inside.gains c.self.invariant in
    let changes : own ≡ c.from_vec-3.result = sym (c.from_vec-3.ensures ∙ (c.in_ok-copies.ensures ∙ c.as_slice-own.ensures.value)) in
    let keys : conflict_keys schema base own ≡ c.from_vec-2.result = sym (c.from_vec-2.ensures ∙ (c.in_ok-keys.ensures ∙ ap (conflict_keys schema base) c.as_slice-own.ensures.value)) in
    let same : c.self.inside.gains ≡ c.from_vec-4.result = sym (c.from_vec-4.ensures ∙ c.in_ok-parts.ensures) in
    subst (λ (t : Transaction). IsMadeOf t.schema t.base c.from_vec-3.result c.from_vec-2.result c.from_vec-4.result) c.self.view_is
    (subst (λ (x : List Change). IsMadeOf schema base x c.from_vec-2.result c.from_vec-4.result) changes
    (subst (λ (x : List ConflictKey). IsMadeOf schema base own x c.from_vec-4.result) keys
    (subst (λ (x : List Part). IsMadeOf schema base own (conflict_keys schema base own) x) same made)))
