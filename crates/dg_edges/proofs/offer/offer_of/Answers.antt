use Rattle.std.proofs.Common.{◌≡◌, ℕ, List, subst, sym, ◌∙◌}
use Rattle.dg_graph.specs.Graphs.{after_changes}
use Rattle.dg_graph.specs.declared.change.Change.{Change}
use Rattle.dg_keys.specs.declared.conflict.ConflictKey.{ConflictKey}
use Rattle.dg_keys.specs.declared.record.Part.{Part}
use Rattle.dg_zero.specs.Listings.{AreGainsAndLosses, conflict_keys}
use Rattle.dg_zero.specs.Offers.{IsSound, IsMadeOf}
use Rattle.dg_edges.specs.Deltas.{preds_of}
use Rattle.dg_edges.proofs.OfferKeys.{offers_are_sound, offers_are_made}
use Rattle.dg_edges.proofs.offer.offer_of.Goals as goal

pub returns-clause-parts : goal.returns-clause-parts
returns-clause-parts g c =
    let graph = g.S.Snapshot.graph c.args.snap.now in
    let schema = g.S.Snapshot.declared c.args.snap.now in
    subst (λ (ps : List Part). AreGainsAndLosses schema graph schema (after_changes schema graph c.args.changes.now) ps) (sym c.from_vec-parts.ensures) c.in_ok-deltas_of.ensures.exact

pub returns-clause-sound : goal.returns-clause-sound
returns-clause-sound g c some =
    let graph = g.S.Snapshot.graph c.args.snap.now in
    let schema = g.S.Snapshot.declared c.args.snap.now in
    let changes = c.args.changes.now in
    let preds : c.from_vec-preds.result ≡ preds_of changes = c.from_vec-preds.ensures ∙ c.in_ok-preds_of.ensures in
    let keys : c.from_vec-keys.result ≡ conflict_keys schema graph changes = c.from_vec-keys.ensures ∙ c.in_ok-conflict_keys.ensures.keys in
    let parts : AreGainsAndLosses schema graph schema (after_changes schema graph changes) c.from_vec-parts.result = subst (λ (ps : List Part). AreGainsAndLosses schema graph schema (after_changes schema graph changes) ps) (sym c.from_vec-parts.ensures) c.in_ok-deltas_of.ensures.exact in
    let sound = offers_are_sound schema graph changes c.from_vec-parts.result some c.requires.fitting c.requires.lawful parts in
    subst (λ (ps : List (List ℕ)). IsSound schema graph ps c.from_vec-keys.result c.from_vec-parts.result) (sym preds)
    (subst (λ (ks : List ConflictKey). IsSound schema graph (preds_of changes) ks c.from_vec-parts.result) (sym keys) sound)

pub returns-clause-made_of : goal.returns-clause-made_of
returns-clause-made_of g c =
    let graph = g.S.Snapshot.graph c.args.snap.now in
    let schema = g.S.Snapshot.declared c.args.snap.now in
    let changes = c.args.changes.now in
    let asked : c.from_vec-asked.result ≡ changes = c.from_vec-asked.ensures ∙ c.in_ok-copies.ensures in
    let keys : c.from_vec-keys.result ≡ conflict_keys schema graph changes = c.from_vec-keys.ensures ∙ c.in_ok-conflict_keys.ensures.keys in
    let parts : AreGainsAndLosses schema graph schema (after_changes schema graph changes) c.from_vec-parts.result = subst (λ (ps : List Part). AreGainsAndLosses schema graph schema (after_changes schema graph changes) ps) (sym c.from_vec-parts.ensures) c.in_ok-deltas_of.ensures.exact in
    let made = offers_are_made schema graph changes c.from_vec-parts.result c.requires.fitting c.requires.lawful parts in
    subst (λ (cs : List Change). IsMadeOf schema graph cs c.from_vec-keys.result c.from_vec-parts.result) (sym asked)
    (subst (λ (ks : List ConflictKey). IsMadeOf schema graph changes ks c.from_vec-parts.result) (sym keys) made)
