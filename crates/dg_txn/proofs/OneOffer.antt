-- An offer of own parts is sound, and made of the changes.
use Rattle.std.proofs.Common.{◌≢◌, List, []}
use Rattle.dg_schema.specs.declared.definition.PredDef.{PredDef}
use Rattle.dg_graph.specs.declared.change.Triple.{Triple}
use Rattle.dg_graph.specs.declared.change.Change.{Change}
use Rattle.dg_keys.specs.declared.record.Part.{Part}
use Rattle.dg_zero.specs.Listings.{conflict_keys}
use Rattle.dg_zero.specs.Offers.{IsSound, IsMadeOf}
use Rattle.dg_edges.specs.Deltas.{preds_of}
use Rattle.dg_edges.proofs.OfferKeys.{offers_are_sound, offers_are_made}
use Rattle.dg_txn.specs.Own.{AreOwn}

pub own_sound : (schema : List PredDef) (base : List Triple) (own : List Change) (parts : List Part) → own ≢ [] → AreOwn schema base own parts → IsSound schema base (preds_of own) (conflict_keys schema base own) parts
own_sound schema base own parts some a = offers_are_sound schema base own parts some a.fitting a.lawful a.exact

pub own_made : (schema : List PredDef) (base : List Triple) (own : List Change) (parts : List Part) → AreOwn schema base own parts → IsMadeOf schema base own (conflict_keys schema base own) parts
own_made schema base own parts a = offers_are_made schema base own parts a.fitting a.lawful a.exact
