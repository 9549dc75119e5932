use Rattle.dg_edges.proofs.OfferLaws.{deltas_lead}
use Rattle.dg_edges.proofs.OfferKeys.{offers_are_sound, offers_are_made}
use Rattle.dg_zero.proofs.SoundOffers.{sound_fits}
use Rattle.dg_edges.proofs.laws.offers.Goals as goal

pub returns : goal.returns
returns c = record { lead = deltas_lead; sound = offers_are_sound; made = offers_are_made; fits = sound_fits }
