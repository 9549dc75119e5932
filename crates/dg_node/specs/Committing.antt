-- What a session hands to Zero at a commit.
use Rattle.std.specs.Prelude.{◌≡◌, Bool, true, false, List, [], Option, Some, None}
use Rattle.dg_wire.specs.declared.refusal.Refusal.TheVariants as refusals
use Rattle.dg_wire.specs.declared.reply.Reply.{Reply}
use Rattle.dg_wire.specs.declared.reply.Reply.TheVariants.{Refused}
use Rattle.dg_zero.specs.declared.entry.Entry.{Entry}
use Rattle.dg_zero.specs.declared.fault.CommitFault.{CommitFault}
use Rattle.dg_zero.specs.declared.fault.CommitFault.TheVariants.{OutOfMemory, Moving, Conflict, TimestampsSpent}
use Rattle.dg_zero.specs.declared.offer.Offer.{Offer}
use Rattle.dg_zero.specs.Offers.{IsSound, IsMadeOf}
use Rattle.dg_zero.specs.Worlds.{schema_at, graph_at}
use Rattle.dg_txn.specs.Own.{Transaction}

-- the offer has the start and the changes of a transaction, is made of them, and is sound
pub record IsOfferOf (history : List Entry) (txn : Transaction) (offer : Offer) : Type 0 where
  pub start_is : offer.start ≡ txn.start
  pub changes_are : offer.changes ≡ txn.own
  pub made_of : IsMadeOf (schema_at history txn.start) (graph_at history txn.start []) offer.changes offer.keys offer.parts
  pub sound : IsSound (schema_at history txn.start) (graph_at history txn.start []) offer.preds offer.keys offer.parts

-- what is answered where the offer was refused, unless memory was wanting
abbrev pub reply_to : CommitFault → Option Reply
reply_to (Conflict key text ts) = Some (Refused (refusals.Conflict ts text))
reply_to (Moving pred) = Some (Refused (refusals.Moving pred))
reply_to (TimestampsSpent next offer) = Some (Refused (refusals.TimestampsSpent next))
reply_to (OutOfMemory offer) = None

-- whether the transaction has ended then
abbrev pub is_ended : CommitFault → Bool
is_ended (Conflict key text ts) = true
is_ended (Moving pred) = true
is_ended fault = false
