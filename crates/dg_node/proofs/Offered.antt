-- What a commit makes of its session, the history and the machine, by what the cluster answers.
use Rattle.std.proofs.Common.{◌≡◌, ◌≢◌, ℕ, Bool, true, cond, [], Option, Some, None, Ok, Err, refl, subst, sym, ◌∙◌}
use Rattle.std.specs.Prelude.{Result, IfOk, OnErr}
use Rattle.dg_wire.specs.declared.refusal.Refusal.TheVariants as refusals
use Rattle.dg_wire.specs.declared.reply.Reply.{Reply}
use Rattle.dg_wire.specs.declared.reply.Reply.TheVariants as replies
use Rattle.dg_zero.specs.declared.entry.Event.TheVariants.{Look}
use Rattle.dg_zero.specs.declared.fault.CommitFault.{CommitFault}
use Rattle.dg_zero.specs.declared.fault.CommitFault.TheVariants.{OutOfMemory, Moving, Conflict, TimestampsSpent}
use Rattle.dg_zero.specs.declared.offer.Offer.{Offer}
use Rattle.dg_zero.specs.Counters.{active, is_active_of}
use Rattle.dg_zero.specs.Legal.{IsLegal}
use Rattle.dg_zero.specs.Offers.{IsSound, IsMadeOf}
use Rattle.dg_zero.specs.States.{Zero, and_then, IsRefusal}
use Rattle.dg_zero.specs.Worlds.{schema_at, graph_at}
use Rattle.dg_txn.specs.Own.{Transaction}
use Rattle.dg_node.specs.Clusters.{AreOthers, Meets, CommitsAt}
use Rattle.dg_node.specs.Committing.{IsOfferOf, reply_to, is_ended}
use Rattle.dg_node.specs.Machine.{Machine}
use Rattle.dg_node.specs.Sessions.{IsOpen, IsSession, Serves}
use Rattle.dg_node.specs.Transactions.{committed}
use Rattle.dg_node.proofs.Offering.{offered, offer_sound, offer_made_of, offer_active, done_serves, conflict_serves, moving_serves, spent_sees}
use Rattle.dg_node.proofs.Opens.{open_met, open_then}
use Rattle.dg_node.proofs.Serving.{meets_by, looked_serves}

abbrev Pair : Type 0
Pair = Reply × Machine

module _ (takes : ℕ → Bool) (author sid : ℕ) (own : takes author ≡ true) (z : Zero) (txn : Transaction) (o : IsOpen z.history author txn) (offer : Offer) (start : offer.start ≡ txn.start) (changes : offer.changes ≡ txn.own) (made : IsMadeOf txn.schema txn.base offer.changes offer.keys offer.parts) (sound : IsSound txn.schema txn.base offer.preds offer.keys offer.parts) where
  -- it is an offer of the transaction over what is met
  open_there : (met : Zero) → AreOthers takes z met → IsOpen met.history author txn
  open_there met others = open_met takes author z met txn own others o

  there : (met : Zero) → AreOthers takes z met → IsOfferOf met.history txn offer
  there met others = offered met.history author txn (open_there met others) offer start changes made sound

  module _ (w : Zero) where
    -- it is committed
    pub done_meets : (ts : ℕ) → txn.own ≢ [] → Meets takes z w (CommitsAt author offer (Ok ts)) → Meets takes z w (Serves author sid (Some txn) None (λ m n. ◌≡◌ {A = Pair} (committed m sid) (replies.Commit sid ts, n)))
    done_meets ts some m =
        meets_by takes z w (CommitsAt author offer (Ok ts)) (Serves author sid (Some txn) None (λ m n. ◌≡◌ {A = Pair} (committed m sid) (replies.Commit sid ts, n)))
        (λ met others c. done_serves author sid txn met others.legal (open_there met others) offer (there met others) ts w c.ok c.ts c.clear c.not_spent some) m

    -- it is refused: the session ends, or stays as it was
    refused_at : (fault : CommitFault) (reply : Reply) (met : Zero) → AreOthers takes z met → txn.own ≢ [] → reply_to fault ≡ Some reply → IsRefusal met w author offer fault → Serves author sid (Some txn) (cond (is_ended fault) None (Some txn)) (λ m n. ◌≡◌ {A = Pair} (committed m sid) (reply, n)) met w
    refused_at (Conflict key text ts) reply met others some said is =
        let reply_is : replies.Refused (refusals.Conflict ts text) ≡ reply = cc in
        subst (λ (p : Reply). Serves author sid (Some txn) None (λ m n. ◌≡◌ {A = Pair} (committed m sid) (p, n)) met w) reply_is
        (conflict_serves author sid txn met others.legal (open_there met others) offer (there met others) key ts text w is.1 is.2 is.0 some)
    refused_at (Moving pred) reply met others some said is =
        let reply_is : replies.Refused (refusals.Moving pred) ≡ reply = cc in
        subst (λ (p : Reply). Serves author sid (Some txn) None (λ m n. ◌≡◌ {A = Pair} (committed m sid) (p, n)) met w) reply_is
        (moving_serves author sid txn met others.legal (open_there met others) offer (there met others) pred w is.1 is.0)
    refused_at (TimestampsSpent spent back) reply met others some said is =
        let reply_is : replies.Refused (refusals.TimestampsSpent spent) ≡ reply = cc in
        subst (λ (p : Reply). Serves author sid (Some txn) (Some txn) (λ m n. ◌≡◌ {A = Pair} (committed m sid) (p, n)) met w) reply_is
        (looked_serves author sid (Some txn) _ met w others.legal is.4 (spent_sees author sid txn met others.legal (open_there met others) offer (there met others) spent is.0 is.1 is.2 some))
    refused_at (OutOfMemory back) reply met others some said is = absurd (cc)

    wanting_at : (fault : CommitFault) (met : Zero) → AreOthers takes z met → reply_to fault ≡ None → IsRefusal met w author offer fault → Serves author sid (Some txn) (cond (is_ended fault) None (Some txn)) (λ m n. n ≡ m) met w
    wanting_at (Conflict key text ts) met others said is = absurd (cc)
    wanting_at (Moving pred) met others said is = absurd (cc)
    wanting_at (TimestampsSpent spent back) met others said is = absurd (cc)
    wanting_at (OutOfMemory back) met others said is = looked_serves author sid (Some txn) _ met w others.legal is.1 (λ rest front back a b. refl)

    module _ (fault : CommitFault) (new : Option Transaction) (new_is : new ≡ cond (is_ended fault) None (Some txn)) (m : Meets takes z w (CommitsAt author offer (Err fault))) where
      pub refused_meets : (reply : Reply) → txn.own ≢ [] → reply_to fault ≡ Some reply → Meets takes z w (Serves author sid (Some txn) new (λ m n. ◌≡◌ {A = Pair} (committed m sid) (reply, n)))
      refused_meets reply some said =
          subst (λ (x : Option Transaction). Meets takes z w (Serves author sid (Some txn) x (λ m n. ◌≡◌ {A = Pair} (committed m sid) (reply, n)))) (sym new_is)
          (meets_by takes z w (CommitsAt author offer (Err fault)) (Serves author sid (Some txn) (cond (is_ended fault) None (Some txn)) (λ m n. ◌≡◌ {A = Pair} (committed m sid) (reply, n))) (λ met others c. refused_at fault reply met others some said c.fault) m)

      pub wanting_meets : reply_to fault ≡ None → Meets takes z w (Serves author sid (Some txn) new (λ m n. n ≡ m))
      wanting_meets said =
          subst (λ (x : Option Transaction). Meets takes z w (Serves author sid (Some txn) x (λ m n. n ≡ m))) (sym new_is)
          (meets_by takes z w (CommitsAt author offer (Err fault)) (Serves author sid (Some txn) (cond (is_ended fault) None (Some txn)) (λ m n. n ≡ m)) (λ met others c. wanting_at fault met others said c.fault) m)

      looked : w ≡ and_then m.met author Look → IsLegal w.groups w.history → IsSession w author (Some txn)
      looked then legal = open_then m.met w author author Look txn then (λ starts. refl) legal (open_there m.met m.others)

      session_at : (f : CommitFault) → IsRefusal m.met w author offer f → IsLegal w.groups w.history → IsSession w author (cond (is_ended f) None (Some txn))
      session_at (Conflict key text ts) is legal = tt
      session_at (Moving pred) is legal = tt
      session_at (TimestampsSpent spent back) is legal = looked is.4 legal
      session_at (OutOfMemory back) is legal = looked is.1 legal

      pub refused_session : IsLegal w.groups w.history → IsSession w author new
      refused_session legal = subst (IsSession w author) (sym new_is) (session_at fault m.goes.fault legal)

      -- by what is answered
      pub refused_by : {E : Type 0} (r : Result Reply E) (old : Option Transaction) → old ≡ Some txn → txn.own ≢ [] → IfOk r (λ reply. reply_to fault ≡ Some reply) → IfOk r (λ reply. Meets takes z w (Serves author sid old new (λ m n. ◌≡◌ {A = Pair} (committed m sid) (reply, n))))
      refused_by (Ok reply) old old_is some said = subst (λ (x : Option Transaction). Meets takes z w (Serves author sid x new (λ m n. ◌≡◌ {A = Pair} (committed m sid) (reply, n)))) (sym old_is) (refused_meets reply some said)
      refused_by (Err x) old old_is some said = tt

      pub wanting_by : {E : Type 0} (r : Result Reply E) (old : Option Transaction) → old ≡ Some txn → OnErr r (reply_to fault ≡ None) → OnErr r (Meets takes z w (Serves author sid old new (λ m n. n ≡ m)))
      wanting_by (Ok reply) old old_is said = tt
      wanting_by (Err x) old old_is said = subst (λ (y : Option Transaction). Meets takes z w (Serves author sid y new (λ m n. n ≡ m))) (sym old_is) (wanting_meets said)
