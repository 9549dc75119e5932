-- What each answer of a cluster to a session's offer makes of the history and of the machine.
use Rattle.std.proofs.Common.{◌≡◌, ◌≢◌, ℕ, ◌<◌, ◌^◌, true, List, [], ◌∷◌, ◌++◌, Option, Some, None, refl, ap, subst, sym, ◌∙◌}
use Rattle.std.specs.Prelude.{◌==◌, filter, not, slice_get, option_map}
use Rattle.dg_schema.specs.declared.definition.PredDef.{PredDef}
use Rattle.dg_graph.specs.declared.change.Triple.{Triple}
use Rattle.dg_graph.specs.Graphs.{after_changes}
use Rattle.dg_keys.specs.declared.conflict.ConflictKey.{ConflictKey}
use Rattle.dg_keys.specs.Conflicts.{conflict_cmp, conflict_text}
use Rattle.dg_oracle.specs.Verdicts.{verdict}
use Rattle.dg_oracle.specs.declared.verdict.Verdict.{Verdict}
use Rattle.dg_oracle.specs.declared.verdict.Verdict.TheVariants as verdicts
use Rattle.dg_edges.proofs.CommitsSince.{commits_do_as_asked}
use Rattle.dg_wire.specs.declared.refusal.Refusal.TheVariants as refusals
use Rattle.dg_wire.specs.declared.reply.Reply.{Reply}
use Rattle.dg_wire.specs.declared.reply.Reply.TheVariants as replies
use Rattle.dg_zero.specs.declared.entry.Entry.{Entry}
use Rattle.dg_zero.specs.declared.entry.Reason.TheVariants as reasons
use Rattle.dg_zero.specs.declared.entry.Event.TheVariants.{Refused}
use Rattle.dg_zero.specs.declared.offer.Offer.{Offer}
use Rattle.dg_zero.specs.Counters.{next, active, ended, is_active_of}
use Rattle.dg_zero.specs.Legal.{IsLegal}
use Rattle.dg_zero.specs.Listings.{conflict_keys}
use Rattle.dg_zero.specs.Offers.{IsSound, IsMadeOf}
use Rattle.dg_zero.specs.States.{Zero, and_then, commit_of}
use Rattle.dg_zero.specs.Verdicts.{conflict, commits}
use Rattle.dg_zero.specs.Verdicts as zeros
use Rattle.dg_zero.specs.Worlds.{world, schema, schema_at, graph_at}
use Rattle.dg_zero.proofs.Refusals.{verdict_where_idle}
use Rattle.dg_txn.specs.Own.{Transaction}
use Rattle.dg_node.specs.Machine.{Machine, Session}
use Rattle.dg_node.specs.Graphs.{committed_at}
use Rattle.dg_node.specs.Schemas as machines
use Rattle.dg_node.specs.Transactions.{keys_at, refusal_by, clash_of, committed}
use Rattle.dg_node.specs.Committing.{IsOfferOf}
use Rattle.dg_node.specs.Owning.{AreAtRest}
use Rattle.dg_node.specs.Sessions.{IsOpen, session_by, Serves, Sees}
use Rattle.dg_node.specs.State.{alters, asked_by, machine_beside}
use Rattle.dg_node.proofs.Between.{left_between}
use Rattle.dg_node.proofs.CommitLemmas.{refusal_none, no_moving, refused_quiet}
use Rattle.dg_node.proofs.MachineLemmas.{schemas_are}
use Rattle.dg_node.proofs.ReplyLemmas.{committed_is, commit_clashes, commit_spent}
use Rattle.dg_node.proofs.Serving.{finds_own, stands_beside, adds_one, own_ended, ended_serves}
use Rattle.dg_node.proofs.Standing.{is_beside}
use Rattle.dg_node.proofs.StandLemmas.{IsCommittedAs, stand_commit}

abbrev Pair : Type 0
Pair = Reply × Machine

-- what a transaction offers is made over the graph at its start
pub offered : (h : List Entry) (author : ℕ) (txn : Transaction) → IsOpen h author txn → (offer : Offer) → offer.start ≡ txn.start → offer.changes ≡ txn.own → IsMadeOf txn.schema txn.base offer.changes offer.keys offer.parts → IsSound txn.schema txn.base offer.preds offer.keys offer.parts → IsOfferOf h txn offer
offered h author txn o offer start changes made sound = record {
  start_is = start;
  changes_are = changes;
  made_of = subst (λ (d : List PredDef). IsMadeOf d (graph_at h txn.start []) offer.changes offer.keys offer.parts) o.schema_is (subst (λ (g : List Triple). IsMadeOf txn.schema g offer.changes offer.keys offer.parts) o.base_is made);
  sound = subst (λ (d : List PredDef). IsSound d (graph_at h txn.start []) offer.preds offer.keys offer.parts) o.schema_is (subst (λ (g : List Triple). IsSound txn.schema g offer.preds offer.keys offer.parts) o.base_is sound);
}

pub offer_sound : (h : List Entry) (txn : Transaction) (offer : Offer) → IsOfferOf h txn offer → IsSound (schema_at h offer.start) (graph_at h offer.start []) offer.preds offer.keys offer.parts
offer_sound h txn offer is = subst (λ (t : ℕ). IsSound (schema_at h t) (graph_at h t []) offer.preds offer.keys offer.parts) (sym is.start_is) is.sound

pub offer_made_of : (h : List Entry) (txn : Transaction) (offer : Offer) → IsOfferOf h txn offer → IsMadeOf (schema_at h offer.start) (graph_at h offer.start []) offer.changes offer.keys offer.parts
offer_made_of h txn offer is = subst (λ (t : ℕ). IsMadeOf (schema_at h t) (graph_at h t []) offer.changes offer.keys offer.parts) (sym is.start_is) is.made_of

pub offer_active : (h : List Entry) (author : ℕ) (txn : Transaction) (offer : Offer) → IsOpen h author txn → IsOfferOf h txn offer → is_active_of (active h) offer.start author ≡ true
offer_active h author txn offer o is = subst (λ (t : ℕ). is_active_of (active h) t author ≡ true) (sym is.start_is) o.active

-- the refusal of a key
refusal_of_key : (keys : List ConflictKey) (v : Verdict) (key : ConflictKey) (ts : ℕ) → conflict keys v ≡ Some (reasons.Conflict key ts) → refusal_by keys v ≡ Some (refusals.Conflict ts (conflict_text key))
refusal_of_key keys verdicts.Clear key ts e = absurd (cc)
refusal_of_key keys (verdicts.Conflict at t) key ts e = by (slice_get keys at) e
  where
    by : (o : Option ConflictKey) → option_map (λ k. reasons.Conflict k t) o ≡ Some (reasons.Conflict key ts) → option_map (λ k. refusals.Conflict t (conflict_text k)) o ≡ Some (refusals.Conflict ts (conflict_text key))
    by None e = absurd (cc)
    by (Some k) e =
        let same_ts : t ≡ ts = cc in
        let same_key : k ≡ key = cc in
        λ i. Some (refusals.Conflict (same_ts i) (conflict_text (same_key i)))

module _ (author sid : ℕ) (txn : Transaction) (z : Zero) (l : IsLegal z.groups z.history) (o : IsOpen z.history author txn) (offer : Offer) (is : IsOfferOf z.history txn offer) where
  -- its keys are those of the transaction's changes
  its_keys : offer.keys ≡ conflict_keys (schema_at z.history txn.start) (graph_at z.history txn.start []) txn.own
  its_keys = is.made_of.keys_are ∙ ap (conflict_keys (schema_at z.history txn.start) (graph_at z.history txn.start [])) is.changes_are

  -- nothing is moved
  idle_verdict : AreAtRest z.history → zeros.verdict z.history offer.start offer.preds offer.keys ≡ conflict offer.keys (verdict conflict_cmp (commits z.history) offer.start offer.keys)
  idle_verdict rest = verdict_where_idle z.history offer.start offer.preds offer.keys rest

  -- the machine's verdict is the one of Zero
  keys_there : (ss : List Session) → keys_at (machine_beside z ss) txn.start txn.own ≡ offer.keys
  keys_there ss =
      let schema_is : machines.schema_at (alters z.history) txn.start ≡ schema_at z.history txn.start = schemas_are z.history txn.start in
      let graph_is : committed_at (alters z.history) (asked_by z.history) txn.start ≡ graph_at z.history txn.start [] = (stands_beside z ss l).graphs_are txn.start in
      (λ i. conflict_keys (schema_is i) (graph_is i) txn.own) ∙ sym its_keys

  clash_is : (ss : List Session) → clash_of (machine_beside z ss) (session_by sid txn) ≡ refusal_by offer.keys (verdict conflict_cmp (commits z.history) offer.start offer.keys)
  clash_is ss =
      let start_there : txn.start ≡ offer.start = sym is.start_is in
      let keys_are = (stands_beside z ss l).keys_are in
      let there = keys_there ss in
      λ i. refusal_by (there i) (verdict conflict_cmp (keys_are i) (start_there i) (there i))

  clear : AreAtRest z.history → (ss : List Session) → zeros.verdict z.history offer.start offer.preds offer.keys ≡ None → clash_of (machine_beside z ss) (session_by sid txn) ≡ None
  clear rest ss h = clash_is ss ∙ refusal_none offer.keys (verdict conflict_cmp (commits z.history) offer.start offer.keys) (sym (idle_verdict rest) ∙ h)

  clashes : AreAtRest z.history → (ss : List Session) (key : ConflictKey) (ts : ℕ) → zeros.verdict z.history offer.start offer.preds offer.keys ≡ Some (reasons.Conflict key ts) → clash_of (machine_beside z ss) (session_by sid txn) ≡ Some (refusals.Conflict ts (conflict_text key))
  clashes rest ss key ts h = clash_is ss ∙ refusal_of_key offer.keys (verdict conflict_cmp (commits z.history) offer.start offer.keys) key ts (sym (idle_verdict rest) ∙ h)

  -- where it is clear, its parts do what its changes do
  committed_as : (ss : List Session) → zeros.verdict z.history offer.start offer.preds offer.keys ≡ None → next z.history < 2 ^ 62 → IsCommittedAs z ss (machine_beside z ss) (stands_beside z ss l) author txn.start txn.own offer
  committed_as ss h lt = record {
    legal = l;
    start_is = is.start_is;
    changes_same = is.changes_are;
    start_drawn = o.drawn;
    keys_same = its_keys;
    parts_do = ap (after_changes (schema z.history) (world z.history).graph) (sym is.changes_are)
        ∙ commits_do_as_asked z.groups z.history author txn.start offer.preds offer.keys offer.changes (record { ts = next z.history; fresh = []; parts = offer.parts }) l (record {
          active = o.active;
          ts = refl;
          drawn = lt;
          no_tablet = refl;
          clear = subst (λ (n : ℕ). zeros.verdict z.history n offer.preds offer.keys ≡ None) is.start_is h;
          sound = is.sound;
          made_of = is.made_of;
        });
  }

  -- ---- it is committed

  pub done_serves : (ts : ℕ) (w : Zero) → w ≡ and_then z author (commit_of offer ts) → ts ≡ next z.history → zeros.verdict z.history offer.start offer.preds offer.keys ≡ None → next z.history < 2 ^ 62 → txn.own ≢ [] → Serves author sid (Some txn) None (λ m n. ◌≡◌ {A = Pair} (committed m sid) (replies.Commit sid ts, n)) z w
  done_serves ts w then ts_is none lt some = record {
    adds = adds_one author z w (commit_of offer ts) then;
    starts = own_ended author txn z w (commit_of offer ts) l then (λ starts. ap (ended starts) is.start_is);
    machine = λ rest front back a b.
        let ss = front ++ session_by sid txn ∷ back in
        let m = machine_beside z ss in
        let left : filter (λ (s : Session). not (s.sid == sid)) ss ≡ front ++ back = left_between sid front back (session_by sid txn) refl a b in
        committed_is m sid (session_by sid txn) (finds_own sid txn z front back a) refl ts some (clear rest ss none) lt ts_is
        ∙ ap (λ (n : Machine). (replies.Commit sid ts, n))
        (is_beside (and_then z author (commit_of offer ts)) (front ++ back) _ (stand_commit z ss m (stands_beside z ss l) author offer ts txn.start txn.own (front ++ back) _ ts_is (committed_as ss none lt) left)
        ∙ ap (λ (y : Zero). machine_beside y (front ++ back)) (sym then));
  }

  -- ---- it conflicts

  pub conflict_serves : (key : ConflictKey) (ts : ℕ) (text : List ℕ) (w : Zero) → w ≡ and_then z author (Refused offer.start (reasons.Conflict key ts)) → text ≡ conflict_text key → zeros.verdict z.history offer.start offer.preds offer.keys ≡ Some (reasons.Conflict key ts) → txn.own ≢ [] → Serves author sid (Some txn) None (λ m n. ◌≡◌ {A = Pair} (committed m sid) (replies.Refused (refusals.Conflict ts text), n)) z w
  conflict_serves key ts text w then text_is clash some =
      let named = sym text_is in
      ended_serves author sid txn _ z w (Refused offer.start (reasons.Conflict key ts)) l then (refused_quiet offer.start (reasons.Conflict key ts)) refl (λ uid. refl) (λ starts. ap (ended starts) is.start_is)
      (λ rest ss found. commit_clashes (machine_beside z ss) sid (session_by sid txn) found refl (refusals.Conflict ts text) some (clashes rest ss key ts clash ∙ (λ i. Some (refusals.Conflict ts (named i)))))

  -- ---- its tablet is held

  pub moving_serves : (pred : List ℕ) (w : Zero) → w ≡ and_then z author (Refused offer.start (reasons.Moving pred)) → zeros.verdict z.history offer.start offer.preds offer.keys ≡ Some (reasons.Moving pred) → Serves author sid (Some txn) None (λ m n. ◌≡◌ {A = Pair} (committed m sid) (replies.Refused (refusals.Moving pred), n)) z w
  moving_serves pred w then held =
      ended_serves author sid txn _ z w (Refused offer.start (reasons.Moving pred)) l then (refused_quiet offer.start (reasons.Moving pred)) refl (λ uid. refl) (λ starts. ap (ended starts) is.start_is)
      (λ rest ss found. absurd (no_moving offer.keys (verdict conflict_cmp (commits z.history) offer.start offer.keys) pred (sym (idle_verdict rest) ∙ held)))

  -- ---- timestamps are spent

  pub spent_sees : (spent : ℕ) → zeros.verdict z.history offer.start offer.preds offer.keys ≡ None → spent ≡ next z.history → next z.history ≡ 2 ^ 62 → txn.own ≢ [] → AreAtRest z.history → Sees sid (Some txn) (λ m n. ◌≡◌ {A = Pair} (committed m sid) (replies.Refused (refusals.TimestampsSpent spent), n)) z
  spent_sees spent none is_next end some rest = λ front back a b.
      let ss = front ++ session_by sid txn ∷ back in
      commit_spent (machine_beside z ss) sid (session_by sid txn) (finds_own sid txn z front back a) refl spent some (clear rest ss none) end is_next
