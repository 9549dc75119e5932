-- Each call of the engine, by what the handler of its session says.
use Rattle.std.proofs.Common.{◌≡◌, ◌≢◌, ℕ, true, false, List, [], ◌++◌, ◌∷◌, Option, Some, None, is_some, Ok, Err, length, set, refl, ap, subst, sym, ◌∙◌}
use Rattle.std.specs.Prelude.{◌==◌, position, slice_get, Result, IfOk, OnErr, IsSomeAnd}
use Rattle.std.specs.List.{AllByRecursion}
use Rattle.dg_wire.specs.declared.refusal.Refusal.TheVariants as refusals
use Rattle.dg_wire.specs.declared.reply.Reply.{Reply}
use Rattle.dg_wire.specs.declared.reply.Reply.TheVariants as replies
use Rattle.dg_zero.specs.Legal.{IsLegal}
use Rattle.dg_zero.specs.States.{Zero}
use Rattle.dg_txn.specs.Own.{Transaction}
use Rattle.dg_node.specs.declared.engine.Slot.{Slot}
use Rattle.dg_node.specs.Held.{Held}
use Rattle.dg_node.specs.Kept.{unless_open, with_opened, IsKept}
use Rattle.dg_node.specs.Machine.{Machine, session_of}
use Rattle.dg_node.specs.Owning.{AreAtRest}
use Rattle.dg_node.specs.Clusters.{Meets}
use Rattle.dg_node.specs.Sessions.{IsSession, Serves, Sees, Alters}
use Rattle.dg_node.specs.State.{machine_of, Leads, Stays}
use Rattle.dg_node.specs.Transactions.{begun, HasChanges}
use Rattle.dg_node.proofs.Alone.{met_alone}
use Rattle.dg_node.proofs.OneAmong.{Around, around, none_has, set_is}
use Rattle.dg_node.proofs.ReplyLemmas.{begun_already}
use Rattle.dg_node.proofs.Sparing.{altered_kept, altered_leads}
use Rattle.dg_node.proofs.Slots.{slot_of, held_by, left_of, open_then, found_then, none_then, seen_leads, unseen_leads, opened_kept, opened_leads, served_kept, served_leads, slot_at, left_is, changed_is}

abbrev Pair : Type 0
Pair = Reply × Machine

-- ---- where a session stands

pub none_at : (slots seen : List Slot) (sid : ℕ) (found : Option ℕ) → seen ≡ slots → found ≡ position (λ (s : Slot). s.sid == sid) seen → found ≡ None → AllByRecursion (λ (s : Slot). s.sid ≢ sid) slots
none_at slots seen sid found same found_is none =
    none_has (λ (s : Slot). s) (λ (s : Slot). s.sid) sid slots (ap (position (λ (s : Slot). s.sid == sid)) (sym same) ∙ (sym found_is ∙ none))

pub some_at : (slots seen : List Slot) (sid : ℕ) (found : Option ℕ) (place : ℕ) → seen ≡ slots → found ≡ position (λ (s : Slot). s.sid == sid) seen → found ≡ Some place → Around (λ (s : Slot). s.sid) sid slots place
some_at slots seen sid found place same found_is some =
    around (λ (s : Slot). s.sid) sid slots place (ap (position (λ (s : Slot). s.sid == sid)) (sym same) ∙ (sym found_is ∙ some))

pub not_some : (found : Option ℕ) → is_some found ≡ false → found ≡ None
not_some None e = refl
not_some (Some place) e = absurd (cc)

-- ---- a session without a slot

module _ (z : Zero) (slots : List Slot) (sid : ℕ) (k : IsKept z slots) (none : AllByRecursion (λ (s : Slot). s.sid ≢ sid) slots) where
  -- what the machine does where it finds no session
  pub missing_leads : (step : Machine → Machine → Type 0) → ((m : Machine) → session_of m sid ≡ None → step m m) → Leads (held_by z slots) step (held_by z slots)
  missing_leads step f = record { leads = f (machine_of (held_by z slots)) (none_then z slots sid k none) }

-- ---- a session in its slot

module _ (z : Zero) (slots : List Slot) (sid place : ℕ) (k : IsKept z slots) (a : Around (λ (s : Slot). s.sid) sid slots place) where
  -- it has a transaction already
  pub already_leads : Leads (held_by z slots) (λ m n. ◌≡◌ {A = Pair} (begun m sid) (replies.Refused (refusals.SessionOpen sid), n)) (held_by z slots)
  already_leads =
      let t = slot_at z slots sid place k a in
      record { leads = begun_already (machine_of (held_by z slots)) sid (ap is_some (found_then z slots a.before a.after sid t.0 k t.2)) }

pub already_found : (z : Zero) (slots seen : List Slot) (sid : ℕ) (k : IsKept z slots) (found : Option ℕ) → seen ≡ slots → found ≡ position (λ (s : Slot). s.sid == sid) seen → is_some found ≡ true → Leads (held_by z slots) (λ m n. ◌≡◌ {A = Pair} (begun m sid) (replies.Refused (refusals.SessionOpen sid), n)) (held_by z slots)
already_found z slots seen sid k None same found_is e = absurd (cc)
already_found z slots seen sid k (Some place) same found_is e = already_leads z slots sid place k (some_at slots seen sid (Some place) place same found_is refl)

module _ (z : Zero) (slots : List Slot) (sid place : ℕ) (k : IsKept z slots) (a : Around (λ (s : Slot). s.sid) sid slots place) where
  module _ (d : Slot) (seen : d ≡ a.it) where
    -- what it has there
    txn_there : (txn : Transaction) × (d.txn ≡ Some txn) × (slots ≡ a.before ++ slot_of sid (Some txn) ∷ a.after)
    txn_there = let t = slot_at z slots sid place k a in (t.0, ap (λ (s : Slot). s.txn) seen ∙ t.1, t.2)

    pub session_there : IsSession z 0 d.txn
    session_there = let t = txn_there in subst (IsSession z 0) (sym t.1) (open_then z slots a.before a.after sid t.0 k t.2)

    pub sees_there : (step : Machine → Machine → Type 0) → Sees sid d.txn step z → Leads (held_by z slots) step (held_by z slots)
    sees_there step sees = let t = txn_there in seen_leads z slots a.before a.after sid t.0 k t.2 step (subst (λ (o : Option Transaction). Sees sid o step z) t.1 sees)

    pub changes_there : IsSomeAnd d.txn (λ txn. txn.own ≢ []) → HasChanges (machine_of (held_by z slots)) sid
    changes_there some =
        let t = txn_there in
        subst (λ o. IsSomeAnd o (λ session. session.own ≢ [])) (sym (found_then z slots a.before a.after sid t.0 k t.2))
        (subst (λ (o : Option Transaction). IsSomeAnd o (λ txn. txn.own ≢ [])) t.1 some)

    module _ (w : Zero) (new : Option Transaction) (step : Machine → Machine → Type 0) (m : Meets (λ n. true) z w (Serves 0 sid d.txn new step)) where
      serves : (old : Option Transaction) → d.txn ≡ old → Serves 0 sid old new step z w
      serves old e = subst (λ (o : Option Transaction). Serves 0 sid o new step z w) e (met_alone z w (Serves 0 sid d.txn new step) m)

      slots_then : set slots place (slot_of d.sid new) ≡ a.before ++ slot_of sid new ∷ a.after
      slots_then =
          let number : d.sid ≡ sid = ap (λ (s : Slot). s.sid) seen ∙ a.is in
          ap (λ (n : ℕ). set slots place (slot_of n new)) number ∙ set_is (λ (s : Slot). s.sid) sid slots place a (slot_of sid new)

      -- it may have ended
      ended_slots : unless_open (set slots place (slot_of d.sid new)) place (slice_get (set slots place (slot_of d.sid new)) place) ≡ left_of a.before a.after sid new
      ended_slots =
          let whole = slots_then in
          let at : place ≡ length a.before = sym a.at in
          (λ i. unless_open (whole i) (at i) (slice_get (whole i) (at i))) ∙ left_is a.before a.after sid new

      pub ended_kept : IsLegal w.groups w.history → IsSession w 0 new → IsKept w (unless_open (set slots place (slot_of d.sid new)) place (slice_get (set slots place (slot_of d.sid new)) place))
      ended_kept legal session =
          let t = txn_there in
          subst (IsKept w) (sym ended_slots) (served_kept z slots a.before a.after sid t.0 k t.2 w new step (serves (Some t.0) t.1) legal session)

      pub ended_leads : AreAtRest z.history → Leads (held_by z slots) step (held_by w (unless_open (set slots place (slot_of d.sid new)) place (slice_get (set slots place (slot_of d.sid new)) place)))
      ended_leads rest =
          let t = txn_there in
          subst (λ (l : List Slot). Leads (held_by z slots) step (held_by w l)) (sym ended_slots) (served_leads z slots a.before a.after sid t.0 k t.2 w new step (serves (Some t.0) t.1) rest)

      -- or it stays open
      module _ (stays : is_some new ≡ is_some d.txn) where
        some_new : is_some new ≡ true
        some_new = let t = txn_there in stays ∙ ap is_some t.1

        stayed_slots : set slots place (slot_of d.sid new) ≡ left_of a.before a.after sid new
        stayed_slots = slots_then ∙ changed_is a.before a.after sid new some_new

        pub stayed_kept : IsLegal w.groups w.history → IsSession w 0 new → IsKept w (set slots place (slot_of d.sid new))
        stayed_kept legal session =
            let t = txn_there in
            subst (IsKept w) (sym stayed_slots) (served_kept z slots a.before a.after sid t.0 k t.2 w new step (serves (Some t.0) t.1) legal session)

        pub stayed_leads : AreAtRest z.history → Leads (held_by z slots) step (held_by w (set slots place (slot_of d.sid new)))
        stayed_leads rest =
            let t = txn_there in
            subst (λ (l : List Slot). Leads (held_by z slots) step (held_by w l)) (sym stayed_slots) (served_leads z slots a.before a.after sid t.0 k t.2 w new step (serves (Some t.0) t.1) rest)

-- ---- by what a call answered, or that memory was wanting

module _ {E : Type 0} (z : Zero) (slots : List Slot) (sid place : ℕ) (k : IsKept z slots) (a : Around (λ (s : Slot). s.sid) sid slots place) (d : Slot) (seen : d ≡ a.it) where
  pub query_leads : (r : Result Reply E) (step : Reply → Machine → Machine → Type 0) → IfOk r (λ p. Sees sid d.txn (step p) z) → IfOk r (λ p. Leads (held_by z slots) (step p) (held_by z slots))
  query_leads (Ok p) step sees = sees_there z slots sid place k a d seen (step p) sees
  query_leads (Err x) step sees = tt

  pub wants_there : (r : Result Reply E) → OnErr r (IsSomeAnd d.txn (λ txn. txn.own ≢ [])) → OnErr r (HasChanges (machine_of (held_by z slots)) sid)
  wants_there (Ok p) some = tt
  wants_there (Err x) some = changes_there z slots sid place k a d seen some

  module _ (w : Zero) (new : Option Transaction) (ok : Reply → Machine → Machine → Type 0) (err : Machine → Machine → Type 0) where
    pub ended_kept_by : (r : Result Reply E) → IfOk r (λ p. Meets (λ n. true) z w (Serves 0 sid d.txn new (ok p))) → OnErr r (Meets (λ n. true) z w (Serves 0 sid d.txn new err)) → IsLegal w.groups w.history → IsSession w 0 new → IsKept w (unless_open (set slots place (slot_of d.sid new)) place (slice_get (set slots place (slot_of d.sid new)) place))
    ended_kept_by (Ok p) done wanting legal session = ended_kept z slots sid place k a d seen w new (ok p) done legal session
    ended_kept_by (Err x) done wanting legal session = ended_kept z slots sid place k a d seen w new err wanting legal session

    pub ended_leads_by : (r : Result Reply E) → IfOk r (λ p. Meets (λ n. true) z w (Serves 0 sid d.txn new (ok p))) → AreAtRest z.history → IfOk r (λ p. Leads (held_by z slots) (ok p) (held_by w (unless_open (set slots place (slot_of d.sid new)) place (slice_get (set slots place (slot_of d.sid new)) place))))
    ended_leads_by (Ok p) done rest = ended_leads z slots sid place k a d seen w new (ok p) done rest
    ended_leads_by (Err x) done rest = tt

    pub ended_spares_by : (r : Result Reply E) → OnErr r (Meets (λ n. true) z w (Serves 0 sid d.txn new err)) → AreAtRest z.history → OnErr r (Leads (held_by z slots) err (held_by w (unless_open (set slots place (slot_of d.sid new)) place (slice_get (set slots place (slot_of d.sid new)) place))))
    ended_spares_by (Ok p) wanting rest = tt
    ended_spares_by (Err x) wanting rest = ended_leads z slots sid place k a d seen w new err wanting rest

    module _ (stays : is_some new ≡ is_some d.txn) where
      pub stayed_kept_by : (r : Result Reply E) → IfOk r (λ p. Meets (λ n. true) z w (Serves 0 sid d.txn new (ok p))) → OnErr r (Meets (λ n. true) z w (Serves 0 sid d.txn new err)) → IsLegal w.groups w.history → IsSession w 0 new → IsKept w (set slots place (slot_of d.sid new))
      stayed_kept_by (Ok p) done wanting legal session = stayed_kept z slots sid place k a d seen w new (ok p) done stays legal session
      stayed_kept_by (Err x) done wanting legal session = stayed_kept z slots sid place k a d seen w new err wanting stays legal session

      pub stayed_leads_by : (r : Result Reply E) → IfOk r (λ p. Meets (λ n. true) z w (Serves 0 sid d.txn new (ok p))) → AreAtRest z.history → IfOk r (λ p. Leads (held_by z slots) (ok p) (held_by w (set slots place (slot_of d.sid new))))
      stayed_leads_by (Ok p) done rest = stayed_leads z slots sid place k a d seen w new (ok p) done stays rest
      stayed_leads_by (Err x) done rest = tt

      pub stayed_spares_by : (r : Result Reply E) → OnErr r (Meets (λ n. true) z w (Serves 0 sid d.txn new err)) → AreAtRest z.history → OnErr r (Leads (held_by z slots) err (held_by w (set slots place (slot_of d.sid new))))
      stayed_spares_by (Ok p) wanting rest = tt
      stayed_spares_by (Err x) wanting rest = stayed_leads z slots sid place k a d seen w new err wanting stays rest

-- ---- an alter

module _ {E : Type 0} (z w : Zero) (slots : List Slot) (step : Reply → Machine → Machine → Type 0) where
  pub alter_kept_by : (r : Result Reply E) → IfOk r (λ p. Meets (λ n. true) z w (Alters 0 (step p))) → OnErr r (Meets (λ n. true) z w (Alters 0 (λ m n. n ≡ m))) → IsLegal w.groups w.history → IsKept z slots → IsKept w slots
  alter_kept_by (Ok p) done wanting legal k = altered_kept z w slots (step p) (met_alone z w (Alters 0 (step p)) done) legal k
  alter_kept_by (Err x) done wanting legal k = altered_kept z w slots (λ m n. n ≡ m) (met_alone z w (Alters 0 (λ m n. n ≡ m)) wanting) legal k

  pub alter_leads_by : (r : Result Reply E) → IfOk r (λ p. Meets (λ n. true) z w (Alters 0 (step p))) → AreAtRest z.history → IsKept z slots → IfOk r (λ p. Leads (held_by z slots) (step p) (held_by w slots))
  alter_leads_by (Ok p) done rest k = altered_leads z w slots (step p) (met_alone z w (Alters 0 (step p)) done) rest k
  alter_leads_by (Err x) done rest k = tt

  pub alter_stays_by : (r : Result Reply E) → OnErr r (Meets (λ n. true) z w (Alters 0 (λ m n. n ≡ m))) → AreAtRest z.history → IsKept z slots → OnErr r (Stays (held_by z slots) (held_by w slots))
  alter_stays_by (Ok p) wanting rest k = tt
  alter_stays_by (Err x) wanting rest k = (altered_leads z w slots (λ m n. n ≡ m) (met_alone z w (Alters 0 (λ m n. n ≡ m)) wanting) rest k).leads

-- the engine stays where its machine does
pub stays_by : {A E : Type 0} (r : Result A E) (before after : Held) → OnErr r (Leads before (λ m n. n ≡ m) after) → OnErr r (Stays before after)
stays_by (Ok p) before after leads = tt
stays_by (Err x) before after leads = leads.leads

-- a query of a session without a slot
pub unseen_by : {E : Type 0} (z : Zero) (slots : List Slot) (sid : ℕ) (k : IsKept z slots) (none : AllByRecursion (λ (s : Slot). s.sid ≢ sid) slots) (r : Result Reply E) (step : Reply → Machine → Machine → Type 0) → IfOk r (λ p. Sees sid None (step p) z) → IfOk r (λ p. Leads (held_by z slots) (step p) (held_by z slots))
unseen_by z slots sid k none (Ok p) step sees = unseen_leads z slots sid k none (step p) sees
unseen_by z slots sid k none (Err x) step sees = tt

-- ---- a begin

module _ (z w : Zero) (slots : List Slot) (sid : ℕ) (k : IsKept z slots) (none : AllByRecursion (λ (s : Slot). s.sid ≢ sid) slots) (old new : Option Transaction) (old_is : old ≡ None) (step : Machine → Machine → Type 0) (m : Meets (λ n. true) z w (Serves 0 sid old new step)) where
  from_none : Serves 0 sid None new step z w
  from_none = subst (λ (o : Option Transaction). Serves 0 sid o new step z w) old_is (met_alone z w (Serves 0 sid old new step) m)

  pub begun_kept : IsLegal w.groups w.history → IsSession w 0 new → IsKept w (with_opened slots sid new)
  begun_kept legal session = opened_kept z slots sid k none w new step from_none legal session

  pub begun_leads : AreAtRest z.history → Leads (held_by z slots) step (held_by w (with_opened slots sid new))
  begun_leads rest = opened_leads z slots sid k none w new step from_none rest
