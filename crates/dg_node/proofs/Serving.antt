-- What a request of one session makes of the history and of the machine, beside sessions of others.
use Rattle.std.proofs.Common.{◌≡◌, ℕ, ◌+◌, ◌<◌, ◌^◌, Bool, true, false, cond, List, [], ◌∷◌, ◌++◌, Option, Some, None, inl, inr, refl, ap, subst, sym, ◌∙◌, arith}
use Rattle.std.specs.Prelude.{◌==◌, filter, not}
use Rattle.std.proofs.lemmas.List.{append-nil}
use Rattle.dg_wire.specs.declared.reply.Reply.{Reply}
use Rattle.dg_wire.specs.declared.reply.Reply.TheVariants as replies
use Rattle.dg_zero.specs.declared.entry.Event.{Event}
use Rattle.dg_zero.specs.declared.entry.Event.TheVariants.{Begin, End, Look}
use Rattle.dg_zero.specs.Counters.{Started, next, next_uid, next_uid_after, drawn, active, active_after, ended}
use Rattle.dg_zero.specs.Legal.{IsLegal}
use Rattle.dg_zero.specs.States.{Zero, and_then}
use Rattle.dg_zero.proofs.Histories.{active_push}
use Rattle.dg_txn.specs.Own.{Transaction}
use Rattle.dg_node.specs.Clusters.{AreOthers, Meets}
use Rattle.dg_node.specs.Machine.{Machine, Session, session_of, without_session}
use Rattle.dg_node.specs.Owning.{AreAtRest}
use Rattle.dg_node.specs.Sessions.{own_session, own_start, between, placed, HaveOthers, Adds, Serves, Draws, Drops, Sees}
use Rattle.dg_node.specs.State.{alters, asked_by, machine_beside}
use Rattle.dg_node.specs.Transactions.{begun}
use Rattle.dg_node.proofs.Agreeing.{agree}
use Rattle.dg_node.proofs.Between.{found_between, none_found, left_between, both_others, ended_between}
use Rattle.dg_node.proofs.CommitLemmas.{begin_quiet, end_quiet, look_quiet}
use Rattle.dg_node.proofs.Opens.{opened_by}
use Rattle.dg_node.proofs.ReplyLemmas.{begun_is}
use Rattle.dg_node.proofs.Standing.{StandBeside, is_beside}
use Rattle.dg_node.proofs.StandLemmas.{IsQuiet, stand_quiet}

abbrev Pair : Type 0
Pair = Reply × Machine

-- the machine of a legal history agrees with it
pub stands_beside : (z : Zero) (ss : List Session) → IsLegal z.groups z.history → StandBeside z ss (machine_beside z ss)
stands_beside z ss l =
    let s = agree z.groups z.history l in
    record {
      groups_are = refl;
      next_is = refl;
      uid_is = refl;
      alters_are = refl;
      commits_are = refl;
      sessions_are = refl;
      keys_are = s.keys_are;
      drawn = s.drawn;
      graphs_are = s.graphs_are;
    }

-- ---- a call that meets nothing of others, or appends nothing

pub meets_by : (takes : ℕ → Bool) (z w : Zero) (one other : Zero → Zero → Type 0) → ((met : Zero) → AreOthers takes z met → one met w → other met w) → Meets takes z w one → Meets takes z w other
meets_by takes z w one other f m = record { met = m.met; others = m.others; goes = f m.met m.others m.goes }

pub adds_nothing : (author : ℕ) (z : Zero) → Adds author z z
adds_nothing author z = record { groups_are = refl; entries = []; history_is = sym (append-nil z.history); own = tt }

pub adds_one : (author : ℕ) (z w : Zero) (event : Event) → w ≡ and_then z author event → Adds author z w
adds_one author z w event then = record {
  groups_are = ap (λ (y : Zero). y.groups) then;
  entries = (record { author = author; event = event }) ∷ [];
  history_is = ap (λ (y : Zero). y.history) then;
  own = (refl, tt);
}

stay_placed : {X : Type 0} (f : Option Transaction → List X) (session : Option Transaction) (front back : List X) → placed f session session front back ≡ between front (f session) back
stay_placed f None front back = refl
stay_placed f (Some txn) front back = refl

pub serves_nothing : (author sid : ℕ) (session : Option Transaction) (step : Machine → Machine → Type 0) (z : Zero) → (AreAtRest z.history → Sees sid session step z) → Serves author sid session session step z z
serves_nothing author sid session step z sees = record {
  adds = adds_nothing author z;
  starts = λ front back e. e ∙ sym (stay_placed (own_start author) session front back);
  machine = λ rest front back a b. subst (λ (ss : List Session). step (machine_beside z (between front (own_session sid session) back)) (machine_beside z ss)) (sym (stay_placed (own_session sid) session front back)) (sees rest front back a b);
}

-- ---- one event that neither alters nor commits

-- the machine after it
pub quiet_beside : (z : Zero) (by : ℕ) (event : Event) (ss ps : List Session) (later uid : ℕ) → IsLegal z.groups z.history → IsQuiet event → later ≡ next z.history + drawn event → uid ≡ next_uid_after (next_uid z.history) event → record { groups = z.groups; next = later; next_uid = uid; alters = alters z.history; commits = asked_by z.history; sessions = ps } ≡ machine_beside (and_then z by event) ps
quiet_beside z by event ss ps later uid l q is there =
    is_beside (and_then z by event) ps _ (stand_quiet z ss (machine_beside z ss) (stands_beside z ss l) by event ps ps later uid q is there refl)

pub active_same : (z w : Zero) (by : ℕ) (event : Event) → w ≡ and_then z by event → active w.history ≡ active_after (active z.history) by event
active_same z w by event then = ap (λ (y : Zero). active y.history) then ∙ active_push z.history (record { author = by; event = event })

-- an event that leaves the starts: the machine has maybe another next node
pub leaves_starts : (author sid : ℕ) (session : Option Transaction) (z w : Zero) (event : Event) → w ≡ and_then z author event → ((starts : List Started) → active_after starts author event ≡ starts) → (front back : List Started) → active z.history ≡ between front (own_start author session) back → active w.history ≡ placed (own_start author) session session front back
leaves_starts author sid session z w event then stay front back e =
    active_same z w author event then ∙ (stay (active z.history) ∙ (e ∙ sym (stay_placed (own_start author) session front back)))

-- a look
pub look_beside : (z w : Zero) (by : ℕ) (ss : List Session) → IsLegal z.groups z.history → w ≡ and_then z by Look → machine_beside w ss ≡ machine_beside z ss
look_beside z w by ss l then = ap (λ (y : Zero). machine_beside y ss) then ∙ sym (quiet_beside z by Look ss ss (next z.history) (next_uid z.history) l look_quiet (omega arith) refl)

pub looked_serves : (author sid : ℕ) (session : Option Transaction) (step : Machine → Machine → Type 0) (z w : Zero) → IsLegal z.groups z.history → w ≡ and_then z author Look → (AreAtRest z.history → Sees sid session step z) → Serves author sid session session step z w
looked_serves author sid session step z w l then sees = record {
  adds = adds_one author z w Look then;
  starts = leaves_starts author sid session z w Look then (λ starts. refl);
  machine = λ rest front back a b.
      let ss = between front (own_session sid session) back in
      subst (λ (ps : List Session). step (machine_beside z ss) (machine_beside w ps)) (sym (stay_placed (own_session sid) session front back))
      (subst (λ (n : Machine). step (machine_beside z ss) n) (sym (look_beside z w author ss l then)) (sees rest front back a b));
}

-- ---- a transaction begins

module _ (author sid : ℕ) (z : Zero) (l : IsLegal z.groups z.history) where
  begun_here : (start : ℕ) → next z.history < 2 ^ 62 → start ≡ next z.history → Serves author sid None (Some (opened_by author z.history)) (λ m n. ◌≡◌ {A = Pair} (begun m sid) (replies.Begin sid start, n)) z (and_then z author (Begin (next z.history)))
  begun_here start lt is = record {
    adds = adds_one author z (and_then z author (Begin (next z.history))) (Begin (next z.history)) refl;
    starts = λ front back e. active_push z.history (record { author = author; event = Begin (next z.history) }) ∙ ap (λ (ts : List Started). ts ++ (record { start = next z.history; author = author }) ∷ []) e;
    machine = λ rest front back a b.
        let ss = front ++ back in
        let m = machine_beside z ss in
        begun_is m sid start (none_found sid ss (both_others sid front back a b)) lt is
        ∙ ap (λ (n : Machine). (replies.Begin sid start, n)) (quiet_beside z author (Begin (next z.history)) ss (ss ++ (record { sid = sid; start = next z.history; own = [] }) ∷ []) (next z.history + 1) (next_uid z.history) l (begin_quiet (next z.history)) (omega arith) refl);
  }

  pub begun_serves : (start : ℕ) (w : Zero) (txn : Transaction) → next z.history < 2 ^ 62 → start ≡ next z.history → txn ≡ opened_by author z.history → w ≡ and_then z author (Begin (next z.history)) → Serves author sid None (Some txn) (λ m n. ◌≡◌ {A = Pair} (begun m sid) (replies.Begin sid start, n)) z w
  begun_serves start w txn lt is txn_is then =
      subst (λ (y : Zero). Serves author sid None (Some txn) (λ m n. ◌≡◌ {A = Pair} (begun m sid) (replies.Begin sid start, n)) z y) (sym then)
      (subst (λ (t : Transaction). Serves author sid None (Some t) (λ m n. ◌≡◌ {A = Pair} (begun m sid) (replies.Begin sid start, n)) z (and_then z author (Begin (next z.history)))) (sym txn_is) (begun_here start lt is))

  -- memory was wanting, before anything was drawn
  pub draws_nothing : (w : Zero) → w ≡ and_then z author Look → Draws author sid None z w
  draws_nothing w then = record {
    adds = adds_one author z w Look then;
    fresh = tt;
    starts = active_same z w author Look then ∙ sym (append-nil (active z.history));
    machine = λ ss. inl (look_beside z w author ss l then);
  }

  pub draws_none : Draws author sid None z z
  draws_none = record {
    adds = adds_nothing author z;
    fresh = tt;
    starts = sym (append-nil (active z.history));
    machine = λ ss. inl refl;
  }

  pub drops_none : Drops author None z z
  drops_none = record { adds = adds_nothing author z; starts = refl; machine = λ ss. refl }

  -- or behind the draw
  pub draws_one : (w : Zero) → w ≡ and_then z author (Begin (next z.history)) → Draws author sid (Some (next z.history)) z w
  draws_one w then = record {
    adds = adds_one author z w (Begin (next z.history)) then;
    fresh = refl;
    starts = active_same z w author (Begin (next z.history)) then;
    machine = λ ss. inr (ap (λ (y : Zero). machine_beside y ss) then ∙ sym (quiet_beside z author (Begin (next z.history)) ss ss (next z.history + 1) (next_uid z.history) l (begin_quiet (next z.history)) (omega arith) refl));
  }

  pub drops_one : (w : Zero) (start : ℕ) (was : Bool) → was ≡ true → w ≡ and_then z author (cond was (End start) Look) → Drops author (Some start) z w
  drops_one w start false was then = absurd (cc)
  drops_one w start true was then = record {
    adds = adds_one author z w (End start) then;
    starts = active_same z w author (End start) then;
    machine = λ ss. ap (λ (y : Zero). machine_beside y ss) then ∙ sym (quiet_beside z author (End start) ss ss (next z.history) (next_uid z.history) l (end_quiet start) (omega arith) refl);
  }

-- ---- a transaction ends

-- the session is found, as it is there
abbrev pub Finds : ℕ → Transaction → Machine → Type 0
Finds sid txn m = session_of m sid ≡ Some (record { sid = sid; start = txn.start; own = txn.own })

pub finds_own : (sid : ℕ) (txn : Transaction) (z : Zero) (front back : List Session) → HaveOthers sid front → Finds sid txn (machine_beside z (between front (own_session sid (Some txn)) back))
finds_own sid txn z front back a = found_between sid front back (record { sid = sid; start = txn.start; own = txn.own }) refl a

-- the starts without its own
pub own_ended : (author : ℕ) (txn : Transaction) (z w : Zero) (event : Event) → IsLegal z.groups z.history → w ≡ and_then z author event → ((starts : List Started) → active_after starts author event ≡ ended starts txn.start) → (front back : List Started) → active z.history ≡ between front (own_start author (Some txn)) back → active w.history ≡ front ++ back
own_ended author txn z w event l then ends front back e =
    active_same z w author event then ∙ (ends (active z.history) ∙ ended_between z.groups z.history l front back (record { start = txn.start; author = author }) e)

-- without its changes
pub ended_serves : (author sid : ℕ) (txn : Transaction) (step : Machine → Machine → Type 0) (z w : Zero) (event : Event) → IsLegal z.groups z.history → w ≡ and_then z author event → IsQuiet event → drawn event ≡ 0 → ((uid : ℕ) → next_uid_after uid event ≡ uid) → ((starts : List Started) → active_after starts author event ≡ ended starts txn.start) → (AreAtRest z.history → (ss : List Session) → Finds sid txn (machine_beside z ss) → step (machine_beside z ss) (without_session (machine_beside z ss) sid)) → Serves author sid (Some txn) None step z w
ended_serves author sid txn step z w event l then q d u ends steps = record {
  adds = adds_one author z w event then;
  starts = own_ended author txn z w event l then ends;
  machine = λ rest front back a b.
      let own : Session = record { sid = sid; start = txn.start; own = txn.own } in
      let ss = front ++ own ∷ back in
      let left : filter (λ (s : Session). not (s.sid == sid)) ss ≡ front ++ back = left_between sid front back own refl a b in
      let there : machine_beside w (front ++ back) ≡ without_session (machine_beside z ss) sid =
      ap (λ (y : Zero). machine_beside y (front ++ back)) then
      ∙ (sym (quiet_beside z author event ss (front ++ back) (next z.history) (next_uid z.history) l q (omega (arith, d)) (sym (u (next_uid z.history))))
      ∙ ap (λ (ps : List Session). record { groups = z.groups; next = next z.history; next_uid = next_uid z.history; alters = alters z.history; commits = asked_by z.history; sessions = ps }) (sym left)) in
      subst (λ (n : Machine). step (machine_beside z ss) n) (sym there) (steps rest ss (finds_own sid txn z front back a));
}
