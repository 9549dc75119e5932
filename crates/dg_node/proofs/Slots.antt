-- The table of sessions: what a request of one of them leaves of all.
use Rattle.std.proofs.Common.{◌≡◌, ◌≢◌, ℕ, Bool, true, false, List, [], ◌∷◌, ◌++◌, Option, Some, None, is_some, length, refl, ap, subst, sym, ◌∙◌, arith}
use Rattle.std.specs.Prelude.{◌==◌, ◌&&◌, ◌||◌, map, flat_map, slice_get, IsSome}
use Rattle.std.specs.List.{AllByRecursion}
use Rattle.std.proofs.lemmas.Grind.{common_steps, flat_map-append}
use Rattle.std.proofs.lemmas.List.{append-nil, map-append}
use Rattle.dg_zero.specs.declared.entry.Entry.{Entry}
use Rattle.dg_zero.specs.Counters.{Started, active, is_active_of}
use Rattle.dg_zero.specs.Legal.{IsLegal}
use Rattle.dg_zero.specs.States.{Zero}
use Rattle.dg_txn.specs.Own.{Transaction}
use Rattle.dg_node.specs.declared.engine.Slot.{Slot}
use Rattle.dg_node.specs.Held.{Held}
use Rattle.dg_node.specs.Kept.{opened_in, opened_of, unless_open, with_opened, AreApart, IsKept}
use Rattle.dg_node.specs.Machine.{Machine, Session, session_of}
use Rattle.dg_node.specs.Owning.{AreAtRest}
use Rattle.dg_node.specs.Sessions.{IsOpen, IsSession, session_by, own_session, own_start, between, HaveOthers, Adds, Serves, Sees}
use Rattle.dg_node.specs.State.{session_from, machine_of, machine_beside, Leads}
use Rattle.dg_node.proofs.Between.{found_between, none_found}
use Rattle.dg_node.proofs.Opens.{open_longer}
use Rattle.dg_node.proofs.MachineLemmas.{all_from}
use Rattle.dg_node.proofs.OneAmong.{Around, removed_at, get_at, all_around, all_joined, apart_without, apart_with, apart_push}

-- a slot
abbrev pub slot_of : ℕ → Option Transaction → Slot
slot_of sid txn = record { sid = sid; txn = txn }

-- the engine of a history and its slots
abbrev pub held_by : Zero → List Slot → Held
held_by z slots = record { zero = z; opened = opened_of slots }

-- ---- slots as sessions and as starts

abbrev pub sessions_of : List Slot → List Session
sessions_of slots = flat_map (λ (s : Slot). own_session s.sid s.txn) slots

abbrev pub starts_in : List Slot → List Started
starts_in slots = flat_map (λ (s : Slot). own_start 0 s.txn) slots

one_session : (sid : ℕ) (t : Option Transaction) → map session_from (opened_in sid t) ≡ own_session sid t
one_session sid None = refl
one_session sid (Some txn) = refl

-- the machine's sessions are those of the slots
pub sessions_are : (slots : List Slot) → map session_from (opened_of slots) ≡ sessions_of slots
sessions_are [] = refl
sessions_are (s ∷ slots) = map-append session_from (opened_in s.sid s.txn) (opened_of slots) ∙ (λ i. one_session s.sid s.txn i ++ sessions_are slots i)

sessions_around : (before after : List Slot) (s : Slot) → sessions_of (before ++ s ∷ after) ≡ between (sessions_of before) (own_session s.sid s.txn) (sessions_of after)
sessions_around before after s = flat_map-append (λ (t : Slot). own_session t.sid t.txn) before (s ∷ after)

sessions_joined : (before after : List Slot) → sessions_of (before ++ after) ≡ sessions_of before ++ sessions_of after
sessions_joined before after = flat_map-append (λ (t : Slot). own_session t.sid t.txn) before after

starts_around : (before after : List Slot) (s : Slot) → starts_in (before ++ s ∷ after) ≡ between (starts_in before) (own_start 0 s.txn) (starts_in after)
starts_around before after s = flat_map-append (λ (t : Slot). own_start 0 t.txn) before (s ∷ after)

starts_joined : (before after : List Slot) → starts_in (before ++ after) ≡ starts_in before ++ starts_in after
starts_joined before after = flat_map-append (λ (t : Slot). own_start 0 t.txn) before after

own_others : (sid other : ℕ) (t : Option Transaction) → other ≢ sid → HaveOthers sid (own_session other t)
own_others sid other None ne = tt
own_others sid other (Some txn) ne = (ne, tt)

pub others_have : (sid : ℕ) (slots : List Slot) → AllByRecursion (λ (s : Slot). s.sid ≢ sid) slots → HaveOthers sid (sessions_of slots)
others_have sid [] a = tt
others_have sid (s ∷ slots) a = all_joined (λ (t : Session). t.sid ≢ sid) (own_session s.sid s.txn) (sessions_of slots) (own_others sid s.sid s.txn a.0) (others_have sid slots a.1)

-- those around one have other numbers
apart_around : (before after : List Slot) (s : Slot) → AreApart (λ (t : Slot). t.sid) (before ++ s ∷ after) → AllByRecursion (λ (t : Slot). t.sid ≢ s.sid) before × AllByRecursion (λ (t : Slot). t.sid ≢ s.sid) after
apart_around [] after s a = (tt, a.0)
apart_around (b ∷ before) after s a =
    let r = all_around (λ (t : Slot). t.sid ≢ b.sid) before after s a.0 in
    let more = apart_around before after s a.1 in
    (((λ e. r.1 (sym e)), more.0), more.1)

-- ---- their starts are active

or_right : (v w : Bool) → w ≡ true → (v || w) ≡ true
or_right true w e = refl
or_right false w e = e

active_back : (xs ys : List Started) (start author : ℕ) → is_active_of ys start author ≡ true → is_active_of (xs ++ ys) start author ≡ true
active_back [] ys start author e = e
active_back (x ∷ xs) ys start author e = or_right ((x.start == start) && (x.author == author)) (is_active_of (xs ++ ys) start author) (active_back xs ys start author e)

-- a session's start is active, where it has one
abbrev IsActiveIn : List Started → Option Transaction → Type 0
IsActiveIn starts None = Unit {0}
IsActiveIn starts (Some txn) = is_active_of starts txn.start 0 ≡ true

own_active : (t : Option Transaction) (rest : List Started) → IsActiveIn (own_start 0 t ++ rest) t
own_active None rest = tt
own_active (Some txn) rest =
    let same : (txn.start == txn.start) ≡ true = grind (arith, common_steps) in
    rw same refl

behind : (xs ys : List Started) (t : Option Transaction) → IsActiveIn ys t → IsActiveIn (xs ++ ys) t
behind xs ys None is = tt
behind xs ys (Some txn) is = active_back xs ys txn.start 0 is

all_active : (slots : List Slot) → AllByRecursion (λ (s : Slot). IsActiveIn (starts_in slots) s.txn) slots
all_active [] = tt
all_active (s ∷ slots) = (
  own_active s.txn (starts_in slots),
  all_from (λ (t : Slot). IsActiveIn (starts_in slots) t.txn) (λ (t : Slot). IsActiveIn (own_start 0 s.txn ++ starts_in slots) t.txn) (λ t is. behind (own_start 0 s.txn) (starts_in slots) t.txn is) slots (all_active slots),
)

-- ---- sessions that a request isn't of

module _ (z w : Zero) (adds : Adds 0 z w) (legal : IsLegal w.groups w.history) where
  longer : (t : Option Transaction) → IsSession z 0 t → IsActiveIn (active w.history) t → IsSession w 0 t
  longer None is there = tt
  longer (Some txn) is there =
      subst (λ (h : List Entry). IsOpen h 0 txn) (sym adds.history_is)
      (open_longer w.groups z.history adds.entries 0 txn (subst (λ (h : List Entry). IsLegal w.groups h) adds.history_is legal) (subst (λ (h : List Entry). is_active_of (active h) txn.start 0 ≡ true) adds.history_is there) is)

  each_longer : (slots : List Slot) → AllByRecursion (λ (s : Slot). IsSession z 0 s.txn) slots → AllByRecursion (λ (s : Slot). IsActiveIn (active w.history) s.txn) slots → AllByRecursion (λ (s : Slot). IsSession w 0 s.txn) slots
  each_longer [] each there = tt
  each_longer (s ∷ slots) each there = (longer s.txn each.0 there.0, each_longer slots each.1 there.1)

  actives : (slots : List Slot) → active w.history ≡ starts_in slots → AllByRecursion (λ (s : Slot). IsActiveIn (active w.history) s.txn) slots
  actives slots now = subst (λ (ts : List Started). AllByRecursion (λ (s : Slot). IsActiveIn ts s.txn) slots) (sym now) (all_active slots)

  -- all slots stay
  pub all_kept : (slots : List Slot) → IsKept z slots → active w.history ≡ active z.history → IsKept w slots
  all_kept slots k same = record {
    legal = legal;
    active_are = same ∙ k.active_are;
    apart = k.apart;
    full = k.full;
    each = each_longer slots k.each (actives slots (same ∙ k.active_are));
  }

-- the machine of the engine
pub machine_is : (z : Zero) (slots : List Slot) → machine_of (held_by z slots) ≡ machine_beside z (sessions_of slots)
machine_is z slots = ap (machine_beside z) (sessions_are slots)

-- a step beside the slots leads from engine to engine
pub leads_beside : (z w : Zero) (slots later : List Slot) (step : Machine → Machine → Type 0) (ss ps : List Session) → sessions_of slots ≡ ss → sessions_of later ≡ ps → step (machine_beside z ss) (machine_beside w ps) → Leads (held_by z slots) step (held_by w later)
leads_beside z w slots later step ss ps before after s = record {
  leads = subst (λ (m : Machine). step m (machine_of (held_by w later))) (sym (machine_is z slots ∙ ap (machine_beside z) before))
      (subst (λ (n : Machine). step (machine_beside z ss) n) (sym (machine_is w later ∙ ap (machine_beside w) after)) s);
}

-- ---- a request of the session in a slot

-- the slots around one, and it with what its session is then, where that has a transaction
abbrev pub left_of : List Slot → List Slot → ℕ → Option Transaction → List Slot
left_of before after sid None = before ++ after
left_of before after sid (Some txn) = before ++ slot_of sid (Some txn) ∷ after

module _ (z : Zero) (slots before after : List Slot) (sid : ℕ) (txn : Transaction) (k : IsKept z slots) (e : slots ≡ before ++ slot_of sid (Some txn) ∷ after) where
  apart_then : AreApart (λ (t : Slot). t.sid) (before ++ slot_of sid (Some txn) ∷ after)
  apart_then = subst (λ (l : List Slot). AreApart (λ (t : Slot). t.sid) l) e k.apart

  others_before : HaveOthers sid (sessions_of before)
  others_before = others_have sid before (apart_around before after (slot_of sid (Some txn)) apart_then).0

  others_after : HaveOthers sid (sessions_of after)
  others_after = others_have sid after (apart_around before after (slot_of sid (Some txn)) apart_then).1

  starts_then : active z.history ≡ between (starts_in before) (own_start 0 (Some txn)) (starts_in after)
  starts_then = k.active_are ∙ (ap starts_in e ∙ starts_around before after (slot_of sid (Some txn)))

  sessions_then : sessions_of slots ≡ between (sessions_of before) (own_session sid (Some txn)) (sessions_of after)
  sessions_then = ap sessions_of e ∙ sessions_around before after (slot_of sid (Some txn))

  each_then : AllByRecursion (λ (t : Slot). IsSession z 0 t.txn) before × IsOpen z.history 0 txn × AllByRecursion (λ (t : Slot). IsSession z 0 t.txn) after
  each_then = all_around (λ (t : Slot). IsSession z 0 t.txn) before after (slot_of sid (Some txn)) (subst (λ (l : List Slot). AllByRecursion (λ (t : Slot). IsSession z 0 t.txn) l) e k.each)

  full_then : AllByRecursion (λ (t : Slot). IsSome t.txn) before × IsSome (Some txn) × AllByRecursion (λ (t : Slot). IsSome t.txn) after
  full_then = all_around (λ (t : Slot). IsSome t.txn) before after (slot_of sid (Some txn)) (subst (λ (l : List Slot). AllByRecursion (λ (t : Slot). IsSome t.txn) l) e k.full)

  -- its transaction is open
  pub open_then : IsOpen z.history 0 txn
  open_then = each_then.1

  -- the machine finds it
  pub found_then : session_of (machine_of (held_by z slots)) sid ≡ Some (session_by sid txn)
  found_then = ap (λ (m : Machine). session_of m sid) (machine_is z slots ∙ ap (machine_beside z) sessions_then) ∙ found_between sid (sessions_of before) (sessions_of after) (session_by sid txn) refl others_before

  -- what it sees leads nowhere
  pub seen_leads : (step : Machine → Machine → Type 0) → Sees sid (Some txn) step z → Leads (held_by z slots) step (held_by z slots)
  seen_leads step sees = leads_beside z z slots slots step _ _ sessions_then sessions_then (sees (sessions_of before) (sessions_of after) others_before others_after)

  pub served_kept : (w : Zero) (new : Option Transaction) (step : Machine → Machine → Type 0) → Serves 0 sid (Some txn) new step z w → IsLegal w.groups w.history → IsSession w 0 new → IsKept w (left_of before after sid new)
  served_kept w None step serves legal session =
      let now : active w.history ≡ starts_in (before ++ after) = serves.starts (starts_in before) (starts_in after) starts_then ∙ sym (starts_joined before after) in
      record {
        legal = legal;
        active_are = now;
        apart = apart_without (λ (t : Slot). t.sid) before after (slot_of sid (Some txn)) apart_then;
        full = all_joined (λ (t : Slot). IsSome t.txn) before after full_then.0 full_then.2;
        each = each_longer z w serves.adds legal (before ++ after) (all_joined (λ (t : Slot). IsSession z 0 t.txn) before after each_then.0 each_then.2) (actives z w serves.adds legal (before ++ after) now);
      }
  served_kept w (Some changed) step serves legal session =
      let s : Slot = slot_of sid (Some changed) in
      let now : active w.history ≡ starts_in (before ++ s ∷ after) = serves.starts (starts_in before) (starts_in after) starts_then ∙ sym (starts_around before after s) in
      let around = all_around (λ (t : Slot). IsActiveIn (active w.history) t.txn) before after s (actives z w serves.adds legal (before ++ s ∷ after) now) in
      record {
        legal = legal;
        active_are = now;
        apart = apart_with (λ (t : Slot). t.sid) before after (slot_of sid (Some txn)) s refl apart_then;
        full = all_joined (λ (t : Slot). IsSome t.txn) before (s ∷ after) full_then.0 (refl, full_then.2);
        each = all_joined (λ (t : Slot). IsSession w 0 t.txn) before (s ∷ after) (each_longer z w serves.adds legal before each_then.0 around.0) (session, each_longer z w serves.adds legal after each_then.2 around.2);
      }

  pub served_leads : (w : Zero) (new : Option Transaction) (step : Machine → Machine → Type 0) → Serves 0 sid (Some txn) new step z w → AreAtRest z.history → Leads (held_by z slots) step (held_by w (left_of before after sid new))
  served_leads w None step serves rest =
      leads_beside z w slots (before ++ after) step _ _ sessions_then (sessions_joined before after) (serves.machine rest (sessions_of before) (sessions_of after) others_before others_after)
  served_leads w (Some changed) step serves rest =
      leads_beside z w slots (before ++ slot_of sid (Some changed) ∷ after) step _ _ sessions_then (sessions_around before after (slot_of sid (Some changed))) (serves.machine rest (sessions_of before) (sessions_of after) others_before others_after)

-- ---- a request of a session without a slot

module _ (z : Zero) (slots : List Slot) (sid : ℕ) (k : IsKept z slots) (none : AllByRecursion (λ (t : Slot). t.sid ≢ sid) slots) where
  starts_behind : active z.history ≡ between (starts_in slots) [] []
  starts_behind = k.active_are ∙ sym (append-nil (starts_in slots))

  sessions_behind : sessions_of slots ≡ between (sessions_of slots) [] []
  sessions_behind = sym (append-nil (sessions_of slots))

  -- the machine doesn't find it
  pub none_then : session_of (machine_of (held_by z slots)) sid ≡ None
  none_then = ap (λ (m : Machine). session_of m sid) (machine_is z slots) ∙ none_found sid (sessions_of slots) (others_have sid slots none)

  pub unseen_leads : (step : Machine → Machine → Type 0) → Sees sid None step z → Leads (held_by z slots) step (held_by z slots)
  unseen_leads step sees = leads_beside z z slots slots step _ _ sessions_behind sessions_behind (sees (sessions_of slots) [] (others_have sid slots none) tt)

  pub opened_kept : (w : Zero) (new : Option Transaction) (step : Machine → Machine → Type 0) → Serves 0 sid None new step z w → IsLegal w.groups w.history → IsSession w 0 new → IsKept w (with_opened slots sid new)
  opened_kept w None step serves legal session =
      all_kept z w serves.adds legal slots k (serves.starts (starts_in slots) [] starts_behind ∙ sym starts_behind)
  opened_kept w (Some txn) step serves legal session =
      let s : Slot = slot_of sid (Some txn) in
      let now : active w.history ≡ starts_in (slots ++ s ∷ []) = serves.starts (starts_in slots) [] starts_behind ∙ ((λ i. append-nil (starts_in slots) i ++ own_start 0 (Some txn)) ∙ sym (starts_joined slots (s ∷ []))) in
      let around = all_around (λ (t : Slot). IsActiveIn (active w.history) t.txn) slots [] s (actives z w serves.adds legal (slots ++ s ∷ []) now) in
      record {
        legal = legal;
        active_are = now;
        apart = apart_push (λ (t : Slot). t.sid) slots s k.apart none;
        full = all_joined (λ (t : Slot). IsSome t.txn) slots (s ∷ []) k.full (refl, tt);
        each = all_joined (λ (t : Slot). IsSession w 0 t.txn) slots (s ∷ []) (each_longer z w serves.adds legal slots k.each around.0) (session, tt);
      }

  pub opened_leads : (w : Zero) (new : Option Transaction) (step : Machine → Machine → Type 0) → Serves 0 sid None new step z w → AreAtRest z.history → Leads (held_by z slots) step (held_by w (with_opened slots sid new))
  opened_leads w None step serves rest =
      leads_beside z w slots slots step _ _ sessions_behind sessions_behind (serves.machine rest (sessions_of slots) [] (others_have sid slots none) tt)
  opened_leads w (Some txn) step serves rest =
      let s : Slot = slot_of sid (Some txn) in
      leads_beside z w slots (slots ++ s ∷ []) step _ _ sessions_behind (sessions_joined slots (s ∷ []) ∙ (λ i. sym (append-nil (sessions_of slots)) i ++ own_session sid (Some txn))) (serves.machine rest (sessions_of slots) [] (others_have sid slots none) tt)

-- ---- the slot at a place

full_slot : (s : Slot) (o : Option Transaction) → s.txn ≡ o → IsSome o → (txn : Transaction) × (o ≡ Some txn)
full_slot s None e some = absurd (cc)
full_slot s (Some txn) e some = (txn, refl)

module _ (z : Zero) (slots : List Slot) (sid place : ℕ) (k : IsKept z slots) (a : Around (λ (t : Slot). t.sid) sid slots place) where
  some_then : (txn : Transaction) × (a.it.txn ≡ Some txn)
  some_then = full_slot a.it a.it.txn refl (all_around (λ (t : Slot). IsSome t.txn) a.before a.after a.it (subst (λ (l : List Slot). AllByRecursion (λ (t : Slot). IsSome t.txn) l) a.whole k.full)).1

  -- its transaction, and the slots around it
  pub slot_at : (txn : Transaction) × (a.it.txn ≡ Some txn) × (slots ≡ a.before ++ slot_of sid (Some txn) ∷ a.after)
  slot_at =
      let found = some_then in
      let number = a.is in
      let own = found.1 in
      (found.0, own, a.whole ∙ (λ i. a.before ++ slot_of (number i) (own i) ∷ a.after))

-- what is left of the slots
pub left_is : (before after : List Slot) (sid : ℕ) (new : Option Transaction) → unless_open (before ++ slot_of sid new ∷ after) (length before) (slice_get (before ++ slot_of sid new ∷ after) (length before)) ≡ left_of before after sid new
left_is before after sid new = ap (unless_open (before ++ slot_of sid new ∷ after) (length before)) (get_at before after (slot_of sid new)) ∙ by new
  where
    by : (o : Option Transaction) → unless_open (before ++ slot_of sid o ∷ after) (length before) (Some (slot_of sid o)) ≡ left_of before after sid o
    by None = removed_at before after (slot_of sid None)
    by (Some txn) = refl

pub changed_is : (before after : List Slot) (sid : ℕ) (new : Option Transaction) → is_some new ≡ true → before ++ slot_of sid new ∷ after ≡ left_of before after sid new
changed_is before after sid None e = absurd (cc)
changed_is before after sid (Some txn) e = refl
