-- What the machine answers, case by case.
use Rattle.std.proofs.Common.{◌≡◌, ◌≢◌, ℕ, ◌+◌, ◌<◌, ◌≤◌, ◌^◌, ◌-◌, true, false, List, [], ◌∷◌, ◌++◌, Option, Some, None, refl, ap, sym, ◌∙◌, arith}
use Rattle.std.specs.Prelude.{nat_lt}
use Rattle.std.proofs.lemmas.Grind.{common_steps}
use Rattle.dg_schema.specs.declared.definition.PredDef.{PredDef}
use Rattle.dg_graph.specs.declared.change.Change.{Change}
use Rattle.dg_wire.specs.declared.refusal.Refusal.{Refusal}
use Rattle.dg_wire.specs.declared.refusal.Refusal.TheVariants as refusals
use Rattle.dg_wire.specs.declared.reply.Reply.{Reply}
use Rattle.dg_wire.specs.declared.reply.Reply.TheVariants as replies
use Rattle.dg_node.specs.Machine.{Machine, Session, session_of, is_open, with_session, without_session, drawn}
use Rattle.dg_node.specs.Alters.{least_start, first_with_data, present_schema, present_graph, declared, declared_unless, altered}
use Rattle.dg_node.specs.Transactions.{begun, committed, committed_with, committed_unless, clash_of, with_commit, discarded}

abbrev Pair : Type 0
Pair = Reply × Machine

less : (n : ℕ) → n < 2 ^ 62 → nat_lt n (2 ^ 62) ≡ true
less n lt = grind (arith, common_steps)

not_less : (n : ℕ) → n ≡ 2 ^ 62 → nat_lt n (2 ^ 62) ≡ false
not_less n e = grind (arith, common_steps)

-- ---- begin

pub begun_is : (m : Machine) (sid start : ℕ) → session_of m sid ≡ None → m.next < 2 ^ 62 → start ≡ m.next → ◌≡◌ {A = Pair} (begun m sid) (replies.Begin sid start, with_session (drawn m (m.next + 1)) sid m.next)
begun_is m sid start none lt e = rw (none, less m.next lt, e) refl

pub begin_spent : (m : Machine) (sid spent : ℕ) → session_of m sid ≡ None → m.next ≡ 2 ^ 62 → spent ≡ m.next → ◌≡◌ {A = Pair} (begun m sid) (replies.Refused (refusals.TimestampsSpent spent), m)
begin_spent m sid spent none end e = rw (none, not_less m.next end, e) refl

pub begun_already : (m : Machine) (sid : ℕ) → is_open m sid ≡ true → ◌≡◌ {A = Pair} (begun m sid) (replies.Refused (refusals.SessionOpen sid), m)
begun_already m sid opens = rw opens refl

-- ---- commit

with_changes : (m : Machine) (session : Session) (own : List Change) → own ≢ [] → ◌≡◌ {A = Pair} (committed_with m session own) (committed_unless m session (clash_of m session))
with_changes m session [] some = absurd (some refl)
with_changes m session (change ∷ own) some = refl

module _ (m : Machine) (sid : ℕ) (s : Session) (opens : session_of m sid ≡ Some s) (is : s.sid ≡ sid) where
  without_changes : (own : List Change) → own ≡ [] → ◌≡◌ {A = Pair} (committed_with m s own) (replies.Commit s.sid 0, without_session m s.sid)
  without_changes [] e = refl
  without_changes (change ∷ own) e = absurd (cc)

  pub nothing_committed : s.own ≡ [] → ◌≡◌ {A = Pair} (committed m sid) (replies.Commit sid 0, without_session m sid)
  nothing_committed none = rw opens (without_changes s.own none ∙ (λ i. (replies.Commit (is i) 0, without_session m (is i))))

  unless : s.own ≢ [] → ◌≡◌ {A = Pair} (committed m sid) (committed_unless m s (clash_of m s))
  unless some = rw opens (with_changes m s s.own some)

  pub committed_is : (ts : ℕ) → s.own ≢ [] → clash_of m s ≡ None → m.next < 2 ^ 62 → ts ≡ m.next → ◌≡◌ {A = Pair} (committed m sid) (replies.Commit sid ts, without_session (drawn (with_commit m s) (m.next + 1)) sid)
  committed_is ts some clear lt e =
      unless some ∙ (ap (λ (r : Option Refusal). committed_unless m s r) clear
      ∙ (rw (less m.next lt) refl ∙ (λ i. (replies.Commit (is i) (back i), without_session (drawn (with_commit m s) (m.next + 1)) (is i)))))
    where
      back : m.next ≡ ts
      back = sym e

  pub commit_clashes : (refusal : Refusal) → s.own ≢ [] → clash_of m s ≡ Some refusal → ◌≡◌ {A = Pair} (committed m sid) (replies.Refused refusal, without_session m sid)
  commit_clashes refusal some clash =
      unless some ∙ (ap (λ (r : Option Refusal). committed_unless m s r) clash ∙ (λ i. (replies.Refused refusal, without_session m (is i))))

  pub commit_spent : (spent : ℕ) → s.own ≢ [] → clash_of m s ≡ None → m.next ≡ 2 ^ 62 → spent ≡ m.next → ◌≡◌ {A = Pair} (committed m sid) (replies.Refused (refusals.TimestampsSpent spent), m)
  commit_spent spent some clear end e =
      unless some ∙ (ap (λ (r : Option Refusal). committed_unless m s r) clear ∙ rw (not_less m.next end, e) refl)

module _ (m : Machine) (sid : ℕ) (closed : session_of m sid ≡ None) where
  pub no_commit : ◌≡◌ {A = Pair} (committed m sid) (replies.Refused (refusals.NoSession sid), m)
  no_commit = rw closed refl

  pub no_discard : ◌≡◌ {A = Pair} (discarded m sid) (replies.Refused (refusals.NoSession sid), m)
  no_discard = rw closed refl

-- ---- alter

module _ (m : Machine) (newer : List PredDef) where
  pub declared_is : (start ts : ℕ) → m.next + 1 < 2 ^ 62 → start ≡ m.next → ts ≡ m.next + 1 → ◌≡◌ {A = Pair} (declared m newer) (replies.Alter start ts, record { groups = m.groups; next = m.next + 2; next_uid = m.next_uid; alters = m.alters ++ (record { start = m.next; ts = m.next + 1; definitions = newer }) ∷ []; commits = m.commits; sessions = m.sessions })
  declared_is start ts lt e f = rw (less (m.next + 1) lt, e, f) refl

  pub alter_spent : (spent : ℕ) → 2 ^ 62 - 1 ≤ m.next → spent ≡ m.next → ◌≡◌ {A = Pair} (declared m newer) (replies.Refused (refusals.TimestampsSpent spent), m)
  alter_spent spent le e =
      let late : nat_lt (m.next + 1) (2 ^ 62) ≡ false = grind (arith, common_steps) in
      rw (late, e) refl

  pub alter_pending : (start : ℕ) → least_start m.sessions ≡ Some start → ◌≡◌ {A = Pair} (altered m newer) (replies.Refused (refusals.Pending start), m)
  alter_pending start some = rw some refl

  pub alter_has_data : (name : List ℕ) → least_start m.sessions ≡ None → first_with_data (present_schema m) (present_graph m) newer ≡ Some name → ◌≡◌ {A = Pair} (altered m newer) (replies.Refused (refusals.HasData name), m)
  alter_has_data name none found = rw none (ap (λ (o : Option (List ℕ)). declared_unless m newer o) found)

  pub altered_is : least_start m.sessions ≡ None → first_with_data (present_schema m) (present_graph m) newer ≡ None → ◌≡◌ {A = Pair} (altered m newer) (declared m newer)
  altered_is none free = rw none (ap (λ (o : Option (List ℕ)). declared_unless m newer o) free)
