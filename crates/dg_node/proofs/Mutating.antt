-- What a mutation makes of the history and of the machine, beside sessions of others.
use Rattle.std.proofs.Common.{◌≡◌, ◌≢◌, ℕ, ◌+◌, Bool, true, false, List, [], ◌∷◌, ◌++◌, Option, Some, None, inl, inr, length, refl, ap, subst, sym, ◌∙◌, arith}
use Rattle.std.specs.Prelude.{◌==◌, map, Result}
use Rattle.std.specs.Str.Lossy.{utf8_valid_len}
use Rattle.dg_schema.specs.declared.definition.PredDef.{PredDef}
use Rattle.dg_graph.specs.declared.change.Change.{Change}
use Rattle.dg_graph.specs.Graphs.{after_changes, fits}
use Rattle.dg_graph.specs.Changes.{changed as of_change}
use Rattle.dg_edges.specs.declared.edge.Edge.{Edge}
use Rattle.dg_edges.specs.declared.fault.EdgeFault.{EdgeFault}
use Rattle.dg_edges.specs.Deltas.{AreFitting}
use Rattle.dg_edges.specs.Resolving.{Resolves}
use Rattle.dg_edges.specs.Expanding.{new_names, top_uid, expanded}
use Rattle.dg_nquad.specs.declared.mutation.Statement.{Statement}
use Rattle.dg_nquad.specs.Whole.{mutation}
use Rattle.dg_wire.specs.declared.refusal.Refusal.TheVariants as refusals
use Rattle.dg_wire.specs.declared.reply.Reply.{Reply}
use Rattle.dg_wire.specs.declared.reply.Reply.TheVariants as replies
use Rattle.dg_zero.specs.declared.entry.Entry.{Entry}
use Rattle.dg_zero.specs.declared.entry.Event.TheVariants.{Lease}
use Rattle.dg_zero.specs.Counters.{next, next_uid, leased}
use Rattle.dg_zero.specs.Legal.{IsLegal}
use Rattle.dg_zero.specs.States.{Zero, and_then}
use Rattle.dg_txn.specs.Own.{Transaction, graph}
use Rattle.dg_node.specs.Graphs as machines
use Rattle.dg_node.specs.Machine.{Machine, Session, changed_if, with_changes, leased_upto}
use Rattle.dg_node.specs.Mutations.{first_leased, added, mutated, Mutates, MutatesIn, MutatesText, MutatesAs, MutatesBy}
use Rattle.dg_node.specs.NewUids.{uids_text}
use Rattle.dg_node.specs.Schemas.{schema_at}
use Rattle.dg_node.specs.Sessions.{IsOpen, session_by, with_own, own_session, between, Serves, Sees}
use Rattle.dg_node.specs.State.{alters, asked_by, machine_beside}
use Rattle.dg_node.specs.Steps.{MayRaise}
use Rattle.dg_node.proofs.Between.{changed_between}
use Rattle.dg_node.proofs.CommitLemmas.{lease_quiet}
use Rattle.dg_node.proofs.MachineLemmas.{schemas_are}
use Rattle.dg_node.proofs.MutationLemmas.{added_spent, added_is}
use Rattle.dg_node.proofs.OneAmong.{all_joined}
use Rattle.dg_node.proofs.Serving.{Finds, finds_own, stands_beside, quiet_beside, adds_one, leaves_starts}

abbrev Pair : Type 0
Pair = Reply × Machine

-- ---- what the session sees is what the machine has there

module _ (author : ℕ) (txn : Transaction) (z : Zero) (l : IsLegal z.groups z.history) (o : IsOpen z.history author txn) (ss : List Session) where
  pub schema_here : schema_at (alters z.history) txn.start ≡ txn.schema
  schema_here = schemas_are z.history txn.start ∙ sym o.schema_is

  pub base_here : machines.committed_at (alters z.history) (asked_by z.history) txn.start ≡ txn.base
  base_here = (stands_beside z ss l).graphs_are txn.start ∙ sym o.base_is

  pub graph_here : machines.graph_at (alters z.history) (asked_by z.history) txn.start txn.own ≡ graph txn
  graph_here =
      let schema_is = schema_here in
      let base_is = base_here in
      λ i. after_changes (schema_is i) (base_is i) txn.own

-- ---- the same step, said otherwise

-- where the session is found
pub serves_found : (author sid : ℕ) (txn : Transaction) (new : Option Transaction) (one other : Machine → Machine → Type 0) (z w : Zero) → ((m n : Machine) → Finds sid txn m → one m n → other m n) → Serves author sid (Some txn) new one z w → Serves author sid (Some txn) new other z w
serves_found author sid txn new one other z w f s = record {
  adds = s.adds;
  starts = s.starts;
  machine = λ rest front back a b. f _ _ (finds_own sid txn z front back a) (s.machine rest front back a b);
}

-- of the history that is met
pub serves_met : (author sid : ℕ) (old new : Option Transaction) (one other : Machine → Machine → Type 0) (z w : Zero) → ((ss : List Session) (n : Machine) → one (machine_beside z ss) n → other (machine_beside z ss) n) → Serves author sid old new one z w → Serves author sid old new other z w
serves_met author sid old new one other z w f s = record {
  adds = s.adds;
  starts = s.starts;
  machine = λ rest front back a b. f _ _ (s.machine rest front back a b);
}

pub raises_by : (one other : Machine → Reply → Machine → Type 0) (m n : Machine) → ((p : Reply) (k : Machine) → one m p k → other m p k) → MayRaise one m n → MayRaise other m n
raises_by one other m n f (inl same) = inl same
raises_by one other m n f (inr r) = inr (record { reply = r.reply; after = r.after; comes = f r.reply r.after r.comes; raised = r.raised })

-- ---- a lease

module _ (author sid : ℕ) (txn : Transaction) (z : Zero) (l : IsLegal z.groups z.history) (o : IsOpen z.history author txn) (edges : List Edge) (top count : ℕ) (some : edges ≢ []) (top_is : top ≡ top_uid edges) (count_is : count ≡ length (new_names edges)) where
  leases : (ss : List Session) → first_leased (machine_beside z ss) edges ≡ leased z.history top count
  leases ss = λ i. leased z.history (sym top_is i) (sym count_is i)

  -- where so many nodes aren't left
  pub spent_sees : (spent : ℕ) → leased z.history top count ≡ None → spent ≡ next_uid z.history → Sees sid (Some txn) (λ m n. ◌≡◌ {A = Pair} (added m (session_by sid txn) edges) (replies.Refused (refusals.UidsSpent spent), n)) z
  spent_sees spent none is = λ front back a b.
      let m = machine_beside z (between front (own_session sid (Some txn)) back) in
      let back_is = sym is in
      added_spent m (session_by sid txn) edges some (leases (between front (own_session sid (Some txn)) back) ∙ none) ∙ (λ i. (replies.Refused (refusals.UidsSpent (back_is i)), m))

  module _ (first : ℕ) (left : leased z.history top count ≡ Some first) (w : Zero) (then : w ≡ and_then z author (Lease top count first)) where
    -- the machine after the lease, with any sessions
    leased_to : (ss ps : List Session) → record { groups = z.groups; next = next z.history; next_uid = first + length (new_names edges); alters = alters z.history; commits = asked_by z.history; sessions = ps } ≡ machine_beside w ps
    leased_to ss ps =
        let so_many = sym count_is in
        (λ i. record { groups = z.groups; next = next z.history; next_uid = first + so_many i; alters = alters z.history; commits = asked_by z.history; sessions = ps })
        ∙ (quiet_beside z author (Lease top count first) ss ps (next z.history) (first + count) l (lease_quiet top count first) (omega arith) refl
        ∙ ap (λ (y : Zero). machine_beside y ps) (sym then))

    outcome : (ss : List Session) → ◌≡◌ {A = Pair} (added (machine_beside z ss) (session_by sid txn) edges) (replies.Mutate sid (uids_text first (new_names edges)), with_changes (leased_upto (machine_beside z ss) (first + length (new_names edges))) sid (expanded (graph txn) edges first))
    outcome ss =
        let m = machine_beside z ss in
        let seen = graph_here author txn z l o ss in
        added_is m (session_by sid txn) edges first some (leases ss ∙ left)
        ∙ (λ i. (replies.Mutate sid (uids_text first (new_names edges)), with_changes (leased_upto m (first + length (new_names edges))) sid (expanded (seen i) edges first)))

    -- the changes are added
    pub leased_serves : (reply : Reply) (new : Transaction) → reply ≡ replies.Mutate sid (uids_text first (new_names edges)) → new ≡ with_own txn (expanded (graph txn) edges first) → Serves author sid (Some txn) (Some new) (λ m n. ◌≡◌ {A = Pair} (added m (session_by sid txn) edges) (reply, n)) z w
    leased_serves reply new reply_is new_is =
        let changes = expanded (graph txn) edges first in
        let reply_back = sym reply_is in
        subst (λ (t : Transaction). Serves author sid (Some txn) (Some t) (λ m n. ◌≡◌ {A = Pair} (added m (session_by sid txn) edges) (reply, n)) z w) (sym new_is) (record {
          adds = adds_one author z w (Lease top count first) then;
          starts = leaves_starts author sid (Some txn) z w (Lease top count first) then (λ starts. refl);
          machine = λ rest front back a b.
              let ss = between front (own_session sid (Some txn)) back in
              let grown : map (changed_if sid changes) ss ≡ front ++ session_by sid (with_own txn changes) ∷ back = changed_between sid changes front back (session_by sid txn) refl a b in
              outcome ss
              ∙ ((λ i. (reply_back i, record { groups = z.groups; next = next z.history; next_uid = first + length (new_names edges); alters = alters z.history; commits = asked_by z.history; sessions = grown i }))
              ∙ ap (λ (n : Machine). (reply, n)) (leased_to ss (front ++ session_by sid (with_own txn changes) ∷ back)));
        })

    -- memory was wanting behind the lease
    pub leased_spares : Serves author sid (Some txn) (Some txn) (MayRaise (λ m p k. ◌≡◌ {A = Pair} (added m (session_by sid txn) edges) (p, k))) z w
    leased_spares = record {
      adds = adds_one author z w (Lease top count first) then;
      starts = leaves_starts author sid (Some txn) z w (Lease top count first) then (λ starts. refl);
      machine = λ rest front back a b.
          let ss = between front (own_session sid (Some txn)) back in
          inr (record { reply = _; after = _; comes = outcome ss; raised = sym (leased_to ss ss) });
    }

-- ---- more changes

pub with_own_open : (h : List Entry) (author : ℕ) (txn new : Transaction) (changes : List Change) → new ≡ with_own txn changes → AreFitting txn.schema changes → IsOpen h author txn → IsOpen h author new
with_own_open h author txn new changes is fit o =
    subst (IsOpen h author) (sym is) (record {
      drawn = o.drawn;
      active = o.active;
      schema_is = o.schema_is;
      base_is = o.base_is;
      fitting = all_joined (λ (c : Change). fits txn.schema (of_change c) ≡ true) txn.own changes o.fitting fit;
      author_is = o.author_is;
    })

-- ---- what was checked

pub by_checked : (author sid : ℕ) (txn : Transaction) (z : Zero) (statements : List Statement) (checked : Result (List Edge) EdgeFault) → IsOpen z.history author txn → Resolves txn.schema statements checked → (ss : List Session) (p : Reply) (n : Machine) → ◌≡◌ {A = Pair} (mutated (machine_beside z ss) (session_by sid txn) checked) (p, n) → MutatesBy (machine_beside z ss) (session_by sid txn) statements p n
by_checked author sid txn z statements checked o resolves ss p n e = record {
  checked = checked;
  resolves = subst (λ (ds : List PredDef). Resolves ds statements checked) (sym (schemas_are z.history txn.start ∙ sym o.schema_is)) resolves;
  outcome = e;
}

-- ---- what the text says, where the session is found

pub text_found : (sid : ℕ) (txn : Transaction) (body : List ℕ) → (utf8_valid_len body == length body) ≡ true → (m : Machine) (p : Reply) (n : Machine) → Finds sid txn m → MutatesAs m (session_by sid txn) (mutation body) p n → Mutates m sid body p n
text_found sid txn body whole m p n found is =
    subst (λ (o : Option Session). MutatesIn m sid o body p n) (sym found)
    (subst (λ (b : Bool). MutatesText m (session_by sid txn) body b p n) (sym whole) is)

pub no_text_found : (sid : ℕ) (txn : Transaction) (body : List ℕ) → (utf8_valid_len body == length body) ≡ false → (m : Machine) → Finds sid txn m → Mutates m sid body (replies.Refused (refusals.BadToken (utf8_valid_len body))) m
no_text_found sid txn body part m found =
    subst (λ (o : Option Session). MutatesIn m sid o body (replies.Refused (refusals.BadToken (utf8_valid_len body))) m) (sym found)
    (subst (λ (b : Bool). MutatesText m (session_by sid txn) body b (replies.Refused (refusals.BadToken (utf8_valid_len body))) m) (sym part) refl)
