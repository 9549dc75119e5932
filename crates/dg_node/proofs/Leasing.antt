-- What the functions of a mutation make of the clauses of their calls.
use Rattle.std.proofs.Common.{◌≡◌, ◌≢◌, ℕ, Bool, true, false, List, [], Option, Some, None, refl, subst, sym, ◌∙◌, length}
use Rattle.std.specs.Prelude.{◌==◌, Result, Ok, Err, IfOk, OnOk, OnErr}
use Rattle.std.specs.Str.Lossy.{utf8_valid_len}
use Rattle.dg_edges.specs.declared.edge.Edge.{Edge}
use Rattle.dg_edges.specs.declared.fault.EdgeFault.{EdgeFault}
use Rattle.dg_edges.specs.Deltas.{AreFitting}
use Rattle.dg_edges.specs.Resolving.{Resolves, IsAnswer, IsResolved}
use Rattle.dg_edges.specs.Expanding.{new_names, top_uid, expanded}
use Rattle.dg_edges.proofs.ExpandLaws.{expanded_fits}
use Rattle.dg_nquad.specs.declared.mutation.Statement.{Statement}
use Rattle.dg_nquad.specs.Whole.{mutation}
use Rattle.dg_wire.specs.declared.refusal.Refusal.TheVariants as refusals
use Rattle.dg_wire.specs.declared.reply.Reply.{Reply}
use Rattle.dg_wire.specs.declared.reply.Reply.TheVariants as replies
use Rattle.dg_zero.specs.declared.entry.Event.TheVariants.{Lease, Look}
use Rattle.dg_zero.specs.Legal.{IsLegal}
use Rattle.dg_zero.specs.States.{Zero, and_then}
use Rattle.dg_txn.specs.Own.{Transaction, graph}
use Rattle.dg_node.specs.declared.cluster.ClusterFault.TheVariants as faults
use Rattle.dg_node.specs.Clusters.{Meets, LeasesAt}
use Rattle.dg_node.specs.Machine.{Machine, Session, session_of}
use Rattle.dg_node.specs.Mutations.{added, refusal_of, Mutates, MutatesIn, MutatesAs, MutatesBy}
use Rattle.dg_node.specs.NewUids.{uids_text}
use Rattle.dg_node.specs.Sessions.{IsOpen, session_by, with_own, own_session, between, Serves, Sees}
use Rattle.dg_node.specs.State.{machine_beside}
use Rattle.dg_node.specs.Steps.{MayRaise}
use Rattle.dg_node.proofs.Mutating.{serves_found, serves_met, raises_by, spent_sees, leased_serves, leased_spares, with_own_open, by_checked, text_found, no_text_found}
use Rattle.dg_node.proofs.Opens.{open_met, open_then, seen_lawful}
use Rattle.dg_node.proofs.Alone.{meets_here}
use Rattle.dg_node.proofs.Serving.{meets_by, serves_nothing, looked_serves, finds_own}

abbrev Pair : Type 0
Pair = Reply × Machine

-- the changes of checked statements are added, and the nodes behind them leased
abbrev Adds : ℕ → Transaction → List Edge → Machine → Reply → Machine → Type 0
Adds sid txn edges m p n = ◌≡◌ {A = Pair} (added m (session_by sid txn) edges) (p, n)

-- what was checked fits the schema
pub checked_fits : (z : Zero) (author : ℕ) (txn : Transaction) (edges : List Edge) (first : ℕ) → IsLegal z.groups z.history → IsOpen z.history author txn → IsResolved txn.schema edges → AreFitting txn.schema (expanded (graph txn) edges first)
checked_fits z author txn edges first l o r = expanded_fits txn.schema (graph txn) r.0 edges first r.1 (seen_lawful z.groups z.history author txn l o)

-- what was resolved was checked
pub resolved_by : (txn : Transaction) (statements : List Statement) (checked : Result (List Edge) EdgeFault) → IsAnswer (Resolves txn.schema statements) checked → IfOk checked (IsResolved txn.schema)
resolved_by txn statements (Ok edges) r = (statements, r)
resolved_by txn statements (Err fault) r = tt

-- a session that has no transaction
pub none_mutates : (sid : ℕ) (body : List ℕ) (m : Machine) → session_of m sid ≡ None → Mutates m sid body (replies.Refused (refusals.NoSession sid)) m
none_mutates sid body m none = subst (λ (o : Option Session). MutatesIn m sid o body (replies.Refused (refusals.NoSession sid)) m) (sym none) refl

module _ (takes : ℕ → Bool) (author sid : ℕ) (txn : Transaction) (z : Zero) (l : IsLegal z.groups z.history) where
  -- ---- nothing is appended

  pub stays_here : (step : Machine → Machine → Type 0) → Sees sid (Some txn) step z → Meets takes z z (Serves author sid (Some txn) (Some txn) step)
  stays_here step sees = meets_here takes z z (Serves author sid (Some txn) (Some txn) step) l (serves_nothing author sid (Some txn) step z (λ rest. sees))

  -- ---- what was checked

  module _ (o : IsOpen z.history author txn) (statements : List Statement) where
    pub refused_here : (fault : EdgeFault) → Resolves txn.schema statements (Err fault) → Meets takes z z (Serves author sid (Some txn) (Some txn) (λ m n. MutatesBy m (session_by sid txn) statements (replies.Refused (refusal_of fault)) n))
    refused_here fault resolves =
        stays_here (λ m n. MutatesBy m (session_by sid txn) statements (replies.Refused (refusal_of fault)) n) (λ front back a b.
        by_checked author sid txn z statements (Err fault) o resolves (between front (own_session sid (Some txn)) back) _ _ refl)

    module _ (own : takes author ≡ true) (w : Zero) (edges : List Edge) (resolves : Resolves txn.schema statements (Ok edges)) (new : Transaction) where
      pub ok_checked : {E : Type 0} (result : Result Reply E) → IfOk result (λ reply. Meets takes z w (Serves author sid (Some txn) (Some new) (λ m n. Adds sid txn edges m reply n))) → IfOk result (λ reply. Meets takes z w (Serves author sid (Some txn) (Some new) (λ m n. MutatesBy m (session_by sid txn) statements reply n)))
      ok_checked (Err fault) meets = tt
      ok_checked (Ok reply) meets =
          let one : Machine → Machine → Type 0 = λ m n. Adds sid txn edges m reply n in
          let other : Machine → Machine → Type 0 = λ m n. MutatesBy m (session_by sid txn) statements reply n in
          meets_by takes z w (Serves author sid (Some txn) (Some new) one) (Serves author sid (Some txn) (Some new) other) (λ met others s.
          serves_met author sid (Some txn) (Some new) one other met w (λ ss n e. by_checked author sid txn met statements (Ok edges) (open_met takes author z met txn own others o) resolves ss reply n e) s) meets

      pub err_checked : {A E : Type 0} (result : Result A E) → OnErr result (Meets takes z w (Serves author sid (Some txn) (Some new) (MayRaise (Adds sid txn edges)))) → OnErr result (Meets takes z w (Serves author sid (Some txn) (Some new) (MayRaise (λ m. MutatesBy m (session_by sid txn) statements))))
      err_checked (Ok x) meets = tt
      err_checked (Err fault) meets =
          let one : Machine → Reply → Machine → Type 0 = Adds sid txn edges in
          let other : Machine → Reply → Machine → Type 0 = λ m. MutatesBy m (session_by sid txn) statements in
          meets_by takes z w (Serves author sid (Some txn) (Some new) (MayRaise one)) (Serves author sid (Some txn) (Some new) (MayRaise other)) (λ met others s.
          serves_met author sid (Some txn) (Some new) (MayRaise one) (MayRaise other) met w (λ ss n r. raises_by one other (machine_beside met ss) n (λ p k e. by_checked author sid txn met statements (Ok edges) (open_met takes author z met txn own others o) resolves ss p k e) r) s) meets

  -- ---- what the text says

  module _ (body : List ℕ) where
    -- a body that is no text
    pub no_text_here : (utf8_valid_len body == length body) ≡ false → Meets takes z z (Serves author sid (Some txn) (Some txn) (λ m n. Mutates m sid body (replies.Refused (refusals.BadToken (utf8_valid_len body))) n))
    no_text_here part =
        stays_here (λ m n. Mutates m sid body (replies.Refused (refusals.BadToken (utf8_valid_len body))) n) (λ front back a b.
        no_text_found sid txn body part _ (finds_own sid txn z front back a))

    module _ (w : Zero) (new : Transaction) (whole : (utf8_valid_len body == length body) ≡ true) where
      pub ok_found : {E : Type 0} (result : Result Reply E) → IfOk result (λ reply. Meets takes z w (Serves author sid (Some txn) (Some new) (λ m n. MutatesAs m (session_by sid txn) (mutation body) reply n))) → IfOk result (λ reply. Meets takes z w (Serves author sid (Some txn) (Some new) (λ m n. Mutates m sid body reply n)))
      ok_found (Err fault) meets = tt
      ok_found (Ok reply) meets =
          let one : Machine → Machine → Type 0 = λ m n. MutatesAs m (session_by sid txn) (mutation body) reply n in
          let other : Machine → Machine → Type 0 = λ m n. Mutates m sid body reply n in
          meets_by takes z w (Serves author sid (Some txn) (Some new) one) (Serves author sid (Some txn) (Some new) other) (λ met others s.
          serves_found author sid txn (Some new) one other met w (λ m n found is. text_found sid txn body whole m reply n found is) s) meets

      pub err_found : {A E : Type 0} (result : Result A E) → OnErr result (Meets takes z w (Serves author sid (Some txn) (Some new) (MayRaise (λ m. MutatesAs m (session_by sid txn) (mutation body))))) → OnErr result (Meets takes z w (Serves author sid (Some txn) (Some new) (MayRaise (λ m. Mutates m sid body))))
      err_found (Ok x) meets = tt
      err_found (Err fault) meets =
          let one : Machine → Reply → Machine → Type 0 = λ m. MutatesAs m (session_by sid txn) (mutation body) in
          let other : Machine → Reply → Machine → Type 0 = λ m. Mutates m sid body in
          meets_by takes z w (Serves author sid (Some txn) (Some new) (MayRaise one)) (Serves author sid (Some txn) (Some new) (MayRaise other)) (λ met others s.
          serves_found author sid txn (Some new) (MayRaise one) (MayRaise other) met w (λ m n found r. raises_by one other m n (λ p k is. text_found sid txn body whole m p k found is) r) s) meets

-- ---- the lease

module _ (takes : ℕ → Bool) (author sid slip : ℕ) (txn : Transaction) (z w : Zero) (own : takes author ≡ true) (o : IsOpen z.history author txn) (edges : List Edge) (top count : ℕ) (some : edges ≢ []) (top_is : top ≡ top_uid edges) (count_is : count ≡ length (new_names edges)) (slip_is : slip ≡ author) where
  -- where so many nodes aren't left
  pub spent_leased : (spent : ℕ) → Meets takes z w (LeasesAt slip top count (Err (faults.UidsSpent spent))) → Meets takes z w (Serves author sid (Some txn) (Some txn) (λ m n. Adds sid txn edges m (replies.Refused (refusals.UidsSpent spent)) n))
  spent_leased spent meets =
      let step : Machine → Machine → Type 0 = λ m n. Adds sid txn edges m (replies.Refused (refusals.UidsSpent spent)) n in
      meets_by takes z w (LeasesAt slip top count (Err (faults.UidsSpent spent))) (Serves author sid (Some txn) (Some txn) step) (λ met others s.
      let there = open_met takes author z met txn own others o in
      looked_serves author sid (Some txn) step met w others.legal (s.err ∙ (λ i. and_then met (slip_is i) Look)) (λ rest. spent_sees author sid txn met others.legal there edges top count some top_is count_is spent s.fault.0 s.fault.1)) meets

  pub spent_open : (spent : ℕ) → IsLegal w.groups w.history → Meets takes z w (LeasesAt slip top count (Err (faults.UidsSpent spent))) → IsOpen w.history author txn
  spent_open spent legal meets = open_then meets.met w slip author Look txn meets.goes.err (λ starts. refl) legal (open_met takes author z meets.met txn own meets.others o)

  module _ (first : ℕ) (meets : Meets takes z w (LeasesAt slip top count (Ok first))) where
    pub ok_leased : {E : Type 0} (result : Result Reply E) (new : Transaction) → IfOk result (λ reply. reply ≡ replies.Mutate sid (uids_text first (new_names edges))) → OnOk result (new ≡ with_own txn (expanded (graph txn) edges first)) → IfOk result (λ reply. Meets takes z w (Serves author sid (Some txn) (Some new) (λ m n. Adds sid txn edges m reply n)))
    ok_leased (Err fault) new reply_is new_is = tt
    ok_leased (Ok reply) new reply_is new_is =
        meets_by takes z w (LeasesAt slip top count (Ok first)) (Serves author sid (Some txn) (Some new) (λ m n. Adds sid txn edges m reply n)) (λ met others s.
        leased_serves author sid txn met others.legal (open_met takes author z met txn own others o) edges top count some top_is count_is first s.first w (s.ok ∙ (λ i. and_then met (slip_is i) (Lease top count first))) reply new reply_is new_is) meets

    pub err_leased : {A E : Type 0} (result : Result A E) (new : Transaction) → OnErr result (new ≡ txn) → OnErr result (Meets takes z w (Serves author sid (Some txn) (Some new) (MayRaise (Adds sid txn edges))))
    err_leased (Ok x) new new_is = tt
    err_leased (Err fault) new new_is =
        subst (λ (t : Transaction). Meets takes z w (Serves author sid (Some txn) (Some t) (MayRaise (Adds sid txn edges)))) (sym new_is)
        (meets_by takes z w (LeasesAt slip top count (Ok first)) (Serves author sid (Some txn) (Some txn) (MayRaise (Adds sid txn edges))) (λ met others s.
        leased_spares author sid txn met others.legal (open_met takes author z met txn own others o) edges top count some top_is count_is first s.first w (s.ok ∙ (λ i. and_then met (slip_is i) (Lease top count first)))) meets)

    pub leased_open : {A E : Type 0} (result : Result A E) (new : Transaction) → IsLegal w.groups w.history → AreFitting txn.schema (expanded (graph txn) edges first) → OnOk result (new ≡ with_own txn (expanded (graph txn) edges first)) → OnErr result (new ≡ txn) → IsOpen w.history author new
    leased_open result new legal fit ok err = by result ok err
      where
        there : IsOpen w.history author txn
        there = open_then meets.met w slip author (Lease top count first) txn meets.goes.ok (λ starts. refl) legal (open_met takes author z meets.met txn own meets.others o)

        by : {A E : Type 0} (result : Result A E) → OnOk result (new ≡ with_own txn (expanded (graph txn) edges first)) → OnErr result (new ≡ txn) → IsOpen w.history author new
        by (Ok x) ok err = with_own_open w.history author txn new (expanded (graph txn) edges first) ok fit there
        by (Err fault) ok err = subst (IsOpen w.history author) (sym err) there
