-- What an upsert makes of the history and of the machine, beside sessions of others.
use Rattle.std.proofs.Common.{◌≡◌, ◌≢◌, inl, inr, ℕ, Bool, true, false, List, [], length, Option, Some, None, refl, ap, subst, sym}
use Rattle.std.specs.Prelude.{◌==◌, Result, Ok, Err, IfOk, IsOk, OnErr}
use Rattle.std.specs.Str.Lossy.{utf8_valid_len}
use Rattle.dg_schema.specs.declared.definition.PredDef.{PredDef}
use Rattle.dg_graph.specs.declared.change.Triple.{Triple}
use Rattle.dg_nquad.specs.declared.mutation.Statement.{Statement}
use Rattle.dg_parse.specs.declared.fault.DqlFault.{DqlFault}
use Rattle.dg_parse.specs.declared.fault.DqlFault.TheVariants as texts
use Rattle.dg_parse.specs.declared.query.Query.{Query}
use Rattle.dg_parse.specs.declared.upsert.UMut.{UMut}
use Rattle.dg_parse.specs.declared.upsert.Upsert.{Upsert}
use Rattle.dg_parse.specs.Whole.{upsert_of}
use Rattle.dg_check.specs.declared.fault.CheckFault.{CheckFault}
use Rattle.dg_check.specs.declared.fault.CheckFault.TheVariants as faults
use Rattle.dg_check.specs.declared.patterns.Refusal.{Refusal as BadPattern}
use Rattle.dg_check.specs.declared.vars.Variable.{Variable}
use Rattle.dg_check.specs.Faults.{fault_of_upsert}
use Rattle.dg_check.specs.Outcomes.{IsFaultOfUpsert}
use Rattle.dg_check.specs.Variables.{names_for}
use Rattle.dg_level.specs.Meaning.{defined_in, variables_of}
use Rattle.dg_upsert.specs.Meaning.{mutations_mean}
use Rattle.dg_wire.specs.declared.refusal.Refusal.TheVariants as refusals
use Rattle.dg_wire.specs.declared.reply.Reply.{Reply}
use Rattle.dg_wire.specs.declared.reply.Reply.TheVariants as replies
use Rattle.dg_zero.specs.Legal.{IsLegal}
use Rattle.dg_zero.specs.States.{Zero}
use Rattle.dg_txn.specs.Own.{Transaction, graph}
use Rattle.dg_node.specs.Clusters.{AreOthers, Meets}
use Rattle.dg_node.specs.Graphs.{graph_at}
use Rattle.dg_node.specs.Machine.{Machine, Session, session_of}
use Rattle.dg_node.specs.Mutations.{MutatesBy}
use Rattle.dg_node.specs.Queries.{refusal_of_check}
use Rattle.dg_node.specs.Schemas.{schema_at}
use Rattle.dg_node.specs.Sessions.{IsOpen, session_by, own_session, between, Serves}
use Rattle.dg_node.specs.State.{machine_beside}
use Rattle.dg_node.specs.Steps.{MayRaise}
use Rattle.dg_node.specs.Upserts.{as_upsert, statements_of, Adds, AddsUnless, UpsertsOr, UpsertsBy, UpsertsAs, UpsertsText, UpsertsIn, Upserts}
use Rattle.dg_node.proofs.LeadLemmas.{on_any}
use Rattle.dg_node.proofs.Leasing.{stays_here}
use Rattle.dg_node.proofs.Mutating.{schema_here, graph_here}
use Rattle.dg_node.proofs.Opens.{open_met}
use Rattle.dg_node.proofs.Serving.{Finds, finds_own, meets_by}

abbrev Pair : Type 0
Pair = Reply × Machine

-- ---- the same step, said otherwise

-- of the history that is met, where the session is found
serves_there : (author sid : ℕ) (txn : Transaction) (new : Option Transaction) (one other : Machine → Machine → Type 0) (z w : Zero) → ((ss : List Session) (n : Machine) → Finds sid txn (machine_beside z ss) → one (machine_beside z ss) n → other (machine_beside z ss) n) → Serves author sid (Some txn) new one z w → Serves author sid (Some txn) new other z w
serves_there author sid txn new one other z w f s = record {
  adds = s.adds;
  starts = s.starts;
  machine = λ rest front back a b. f (between front (own_session sid (Some txn)) back) _ (finds_own sid txn z front back a) (s.machine rest front back a b);
}

-- with another reply
raises_as : (one other : Machine → Reply → Machine → Type 0) (m n : Machine) → ((p : Reply) (k : Machine) → one m p k → (q : Reply) × other m q k) → MayRaise one m n → MayRaise other m n
raises_as one other m n f (inl same) = inl same
raises_as one other m n f (inr r) =
    let c = f r.reply r.after r.comes in
    inr (record { reply = c.0; after = r.after; comes = c.1; raised = r.raised })

module _ (takes : ℕ → Bool) (author sid : ℕ) (txn : Transaction) (z w : Zero) (new : Option Transaction) where
  meets_there : (one other : Machine → Machine → Type 0) → ((met : Zero) (ss : List Session) (n : Machine) → AreOthers takes z met → Finds sid txn (machine_beside met ss) → one (machine_beside met ss) n → other (machine_beside met ss) n)
      → Meets takes z w (Serves author sid (Some txn) new one) → Meets takes z w (Serves author sid (Some txn) new other)
  meets_there one other f meets =
      meets_by takes z w (Serves author sid (Some txn) new one) (Serves author sid (Some txn) new other) (λ met others s.
      serves_there author sid txn new one other met w (λ ss n found is. f met ss n others found is) s) meets

  -- what is answered
  ok_by : {E : Type 0} (one other : Reply → Machine → Machine → Type 0) → ((met : Zero) (ss : List Session) (p : Reply) (n : Machine) → AreOthers takes z met → Finds sid txn (machine_beside met ss) → one p (machine_beside met ss) n → other p (machine_beside met ss) n)
      → (result : Result Reply E) → IfOk result (λ p. Meets takes z w (Serves author sid (Some txn) new (one p))) → IfOk result (λ p. Meets takes z w (Serves author sid (Some txn) new (other p)))
  ok_by one other f (Err fault) meets = tt
  ok_by one other f (Ok p) meets = meets_there (one p) (other p) (λ met ss n others found is. f met ss p n others found is) meets

  -- what is left where memory was wanting
  err_by : {A E : Type 0} (one other : Machine → Reply → Machine → Type 0) → ((met : Zero) (ss : List Session) (p : Reply) (n : Machine) → AreOthers takes z met → Finds sid txn (machine_beside met ss) → one (machine_beside met ss) p n → (q : Reply) × other (machine_beside met ss) q n)
      → (result : Result A E) → OnErr result (Meets takes z w (Serves author sid (Some txn) new (MayRaise one))) → OnErr result (Meets takes z w (Serves author sid (Some txn) new (MayRaise other)))
  err_by one other f (Ok x) meets = tt
  err_by one other f (Err fault) meets =
      meets_there (MayRaise one) (MayRaise other) (λ met ss n others found r. raises_as one other (machine_beside met ss) n (λ p k is. f met ss p k others found is) r) meets

  -- ---- statements, added as those of a mutation are

  module _ (statements : List Statement) where
    pub meant_added : (given reply : Reply) → reply ≡ as_upsert given → Meets takes z w (Serves author sid (Some txn) new (λ m n. MutatesBy m (session_by sid txn) statements given n)) → Meets takes z w (Serves author sid (Some txn) new (λ m n. Adds m (session_by sid txn) statements reply n))
    meant_added given reply is meets =
        meets_there (λ m n. MutatesBy m (session_by sid txn) statements given n) (λ m n. Adds m (session_by sid txn) statements reply n) (λ met ss n others found by.
        record { given = given; mutates = by; reply_is = is }) meets

    pub meant_spared : Meets takes z w (Serves author sid (Some txn) new (MayRaise (λ m. MutatesBy m (session_by sid txn) statements))) → Meets takes z w (Serves author sid (Some txn) new (MayRaise (λ m. Adds m (session_by sid txn) statements)))
    meant_spared meets =
        err_by {A = Reply} {E = ℕ} (λ m. MutatesBy m (session_by sid txn) statements) (λ m. Adds m (session_by sid txn) statements) (λ met ss p n others found by.
        (as_upsert p, record { given = p; mutates = by; reply_is = refl })) (Err 0) meets

    -- where no sum is beyond
    module _ (overflow : Option (List ℕ)) (others : List Statement) (none : overflow ≡ None) (same : statements ≡ others) where
      adds_unless : (m : Machine) (p : Reply) (n : Machine) → Adds m (session_by sid txn) statements p n → AddsUnless m (session_by sid txn) others overflow p n
      adds_unless m p n adds =
          subst (λ (o : Option (List ℕ)). AddsUnless m (session_by sid txn) others o p n) (sym none)
          (subst (λ (l : List Statement). Adds m (session_by sid txn) l p n) same adds)

      pub ok_within : {E : Type 0} (result : Result Reply E) → IfOk result (λ p. Meets takes z w (Serves author sid (Some txn) new (λ m n. Adds m (session_by sid txn) statements p n))) → IfOk result (λ p. Meets takes z w (Serves author sid (Some txn) new (λ m n. AddsUnless m (session_by sid txn) others overflow p n)))
      ok_within result meets =
          ok_by (λ p m n. Adds m (session_by sid txn) statements p n) (λ p m n. AddsUnless m (session_by sid txn) others overflow p n) (λ met ss p n by found adds. adds_unless (machine_beside met ss) p n adds) result meets

      pub err_within : {A E : Type 0} (result : Result A E) → OnErr result (Meets takes z w (Serves author sid (Some txn) new (MayRaise (λ m. Adds m (session_by sid txn) statements)))) → OnErr result (Meets takes z w (Serves author sid (Some txn) new (MayRaise (λ m. AddsUnless m (session_by sid txn) others overflow))))
      err_within result meets =
          err_by (λ m. Adds m (session_by sid txn) statements) (λ m. AddsUnless m (session_by sid txn) others overflow) (λ met ss p n by found adds. (p, adds_unless (machine_beside met ss) p n adds)) result meets

  -- ---- an upsert block in which the checks find nothing

  module _ (schema : List PredDef) (g : List Triple) (made upsert : Upsert) (clean : fault_of_upsert schema upsert ≡ None) (same : made ≡ upsert) where
    by_clean : (list : List BadPattern) (m : Machine) (p : Reply) (n : Machine) → UpsertsOr m (session_by sid txn) schema g made None p n → UpsertsBy list m (session_by sid txn) schema g upsert p n
    by_clean list m p n is = record { fault = None; found = clean; outcome = subst (λ (u : Upsert). UpsertsOr m (session_by sid txn) schema g u None p n) same is }

    pub ok_clean : {E : Type 0} (list : List BadPattern) (result : Result Reply E) → IfOk result (λ p. Meets takes z w (Serves author sid (Some txn) new (λ m n. UpsertsOr m (session_by sid txn) schema g made None p n))) → IfOk result (λ p. Meets takes z w (Serves author sid (Some txn) new (λ m n. UpsertsBy list m (session_by sid txn) schema g upsert p n)))
    ok_clean list result meets =
        ok_by (λ p m n. UpsertsOr m (session_by sid txn) schema g made None p n) (λ p m n. UpsertsBy list m (session_by sid txn) schema g upsert p n) (λ met ss p n by found is. by_clean list (machine_beside met ss) p n is) result meets

    pub err_clean : {A E : Type 0} (result : Result A E) → OnErr result (Meets takes z w (Serves author sid (Some txn) new (MayRaise (λ m. UpsertsOr m (session_by sid txn) schema g made None)))) → OnErr result (Meets takes z w (Serves author sid (Some txn) new (MayRaise (λ m. UpsertsBy [] m (session_by sid txn) schema g upsert))))
    err_clean result meets =
        err_by (λ m. UpsertsOr m (session_by sid txn) schema g made None) (λ m. UpsertsBy [] m (session_by sid txn) schema g upsert) (λ met ss p n by found is. (p, by_clean [] (machine_beside met ss) p n is)) result meets

  -- ---- a text, where the session is found

  module _ (own : takes author ≡ true) (o : IsOpen z.history author txn) (body : List ℕ) (whole : (utf8_valid_len body == length body) ≡ true) where
    text_there : (list : List BadPattern) (met : Zero) (ss : List Session) (p : Reply) (n : Machine) → AreOthers takes z met → Finds sid txn (machine_beside met ss) → UpsertsAs list (machine_beside met ss) (session_by sid txn) txn.schema (graph txn) (upsert_of body) p n → Upserts list (machine_beside met ss) sid body p n
    text_there list met ss p n others found is =
        let m = machine_beside met ss in
        let s = session_by sid txn in
        let there = open_met takes author z met txn own others o in
        let schema_is = schema_here author txn met others.legal there ss in
        let graph_is = graph_here author txn met others.legal there ss in
        let seen = subst (λ (ds : List PredDef). UpsertsAs list m s ds (graph txn) (upsert_of body) p n) (sym schema_is) is in
        let both = subst (λ (g : List Triple). UpsertsAs list m s (schema_at m.alters txn.start) g (upsert_of body) p n) (sym graph_is) seen in
        subst (λ (f : Option Session). UpsertsIn list m sid f body p n) (sym found)
        (subst (λ (v : Bool). UpsertsText list m s (schema_at m.alters txn.start) (graph_at m.alters m.commits txn.start txn.own) body v p n) (sym whole) both)

    pub ok_upserted : {E : Type 0} (list : List BadPattern) (result : Result Reply E) → IfOk result (λ p. Meets takes z w (Serves author sid (Some txn) new (λ m n. UpsertsAs list m (session_by sid txn) txn.schema (graph txn) (upsert_of body) p n))) → IfOk result (λ p. Meets takes z w (Serves author sid (Some txn) new (λ m n. Upserts list m sid body p n)))
    ok_upserted list result meets =
        ok_by (λ p m n. UpsertsAs list m (session_by sid txn) txn.schema (graph txn) (upsert_of body) p n) (λ p m n. Upserts list m sid body p n) (λ met ss p n others found is. text_there list met ss p n others found is) result meets

    pub err_upserted : {A E : Type 0} (result : Result A E) → OnErr result (Meets takes z w (Serves author sid (Some txn) new (MayRaise (λ m. UpsertsAs [] m (session_by sid txn) txn.schema (graph txn) (upsert_of body))))) → OnErr result (Meets takes z w (Serves author sid (Some txn) new (MayRaise (λ m. Upserts [] m sid body))))
    err_upserted result meets =
        err_by (λ m. UpsertsAs [] m (session_by sid txn) txn.schema (graph txn) (upsert_of body)) (λ m. Upserts [] m sid body) (λ met ss p n others found is. (p, text_there [] met ss p n others found is)) result meets

-- ---- what its statements are, by what the variables of its plan stand for

pub statements_are : (schema : List PredDef) (g : List Triple) (query : Query) (muts : List UMut) (names : List (List ℕ)) (variables : List Variable) → names ≡ names_for false (defined_in schema query) → variables ≡ variables_of schema g query → mutations_mean names variables muts ≡ statements_of schema g (record { query = query; muts = muts })
statements_are schema g query muts names variables n v = λ i. mutations_mean (n i) (v i) muts

-- ---- nothing is appended

module _ (takes : ℕ → Bool) (author sid : ℕ) (txn : Transaction) (z : Zero) (l : IsLegal z.groups z.history) where
  -- memory was wanting before all
  pub wanted_here : {A E : Type 0} (step : Machine → Reply → Machine → Type 0) (result : Result A E) → OnErr result (Meets takes z z (Serves author sid (Some txn) (Some txn) (MayRaise step)))
  wanted_here step result = on_any result _ (stays_here takes author sid txn z l (MayRaise step) (λ front back a b. inl refl))

  -- a sum is beyond
  pub beyond_here : (statements : List Statement) (overflow : Option (List ℕ)) (name : List ℕ) → overflow ≡ Some name → Meets takes z z (Serves author sid (Some txn) (Some txn) (λ m n. AddsUnless m (session_by sid txn) statements overflow (replies.Refused (refusals.SumOverflow name)) n))
  beyond_here statements overflow name e =
      stays_here takes author sid txn z l (λ m n. AddsUnless m (session_by sid txn) statements overflow (replies.Refused (refusals.SumOverflow name)) n) (λ front back a b.
      let m = machine_beside z (between front (own_session sid (Some txn)) back) in
      subst (λ (o : Option (List ℕ)). AddsUnless m (session_by sid txn) statements o (replies.Refused (refusals.SumOverflow name)) m) (sym e) refl)

  module _ (list : List BadPattern) (schema : List PredDef) (g : List Triple) where
    -- the checks find this
    pub found_here : {E : Type 0} (upsert : Upsert) (fault : CheckFault) (result : Result Reply E) → IsFaultOfUpsert schema upsert list fault → (IsOk result → fault ≢ faults.OutOfMemory) → IfOk result (λ p. p ≡ replies.Refused (refusal_of_check fault)) → IfOk result (λ p. Meets takes z z (Serves author sid (Some txn) (Some txn) (λ m n. UpsertsBy list m (session_by sid txn) schema g upsert p n)))
    found_here upsert fault (Err x) found some is = tt
    found_here upsert fault (Ok p) (inl memory) some is = absurd (some refl memory)
    found_here upsert fault (Ok p) (inr found) some is =
        stays_here takes author sid txn z l (λ m n. UpsertsBy list m (session_by sid txn) schema g upsert p n) (λ front back a b.
        let m = machine_beside z (between front (own_session sid (Some txn)) back) in
        record { fault = Some fault; found = found; outcome = ap (λ (q : Reply). (q, m)) (sym is) })

    -- the text has a fault at this place
    module _ (read : Result Upsert DqlFault) (offset k : ℕ) (is : k ≡ offset) where
      refused_at : (fault : DqlFault) (reply : Reply) → ((m : Machine) → UpsertsAs list m (session_by sid txn) schema g (Err fault) reply m) → read ≡ Err fault → Meets takes z z (Serves author sid (Some txn) (Some txn) (λ m n. UpsertsAs list m (session_by sid txn) schema g read reply n))
      refused_at fault reply f e =
          stays_here takes author sid txn z l (λ m n. UpsertsAs list m (session_by sid txn) schema g read reply n) (λ front back a b.
          let m = machine_beside z (between front (own_session sid (Some txn)) back) in
          subst (λ (r : Result Upsert DqlFault). UpsertsAs list m (session_by sid txn) schema g r reply m) (sym e) (f m))

      pub token_here : read ≡ Err (texts.BadToken offset) → Meets takes z z (Serves author sid (Some txn) (Some txn) (λ m n. UpsertsAs list m (session_by sid txn) schema g read (replies.Refused (refusals.BadToken k)) n))
      token_here e = refused_at (texts.BadToken offset) (replies.Refused (refusals.BadToken k)) (λ m. ap (λ (j : ℕ). (replies.Refused (refusals.BadToken j), m)) (sym is)) e

      pub deep_here : read ≡ Err (texts.TooDeep offset) → Meets takes z z (Serves author sid (Some txn) (Some txn) (λ m n. UpsertsAs list m (session_by sid txn) schema g read (replies.Refused (refusals.TooDeep k)) n))
      deep_here e = refused_at (texts.TooDeep offset) (replies.Refused (refusals.TooDeep k)) (λ m. ap (λ (j : ℕ). (replies.Refused (refusals.TooDeep j), m)) (sym is)) e

      pub syntax_here : read ≡ Err (texts.BadSyntax offset) → Meets takes z z (Serves author sid (Some txn) (Some txn) (λ m n. UpsertsAs list m (session_by sid txn) schema g read (replies.Refused (refusals.BadSyntax k)) n))
      syntax_here e = refused_at (texts.BadSyntax offset) (replies.Refused (refusals.BadSyntax k)) (λ m. ap (λ (j : ℕ). (replies.Refused (refusals.BadSyntax j), m)) (sym is)) e

  -- a body that is no text
  pub no_block_here : (list : List BadPattern) (body : List ℕ) → (utf8_valid_len body == length body) ≡ false → Meets takes z z (Serves author sid (Some txn) (Some txn) (λ m n. Upserts list m sid body (replies.Refused (refusals.BadToken (utf8_valid_len body))) n))
  no_block_here list body part =
      stays_here takes author sid txn z l (λ m n. Upserts list m sid body (replies.Refused (refusals.BadToken (utf8_valid_len body))) n) (λ front back a b.
      let m = machine_beside z (between front (own_session sid (Some txn)) back) in
      let reply = replies.Refused (refusals.BadToken (utf8_valid_len body)) in
      subst (λ (f : Option Session). UpsertsIn list m sid f body reply m) (sym (finds_own sid txn z front back a))
      (subst (λ (v : Bool). UpsertsText list m (session_by sid txn) (schema_at m.alters txn.start) (graph_at m.alters m.commits txn.start txn.own) body v reply m) (sym part) refl))

-- a session that has no transaction
pub none_upserts : (list : List BadPattern) (sid : ℕ) (body : List ℕ) (m : Machine) → session_of m sid ≡ None → Upserts list m sid body (replies.Refused (refusals.NoSession sid)) m
none_upserts list sid body m none = subst (λ (f : Option Session). UpsertsIn list m sid f body (replies.Refused (refusals.NoSession sid)) m) (sym none) refl
