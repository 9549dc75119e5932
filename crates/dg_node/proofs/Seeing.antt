-- What a query is answered as a session sees it, beside sessions of others.
use Rattle.std.proofs.Common.{◌≡◌, ◌≢◌, inl, inr, ℕ, Bool, true, false, List, length, Option, Some, None, Ok, Err, refl, ap, subst, sym, ◌∙◌}
use Rattle.std.specs.Prelude.{◌++◌, ◌==◌, Result, IfOk, IsOk}
use Rattle.std.specs.Str.Lossy.{utf8_valid_len}
use Rattle.dg_check.specs.declared.patterns.Refusal.{Refusal as BadPattern}
use Rattle.dg_graph.specs.declared.change.Triple.{Triple}
use Rattle.dg_schema.specs.declared.definition.PredDef.{PredDef}
use Rattle.dg_parse.specs.declared.fault.DqlFault.{DqlFault}
use Rattle.dg_parse.specs.declared.query.Query.{Query}
use Rattle.dg_parse.specs.Whole.{query_of}
use Rattle.dg_check.specs.declared.fault.CheckFault.{CheckFault}
use Rattle.dg_check.specs.declared.fault.CheckFault.TheVariants as faults
use Rattle.dg_check.specs.Faults.{fault_of}
use Rattle.dg_check.specs.Outcomes.{IsFaultOf, IsQueryOutcome}
use Rattle.dg_wire.specs.declared.refusal.Refusal.TheVariants as refusals
use Rattle.dg_wire.specs.declared.reply.Reply.{Reply}
use Rattle.dg_wire.specs.declared.reply.Reply.TheVariants as replies
use Rattle.dg_zero.specs.Legal.{IsLegal}
use Rattle.dg_zero.specs.States.{Zero}
use Rattle.dg_txn.specs.Own.{Transaction, graph}
use Rattle.dg_node.specs.Machine.{Machine, Session, session_of}
use Rattle.dg_node.specs.Schemas.{schema_at}
use Rattle.dg_node.specs.Queries.{refusal_of_check, answer_or_fault, QueriesBy, QueriesAs, QueriesText, QueriesIn, Queries}
use Rattle.dg_node.specs.Sessions.{IsOpen, session_by, own_session, between, Sees}
use Rattle.dg_node.specs.State.{machine_beside}
use Rattle.dg_node.proofs.Between.{none_found, both_others}
use Rattle.dg_node.proofs.Mutating.{schema_here, graph_here}
use Rattle.dg_node.proofs.Serving.{finds_own}

module _ (list : List BadPattern) (sid : ℕ) (body : List ℕ) where
  -- where the session has no transaction
  pub none_sees : (session : Option Transaction) (reply : Reply) (z : Zero) → session ≡ None → reply ≡ replies.Refused (refusals.NoSession sid) → Sees sid session (λ m n. Queries list m sid body reply n) z
  none_sees (Some txn) reply z e is = absurd (cc)
  none_sees None reply z e is = λ front back a b.
      let m = machine_beside z (front ++ back) in
      subst (λ (s : Option Session). QueriesIn list m sid s body reply m) (sym (none_found sid (front ++ back) (both_others sid front back a b))) (ap (λ (p : Reply). (p, m)) (sym is))

  -- what is said of the schema and the graph that the transaction has
  pub text_sees : {E : Type 0} (r : Result Reply E) (session : Option Transaction) (txn : Transaction) → session ≡ Some txn
      → ((m : Machine) → IfOk r (λ p. QueriesText list m sid txn.schema (graph txn) body (utf8_valid_len body == length body) p m))
      → (author : ℕ) (z : Zero) → IsLegal z.groups z.history → IsOpen z.history author txn → IfOk r (λ p. Sees sid session (λ m n. Queries list m sid body p n) z)
  text_sees (Err x) session txn e answers author z legal opens = tt
  text_sees (Ok p) None txn e answers author z legal opens = absurd (cc)
  text_sees (Ok p) (Some other) txn e answers author z legal opens = λ front back a b.
      let same : other ≡ txn = cc in
      let ss = between front (own_session sid (Some txn)) back in
      let m = machine_beside z ss in
      let whole = utf8_valid_len body == length body in
      let schema_is = schema_here author txn z legal opens ss in
      let graph_is = graph_here author txn z legal opens ss in
      let seen = subst (λ (ds : List PredDef). QueriesText list m sid ds (graph txn) body whole p m) (sym schema_is) (answers m) in
      let there = subst (λ (g : List Triple). QueriesText list m sid (schema_at m.alters txn.start) g body whole p m) (sym graph_is) seen in
      let found = subst (λ (s : Option Session). QueriesIn list m sid s body p m) (sym (finds_own sid txn z front back a)) there in
      subst (λ (t : Transaction). Queries list (machine_beside z (between front (own_session sid (Some t)) back)) sid body p (machine_beside z (between front (own_session sid (Some t)) back))) (sym same) found

  -- a body that is a text
  pub text_whole : {E : Type 0} (r : Result Reply E) (m : Machine) (schema : List PredDef) (g : List Triple) (text : List ℕ) → (utf8_valid_len body == length body) ≡ true → text ≡ body
      → IfOk r (λ p. QueriesAs list m sid schema g (query_of text) p m) → IfOk r (λ p. QueriesText list m sid schema g body (utf8_valid_len body == length body) p m)
  text_whole r m schema g text whole e said =
      subst (λ (v : Bool). IfOk r (λ p. QueriesText list m sid schema g body v p m)) (sym whole)
      (subst (λ (t : List ℕ). IfOk r (λ p. QueriesAs list m sid schema g (query_of t) p m)) e said)

  -- a body that is none
  pub text_not_whole : (m : Machine) (schema : List PredDef) (g : List Triple) (reply : Reply) → (utf8_valid_len body == length body) ≡ false → reply ≡ replies.Refused (refusals.BadToken (utf8_valid_len body))
      → QueriesText list m sid schema g body (utf8_valid_len body == length body) reply m
  text_not_whole m schema g reply not_whole is =
      subst (λ (v : Bool). QueriesText list m sid schema g body v reply m) (sym not_whole) (ap (λ (p : Reply). (p, m)) (sym is))

-- ---- what is read of a text, and what the checks find

module _ {E : Type 0} (list : List BadPattern) (m : Machine) (sid : ℕ) (schema : List PredDef) (g : List Triple) where
  -- a query
  pub query_said : (r : Result Reply E) (query : Query) (read : Result Query DqlFault) → read ≡ Ok query
      → IfOk r (λ p. QueriesBy list m sid schema g query p m) → IfOk r (λ p. QueriesAs list m sid schema g read p m)
  query_said r query read e by = subst (λ (said : Result Query DqlFault). IfOk r (λ p. QueriesAs list m sid schema g said p m)) (sym e) by

  -- in which the checks find nothing
  pub clean_answered : (r : Result Reply E) (query : Query) → fault_of schema query ≡ None → IfOk r (λ p. ◌≡◌ {A = Reply × Machine} (answer_or_fault m sid schema g query None) (p, m)) → IfOk r (λ p. QueriesBy list m sid schema g query p m)
  clean_answered (Ok p) query clean answers = record { fault = None; found = clean; outcome = answers }
  clean_answered (Err x) query clean answers = tt

  -- in which they find this
  pub fault_answered : (r : Result Reply E) (query : Query) (fault : CheckFault) → (IsOk r → IsQueryOutcome schema query list (Err fault)) → IfOk r (λ p. p ≡ replies.Refused (refusal_of_check fault)) → IfOk r (λ p. QueriesBy list m sid schema g query p m)
  fault_answered (Ok p) query fault found is = record { fault = Some fault; found = found refl; outcome = ap (λ (q : Reply). (q, m)) (sym is) }
  fault_answered (Err x) query fault found is = tt

-- a fault that is no want of memory is one of the query
pub found_fault : {E : Type 0} (r : Result Reply E) (schema : List PredDef) (query : Query) (list : List BadPattern) (fault : CheckFault) → IsFaultOf schema query list fault → (IsOk r → fault ≢ faults.OutOfMemory) → IsOk r → IsQueryOutcome schema query list (Err fault)
found_fault r schema query list fault (inl memory) some ok = absurd (some ok memory)
found_fault r schema query list fault (inr found) some ok = found
