-- Each step keeps the law on commits that touch one guarded value, so that it holds of every run.
use Rattle.std.proofs.Common.{◌≡◌, ℕ, ◌+◌, inl, inr, Bool, true, false, cond, List, [], ◌∷◌, ◌++◌, Option, Some, None, length, refl, ap, subst, sym, arith}
use Rattle.std.specs.Prelude.{◌<◌, ◌==◌, not, nat_lt, nat_le, find, filter, map, Result, Ok, Err}
use Rattle.std.specs.List.{AllByRecursion}
use Rattle.std.specs.Str.Lossy.{utf8_valid_len}
use Rattle.dg_sets.proofs.Sets.{all_passed}
use Rattle.dg_schema.specs.declared.definition.PredDef.{PredDef}
use Rattle.dg_schema.specs.Whole.{schema}
use Rattle.dg_graph.specs.declared.change.Triple.{Triple}
use Rattle.dg_graph.specs.declared.change.Change.{Change}
use Rattle.dg_nquad.specs.declared.fault.NquadFault.{NquadFault}
use Rattle.dg_nquad.specs.declared.fault.NquadFault.TheVariants as texts
use Rattle.dg_nquad.specs.declared.mutation.Statement.{Statement}
use Rattle.dg_nquad.specs.Whole.{mutation}
use Rattle.dg_edges.specs.declared.edge.Edge.{Edge}
use Rattle.dg_edges.specs.declared.fault.EdgeFault.{EdgeFault}
use Rattle.dg_edges.specs.Expanding.{expanded}
use Rattle.dg_parse.specs.declared.fault.DqlFault.{DqlFault}
use Rattle.dg_parse.specs.declared.fault.DqlFault.TheVariants as queries
use Rattle.dg_parse.specs.declared.query.Query.{Query}
use Rattle.dg_parse.specs.declared.upsert.Upsert.{Upsert}
use Rattle.dg_parse.specs.Whole.{query_of, upsert_of}
use Rattle.dg_check.specs.declared.fault.CheckFault.{CheckFault}
use Rattle.dg_check.specs.declared.patterns.Refusal.{Refusal as BadPattern}
use Rattle.dg_level.specs.Meaning.{overflow_of, answer_of}
use Rattle.dg_tree.specs.Texts.{answer_text}
use Rattle.dg_wire.specs.declared.refusal.Refusal.{Refusal}
use Rattle.dg_wire.specs.declared.refusal.Refusal.TheVariants as refusals
use Rattle.dg_wire.specs.declared.reply.Reply.{Reply}
use Rattle.dg_wire.specs.declared.reply.Reply.TheVariants as replies
use Rattle.dg_wire.specs.declared.request.Request.{Request}
use Rattle.dg_wire.specs.declared.request.Request.TheVariants as requests
use Rattle.dg_node.specs.Alters.{least_start, first_with_data, present_schema, present_graph, declared, declared_unless, altered_beside, altered_by, alters}
use Rattle.dg_node.specs.Graphs.{graph_at}
use Rattle.dg_node.specs.Machine.{Machine, Session, TIMESTAMP_END, session_of, is_open, empty, with_session, changed_if, without_session, leased_upto, drawn}
use Rattle.dg_node.specs.Mutations.{first_leased, added_from, added, mutated, MutatesBy, MutatesAs, MutatesText, MutatesIn}
use Rattle.dg_node.specs.Queries.{ANSWER_LIMIT, summed, answer_or_fault, QueriesAs, QueriesText, QueriesIn, refusal_of_check}
use Rattle.dg_node.specs.Replying.{refused}
use Rattle.dg_node.specs.Schemas.{schema_at}
use Rattle.dg_node.specs.Steps.{Outcome, Spares, Step, Steps}
use Rattle.dg_node.specs.Touching.{LaterBegan}
use Rattle.dg_node.specs.Transactions.{begun, clash_of, with_commit, committed_unless, committed_with, committed_by, committed, discarded}
use Rattle.dg_node.specs.Upserts.{statements_of, AddsUnless, UpsertsOr, UpsertsAs, UpsertsText, UpsertsIn}
use Rattle.dg_node.proofs.MachineLemmas.{all_from}
use Rattle.dg_node.proofs.Rivals.{HasBegun, IsSettled, Keeps, keeps_settled, alter_settled, commit_settled, all_push, nil_apart}

abbrev Pair : Type 0
Pair = Reply × Machine

module _ (P : Machine → Type 0) where
  -- what holds of the machine that an answer leaves
  led : (said : Pair) (reply : Reply) (new : Machine) → ◌≡◌ {A = Pair} said (reply, new) → P said.1 → P new
  led said reply new e x = subst P (ap (λ (z : Pair). z.1) e) x

  either : (b : Bool) (x y : Pair) → P x.1 → P y.1 → P (cond b x y).1
  either true x y p q = p
  either false x y p q = q

-- ---- what keeps alters and commits

keeps_itself : (m : Machine) → Keeps m m
keeps_itself m = record { alters_are = refl; commits_are = refl; later = omega arith; begun = λ b. b }

refused_keeps : (m : Machine) (refusal : Refusal) (reply : Reply) (new : Machine) → ◌≡◌ {A = Pair} (refused m refusal) (reply, new) → Keeps m new
refused_keeps m refusal reply new e = led (Keeps m) (refused m refusal) reply new e (keeps_itself m)

drawn_keeps : (m : Machine) → Keeps m (drawn m (m.next + 1))
drawn_keeps m = record { alters_are = refl; commits_are = refl; later = omega arith; begun = λ b. all_from (HasBegun m.next) (HasBegun (m.next + 1)) (λ t l. omega (arith, l)) m.sessions b }

leased_keeps : (m : Machine) (next_uid : ℕ) → Keeps m (leased_upto m next_uid)
leased_keeps m next_uid = record { alters_are = refl; commits_are = refl; later = omega arith; begun = λ b. b }

without_keeps : (m : Machine) (sid : ℕ) → Keeps m (without_session m sid)
without_keeps m sid = record { alters_are = refl; commits_are = refl; later = omega arith; begun = λ b. all_passed (HasBegun m.next) (λ t. not (t.sid == sid)) m.sessions b }

begun_keeps : (m : Machine) (sid : ℕ) → Keeps m (begun m sid).1
begun_keeps m sid =
    either (Keeps m) (is_open m sid) (refused m (refusals.SessionOpen sid)) rest (keeps_itself m)
    (either (Keeps m) (nat_lt m.next TIMESTAMP_END) (replies.Begin sid m.next, with_session (drawn m (m.next + 1)) sid m.next) (refused m (refusals.TimestampsSpent m.next)) opened (keeps_itself m))
  where
    rest : Pair
    rest = cond (nat_lt m.next TIMESTAMP_END) (replies.Begin sid m.next, with_session (drawn m (m.next + 1)) sid m.next) (refused m (refusals.TimestampsSpent m.next))

    opened : Keeps m (with_session (drawn m (m.next + 1)) sid m.next)
    opened = record {
      alters_are = refl;
      commits_are = refl;
      later = omega arith;
      begun = λ b. all_push (HasBegun (m.next + 1)) m.sessions (record { sid = sid; start = m.next; own = [] }) (all_from (HasBegun m.next) (HasBegun (m.next + 1)) (λ t l. omega (arith, l)) m.sessions b) (omega arith);
    }

discarded_keeps : (m : Machine) (sid : ℕ) → Keeps m (discarded m sid).1
discarded_keeps m sid = either (Keeps m) (is_open m sid) (replies.Discard sid, without_session m sid) (refused m (refusals.NoSession sid)) (without_keeps m sid) (keeps_itself m)

-- ---- mutations

changed_begun : (next sid : ℕ) (changes : List Change) (ss : List Session) → AllByRecursion (HasBegun next) ss → AllByRecursion (HasBegun next) (map (changed_if sid changes) ss)
changed_begun next sid changes [] a = tt
changed_begun next sid changes (s ∷ ss) a = (one (s.sid == sid), changed_begun next sid changes ss a.1)
  where
    one : (b : Bool) → HasBegun next (cond b (record s { own = s.own ++ changes }) s)
    one true = a.0
    one false = a.0

module _ (m : Machine) (session : Session) where
  added_keeps : (edges : List Edge) → Keeps m (added m session edges).1
  added_keeps [] = keeps_itself m
  added_keeps (edge ∷ edges) = by (first_leased m (edge ∷ edges))
    where
      by : (o : Option ℕ) → Keeps m (added_from m session (edge ∷ edges) o).1
      by None = keeps_itself m
      by (Some first) = record {
        alters_are = refl;
        commits_are = refl;
        later = omega arith;
        begun = λ b. changed_begun m.next session.sid (expanded (graph_at m.alters m.commits session.start session.own) (edge ∷ edges) first) m.sessions b;
      }

  mutated_keeps : (checked : Result (List Edge) EdgeFault) → Keeps m (mutated m session checked).1
  mutated_keeps (Ok edges) = added_keeps edges
  mutated_keeps (Err fault) = keeps_itself m

  checked_keeps : (statements : List Statement) (reply : Reply) (new : Machine) → MutatesBy m session statements reply new → Keeps m new
  checked_keeps statements reply new x = led (Keeps m) (mutated m session x.checked) reply new x.outcome (mutated_keeps x.checked)

  read_keeps : (read : Result (List Statement) NquadFault) (reply : Reply) (new : Machine) → MutatesAs m session read reply new → Keeps m new
  read_keeps (Ok statements) reply new x = checked_keeps statements reply new x
  read_keeps (Err (texts.BadToken offset)) reply new x = refused_keeps m (refusals.BadToken offset) reply new x
  read_keeps (Err (texts.BadSyntax offset)) reply new x = refused_keeps m (refusals.BadSyntax offset) reply new x
  read_keeps (Err texts.OutOfMemory) reply new x = absurd x

  text_keeps : (body : List ℕ) (whole : Bool) (reply : Reply) (new : Machine) → MutatesText m session body whole reply new → Keeps m new
  text_keeps body true reply new x = read_keeps (mutation body) reply new x
  text_keeps body false reply new x = refused_keeps m (refusals.BadToken (utf8_valid_len body)) reply new x

mutates_keeps : (m : Machine) (sid : ℕ) (body : List ℕ) (found : Option Session) (reply : Reply) (new : Machine) → MutatesIn m sid found body reply new → Keeps m new
mutates_keeps m sid body (Some session) reply new x = text_keeps m session body (utf8_valid_len body == length body) reply new x
mutates_keeps m sid body None reply new x = refused_keeps m (refusals.NoSession sid) reply new x

-- ---- queries

module _ (list : List BadPattern) (m : Machine) (sid : ℕ) (schema : List PredDef) (graph : List Triple) where
  summed_keeps : (text : List ℕ) (over : Option (List ℕ)) → Keeps m (summed m sid over text).1
  summed_keeps text None = either (Keeps m) (nat_le (length text) ANSWER_LIMIT) (replies.Query sid text, m) (refused m refusals.AnswerTooLarge) (keeps_itself m) (keeps_itself m)
  summed_keeps text (Some name) = keeps_itself m

  fault_keeps : (query : Query) (fault : Option CheckFault) → Keeps m (answer_or_fault m sid schema graph query fault).1
  fault_keeps query None = summed_keeps (answer_text (answer_of schema graph query)) (overflow_of schema graph query)
  fault_keeps query (Some fault) = keeps_itself m

  said_keeps : (read : Result Query DqlFault) (reply : Reply) (new : Machine) → QueriesAs list m sid schema graph read reply new → Keeps m new
  said_keeps (Ok query) reply new x = led (Keeps m) (answer_or_fault m sid schema graph query x.fault) reply new x.outcome (fault_keeps query x.fault)
  said_keeps (Err (queries.BadToken offset)) reply new x = refused_keeps m (refusals.BadToken offset) reply new x
  said_keeps (Err (queries.TooDeep offset)) reply new x = refused_keeps m (refusals.TooDeep offset) reply new x
  said_keeps (Err (queries.BadSyntax offset)) reply new x = refused_keeps m (refusals.BadSyntax offset) reply new x
  said_keeps (Err queries.OutOfMemory) reply new x = absurd x

  body_keeps : (body : List ℕ) (whole : Bool) (reply : Reply) (new : Machine) → QueriesText list m sid schema graph body whole reply new → Keeps m new
  body_keeps body true reply new x = said_keeps (query_of body) reply new x
  body_keeps body false reply new x = refused_keeps m (refusals.BadToken (utf8_valid_len body)) reply new x

queries_keep : (list : List BadPattern) (m : Machine) (sid : ℕ) (body : List ℕ) (found : Option Session) (reply : Reply) (new : Machine) → QueriesIn list m sid found body reply new → Keeps m new
queries_keep list m sid body (Some session) reply new x = body_keeps list m sid (schema_at m.alters session.start) (graph_at m.alters m.commits session.start session.own) body (utf8_valid_len body == length body) reply new x
queries_keep list m sid body None reply new x = refused_keeps m (refusals.NoSession sid) reply new x

-- ---- upserts

module _ (list : List BadPattern) (m : Machine) (session : Session) (schema : List PredDef) (graph : List Triple) where
  unless_keeps : (statements : List Statement) (over : Option (List ℕ)) (reply : Reply) (new : Machine) → AddsUnless m session statements over reply new → Keeps m new
  unless_keeps statements None reply new x = checked_keeps m session statements x.given new x.mutates
  unless_keeps statements (Some name) reply new x = refused_keeps m (refusals.SumOverflow name) reply new x

  or_keeps : (upsert : Upsert) (fault : Option CheckFault) (reply : Reply) (new : Machine) → UpsertsOr m session schema graph upsert fault reply new → Keeps m new
  or_keeps upsert None reply new x = unless_keeps (statements_of schema graph upsert) (overflow_of schema graph upsert.query) reply new x
  or_keeps upsert (Some fault) reply new x = refused_keeps m (refusal_of_check fault) reply new x

  block_keeps : (read : Result Upsert DqlFault) (reply : Reply) (new : Machine) → UpsertsAs list m session schema graph read reply new → Keeps m new
  block_keeps (Ok upsert) reply new x = or_keeps upsert x.fault reply new x.outcome
  block_keeps (Err (queries.BadToken offset)) reply new x = refused_keeps m (refusals.BadToken offset) reply new x
  block_keeps (Err (queries.TooDeep offset)) reply new x = refused_keeps m (refusals.TooDeep offset) reply new x
  block_keeps (Err (queries.BadSyntax offset)) reply new x = refused_keeps m (refusals.BadSyntax offset) reply new x
  block_keeps (Err queries.OutOfMemory) reply new x = absurd x

  upsert_keeps : (body : List ℕ) (whole : Bool) (reply : Reply) (new : Machine) → UpsertsText list m session schema graph body whole reply new → Keeps m new
  upsert_keeps body true reply new x = block_keeps (upsert_of body) reply new x
  upsert_keeps body false reply new x = refused_keeps m (refusals.BadToken (utf8_valid_len body)) reply new x

upserts_keep : (list : List BadPattern) (m : Machine) (sid : ℕ) (body : List ℕ) (found : Option Session) (reply : Reply) (new : Machine) → UpsertsIn list m sid found body reply new → Keeps m new
upserts_keep list m sid body (Some session) reply new x = upsert_keeps list m session (schema_at m.alters session.start) (graph_at m.alters m.commits session.start session.own) body (utf8_valid_len body == length body) reply new x
upserts_keep list m sid body None reply new x = refused_keeps m (refusals.NoSession sid) reply new x

-- ---- alters

module _ (m : Machine) (s : IsSettled m) where
  declared_settled : (definitions : List PredDef) → IsSettled (declared m definitions).1
  declared_settled definitions =
      either IsSettled (nat_lt (m.next + 1) TIMESTAMP_END) (replies.Alter m.next (m.next + 1), longer) (refused m (refusals.TimestampsSpent m.next))
      (alter_settled m (record { start = m.next; ts = m.next + 1; definitions = definitions }) (m.next + 2) (omega arith) (omega arith) s) s
    where
      longer : Machine
      longer = record m { next = m.next + 2; alters = m.alters ++ record { start = m.next; ts = m.next + 1; definitions = definitions } ∷ [] }

  unless_settled : (definitions : List PredDef) (found : Option (List ℕ)) → IsSettled (declared_unless m definitions found).1
  unless_settled definitions None = declared_settled definitions
  unless_settled definitions (Some name) = s

  beside_settled : (definitions : List PredDef) (least : Option ℕ) → IsSettled (altered_beside m definitions least).1
  beside_settled definitions None = unless_settled definitions (first_with_data (present_schema m) (present_graph m) definitions)
  beside_settled definitions (Some start) = s

  altered_settled : (read : Result (List PredDef) ℕ) → IsSettled (altered_by m read).1
  altered_settled (Ok definitions) = beside_settled definitions (least_start m.sessions)
  altered_settled (Err line) = s

  alters_settled : (body : List ℕ) → IsSettled (alters m body).1
  alters_settled body = either IsSettled (utf8_valid_len body == length body) (altered_by m (schema body)) (refused m (refusals.BadToken (utf8_valid_len body))) (altered_settled (schema body)) s

-- ---- commits

found_begun : (P : Session → Type 0) (f : Session → Bool) (ss : List Session) (session : Session) → find f ss ≡ Some session → AllByRecursion P ss → P session
found_begun P f [] session e a = absurd (cc)
found_begun P f (t ∷ ss) session e a = by (f t) e (λ h. found_begun P f ss session h a.1)
  where
    by : (b : Bool) → cond b (Some t) (find f ss) ≡ Some session → (find f ss ≡ Some session → P session) → P session
    by true h more = let same : t ≡ session = cc in subst P same a.0
    by false h more = more h

module _ (m : Machine) (s : IsSettled m) (session : Session) (began : session.start < m.next) where
  without_settled : IsSettled (without_session m session.sid)
  without_settled = keeps_settled m (without_session m session.sid) (without_keeps m session.sid) s

  clear_settled : (clash : Option Refusal) → clash_of m session ≡ clash → IsSettled (committed_unless m session clash).1
  clear_settled (Some refusal) e = without_settled
  clear_settled None e =
      either IsSettled (nat_lt m.next TIMESTAMP_END) (replies.Commit session.sid m.next, without_session (drawn (with_commit m session) (m.next + 1)) session.sid) (refused m (refusals.TimestampsSpent m.next))
      (commit_settled m session (filter (λ t. not (t.sid == session.sid)) m.sessions) e s began (all_passed (HasBegun m.next) (λ t. not (t.sid == session.sid)) m.sessions s.begun)) s

  with_settled : (own : List Change) → IsSettled (committed_with m session own).1
  with_settled [] = without_settled
  with_settled (change ∷ own) = clear_settled (clash_of m session) refl

committed_settled : (m : Machine) (sid : ℕ) → IsSettled m → IsSettled (committed m sid).1
committed_settled m sid s = by (session_of m sid) refl
  where
    by : (found : Option Session) → session_of m sid ≡ found → IsSettled (committed_by m sid found).1
    by None e = s
    by (Some session) e = with_settled m s session (found_begun (HasBegun m.next) (λ t. t.sid == sid) m.sessions session e s.begun) session.own

-- ---- steps and runs

outcome_settled : (list : List BadPattern) (old : Machine) (request : Request) (reply : Reply) (new : Machine) → Outcome list old request reply new → IsSettled old → IsSettled new
outcome_settled list old (requests.Alter body) reply new x s = led IsSettled (alters old body) reply new x (alters_settled old s body)
outcome_settled list old (requests.Begin sid) reply new x s = keeps_settled old new (led (Keeps old) (begun old sid) reply new x (begun_keeps old sid)) s
outcome_settled list old (requests.Mutate sid body) reply new x s = keeps_settled old new (mutates_keeps old sid body (session_of old sid) reply new x) s
outcome_settled list old (requests.Upsert sid body) reply new x s = keeps_settled old new (upserts_keep list old sid body (session_of old sid) reply new x) s
outcome_settled list old (requests.Query sid body) reply new x s = keeps_settled old new (queries_keep list old sid body (session_of old sid) reply new x) s
outcome_settled list old (requests.Commit sid) reply new x s = led IsSettled (committed old sid) reply new x (committed_settled old sid s)
outcome_settled list old (requests.Discard sid) reply new x s = keeps_settled old new (led (Keeps old) (discarded old sid) reply new x (discarded_keeps old sid)) s
outcome_settled list old request reply new x s = keeps_settled old new (refused_keeps old refusals.Unbuilt reply new x) s

spared_settled : (request : Request) (old new : Machine) → Spares request old new → IsSettled old → IsSettled new
spared_settled (requests.Begin sid) old new (inl e) s = subst IsSettled (sym e) s
spared_settled (requests.Begin sid) old new (inr e) s = subst IsSettled (sym e) (keeps_settled old (drawn old (old.next + 1)) (drawn_keeps old) s)
spared_settled (requests.Mutate sid body) old new (inl e) s = subst IsSettled (sym e) s
spared_settled (requests.Mutate sid body) old new (inr r) s = subst IsSettled (sym r.raised) (keeps_settled old (leased_upto old r.after.next_uid) (leased_keeps old r.after.next_uid) s)
spared_settled (requests.Upsert sid body) old new (inl e) s = subst IsSettled (sym e) s
spared_settled (requests.Upsert sid body) old new (inr r) s = subst IsSettled (sym r.raised) (keeps_settled old (leased_upto old r.after.next_uid) (leased_keeps old r.after.next_uid) s)
spared_settled request old new e s = subst IsSettled (sym e) s

step_settled : (list : List BadPattern) (old : Machine) (request : Request) (reply : Reply) (new : Machine) → Step list old request reply new → IsSettled old → IsSettled new
step_settled list old request reply new (inl x) s = outcome_settled list old request reply new x s
step_settled list old request reply new (inr w) s = spared_settled request old new w.spared s

steps_settled : (list : List BadPattern) (old : Machine) (requests : List Request) (replies : List Reply) (new : Machine) → Steps list old requests replies new → IsSettled old → IsSettled new
steps_settled list old [] [] new x s = subst IsSettled (sym x) s
steps_settled list old [] (p ∷ ps) new x s = absurd x
steps_settled list old (r ∷ rs) [] new x s = absurd x
steps_settled list old (r ∷ rs) (p ∷ ps) new x s = steps_settled list x.0 rs ps new x.2 (step_settled list old r p x.0 x.1 s)

empty_settled : (groups : ℕ) → IsSettled (empty groups)
empty_settled groups = record { rivals = λ p value first second r. absurd (nil_apart (r.front ++ first ∷ r.mid) r.back second r.stand); drawn = tt; begun = tt }

pub later_began : LaterBegan
later_began list groups requests replies machine run = (steps_settled list (empty groups) requests replies machine run (empty_settled groups)).rivals
