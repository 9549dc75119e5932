-- One more entry of the history, and the machine that the engine stands for then.
use Rattle.std.proofs.Common.{◌≡◌, ℕ, ◌+◌, ◌<◌, ◌≤◌, Bool, true, false, cond, List, [], ◌∷◌, ◌++◌, refl, ap, sym, ◌∙◌, arith}
use Rattle.std.specs.Prelude.{nat_le, map}
use Rattle.std.proofs.lemmas.Grind.{common_steps, flat_map-append}
use Rattle.std.proofs.lemmas.List.Sums.{fold-append}
use Rattle.std.proofs.lemmas.List.{append-nil, map-append}
use Rattle.dg_schema.specs.declared.definition.PredDef.{PredDef}
use Rattle.dg_graph.specs.declared.change.Change.{Change}
use Rattle.dg_graph.specs.Graphs.{after_changes}
use Rattle.dg_keys.specs.declared.conflict.ConflictKey.{ConflictKey}
use Rattle.dg_oracle.specs.Commits as oracle
use Rattle.dg_oracle.proofs.Oracles.{all_push}
use Rattle.dg_zero.specs.declared.entry.Entry.{Entry}
use Rattle.dg_zero.specs.declared.entry.Event.{Event}
use Rattle.dg_zero.specs.Counters.{next, drawn, next_uid, next_uid_after}
use Rattle.dg_zero.specs.States.{Zero, and_then, alter_record}
use Rattle.dg_zero.specs.States as states
use Rattle.dg_zero.specs.declared.offer.Offer.{Offer}
use Rattle.dg_zero.specs.Legal.{IsLegal}
use Rattle.dg_keys.specs.declared.record.Part.{Part}
use Rattle.dg_zero.specs.Listings.{conflict_keys}
use Rattle.dg_zero.specs.Verdicts.{commits, commit_of}
use Rattle.dg_zero.specs.Worlds.{World, world_at, world_after, world_upto, world, schema, stamp, schema_at, graph_at, changes_of}
use Rattle.dg_zero.proofs.Histories.{next_push, commits_push}
use Rattle.dg_zero.proofs.LawsOfHistories.{world_at_push, present_is_last}
use Rattle.dg_node.specs.Schemas.{Alter}
use Rattle.dg_node.specs.Schemas as machines
use Rattle.dg_node.specs.Graphs.{Commit, committed_at}
use Rattle.dg_node.specs.Machine.{Machine, Session}
use Rattle.dg_node.specs.Transactions.{keys_at, keyed}
use Rattle.dg_node.specs.State.{alter_of, alters, asked_of, asked_by, IsDrawn}
use Rattle.dg_node.proofs.Standing.{StandBeside}
use Rattle.dg_node.proofs.MachineLemmas.{schemas_are, schema_before, graph_beside, graph_before, graph_there, IsSeenAlike, all_keyed_alike, all_from, drawn_later}

pub alters_push : (h : List Entry) (e : Entry) → alters (h ++ e ∷ []) ≡ alters h ++ alter_of e.event
alters_push h e = flat_map-append (λ (e : Entry). alter_of e.event) h (e ∷ []) ∙ ap (λ (alts : List Alter). alters h ++ alts) (append-nil (alter_of e.event))

pub asked_push : (h : List Entry) (e : Entry) → asked_by (h ++ e ∷ []) ≡ asked_by h ++ asked_of e.event
asked_push h e = flat_map-append (λ (e : Entry). asked_of e.event) h (e ∷ []) ∙ ap (λ (cs : List Commit). asked_by h ++ cs) (append-nil (asked_of e.event))

pub uid_push : (h : List Entry) (e : Entry) → next_uid (h ++ e ∷ []) ≡ next_uid_after (next_uid h) e.event
uid_push h e = fold-append (λ (uid : ℕ) (e : Entry). next_uid_after uid e.event) 1 h (e ∷ [])

-- an event that neither alters nor commits
pub record IsQuiet (event : Event) : Type 0 where
  pub no_alter : alter_of event ≡ []
  pub no_commit : commit_of event ≡ []
  pub none_asked : asked_of event ≡ []
  pub same_world : (w : World) → world_after w event ≡ w

module _ (z : Zero) (os : List Session) (m : Machine) (s : StandBeside z os m) (author : ℕ) where
  pub stand_quiet : (event : Event) (ps : List Session) (sessions : List Session) (later uid : ℕ) → IsQuiet event → later ≡ m.next + drawn event → uid ≡ next_uid_after m.next_uid event → sessions ≡ ps → StandBeside (and_then z author event) ps (record { groups = m.groups; next = later; next_uid = uid; alters = m.alters; commits = m.commits; sessions = sessions })
  stand_quiet event ps sessions later uid q is uid_there same =
      let e : Entry = record { author = author; event = event } in
      let grown = next_push z.history e in
      record {
        groups_are = s.groups_are;
        next_is = omega (arith, s.next_is, is);
        uid_is = uid_there ∙ (ap (λ (u : ℕ). next_uid_after u event) s.uid_is ∙ sym (uid_push z.history e));
        alters_are = s.alters_are ∙ sym (alters_push z.history e ∙ (ap (λ (alts : List Alter). alters z.history ++ alts) q.no_alter ∙ append-nil (alters z.history)));
        commits_are = s.commits_are ∙ sym (asked_push z.history e ∙ (ap (λ (cs : List Commit). asked_by z.history ++ cs) q.none_asked ∙ append-nil (asked_by z.history)));
        sessions_are = same;
        keys_are = s.keys_are ∙ sym (commits_push z.history e ∙ (ap (λ (cs : List (oracle.Commit ConflictKey)). commits z.history ++ cs) q.no_commit ∙ append-nil (commits z.history)));
        drawn = drawn_later m.next later m.commits (omega (arith, is)) s.drawn;
        graphs_are = λ at. s.graphs_are at ∙ sym (ap (λ (w : World). w.graph) (world_at_push z.history e at ∙ stays at (world_at z.history at)));
      }
    where
      stays : (at : ℕ) (w : World) → world_upto at w (record { author = author; event = event }) ≡ w
      stays at w = elim (nat_le (stamp event) at) as (λ b. cond b (world_after w event) w ≡ w) [ true ↦ q.same_world w | false ↦ refl ]

  -- ---- an alter

  pub stand_alter : (newer : List PredDef) (parts : List Part) → StandBeside (and_then z author (states.alter_of z newer parts)) os (record { groups = m.groups; next = m.next + 2; next_uid = m.next_uid; alters = m.alters ++ (record { start = m.next; ts = m.next + 1; definitions = newer }) ∷ []; commits = m.commits; sessions = m.sessions })
  stand_alter newer parts =
      let event : Event = states.alter_of z newer parts in
      let e : Entry = record { author = author; event = event } in
      let a : Alter = record { start = m.next; ts = m.next + 1; definitions = newer } in
      let n : Machine = record { groups = m.groups; next = m.next + 2; next_uid = m.next_uid; alters = m.alters ++ a ∷ []; commits = m.commits; sessions = m.sessions } in
      let grown = next_push z.history e in
      let one : a ∷ [] ≡ alter_of event = λ i. (record { start = s.next_is i; ts = s.next_is i + 1; definitions = newer }) ∷ [] in
      record {
        groups_are = s.groups_are;
        next_is = omega (arith, s.next_is);
        uid_is = s.uid_is ∙ sym (uid_push z.history e);
        alters_are = ap (λ (alts : List Alter). alts ++ a ∷ []) s.alters_are ∙ (ap (λ (alts : List Alter). alters z.history ++ alts) one ∙ sym (alters_push z.history e));
        commits_are = s.commits_are ∙ sym (asked_push z.history e ∙ append-nil (asked_by z.history));
        sessions_are = s.sessions_are;
        keys_are = all_keyed_alike m n m.commits (all_from (IsDrawn m.next) (IsSeenAlike m n) (λ c d. record { schema_is = schema_before m.alters a c.start (omega (arith, d.0, d.1)); graph_is = graph_beside m.alters a m.next c.start m.commits (omega arith) s.drawn }) m.commits s.drawn)
            ∙ (s.keys_are ∙ sym (commits_push z.history e ∙ append-nil (commits z.history)));
        drawn = drawn_later m.next (m.next + 2) m.commits (omega arith) s.drawn;
        graphs_are = λ at. graph_beside m.alters a m.next at m.commits (omega arith) s.drawn ∙ (s.graphs_are at ∙ sym (ap (λ (w : World). w.graph) (world_at_push z.history e at) ∙ stays at (world_at z.history at)));
      }
    where
      stays : (at : ℕ) (w : World) → (world_upto at w (record { author = author; event = states.alter_of z newer parts })).graph ≡ w.graph
      stays at w = elim (nat_le (next z.history + 1) at) as (λ b. (cond b (world_after w (states.alter_of z newer parts)) w).graph ≡ w.graph) [ true ↦ refl | false ↦ refl ]

  -- ---- a commit

  -- what is committed: its start was drawn, its keys are those of the changes in the graph at its start, and its parts do now what the changes do
  pub record IsCommittedAs (start : ℕ) (own : List Change) (offer : Offer) : Type 0 where
    pub legal : IsLegal z.groups z.history
    pub start_is : offer.start ≡ start
    pub start_drawn : start < m.next
    pub changes_same : offer.changes ≡ own
    pub keys_same : offer.keys ≡ conflict_keys (schema_at z.history start) (graph_at z.history start []) own
    pub parts_do : after_changes (schema z.history) (world z.history).graph own ≡ after_changes (schema z.history) (world z.history).graph (changes_of offer.parts)

  pub stand_commit : (offer : Offer) (ts start : ℕ) (own : List Change) (ps : List Session) (sessions : List Session) → ts ≡ next z.history → IsCommittedAs start own offer → sessions ≡ ps → StandBeside (and_then z author (states.commit_of offer ts)) ps (record { groups = m.groups; next = m.next + 1; next_uid = m.next_uid; alters = m.alters; commits = m.commits ++ (record { start = start; ts = m.next; changes = own }) ∷ []; sessions = sessions })
  stand_commit offer ts start own ps sessions ts_is is same =
      let event : Event = states.commit_of offer ts in
      let e : Entry = record { author = author; event = event } in
      let c : Commit = record { start = start; ts = m.next; changes = own } in
      let n : Machine = record { groups = m.groups; next = m.next + 1; next_uid = m.next_uid; alters = m.alters; commits = m.commits ++ c ∷ []; sessions = sessions } in
      let grown = next_push z.history e in
      let drawn_at : m.next ≡ ts = s.next_is ∙ sym ts_is in
      let schema_there : machines.schema_at m.alters start ≡ schema_at z.history start = ap (λ (alts : List Alter). machines.schema_at alts start) s.alters_are ∙ schemas_are z.history start in
      let graph_of : committed_at m.alters (m.commits ++ c ∷ []) start ≡ graph_at z.history start [] = graph_before m.alters m.commits c start is.start_drawn ∙ s.graphs_are start in
      let keys_of : keys_at n start own ≡ offer.keys = (λ i. conflict_keys (schema_there i) (graph_of i) own) ∙ sym is.keys_same in
      let one : keyed n c ∷ [] ≡ commit_of event = λ i. (record { ts = drawn_at i; keys = keys_of i }) ∷ [] in
      let start_back : start ≡ offer.start = sym is.start_is in
      let changes_back : own ≡ offer.changes = sym is.changes_same in
      let one_asked : c ∷ [] ≡ asked_of event = λ i. (record { start = start_back i; ts = drawn_at i; changes = changes_back i }) ∷ [] in
      let older : map (keyed n) m.commits ≡ map (keyed m) m.commits = all_keyed_alike m n m.commits (all_from (IsDrawn m.next) (IsSeenAlike m n) (λ d p. record { schema_is = refl; graph_is = graph_before m.alters m.commits c d.start (omega (arith, p.0, p.1)) }) m.commits s.drawn) in
      record {
        groups_are = s.groups_are;
        next_is = omega (arith, s.next_is);
        uid_is = s.uid_is ∙ sym (uid_push z.history e);
        alters_are = s.alters_are ∙ sym (alters_push z.history e ∙ append-nil (alters z.history));
        commits_are = (λ i. s.commits_are i ++ one_asked i) ∙ sym (asked_push z.history e);
        sessions_are = same;
        keys_are = map-append (keyed n) m.commits (c ∷ []) ∙ ((λ i. (older ∙ s.keys_are) i ++ one i) ∙ sym (commits_push z.history e));
        drawn = all_push (IsDrawn (m.next + 1)) m.commits c (drawn_later m.next (m.next + 1) m.commits (omega arith) s.drawn) (is.start_drawn, omega arith);
        graphs_are = λ at. by at (nat_le m.next at) refl ∙ sym (ap (λ (w : World). w.graph) (world_at_push z.history e at));
      }
    where
      c : Commit
      c = record { start = start; ts = m.next; changes = own }

      e : Entry
      e = record { author = author; event = states.commit_of offer ts }

      by : (at : ℕ) (v : Bool) → nat_le m.next at ≡ v → committed_at m.alters (m.commits ++ c ∷ []) at ≡ (world_upto at (world_at z.history at) e).graph
      by at true there =
          let le : m.next ≤ at = grind (arith, common_steps) in
          let there_too : nat_le ts at ≡ true = grind (arith, common_steps, s.next_is, ts_is) in
          let now : world_at z.history at ≡ world z.history = present_is_last z.groups z.history at is.legal (omega (arith, s.next_is, le)) in
          let now_then : world_at z.history m.next ≡ world z.history = present_is_last z.groups z.history m.next is.legal (omega (arith, s.next_is)) in
          let schema_now : machines.schema_at m.alters m.next ≡ schema z.history = ap (λ (alts : List Alter). machines.schema_at alts m.next) s.alters_are ∙ (schemas_are z.history m.next ∙ ap (λ (w : World). w.schema) now_then) in
          let graph_now : committed_at m.alters m.commits at ≡ (world z.history).graph = s.graphs_are at ∙ ap (λ (w : World). w.graph) now in
          graph_there m.alters m.commits c at le ∙ ((λ i. after_changes (schema_now i) (graph_now i) own) ∙ (is.parts_do ∙ sym (rw (there_too, now) refl)))
      by at false early =
          let lt : at < m.next = grind (arith, common_steps) in
          let early_too : nat_le ts at ≡ false = grind (arith, common_steps, s.next_is, ts_is) in
          graph_before m.alters m.commits c at lt ∙ (s.graphs_are at ∙ sym (rw early_too refl))
