-- What an alter makes of the history and of the machine, whose sessions have the active starts.
use Rattle.std.proofs.Common.{◌≡◌, ℕ, ◌+◌, ◌-◌, ◌<◌, ◌≤◌, ◌^◌, Bool, true, List, [], ◌∷◌, Some, None, Ok, Err, refl, ap, subst, sym, ◌∙◌, arith}
use Rattle.std.specs.Prelude.{fold, map, min, Result, IfOk}
use Rattle.std.specs.List.{AllByRecursion}
use Rattle.dg_schema.specs.declared.definition.PredDef.{PredDef}
use Rattle.dg_keys.specs.declared.record.Part.{Part}
use Rattle.dg_oracle.specs.Commits as oracle
use Rattle.dg_wire.specs.declared.refusal.Refusal.TheVariants as refusals
use Rattle.dg_wire.specs.declared.reply.Reply.{Reply}
use Rattle.dg_wire.specs.declared.reply.Reply.TheVariants as replies
use Rattle.dg_zero.specs.declared.entry.Event.TheVariants.{Look}
use Rattle.dg_zero.specs.Counters.{next, active, starts_of, line}
use Rattle.dg_zero.specs.Legal.{IsLegal}
use Rattle.dg_zero.specs.Places.{tablets}
use Rattle.dg_zero.specs.States.{Zero, and_then, alter_of, first_held, IsLeastStart}
use Rattle.dg_zero.specs.Worlds.{World, world, world_at, schema}
use Rattle.dg_zero.proofs.LawsOfHistories.{line_stays_below, present_is_last}
use Rattle.dg_node.specs.declared.cluster.ClusterFault.{ClusterFault}
use Rattle.dg_node.specs.declared.cluster.ClusterFault.TheVariants as faults
use Rattle.dg_node.specs.Clusters.{Meets, AltersAt}
use Rattle.dg_node.specs.Alters.{least_start, first_with_data, present_schema, present_graph, altered}
use Rattle.dg_node.specs.Machine.{Machine, Session}
use Rattle.dg_node.specs.Owning.{AreAtRest}
use Rattle.dg_node.specs.Sessions.{Alters}
use Rattle.dg_node.specs.State.{machine_beside}
use Rattle.dg_node.proofs.Alone.{meets_here}
use Rattle.dg_node.proofs.AlterLemmas.{first_is, held_nowhere}
use Rattle.dg_node.proofs.MachineLemmas.{schemas_are}
use Rattle.dg_node.proofs.ReplyLemmas.{alter_pending, alter_has_data, altered_is, alter_spent, declared_is}
use Rattle.dg_node.proofs.Serving.{meets_by, stands_beside, adds_nothing, adds_one, active_same, look_beside}
use Rattle.dg_node.proofs.Standing.{is_beside}
use Rattle.dg_node.proofs.StandLemmas.{stand_alter}

abbrev Pair : Type 0
Pair = Reply × Machine

-- ---- nothing changes

pub alters_nothing : (author : ℕ) (step : Machine → Machine → Type 0) (z : Zero) → ((m : Machine) → step m m) → Alters author step z z
alters_nothing author step z f = record { adds = adds_nothing author z; starts = refl; machine = λ rest ss e. f (machine_beside z ss) }

pub alters_look : (author : ℕ) (step : Machine → Machine → Type 0) (z w : Zero) → IsLegal z.groups z.history → w ≡ and_then z author Look → (AreAtRest z.history → (ss : List Session) → map (λ (s : Session). s.start) ss ≡ starts_of (active z.history) → step (machine_beside z ss) (machine_beside z ss)) → Alters author step z w
alters_look author step z w l then f = record {
  adds = adds_one author z w Look then;
  starts = active_same z w author Look then;
  machine = λ rest ss e. subst (λ (n : Machine). step (machine_beside z ss) n) (sym (look_beside z w author ss l then)) (f rest ss e);
}

pub alters_by : (author : ℕ) (one other : Machine → Machine → Type 0) (z w : Zero) → ((m n : Machine) → one m n → other m n) → Alters author one z w → Alters author other z w
alters_by author one other z w f a = record { adds = a.adds; starts = a.starts; machine = λ rest ss e. f _ _ (a.machine rest ss e) }

-- ---- the starts of sessions

fold_least : (x low : ℕ) (ss : List Session) → x ≤ low → oracle.Ascends low (map (λ (s : Session). s.start) ss) → fold (λ least (s : Session). min least s.start) x ss ≡ x
fold_least x low [] le a = refl
fold_least x low (s ∷ ss) le a =
    let same : min x s.start ≡ x = omega (arith, le, a.0) in
    ap (λ (y : ℕ). fold (λ least (t : Session). min least t.start) y ss) same ∙ fold_least x s.start ss (omega (arith, le, a.0)) a.1

pub none_open : (ss : List Session) (z : Zero) → map (λ (s : Session). s.start) ss ≡ starts_of (active z.history) → active z.history ≡ [] → ss ≡ []
none_open [] z e none = refl
none_open (s ∷ ss) z e none = absurd (let no : s.start ∷ map (λ (t : Session). t.start) ss ≡ [] = e ∙ ap starts_of none in cc)

pub none_least : (ss : List Session) (z : Zero) → map (λ (s : Session). s.start) ss ≡ starts_of (active z.history) → active z.history ≡ [] → least_start ss ≡ None
none_least ss z e none = ap least_start (none_open ss z e none)

pub least_open : (ss : List Session) (z : Zero) (start : ℕ) → IsLegal z.groups z.history → map (λ (s : Session). s.start) ss ≡ starts_of (active z.history) → IsLeastStart z.history start → least_start ss ≡ Some start
least_open [] z start l e is = absurd (let no : oracle.is_active [] start ≡ true = subst (λ (xs : List ℕ). oracle.is_active xs start ≡ true) (sym e) is.found in cc)
least_open (s ∷ ss) z start l e is =
    let found = subst (λ (xs : List ℕ). oracle.is_active xs start ≡ true) (sym e) is.found in
    let least = subst (λ (xs : List ℕ). AllByRecursion (λ s. start ≤ s) xs) (sym e) is.least in
    let ascend = subst (λ (xs : List ℕ). oracle.Ascends (line z.history) xs) (sym e) (line_stays_below z.groups z.history l).starts in
    let first : s.start ≡ start = first_is start s.start (line z.history) (map (λ (t : Session). t.start) ss) least.0 ascend found in
    ap (λ (x : ℕ). Some x) (fold_least s.start s.start ss (omega arith) ascend.1 ∙ first)

-- ---- each answer of the cluster

module _ (author : ℕ) (z : Zero) (l : IsLegal z.groups z.history) (newer : List PredDef) where
  -- the machine's present is the history's
  same_data : (ss : List Session) → first_with_data (present_schema (machine_beside z ss)) (present_graph (machine_beside z ss)) newer ≡ first_with_data (schema z.history) (world z.history).graph newer
  same_data ss =
      let m = machine_beside z ss in
      let now : world_at z.history m.next ≡ world z.history = present_is_last z.groups z.history m.next l (omega arith) in
      let schema_is : present_schema m ≡ schema z.history = schemas_are z.history m.next ∙ ap (λ (w : World). w.schema) now in
      let graph_is : present_graph m ≡ (world z.history).graph = (stands_beside z ss l).graphs_are m.next ∙ ap (λ (w : World). w.graph) now in
      λ i. first_with_data (schema_is i) (graph_is i) newer

  pub pending_alters : (start : ℕ) (w : Zero) → w ≡ and_then z author Look → IsLeastStart z.history start → Alters author (λ m n. ◌≡◌ {A = Pair} (altered m newer) (replies.Refused (refusals.Pending start), n)) z w
  pending_alters start w then is = alters_look author _ z w l then (λ rest ss e. alter_pending (machine_beside z ss) newer start (least_open ss z start l e is))

  pub data_alters : (pred : List ℕ) (w : Zero) → w ≡ and_then z author Look → active z.history ≡ [] → first_with_data (schema z.history) (world z.history).graph newer ≡ Some pred → Alters author (λ m n. ◌≡◌ {A = Pair} (altered m newer) (replies.Refused (refusals.HasData pred), n)) z w
  data_alters pred w then none is = alters_look author _ z w l then (λ rest ss e. alter_has_data (machine_beside z ss) newer pred (none_least ss z e none) (same_data ss ∙ is))

  pub moving_alters : (pred : List ℕ) (w : Zero) → w ≡ and_then z author Look → first_held (tablets z.history) newer ≡ Some pred → Alters author (λ m n. ◌≡◌ {A = Pair} (altered m newer) (replies.Refused (refusals.Moving pred), n)) z w
  moving_alters pred w then held = alters_look author _ z w l then (λ rest ss e. absurd (let no : first_held (tablets z.history) newer ≡ None = held_nowhere (tablets z.history) newer rest in cc))

  pub spent_alters : (spent : ℕ) (w : Zero) → w ≡ and_then z author Look → active z.history ≡ [] → first_with_data (schema z.history) (world z.history).graph newer ≡ None → spent ≡ next z.history → 2 ^ 62 - 1 ≤ next z.history → Alters author (λ m n. ◌≡◌ {A = Pair} (altered m newer) (replies.Refused (refusals.TimestampsSpent spent), n)) z w
  spent_alters spent w then none free is le = alters_look author _ z w l then (λ rest ss e.
      let m = machine_beside z ss in
      altered_is m newer (none_least ss z e none) (same_data ss ∙ free) ∙ alter_spent m newer spent le is)

  pub done_alters : (start ts : ℕ) (parts : List Part) (w : Zero) → w ≡ and_then z author (alter_of z newer parts) → active z.history ≡ [] → first_with_data (schema z.history) (world z.history).graph newer ≡ None → start ≡ next z.history → ts ≡ next z.history + 1 → next z.history + 1 < 2 ^ 62 → Alters author (λ m n. ◌≡◌ {A = Pair} (altered m newer) (replies.Alter start ts, n)) z w
  done_alters start ts parts w then none free start_is ts_is lt = record {
    adds = adds_one author z w (alter_of z newer parts) then;
    starts = active_same z w author (alter_of z newer parts) then;
    machine = λ rest ss e.
        let m = machine_beside z ss in
        altered_is m newer (none_least ss z e none) (same_data ss ∙ free)
        ∙ (declared_is m newer start ts lt start_is ts_is
        ∙ ap (λ (n : Machine). (replies.Alter start ts, n))
        (is_beside (and_then z author (alter_of z newer parts)) ss _ (stand_alter z ss m (stands_beside z ss l) author newer parts) ∙ ap (λ (y : Zero). machine_beside y ss) (sym then)));
  }

-- ---- the same, whatever others append before it

module _ (takes : ℕ → Bool) (author slip : ℕ) (own : slip ≡ author) (z w : Zero) (newer : List PredDef) where
  -- by what the cluster says, in the author's name
  altered_by : (r : Result (ℕ × ℕ) ClusterFault) (step : Machine → Machine → Type 0) → ((met : Zero) → IsLegal met.groups met.history → AltersAt author newer r met w → Alters author step met w) → Meets takes z w (AltersAt slip newer r) → Meets takes z w (Alters author step)
  altered_by r step f m =
      meets_by takes z w (AltersAt slip newer r) (Alters author step) (λ met others a. f met others.legal (subst (λ (s : ℕ). AltersAt s newer r met w) own a)) m

  pub done_meets : (start ts : ℕ) → Meets takes z w (AltersAt slip newer (Ok (start, ts))) → Meets takes z w (Alters author (λ m n. ◌≡◌ {A = Pair} (altered m newer) (replies.Alter start ts, n)))
  done_meets start ts = altered_by (Ok (start, ts)) (λ m n. ◌≡◌ {A = Pair} (altered m newer) (replies.Alter start ts, n)) (λ met l a. done_alters author met l newer start ts a.ok.0 w a.ok.2 a.none_active a.no_data a.drawn.0 a.drawn.1 a.not_spent)

  pub pending_meets : (start : ℕ) → Meets takes z w (AltersAt slip newer (Err (faults.Pending start))) → Meets takes z w (Alters author (λ m n. ◌≡◌ {A = Pair} (altered m newer) (replies.Refused (refusals.Pending start), n)))
  pending_meets start = altered_by (Err (faults.Pending start)) (λ m n. ◌≡◌ {A = Pair} (altered m newer) (replies.Refused (refusals.Pending start), n)) (λ met l a. pending_alters author met l newer start w a.err a.fault)

  pub data_meets : (pred : List ℕ) → Meets takes z w (AltersAt slip newer (Err (faults.HasData pred))) → Meets takes z w (Alters author (λ m n. ◌≡◌ {A = Pair} (altered m newer) (replies.Refused (refusals.HasData pred), n)))
  data_meets pred = altered_by (Err (faults.HasData pred)) (λ m n. ◌≡◌ {A = Pair} (altered m newer) (replies.Refused (refusals.HasData pred), n)) (λ met l a. data_alters author met l newer pred w a.err a.fault.0 a.fault.2)

  pub moving_meets : (pred : List ℕ) → Meets takes z w (AltersAt slip newer (Err (faults.Moving pred))) → Meets takes z w (Alters author (λ m n. ◌≡◌ {A = Pair} (altered m newer) (replies.Refused (refusals.Moving pred), n)))
  moving_meets pred = altered_by (Err (faults.Moving pred)) (λ m n. ◌≡◌ {A = Pair} (altered m newer) (replies.Refused (refusals.Moving pred), n)) (λ met l a. moving_alters author met l newer pred w a.err a.fault.1)

  pub spent_meets : (spent : ℕ) → Meets takes z w (AltersAt slip newer (Err (faults.TimestampsSpent spent))) → Meets takes z w (Alters author (λ m n. ◌≡◌ {A = Pair} (altered m newer) (replies.Refused (refusals.TimestampsSpent spent), n)))
  spent_meets spent = altered_by (Err (faults.TimestampsSpent spent)) (λ m n. ◌≡◌ {A = Pair} (altered m newer) (replies.Refused (refusals.TimestampsSpent spent), n)) (λ met l a. spent_alters author met l newer spent w a.err a.fault.0 a.fault.2 a.fault.3 a.fault.4)

  pub wanting_meets : Meets takes z w (AltersAt slip newer (Err faults.OutOfMemory)) → Meets takes z w (Alters author (λ m n. n ≡ m))
  wanting_meets = altered_by (Err faults.OutOfMemory) (λ m n. n ≡ m) (λ met l a. alters_look author (λ m n. n ≡ m) met w l a.err (λ rest ss e. refl))

-- ---- where no call was made

pub unasked_meets : (takes : ℕ → Bool) (author : ℕ) (step : Machine → Machine → Type 0) (z : Zero) → IsLegal z.groups z.history → ((m : Machine) → step m m) → Meets takes z z (Alters author step)
unasked_meets takes author step z legal f = meets_here takes z z (Alters author step) legal (alters_nothing author step z f)

-- what is read of a text
pub said_meets : {E : Type 0} (takes : ℕ → Bool) (author : ℕ) (z w : Zero) (r : Result Reply E) (one other : Reply → Machine → Machine → Type 0) → ((p : Reply) (m n : Machine) → one p m n → other p m n) → IfOk r (λ p. Meets takes z w (Alters author (one p))) → IfOk r (λ p. Meets takes z w (Alters author (other p)))
said_meets takes author z w (Ok p) one other f m = meets_by takes z w (Alters author (one p)) (Alters author (other p)) (λ met others a. alters_by author (one p) (other p) met w (f p) a) m
said_meets takes author z w (Err x) one other f m = tt
