-- What the state and its groups keep through each entry of the history.
use Rattle.std.proofs.Common.{◌≡◌, ℕ, zero, suc, ◌-◌, ◌^◌, ◌<◌, ◌≤◌, Bool, true, false, cond, List, [], ◌∷◌, ◌++◌, map, refl, inl, ap, subst, sym, ◌∙◌, arith, append_assoc}
use Rattle.std.specs.Prelude.{Result, Ok, Err, IfOk, IfErr, OnOk, OnErr, None}
use Rattle.std.specs.List.{AllByRecursion}
use Rattle.dg_sets.proofs.Sets.{all_with}
use Rattle.dg_schema.specs.declared.definition.PredDef.{PredDef}
use Rattle.dg_keys.specs.declared.record.Part.{Part}
use Rattle.dg_zero.specs.declared.entry.Entry.{Entry}
use Rattle.dg_zero.specs.declared.entry.Event.{Event}
use Rattle.dg_zero.specs.declared.entry.Event.TheVariants.{Begin, Refused, End, Lease, Look}
use Rattle.dg_zero.specs.declared.entry.Reason.TheVariants as reasons
use Rattle.dg_zero.specs.declared.fault.CommitFault.{CommitFault}
use Rattle.dg_zero.specs.declared.fault.CommitFault.TheVariants.{Moving, Conflict, OutOfMemory, TimestampsSpent}
use Rattle.dg_zero.specs.declared.offer.Offer.{Offer}
use Rattle.dg_zero.specs.Counters.{next, last}
use Rattle.dg_zero.specs.Exact.{AreExact}
use Rattle.dg_zero.specs.Legal.{IsLegal}
use Rattle.dg_keys.specs.declared.record.Tablet.{Tablet}
use Rattle.dg_zero.specs.declared.tablets.Phase.TheVariants.{Idle}
use Rattle.dg_zero.specs.declared.tablets.Place.{Place}
use Rattle.dg_zero.specs.Places.{Places, places, places_after, copies, groups, tablets, fresh, fresh_place}
use Rattle.dg_zero.specs.Pasts.{own, spent}
use Rattle.dg_zero.specs.Records.{next_record}
use Rattle.dg_zero.specs.States.{Zero, and_then, owners, alter_of, alter_record, commit_of, IsRefusal}
use Rattle.dg_zero.specs.Worlds.{World, world, schema, graph_at}
use Rattle.dg_zero.proofs.Histories.{places_push}
use Rattle.dg_zero.proofs.LawsOfHistories.{present_is_last}
use Rattle.dg_zero.proofs.SpentTimestamps.{spent_keeps}
use Rattle.dg_edges.proofs.ExactHistories.{histories_are_exact}
use Rattle.dg_group.specs.Groups.{Group}
use Rattle.dg_group.specs.Stands.{IsInStep}
use Rattle.dg_group.proofs.Entries.{legal_last, entries_keep_in_step}
use Rattle.dg_group.specs.Laws.{NewIsInStep, AltersKeepInStep}
use Rattle.dg_txn.specs.Laws.{AreCurrent}
use Rattle.dg_txn.specs.Pins.{ArePinsOf}
use Rattle.dg_txn.proofs.BegunPins.{begun_pins_hold, present_pins_hold}
use Rattle.dg_node.specs.Owning.{new_group, AreAtRest, IsOwned}
use Rattle.dg_node.proofs.OneAmong.{all_joined}

-- ---- groups that go on with the same history

pub exact_history : (z : Zero) (gs : List Group) → IsOwned z gs → AreExact z.history
exact_history z gs k = histories_are_exact z.groups z.history k.legal

pub further_on : (z : Zero) (gs more : List Group) → IsOwned z gs → AllByRecursion (λ g. IsInStep g z.history) more → map (λ (g : Group). g.number) more ≡ map (λ (g : Group). g.number) gs → IsOwned z more
further_on z gs more k steps same = record { least = k.least; legal = k.legal; idle = k.idle; numbers = same ∙ k.numbers; in_step = steps }

pub up_to_date : (z : Zero) (gs : List Group) → IsOwned z gs → AllByRecursion (λ (g : Group). next_record z.history g.last ≡ None) gs → AreCurrent z.groups z.history gs
up_to_date z gs k all = record { numbers = k.numbers; in_step = k.in_step; applied = all }

-- pins of groups that are up to date hold the present graph
pub present_pins : (z : Zero) (gs pins : List Group) → IsOwned z gs → AreCurrent z.groups z.history pins → ArePinsOf (last z.history) (schema z.history) (owners z.history) pins (graph_at z.history (last z.history) [])
present_pins z gs pins k a = present_pins_hold z.groups z.history pins k.least k.legal a

pub present_world : (z : Zero) (gs : List Group) → IsOwned z gs → record { schema = schema z.history; graph = graph_at z.history (last z.history) [] } ≡ world z.history
present_world z gs k = ap (λ (w : World). record { schema = schema z.history; graph = w.graph }) (present_is_last z.groups z.history (last z.history) k.legal (omega arith))

-- ---- one entry more

-- an event leaves where tablets and copies are
record Leaves (event : Event) : Type 0 where
  places_are : (s : Places) → places_after s event ≡ s

owned_after : (z w : Zero) (gs : List Group) (author : ℕ) (event : Event) → IsOwned z gs → w ≡ and_then z author event → IsLegal w.groups w.history → Leaves event → IsOwned w gs
owned_after z w gs author event k is legal still =
    let e : Entry = record { author = author; event = event } in
    let grown : w.history ≡ z.history ++ e ∷ [] = ap (λ (y : Zero). y.history) is in
    let many : w.groups ≡ z.groups = ap (λ (y : Zero). y.groups) is in
    let longer : IsLegal z.groups (z.history ++ e ∷ []) = subst (λ (y : Zero). IsLegal y.groups y.history) is legal in
    let all_as_were : places (z.history ++ e ∷ []) ≡ places z.history = places_push z.history e ∙ still.places_are (places z.history) in
    let as_were : copies (z.history ++ e ∷ []) ≡ copies z.history = ap (λ (s : Places). s.copies) all_as_were in
    record {
      least = subst (λ (n : ℕ). 1 ≤ n) (sym many) k.least;
      legal = legal;
      idle = subst AreAtRest (sym grown) (subst (λ (s : Places). AllByRecursion (λ (t : Place). t.phase ≡ Idle) s.tablets) (sym all_as_were) k.idle);
      numbers = k.numbers ∙ sym (ap groups many);
      in_step = all_with (λ g. IsInStep g z.history) (λ g. IsInStep g w.history) gs (λ g s. subst (λ (h : List Entry). IsInStep g h) (sym grown) (entries_keep_in_step z.groups z.history e g longer as_were s)) k.in_step;
    }

-- a group that has applied nothing is in step with the empty history
new_in_step : NewIsInStep
new_in_step number = record { stands = record { applied = inl refl; copies_are = λ pred. refl; each = tt }; ascend = tt; drawn = tt; unmet = tt }

each_new : (ns : List ℕ) → AllByRecursion (λ g. IsInStep g []) (map new_group ns)
each_new [] = tt
each_new (n ∷ ns) = (new_in_step n, each_new ns)

numbers_new : (ns : List ℕ) → map (λ (g : Group). g.number) (map new_group ns) ≡ ns
numbers_new [] = refl
numbers_new (n ∷ ns) = ap (λ more. n ∷ more) (numbers_new ns)

-- transactions that changed nothing leave the groups as new
spent_owned : (n k : ℕ) → 1 ≤ n → k < 2 ^ 62 → IsOwned (record { groups = n; history = spent k }) (map new_group (groups n))
spent_owned n zero least lt = record { least = least; legal = tt; idle = tt; numbers = numbers_new (groups n); in_step = each_new (groups n) }
spent_owned n (suc k) least lt =
    let lower : k < 2 ^ 62 = omega (arith, lt) in
    let begin : Entry = own (Begin (suc k)) in
    let end : Entry = own (End (suc k)) in
    let legal : IsLegal n ((spent k ++ begin ∷ []) ++ end ∷ []) = subst (IsLegal n) (sym (append_assoc (spent k) (begin ∷ []) (end ∷ []))) (spent_keeps n least (suc k) lt).legal in
    let front : IsLegal n (spent k ++ begin ∷ []) = (legal_last n [] (spent k ++ begin ∷ []) end legal).0 in
    let begun : IsOwned (record { groups = n; history = spent k ++ begin ∷ [] }) (map new_group (groups n)) =
    owned_after (record { groups = n; history = spent k }) (record { groups = n; history = spent k ++ begin ∷ [] }) (map new_group (groups n)) 0 (Begin (suc k)) (spent_owned n k least lower) refl front (record { places_are = λ s. refl }) in
    subst (λ (h : List Entry). IsOwned (record { groups = n; history = h }) (map new_group (groups n))) (append_assoc (spent k) (begin ∷ []) (end ∷ []))
    (owned_after (record { groups = n; history = spent k ++ begin ∷ [] }) (record { groups = n; history = (spent k ++ begin ∷ []) ++ end ∷ [] }) (map new_group (groups n)) 0 (End (suc k)) begun refl legal (record { places_are = λ s. refl }))

-- nothing has happened, from a timestamp on
pub starting_owned : (n first : ℕ) (z : Zero) (gs : List Group) → 1 ≤ n → 1 ≤ first → first ≤ 2 ^ 62 → z ≡ record { groups = n; history = spent (first - 1) } → gs ≡ map new_group (groups n) → IsOwned z gs
starting_owned n first z gs least low high is made =
    let below : first - 1 < 2 ^ 62 = omega (arith, low, high) in
    subst (λ (y : Zero). IsOwned y gs) (sym is) (subst (λ (xs : List Group). IsOwned (record { groups = n; history = spent (first - 1) }) xs) (sym made) (spent_owned n (first - 1) least below))

-- nothing happens
pub looked_owned : (z w : Zero) (gs : List Group) (author : ℕ) → IsOwned z gs → w ≡ and_then z author Look → IsLegal w.groups w.history → IsOwned w gs
looked_owned z w gs author k is legal = owned_after z w gs author Look k is legal (record { places_are = λ s. refl })

-- a transaction begins, or not
pub begun_owned : {A E : Type 0} (z w : Zero) (gs : List Group) (author start : ℕ) (r : Result A E) → IsOwned z gs → OnOk r (w ≡ and_then z author (Begin start)) → OnErr r (w ≡ and_then z author Look) → IsLegal w.groups w.history → IsOwned w gs
begun_owned z w gs author start (Ok b) k ok err legal = owned_after z w gs author (Begin start) k ok legal (record { places_are = λ s. refl })
begun_owned z w gs author start (Err f) k ok err legal = looked_owned z w gs author k err legal

-- and its pins hold the graph at its start
pub pins_of_begun : (z w : Zero) (gs : List Group) (author : ℕ) → 1 ≤ z.groups → AreCurrent z.groups z.history gs → w ≡ and_then z author (Begin (next z.history)) → IsLegal w.groups w.history → ArePinsOf (next z.history) (schema z.history) (owners z.history) gs (graph_at z.history (next z.history) [])
pins_of_begun z w gs author least current is legal = begun_pins_hold z.groups z.history author gs least (subst (λ (y : Zero). IsLegal y.groups y.history) is legal) current

-- a transaction ends, where it was active
pub ended_owned : (z w : Zero) (gs : List Group) (author start : ℕ) (was : Bool) → IsOwned z gs → w ≡ and_then z author (cond was (End start) Look) → IsLegal w.groups w.history → IsOwned w gs
ended_owned z w gs author start true k is legal = owned_after z w gs author (End start) k is legal (record { places_are = λ s. refl })
ended_owned z w gs author start false k is legal = looked_owned z w gs author k is legal

-- nodes are leased, or not
pub leased_owned : {E : Type 0} (z w : Zero) (gs : List Group) (author top count : ℕ) (r : Result ℕ E) → IsOwned z gs → IfOk r (λ first. w ≡ and_then z author (Lease top count first)) → OnErr r (w ≡ and_then z author Look) → IsLegal w.groups w.history → IsOwned w gs
leased_owned z w gs author top count (Ok first) k ok err legal = owned_after z w gs author (Lease top count first) k ok legal (record { places_are = λ s. refl })
leased_owned z w gs author top count (Err f) k ok err legal = looked_owned z w gs author k err legal

refused_owned : (z w : Zero) (gs : List Group) (author : ℕ) (offer : Offer) (fault : CommitFault) → IsOwned z gs → IsRefusal z w author offer fault → IsLegal w.groups w.history → IsOwned w gs
refused_owned z w gs author offer (Moving pred) k is legal = owned_after z w gs author (Refused offer.start (reasons.Moving pred)) k is.1 legal (record { places_are = λ s. refl })
refused_owned z w gs author offer (Conflict key text ts) k is legal = owned_after z w gs author (Refused offer.start (reasons.Conflict key ts)) k is.1 legal (record { places_are = λ s. refl })
refused_owned z w gs author offer (TimestampsSpent spent back) k is legal = looked_owned z w gs author k is.4 legal
refused_owned z w gs author offer (OutOfMemory back) k is legal = looked_owned z w gs author k is.1 legal

-- an offer is committed, or refused
pub committed_owned : (z w : Zero) (gs : List Group) (author : ℕ) (offer : Offer) (r : Result ℕ CommitFault) → IsOwned z gs → IfOk r (λ ts. w ≡ and_then z author (commit_of offer ts)) → IfErr r (IsRefusal z w author offer) → IsLegal w.groups w.history → IsOwned w gs
committed_owned z w gs author offer (Ok ts) k ok err legal = owned_after z w gs author (commit_of offer ts) k ok legal (record { places_are = λ s. refl })
committed_owned z w gs author offer (Err fault) k ok err legal = refused_owned z w gs author offer fault k err legal

-- ---- definitions are added or replaced

-- new tablets are at rest
fresh_idle : (ts : List Place) (fs : List Tablet) → AllByRecursion (λ (t : Place). t.phase ≡ Idle) ts → AllByRecursion (λ (t : Place). t.phase ≡ Idle) (ts ++ map fresh_place fs)
fresh_idle ts fs a = all_joined (λ (t : Place). t.phase ≡ Idle) ts (map fresh_place fs) a (rest fs)
  where
    rest : (fs : List Tablet) → AllByRecursion (λ (t : Place). t.phase ≡ Idle) (map fresh_place fs)
    rest [] = tt
    rest (f ∷ fs) = (refl, rest fs)

alter_owned : AltersKeepInStep → (z w : Zero) (gs : List Group) (author : ℕ) (newer : List PredDef) (parts : List Part) → IsOwned z gs → w ≡ and_then z author (alter_of z newer parts) → IsLegal w.groups w.history → IsOwned w gs
alter_owned keeps z w gs author newer parts k is legal =
    let e : Entry = record { author = author; event = alter_of z newer parts } in
    let grown : w.history ≡ z.history ++ e ∷ [] = ap (λ (y : Zero). y.history) is in
    let many : w.groups ≡ z.groups = ap (λ (y : Zero). y.groups) is in
    let longer : IsLegal z.groups (z.history ++ e ∷ []) = subst (λ (y : Zero). IsLegal y.groups y.history) is legal in
    record {
      least = subst (λ (n : ℕ). 1 ≤ n) (sym many) k.least;
      legal = legal;
      idle = subst AreAtRest (sym grown) (subst (λ (s : Places). AllByRecursion (λ (t : Place). t.phase ≡ Idle) s.tablets) (sym (places_push z.history e)) (fresh_idle (tablets z.history) (fresh z.groups (tablets z.history) newer) k.idle));
      numbers = k.numbers ∙ sym (ap groups many);
      in_step = all_with (λ g. IsInStep g z.history) (λ g. IsInStep g w.history) gs (λ g s. subst (λ (h : List Entry). IsInStep g h) (sym grown) (keeps z.groups z.history author (next z.history) newer (alter_record z newer parts) g longer s)) k.in_step;
    }

pub altered_owned : {A E : Type 0} → AltersKeepInStep → (z w : Zero) (gs : List Group) (author : ℕ) (newer : List PredDef) (parts : List Part) (r : Result A E) → IsOwned z gs → OnOk r (w ≡ and_then z author (alter_of z newer parts)) → OnErr r (w ≡ and_then z author Look) → IsLegal w.groups w.history → IsOwned w gs
altered_owned keeps z w gs author newer parts (Ok drawn) k ok err legal = alter_owned keeps z w gs author newer parts k ok legal
altered_owned keeps z w gs author newer parts (Err fault) k ok err legal = looked_owned z w gs author k err legal
