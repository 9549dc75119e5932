-- What is known of the state that coordinates all, through each entry of its history.
use Rattle.std.proofs.Common.{◌≡◌, ℕ, ◌+◌, ◌≤◌, Bool, true, false, cond, List, [], ◌∷◌, ◌++◌, fold, refl, ap, subst, sym, ◌∙◌, arith}
use Rattle.std.specs.Prelude.{nat_le, Result, Ok, Err, IfOk, OnErr}
use Rattle.std.proofs.lemmas.Grind.{common_steps}
use Rattle.std.proofs.lemmas.List.Sums.{fold-append}
use Rattle.dg_schema.specs.declared.definition.PredDef.{PredDef}
use Rattle.dg_schema.specs.Definitions.{with_definitions}
use Rattle.dg_graph.specs.declared.change.Change.{Change}
use Rattle.dg_graph.specs.Graphs.{after_changes}
use Rattle.dg_edges.proofs.CommitsSince.{commits_do_as_asked}
use Rattle.dg_keys.specs.declared.record.Part.{Part}
use Rattle.dg_zero.specs.declared.entry.Entry.{Entry}
use Rattle.dg_zero.specs.declared.entry.Event.{Event}
use Rattle.dg_zero.specs.declared.entry.Event.TheVariants.{Begin, Refused, End, Lease, Look}
use Rattle.dg_zero.specs.declared.entry.Reason.TheVariants as reasons
use Rattle.dg_zero.specs.declared.fault.CommitFault.{CommitFault}
use Rattle.dg_zero.specs.declared.fault.CommitFault.TheVariants.{Moving, Conflict, OutOfMemory, TimestampsSpent}
use Rattle.dg_zero.specs.declared.offer.Offer.{Offer}
use Rattle.dg_zero.specs.Counters.{Started, next, last, active, active_after, ended}
use Rattle.dg_zero.specs.Legal.{Fits, IsLegal}
use Rattle.dg_zero.specs.States.{Zero, and_then, alter_of, commit_of, IsRefusal}
use Rattle.dg_zero.specs.Worlds.{World, world, world_after, world_at, empty_world, stamp, schema}
use Rattle.dg_zero.proofs.Histories.{active_push}
use Rattle.dg_zero.proofs.LawsOfHistories.{legal_parts, world_at_push, present_is_last}
use Rattle.table_zero.specs.declared.steps.Step.{Step}
use Rattle.table_zero.specs.declared.steps.Step.TheVariants.{Committed, Altered}
use Rattle.table_zero.specs.Kept.{IsKnown, ends}
use Rattle.table_zero.specs.Steps.{world_by}

-- an event leaves the schema and the graph
abbrev LeavesWorld : Event → Type 0
LeavesWorld event = (u : World) → world_after u event ≡ u

at_after : (h : List Entry) (e : Entry) (at : ℕ) → LeavesWorld e.event → world_at (h ++ e ∷ []) at ≡ world_at h at
at_after h e at still =
    world_at_push h e at
    ∙ elim (nat_le (stamp e.event) at) as (λ b. cond b (world_after (world_at h at) e.event) (world_at h at) ≡ world_at h at) [ true ↦ still (world_at h at) | false ↦ refl ]

-- after an entry that leaves them
known_after : (z w : Zero) (starts after : List Started) (steps : List Step) (author : ℕ) (event : Event) → IsKnown z starts steps → w ≡ and_then z author event → IsLegal w.groups w.history → LeavesWorld event → after ≡ active_after starts author event → IsKnown w after steps
known_after z w starts after steps author event k is legal still after_is =
    let e : Entry = record { author = author; event = event } in
    let grown : w.history ≡ z.history ++ e ∷ [] = ap (λ (y : Zero). y.history) is in
    record {
      legal = legal;
      active_are = after_is ∙ (ap (λ (s : List Started). active_after s author event) k.active_are ∙ (sym (active_push z.history e) ∙ sym (ap active grown)));
      lead_alike = λ at. ap (λ (h : List Entry). world_at h at) grown ∙ (at_after z.history e at still ∙ k.lead_alike at);
    }

-- the world at the last timestamp is the present one
pub last_is_present : (z : Zero) (at : ℕ) (seen : World) → IsLegal z.groups z.history → at ≡ last z.history → seen ≡ world_at z.history at → seen ≡ world z.history
last_is_present z at seen legal last_is is = is ∙ present_is_last z.groups z.history at legal (omega (arith, last_is))

-- nothing has happened
pub none_known : (z : Zero) (groups : ℕ) → z ≡ record { groups = groups; history = [] } → IsKnown z [] []
none_known z groups is =
    let start : IsKnown (record { groups = groups; history = [] }) [] [] = record { legal = tt; active_are = refl; lead_alike = λ at. refl } in
    subst (λ (y : Zero). IsKnown y [] []) (sym is) start

-- a transaction begins
pub begun_known : (z w : Zero) (starts : List Started) (steps : List Step) (author slip start : ℕ) → IsKnown z starts steps → slip ≡ author → w ≡ and_then z slip (Begin (next z.history)) → IsLegal w.groups w.history → start ≡ next z.history → IsKnown w (starts ++ (record { start = start; author = author }) ∷ []) steps
begun_known z w starts steps author slip start k slip_is is legal start_is =
    let back : author ≡ slip = sym slip_is in
    known_after z w starts (starts ++ (record { start = start; author = author }) ∷ []) steps slip (Begin (next z.history)) k is legal (λ u. refl) (λ i. starts ++ (record { start = start_is i; author = back i }) ∷ [])

-- nothing happens
pub looked_known : (z w : Zero) (starts : List Started) (steps : List Step) (slip : ℕ) → IsKnown z starts steps → w ≡ and_then z slip Look → IsLegal w.groups w.history → IsKnown w starts steps
looked_known z w starts steps slip k is legal = known_after z w starts starts steps slip Look k is legal (λ u. refl) refl

-- nodes are leased, or not
pub leased_known : {E : Type 0} (z w : Zero) (starts : List Started) (steps : List Step) (slip top count : ℕ) (leased : Result ℕ E) → IsKnown z starts steps → IfOk leased (λ first. w ≡ and_then z slip (Lease top count first)) → OnErr leased (w ≡ and_then z slip Look) → IsLegal w.groups w.history → IsKnown w starts steps
leased_known z w starts steps slip top count (Ok first) k ok err legal = known_after z w starts starts steps slip (Lease top count first) k ok legal (λ u. refl) refl
leased_known z w starts steps slip top count (Err fault) k ok err legal = known_after z w starts starts steps slip Look k err legal (λ u. refl) refl

-- a transaction ends, where it was active
pub ended_known : (z w : Zero) (starts after : List Started) (steps : List Step) (slip start : ℕ) (was : Bool) → IsKnown z starts steps → w ≡ and_then z slip (cond was (End start) Look) → IsLegal w.groups w.history → after ≡ cond was (ended starts start) starts → IsKnown w after steps
ended_known z w starts after steps slip start true k is legal e = known_after z w starts after steps slip (End start) k is legal (λ u. refl) e
ended_known z w starts after steps slip start false k is legal e = known_after z w starts after steps slip Look k is legal (λ u. refl) e

-- an offer is committed
module _ (z w : Zero) (slip ts : ℕ) (offer : Offer) (changes : List Change) (legal_before : IsLegal z.groups z.history) (is : w ≡ and_then z slip (commit_of offer ts)) (legal : IsLegal w.groups w.history) (changes_are : offer.changes ≡ changes) where
  abbrev committing : Entry
  committing = record { author = slip; event = commit_of offer ts }

  it_fits : Fits z.groups z.history slip (commit_of offer ts)
  it_fits =
      let longer : IsLegal z.groups (z.history ++ committing ∷ []) = subst (λ (y : Zero). IsLegal y.groups y.history) is legal in
      (legal_parts z.groups [] z.history (committing ∷ []) longer).1.0

  -- the present world goes on by the changes
  goes_on : world_after (world z.history) (commit_of offer ts) ≡ record { schema = schema z.history; graph = after_changes (schema z.history) (world z.history).graph changes }
  goes_on =
      let asked = commits_do_as_asked z.groups z.history slip offer.start offer.preds offer.keys offer.changes (record { ts = ts; fresh = []; parts = offer.parts }) legal_before it_fits in
      let led = sym asked ∙ ap (after_changes (schema z.history) (world z.history).graph) changes_are in
      λ i. record { schema = schema z.history; graph = led i }

  by_commit : (at : ℕ) (u : World) → world_at z.history at ≡ u → world_at (z.history ++ committing ∷ []) at ≡ world_by at u (Committed ts changes)
  by_commit at u same = world_at_push z.history committing at ∙ one (nat_le ts at) refl
    where
      one : (v : Bool) → nat_le ts at ≡ v → cond v (world_after (world_at z.history at) (commit_of offer ts)) (world_at z.history at) ≡ cond v (record { schema = u.schema; graph = after_changes u.schema u.graph changes }) u
      one false e = same
      one true e =
          let le : last z.history ≤ at = grind (arith, common_steps, it_fits.ts) in
          let now : world_at z.history at ≡ world z.history = present_is_last z.groups z.history at legal_before le in
          ap (λ (v : World). world_after v (commit_of offer ts)) now
          ∙ (goes_on ∙ ap (λ (v : World). record { schema = v.schema; graph = after_changes v.schema v.graph changes }) (sym now ∙ same))

pub committed_known : (z w : Zero) (starts after : List Started) (steps : List Step) (slip start ts : ℕ) (offer : Offer) (changes : List Change) → IsKnown z starts steps → w ≡ and_then z slip (commit_of offer ts) → IsLegal w.groups w.history → offer.start ≡ start → offer.changes ≡ changes → after ≡ ended starts start → IsKnown w after (steps ++ Committed ts changes ∷ [])
committed_known z w starts after steps slip start ts offer changes k is legal start_is changes_are e =
    let more : Entry = record { author = slip; event = commit_of offer ts } in
    let grown : w.history ≡ z.history ++ more ∷ [] = ap (λ (y : Zero). y.history) is in
    record {
      legal = legal;
      active_are = e ∙ (ap (ended starts) (sym start_is) ∙ (ap (λ (s : List Started). ended s offer.start) k.active_are ∙ (sym (active_push z.history more) ∙ sym (ap active grown))));
      lead_alike = λ at.
          ap (λ (h : List Entry). world_at h at) grown
          ∙ (by_commit z w slip ts offer changes k.legal is legal changes_are at (fold (world_by at) empty_world steps) (k.lead_alike at)
          ∙ sym (fold-append (world_by at) empty_world steps (Committed ts changes ∷ [])));
    }

-- or refused
pub refused_known : (z w : Zero) (starts after : List Started) (steps : List Step) (slip start : ℕ) (offer : Offer) (fault : CommitFault) → IsKnown z starts steps → IsRefusal z w slip offer fault → IsLegal w.groups w.history → offer.start ≡ start → after ≡ cond (ends fault) (ended starts start) starts → IsKnown w after steps
refused_known z w starts after steps slip start offer (Moving pred) k is legal start_is e =
    known_after z w starts after steps slip (Refused offer.start (reasons.Moving pred)) k is.1 legal (λ u. refl) (e ∙ ap (ended starts) (sym start_is))
refused_known z w starts after steps slip start offer (Conflict key text ts) k is legal start_is e =
    known_after z w starts after steps slip (Refused offer.start (reasons.Conflict key ts)) k is.1 legal (λ u. refl) (e ∙ ap (ended starts) (sym start_is))
refused_known z w starts after steps slip start offer (TimestampsSpent spent back) k is legal start_is e =
    known_after z w starts after steps slip Look k is.4 legal (λ u. refl) e
refused_known z w starts after steps slip start offer (OutOfMemory back) k is legal start_is e =
    known_after z w starts after steps slip Look k is.1 legal (λ u. refl) e

-- definitions are added or replaced
pub altered_known : (z w : Zero) (starts : List Started) (steps : List Step) (slip ts : ℕ) (newer : List PredDef) (parts : List Part) → IsKnown z starts steps → w ≡ and_then z slip (alter_of z newer parts) → IsLegal w.groups w.history → ts ≡ next z.history + 1 → IsKnown w starts (steps ++ Altered ts newer ∷ [])
altered_known z w starts steps slip ts newer parts k is legal ts_is =
    let e : Entry = record { author = slip; event = alter_of z newer parts } in
    let grown : w.history ≡ z.history ++ e ∷ [] = ap (λ (y : Zero). y.history) is in
    record {
      legal = legal;
      active_are = k.active_are ∙ (sym (active_push z.history e) ∙ sym (ap active grown));
      lead_alike = λ at.
          ap (λ (h : List Entry). world_at h at) grown
          ∙ (world_at_push z.history e at
          ∙ ((λ i. cond (nat_le (sym ts_is i) at) (record { schema = with_definitions (k.lead_alike at i).schema newer; graph = (k.lead_alike at i).graph }) (k.lead_alike at i))
          ∙ sym (fold-append (world_by at) empty_world steps (Altered ts newer ∷ []))));
    }
