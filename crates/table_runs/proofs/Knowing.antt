-- What is known of active starts and of open transactions, through each entry of the history.
use Rattle.std.proofs.Common.{◌≡◌, ℕ, zero, suc, ◌+◌, ◌<◌, Bool, true, false, cond, List, [], ◌∷◌, ◌++◌, length, get_or, refl, ap, subst, sym, ◌∙◌, arith}
use Rattle.std.specs.Prelude.{nat_le, Result, Ok, Err, IfOk, IfErr, OnOk, OnErr}
use Rattle.std.specs.List.{AllByRecursion, remove}
use Rattle.std.proofs.Math.ListN.{set}
use Rattle.dg_sets.proofs.Sets.{all_with}
use Rattle.dg_schema.specs.declared.definition.PredDef.{PredDef}
use Rattle.dg_graph.specs.declared.change.Triple.{Triple}
use Rattle.dg_keys.specs.declared.record.Part.{Part}
use Rattle.dg_keys.specs.declared.record.Tablet.{Tablet}
use Rattle.dg_zero.specs.declared.entry.Entry.{Entry}
use Rattle.dg_zero.specs.declared.entry.Event.{Event}
use Rattle.dg_zero.specs.declared.entry.Event.TheVariants.{Begin, Refused, End, Lease, Look}
use Rattle.dg_zero.specs.declared.entry.Reason.TheVariants as reasons
use Rattle.dg_zero.specs.declared.fault.CommitFault.{CommitFault}
use Rattle.dg_zero.specs.declared.fault.CommitFault.TheVariants.{Moving, Conflict, OutOfMemory, TimestampsSpent}
use Rattle.dg_zero.specs.declared.offer.Offer.{Offer}
use Rattle.dg_zero.specs.Counters.{Started, next, drawn, active, active_after, ended}
use Rattle.dg_zero.specs.Legal.{IsLegal}
use Rattle.dg_zero.specs.Offers.{IsSound, IsMadeOf}
use Rattle.dg_zero.specs.States.{Zero, and_then, owners, alter_of, commit_of, IsRefusal}
use Rattle.dg_zero.specs.Worlds.{World, world_at, schema, schema_at, graph_at}
use Rattle.dg_zero.proofs.Histories.{active_push, next_push}
use Rattle.dg_zero.proofs.LawsOfHistories.{world_at_push, worlds_stay, present_is_last}
use Rattle.dg_group.specs.Groups.{Group}
use Rattle.dg_group.proofs.Entries.{legal_last, all_joined}
use Rattle.dg_txn.specs.Own.{Transaction}
use Rattle.dg_txn.specs.Pins.{ArePinsOf}
use Rattle.table_runs.specs.declared.groups.sessions.Session.{Session}
use Rattle.table_runs.specs.Opened.{HasBegun, IsOpen, StayOpen, ends}
use Rattle.dg_node.proofs.Bringing.{all_set, element}
use Rattle.dg_node.proofs.Alone.{met_alone}
use Rattle.dg_node.specs.declared.cluster.ClusterFault.{ClusterFault}
use Rattle.dg_node.specs.Clusters.{Meets, AltersAt}

-- ---- an entry leaves open transactions as they are

stay_after : (z w : Zero) (author : ℕ) (event : Event) → w ≡ and_then z author event → IsLegal w.groups w.history → StayOpen z w
stay_after z w author event is legal s o =
    let e : Entry = record { author = author; event = event } in
    let grown : z.history ++ e ∷ [] ≡ w.history = sym (ap (λ (y : Zero). y.history) is) in
    let longer : IsLegal z.groups (z.history ++ e ∷ []) = subst (λ (y : Zero). IsLegal y.groups y.history) is legal in
    let kept = worlds_stay z.groups z.history (e ∷ []) s.txn.start [] longer o.drawn in
    let count : next (z.history ++ e ∷ []) ≡ next z.history + drawn event = next_push z.history e in
    let before = o.drawn in
    let below : s.txn.start < next (z.history ++ e ∷ []) = omega (arith, count, before) in
    let after : IsOpen (z.history ++ e ∷ []) s = record { author_is = o.author_is; drawn = below; schema_is = o.schema_is ∙ sym kept.0; base_is = o.base_is ∙ sym kept.1 } in
    subst (λ (h : List Entry). IsOpen h s) grown after

pub either_stay : {A E : Type 0} (z w : Zero) (author : ℕ) (one other : Event) (r : Result A E) → OnOk r (w ≡ and_then z author one) → OnErr r (w ≡ and_then z author other) → IsLegal w.groups w.history → StayOpen z w
either_stay z w author one other (Ok x) ok err legal = stay_after z w author one ok legal
either_stay z w author one other (Err x) ok err legal = stay_after z w author other err legal

pub ended_stay : (z w : Zero) (author start : ℕ) (was : Bool) → w ≡ and_then z author (cond was (End start) Look) → IsLegal w.groups w.history → StayOpen z w
ended_stay z w author start was is legal = stay_after z w author (cond was (End start) Look) is legal

pub leased_stay : {E : Type 0} (z w : Zero) (author top count : ℕ) (r : Result ℕ E) → IfOk r (λ first. w ≡ and_then z author (Lease top count first)) → OnErr r (w ≡ and_then z author Look) → IsLegal w.groups w.history → StayOpen z w
leased_stay z w author top count (Ok first) ok err legal = stay_after z w author (Lease top count first) ok legal
leased_stay z w author top count (Err f) ok err legal = stay_after z w author Look err legal

refused_stay : (z w : Zero) (author : ℕ) (offer : Offer) (fault : CommitFault) → IsRefusal z w author offer fault → IsLegal w.groups w.history → StayOpen z w
refused_stay z w author offer (Moving pred) is legal = stay_after z w author (Refused offer.start (reasons.Moving pred)) is.1 legal
refused_stay z w author offer (Conflict key text ts) is legal = stay_after z w author (Refused offer.start (reasons.Conflict key ts)) is.1 legal
refused_stay z w author offer (TimestampsSpent spent back) is legal = stay_after z w author Look is.4 legal
refused_stay z w author offer (OutOfMemory back) is legal = stay_after z w author Look is.1 legal

pub committed_stay : (z w : Zero) (author : ℕ) (offer : Offer) (r : Result ℕ CommitFault) → IfOk r (λ ts. w ≡ and_then z author (commit_of offer ts)) → IfErr r (IsRefusal z w author offer) → IsLegal w.groups w.history → StayOpen z w
committed_stay z w author offer (Ok ts) ok err legal = stay_after z w author (commit_of offer ts) ok legal
committed_stay z w author offer (Err fault) ok err legal = refused_stay z w author offer fault err legal

pub same_stay : (z w : Zero) → w ≡ z → StayOpen z w
same_stay z w is s o = subst (λ (y : Zero). IsOpen y.history s) (sym is) o

-- ---- active starts

active_then : (z w : Zero) (starts after : List Started) (author : ℕ) (event : Event) → starts ≡ active z.history → w ≡ and_then z author event → after ≡ active_after starts author event → after ≡ active w.history
active_then z w starts after author event k is after_is =
    let e : Entry = record { author = author; event = event } in
    let grown : w.history ≡ z.history ++ e ∷ [] = ap (λ (y : Zero). y.history) is in
    after_is ∙ (ap (λ (s : List Started). active_after s author event) k ∙ (sym (active_push z.history e) ∙ sym (ap active grown)))

pub begun_starts : (z w : Zero) (starts : List Started) (author slip start : ℕ) → starts ≡ active z.history → slip ≡ author → w ≡ and_then z slip (Begin (next z.history)) → start ≡ next z.history → starts ++ (record { start = start; author = author }) ∷ [] ≡ active w.history
begun_starts z w starts author slip start k slip_is is start_is =
    let back : author ≡ slip = sym slip_is in
    active_then z w starts (starts ++ (record { start = start; author = author }) ∷ []) slip (Begin (next z.history)) k is (λ i. starts ++ (record { start = start_is i; author = back i }) ∷ [])

pub looked_starts : (z w : Zero) (starts : List Started) (author : ℕ) → starts ≡ active z.history → w ≡ and_then z author Look → starts ≡ active w.history
looked_starts z w starts author k is = active_then z w starts starts author Look k is refl

pub leased_starts : {E : Type 0} (z w : Zero) (starts : List Started) (author top count : ℕ) (r : Result ℕ E) → starts ≡ active z.history → IfOk r (λ first. w ≡ and_then z author (Lease top count first)) → OnErr r (w ≡ and_then z author Look) → starts ≡ active w.history
leased_starts z w starts author top count (Ok first) k ok err = active_then z w starts starts author (Lease top count first) k ok refl
leased_starts z w starts author top count (Err f) k ok err = looked_starts z w starts author k err

pub altered_starts : {A E : Type 0} (z w : Zero) (starts : List Started) (author : ℕ) (newer : List PredDef) (parts : List Part) (r : Result A E) → starts ≡ active z.history → OnOk r (w ≡ and_then z author (alter_of z newer parts)) → OnErr r (w ≡ and_then z author Look) → starts ≡ active w.history
altered_starts z w starts author newer parts (Ok x) k ok err = active_then z w starts starts author (alter_of z newer parts) k ok refl
altered_starts z w starts author newer parts (Err f) k ok err = looked_starts z w starts author k err

pub alters_stay : (z w : Zero) (author : ℕ) (newer : List PredDef) (r : Result (ℕ × ℕ) ClusterFault) → Meets (λ n. true) z w (AltersAt author newer r) → IsLegal w.groups w.history → StayOpen z w
alters_stay z w author newer (Ok d) m legal = let a = met_alone z w (AltersAt author newer (Ok d)) m in stay_after z w author (alter_of z newer a.ok.0) a.ok.2 legal
alters_stay z w author newer (Err f) m legal = let a = met_alone z w (AltersAt author newer (Err f)) m in stay_after z w author Look a.err legal

pub alters_starts : (z w : Zero) (starts : List Started) (author : ℕ) (newer : List PredDef) (r : Result (ℕ × ℕ) ClusterFault) → starts ≡ active z.history → Meets (λ n. true) z w (AltersAt author newer r) → starts ≡ active w.history
alters_starts z w starts author newer (Ok d) k m = let a = met_alone z w (AltersAt author newer (Ok d)) m in active_then z w starts starts author (alter_of z newer a.ok.0) k a.ok.2 refl
alters_starts z w starts author newer (Err f) k m = let a = met_alone z w (AltersAt author newer (Err f)) m in active_then z w starts starts author Look k a.err refl

pub ended_starts : (z w : Zero) (starts after : List Started) (author start : ℕ) (was : Bool) → starts ≡ active z.history → w ≡ and_then z author (cond was (End start) Look) → after ≡ cond was (ended starts start) starts → after ≡ active w.history
ended_starts z w starts after author start true k is e = active_then z w starts after author (End start) k is e
ended_starts z w starts after author start false k is e = active_then z w starts after author Look k is e

pub committed_starts : (z w : Zero) (starts after : List Started) (author start ts : ℕ) (offer : Offer) → starts ≡ active z.history → w ≡ and_then z author (commit_of offer ts) → offer.start ≡ start → after ≡ ended starts start → after ≡ active w.history
committed_starts z w starts after author start ts offer k is start_is e = active_then z w starts after author (commit_of offer ts) k is (e ∙ ap (ended starts) (sym start_is))

pub refused_starts : (z w : Zero) (starts after : List Started) (author start : ℕ) (offer : Offer) (fault : CommitFault) → starts ≡ active z.history → IsRefusal z w author offer fault → offer.start ≡ start → after ≡ cond (ends fault) (ended starts start) starts → after ≡ active w.history
refused_starts z w starts after author start offer (Moving pred) k is start_is e = active_then z w starts after author (Refused offer.start (reasons.Moving pred)) k is.1 (e ∙ ap (ended starts) (sym start_is))
refused_starts z w starts after author start offer (Conflict key text ts) k is start_is e = active_then z w starts after author (Refused offer.start (reasons.Conflict key ts)) k is.1 (e ∙ ap (ended starts) (sym start_is))
refused_starts z w starts after author start offer (TimestampsSpent spent back) k is start_is e = active_then z w starts after author Look k is.4 e
refused_starts z w starts after author start offer (OutOfMemory back) k is start_is e = active_then z w starts after author Look k is.1 e

-- ---- a transaction begins

pub has_begun : (z w : Zero) (author start : ℕ) (declared : List PredDef) (owned : List Tablet) (pins : List Group) → w ≡ and_then z author (Begin (next z.history)) → IsLegal w.groups w.history → start ≡ next z.history → declared ≡ schema z.history → owned ≡ owners z.history → ArePinsOf (next z.history) (schema z.history) (owners z.history) pins (graph_at z.history (next z.history) []) → HasBegun w.history start declared owned pins
has_begun z w author start declared owned pins is legal start_is declared_is owned_is held =
    let e : Entry = record { author = author; event = Begin (next z.history) } in
    let at = next z.history in
    let grown : z.history ++ e ∷ [] ≡ w.history = sym (ap (λ (y : Zero). y.history) is) in
    let longer : IsLegal z.groups (z.history ++ e ∷ []) = subst (λ (y : Zero). IsLegal y.groups y.history) is legal in
    let before : IsLegal z.groups z.history = (legal_last z.groups [] z.history e longer).0 in
    let same : world_at (z.history ++ e ∷ []) at ≡ world_at z.history at = world_at_push z.history e at ∙ elim (nat_le 0 at) as (λ b. cond b (world_at z.history at) (world_at z.history at) ≡ world_at z.history at) [ true ↦ refl | false ↦ refl ] in
    let now : schema_at z.history at ≡ schema z.history = ap (λ (u : World). u.schema) (present_is_last z.groups z.history at before (omega arith)) in
    let count : next (z.history ++ e ∷ []) ≡ next z.history + 1 = next_push z.history e in
    let below : at < next (z.history ++ e ∷ []) = omega (arith, count) in
    let graph_is : graph_at z.history at [] ≡ graph_at (z.history ++ e ∷ []) at [] = sym (ap (λ (u : World). u.graph) same) in
    let schema_is : schema z.history ≡ schema_at (z.history ++ e ∷ []) at = sym now ∙ sym (ap (λ (u : World). u.schema) same) in
    let then : HasBegun (z.history ++ e ∷ []) at (schema z.history) (owners z.history) pins = record { drawn = below; schema_is = schema_is; held = subst (λ (g : List Triple). ArePinsOf at (schema z.history) (owners z.history) pins g) graph_is held } in
    subst (λ (h : List Entry). HasBegun h start declared owned pins) grown
    (subst (λ (d : List PredDef). HasBegun (z.history ++ e ∷ []) start d owned pins) (sym declared_is)
    (subst (λ (o : List Tablet). HasBegun (z.history ++ e ∷ []) start (schema z.history) o pins) (sym owned_is)
    (subst (λ (t : ℕ). HasBegun (z.history ++ e ∷ []) t (schema z.history) (owners z.history) pins) (sym start_is) then)))

pub opened : (history : List Entry) (start : ℕ) (declared : List PredDef) (owned : List Tablet) (pins : List Group) (author number : ℕ) (s : Session) → HasBegun history start declared owned pins → author ≡ number → s.number ≡ number → s.txn ≡ record { start = start; schema = declared; base = graph_at history start []; own = []; author = author } → IsOpen history s
opened history start declared owned pins author number s b author_is number_is is =
    let start_is : start ≡ s.txn.start = sym (ap (λ (u : Transaction). u.start) is) in
    record {
      author_is = ap (λ (u : Transaction). u.author) is ∙ (author_is ∙ sym number_is);
      drawn = subst (λ (t : ℕ). t < next history) start_is b.drawn;
      schema_is = ap (λ (u : Transaction). u.schema) is ∙ (b.schema_is ∙ ap (schema_at history) start_is);
      base_is = ap (λ (u : Transaction). u.base) is ∙ ap (λ (t : ℕ). graph_at history t []) start_is;
    }

-- ---- changes are added

-- one transaction is as another but for its changes
pub record IsAlike (s old : Session) : Type 0 where
  pub number : s.number ≡ old.number
  pub start : s.txn.start ≡ old.txn.start
  pub schema : s.txn.schema ≡ old.txn.schema
  pub base : s.txn.base ≡ old.txn.base
  pub author : s.txn.author ≡ old.txn.author

open_alike : (history : List Entry) (s old : Session) → IsAlike s old → IsOpen history old → IsOpen history s
open_alike history s old a o = record {
  author_is = a.author ∙ (o.author_is ∙ sym a.number);
  drawn = subst (λ (t : ℕ). t < next history) (sym a.start) o.drawn;
  schema_is = a.schema ∙ (o.schema_is ∙ ap (schema_at history) (sym a.start));
  base_is = a.base ∙ (o.base_is ∙ ap (λ (t : ℕ). graph_at history t []) (sym a.start));
}

pub added_open : (history : List Entry) (sessions : List Session) (at : ℕ) (s old : Session) → at < length sessions → get_or sessions at old ≡ old → IsAlike s old → AllByRecursion (IsOpen history) sessions → AllByRecursion (IsOpen history) (set sessions at s)
added_open history sessions at s old lt is a all = all_set (IsOpen history) sessions at s all (open_alike history s old a (element (IsOpen history) sessions at old lt is all))

-- ---- an offer

pub sound_at : (history : List Entry) (s : Session) (offer : Offer) → IsOpen history s → offer.start ≡ s.txn.start → IsSound s.txn.schema s.txn.base offer.preds offer.keys offer.parts → IsSound (schema_at history offer.start) (graph_at history offer.start []) offer.preds offer.keys offer.parts
sound_at history s offer o start sound =
    let schema_is : s.txn.schema ≡ schema_at history offer.start = o.schema_is ∙ ap (schema_at history) (sym start) in
    let base_is : s.txn.base ≡ graph_at history offer.start [] = o.base_is ∙ ap (λ (t : ℕ). graph_at history t []) (sym start) in
    subst (λ (d : List PredDef). IsSound d (graph_at history offer.start []) offer.preds offer.keys offer.parts) schema_is (subst (λ (g : List Triple). IsSound s.txn.schema g offer.preds offer.keys offer.parts) base_is sound)

pub made_at : (history : List Entry) (s : Session) (offer : Offer) → IsOpen history s → offer.start ≡ s.txn.start → IsMadeOf s.txn.schema s.txn.base offer.changes offer.keys offer.parts → IsMadeOf (schema_at history offer.start) (graph_at history offer.start []) offer.changes offer.keys offer.parts
made_at history s offer o start made =
    let schema_is : s.txn.schema ≡ schema_at history offer.start = o.schema_is ∙ ap (schema_at history) (sym start) in
    let base_is : s.txn.base ≡ graph_at history offer.start [] = o.base_is ∙ ap (λ (t : ℕ). graph_at history t []) (sym start) in
    subst (λ (d : List PredDef). IsMadeOf d (graph_at history offer.start []) offer.changes offer.keys offer.parts) schema_is (subst (λ (g : List Triple). IsMadeOf s.txn.schema g offer.changes offer.keys offer.parts) base_is made)

-- ---- all open transactions

pub all_stay : (z w : Zero) (ss : List Session) → StayOpen z w → AllByRecursion (IsOpen z.history) ss → AllByRecursion (IsOpen w.history) ss
all_stay z w ss stay all = all_with (IsOpen z.history) (IsOpen w.history) ss stay all

pub one_more : (z w : Zero) (ss : List Session) (s : Session) → StayOpen z w → AllByRecursion (IsOpen z.history) ss → IsOpen w.history s → AllByRecursion (IsOpen w.history) (ss ++ s ∷ [])
one_more z w ss s stay all is = all_joined (IsOpen w.history) ss (s ∷ []) (all_stay z w ss stay all) (is, tt)

pub all_removed : {X : Type 0} (P : X → Type 0) (xs : List X) (i : ℕ) → AllByRecursion P xs → AllByRecursion P (remove xs i)
all_removed P [] zero a = tt
all_removed P [] (suc i) a = tt
all_removed P (x ∷ xs) zero a = a.1
all_removed P (x ∷ xs) (suc i) a = (a.0, all_removed P xs i a.1)
