-- An open transaction stays open while others append entries, and while its author appends some that don't end it.
use Rattle.std.proofs.Common.{◌≡◌, ℕ, ◌≤◌, Bool, true, false, cond, List, [], ◌∷◌, ◌++◌, Option, Some, None, refl, ap, subst, sym, ◌∙◌, arith, append_assoc}
use Rattle.std.specs.Prelude.{nat_le}
use Rattle.std.specs.List.{AllByRecursion}
use Rattle.std.proofs.lemmas.List.{append-nil}
use Rattle.std.proofs.lemmas.Bool.{true≢false}
use Rattle.dg_schema.specs.declared.definition.PredDef.{PredDef}
use Rattle.dg_graph.specs.declared.change.Triple.{Triple}
use Rattle.dg_graph.specs.Graphs.{IsLawful, after_changes}
use Rattle.dg_graph.proofs.GraphLaws.{stays_lawful}
use Rattle.dg_edges.proofs.OfferLaws.{all_fit}
use Rattle.dg_zero.specs.declared.entry.Entry.{Entry}
use Rattle.dg_zero.specs.declared.entry.Event.{Event}
use Rattle.dg_zero.specs.declared.entry.Event.TheVariants.{Begin}
use Rattle.dg_zero.specs.Counters.{Started, next, active, active_after, is_active_of}
use Rattle.dg_zero.specs.Laws.{OfOthers}
use Rattle.dg_zero.specs.Legal.{IsLegal}
use Rattle.dg_zero.specs.States.{Zero, and_then, and_entry}
use Rattle.dg_zero.specs.Worlds.{World, world, world_at, schema, schema_at, graph_at}
use Rattle.dg_zero.proofs.Histories.{next_push, active_push}
use Rattle.dg_zero.proofs.LawfulGraphs.{world_lawful}
use Rattle.dg_zero.proofs.LawsOfHistories.{starts_stay, worlds_stay, world_at_push, present_is_last}
use Rattle.dg_zero.proofs.EmptyOffers.{begun_active}
use Rattle.dg_txn.specs.Own.{Transaction, graph}
use Rattle.dg_node.specs.Clusters.{AreOthers}
use Rattle.dg_node.specs.Sessions.{IsOpen, IsSession}

next_more : (h more : List Entry) → next h ≤ next (h ++ more)
next_more h [] = subst (λ (l : List Entry). next h ≤ next l) (sym (append-nil h)) (omega arith)
next_more h (e ∷ more) =
    let one = next_push h e in
    let rest = next_more (h ++ e ∷ []) more in
    subst (λ (l : List Entry). next h ≤ next l) (append_assoc h (e ∷ []) more) (let le : next h ≤ next ((h ++ e ∷ []) ++ more) = omega (arith, one, rest) in le)

-- over each longer history in which its start is active
pub open_longer : (n : ℕ) (h more : List Entry) (author : ℕ) (txn : Transaction) → IsLegal n (h ++ more) → is_active_of (active (h ++ more)) txn.start author ≡ true → IsOpen h author txn → IsOpen (h ++ more) author txn
open_longer n h more author txn legal active is =
    let same = worlds_stay n h more txn.start [] legal is.drawn in
    let le = next_more h more in
    let drawn = is.drawn in
    record {
      drawn = omega (arith, le, drawn);
      active = active;
      schema_is = is.schema_is ∙ sym same.0;
      base_is = is.base_is ∙ sym same.1;
      fitting = is.fitting;
      author_is = is.author_is;
    }

not_own : (takes : ℕ → Bool) (author : ℕ) (es : List Entry) → takes author ≡ true → AllByRecursion (λ (e : Entry). takes e.author ≡ false) es → OfOthers author es
not_own takes author [] own a = tt
not_own takes author (e ∷ es) own a = ((λ same. true≢false (sym own ∙ (ap takes (sym same) ∙ a.0))), not_own takes author es own a.1)

-- entries of others end nothing of its author's
pub open_met : (takes : ℕ → Bool) (author : ℕ) (before met : Zero) (txn : Transaction) → takes author ≡ true → AreOthers takes before met → IsOpen before.history author txn → IsOpen met.history author txn
open_met takes author before met txn own others is =
    let legal : IsLegal met.groups (before.history ++ others.entries) = subst (λ (h : List Entry). IsLegal met.groups h) others.history_is others.legal in
    subst (λ (h : List Entry). IsOpen h author txn) (sym others.history_is)
    (open_longer met.groups before.history others.entries author txn legal
    (starts_stay met.groups before.history others.entries author txn.start legal (not_own takes author others.entries own others.others) is.active) is)

-- an entry that leaves the active starts
pub open_then : (z w : Zero) (by author : ℕ) (event : Event) (txn : Transaction) → w ≡ and_then z by event → ((starts : List Started) → active_after starts by event ≡ starts) → IsLegal w.groups w.history → IsOpen z.history author txn → IsOpen w.history author txn
open_then z w by author event txn then stay legal is =
    let longer : IsLegal z.groups (and_entry z.history by event) = subst (λ (y : Zero). IsLegal y.groups y.history) then legal in
    let same : active (and_entry z.history by event) ≡ active z.history = active_push z.history (record { author = by; event = event }) ∙ stay (active z.history) in
    subst (λ (y : Zero). IsOpen y.history author txn) (sym then)
    (open_longer z.groups z.history ((record { author = by; event = event }) ∷ []) author txn longer (subst (λ (l : List Started). is_active_of l txn.start author ≡ true) (sym same) is.active) is)

-- ---- what a begin opens

abbrev pub opened_by : ℕ → List Entry → Transaction
opened_by author history = record { start = next history; schema = schema history; base = graph_at history (next history) []; own = []; author = author }

pub opened_open : (z w : Zero) (author : ℕ) → IsLegal z.groups z.history → w ≡ and_then z author (Begin (next z.history)) → IsLegal w.groups w.history → IsOpen w.history author (opened_by author z.history)
opened_open z w author before then legal =
    let b : Entry = record { author = author; event = Begin (next z.history) } in
    let grown = next_push z.history b in
    let now : world_at z.history (next z.history) ≡ world z.history = present_is_last z.groups z.history (next z.history) before (omega arith) in
    let same : world_at (z.history ++ b ∷ []) (next z.history) ≡ world_at z.history (next z.history) =
    world_at_push z.history b (next z.history)
    ∙ elim (nat_le 0 (next z.history)) as (λ v. cond v (world_at z.history (next z.history)) (world_at z.history (next z.history)) ≡ world_at z.history (next z.history)) [ true ↦ refl | false ↦ refl ] in
    subst (λ (y : Zero). IsOpen y.history author (opened_by author z.history)) (sym then) (record {
      drawn = omega (arith, grown);
      active = begun_active z.history author (next z.history);
      schema_is = sym (ap (λ (u : World). u.schema) (same ∙ now));
      base_is = sym (graph_same (same));
      fitting = tt;
      author_is = refl;
    })
  where
    graph_same : {u v : World} → u ≡ v → after_changes u.schema u.graph [] ≡ after_changes v.schema v.graph []
    graph_same {u} {v} e = ap (λ (x : World). after_changes x.schema x.graph []) e

-- ---- what it sees is lawful

pub seen_lawful : (n : ℕ) (h : List Entry) (author : ℕ) (txn : Transaction) → IsLegal n h → IsOpen h author txn → IsLawful txn.schema (graph txn)
seen_lawful n h author txn legal is =
    let there : IsLawful (schema_at h txn.start) (graph_at h txn.start []) = world_lawful n h txn.start legal in
    let base : IsLawful txn.schema txn.base = subst (λ (g : List Triple). IsLawful txn.schema g) (sym is.base_is) (subst (λ (ds : List PredDef). IsLawful ds (graph_at h txn.start [])) (sym is.schema_is) there) in
    stays_lawful txn.schema txn.base txn.own (all_fit txn.schema txn.own is.fitting) base
