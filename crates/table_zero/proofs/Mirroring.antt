-- What a mirror is after each call, and what it says of offers.
use Rattle.std.proofs.Common.{◌≡◌, ℕ, ◌+◌, Bool, true, false, cond, List, [], ◌∷◌, ◌++◌, refl, ap, subst, sym, ◌∙◌, arith}
use Rattle.dg_graph.specs.declared.plain.Plain.{Plain}
use Rattle.dg_graph.specs.Graphs.{after_changes, IsLawful}
use Rattle.dg_keys.specs.declared.conflict.ConflictKey.{ConflictKey}
use Rattle.dg_keys.specs.declared.record.Part.{Part}
use Rattle.dg_graph.specs.declared.change.Change.{Change}
use Rattle.dg_zero.specs.declared.entry.Entry.{Entry}
use Rattle.dg_zero.specs.declared.entry.Event.{Event}
use Rattle.dg_zero.specs.declared.entry.Event.TheVariants.{Begin, End, Look}
use Rattle.dg_zero.specs.declared.offer.Offer.{Offer}
use Rattle.dg_zero.specs.Counters.{next, active, is_active_of}
use Rattle.dg_zero.specs.Legal.{IsLegal}
use Rattle.dg_zero.specs.Offers.{IsSound, IsMadeOf}
use Rattle.dg_zero.specs.States.{Zero, and_then, commit_of}
use Rattle.dg_zero.specs.Worlds.{World, world, world_after, schema_at, graph_at}
use Rattle.dg_zero.proofs.EmptyOffers.{begun_active}
use Rattle.dg_zero.proofs.Histories.{next_push}
use Rattle.dg_zero.proofs.LawfulGraphs.{present_lawful}
use Rattle.dg_zero.proofs.LawsOfHistories.{world_push, present_is_last}
use Rattle.table_zero.specs.Mirrors.{IsMirror, IsOpen}

-- an entry that leaves the world
still : (z w : Zero) (at : Plain) (author : ℕ) (event : Event) → IsMirror z at → w ≡ and_then z author event → IsLegal w.groups w.history → ((u : World) → world_after u event ≡ u) → IsMirror w at
still z w at author event m is legal same =
    let e : Entry = record { author = author; event = event } in
    let grown : w.history ≡ z.history ++ e ∷ [] = ap (λ (y : Zero). y.history) is in
    record {
      legal = legal;
      world_is = ap world grown ∙ (world_push z.history e ∙ (same (world z.history) ∙ m.world_is));
    }

-- a transaction begins
pub begun_mirror : (z w : Zero) (at : Plain) (author : ℕ) → IsMirror z at → w ≡ and_then z author (Begin (next z.history)) → IsLegal w.groups w.history → IsMirror w at
begun_mirror z w at author m is legal = still z w at author (Begin (next z.history)) m is legal (λ u. refl)

-- and is open
pub begun_open : (z w : Zero) (at : Plain) (author start : ℕ) → author ≡ 0 → IsMirror z at → w ≡ and_then z author (Begin (next z.history)) → IsLegal w.groups w.history → start ≡ next z.history → IsOpen w start at
begun_open z w at author start own m is legal drawn =
    let e : Entry = record { author = author; event = Begin (next z.history) } in
    let grown : w.history ≡ z.history ++ e ∷ [] = ap (λ (y : Zero). y.history) is in
    let more : next w.history ≡ next z.history + 1 = ap next grown ∙ next_push z.history e in
    let after : IsMirror w at = begun_mirror z w at author m is legal in
    let back : 0 ≡ author = sym own in
    record {
      active_is = (λ i. is_active_of (active (is i).history) (drawn i) (back i)) ∙ begun_active z.history author (next z.history);
      seen = present_is_last w.groups w.history start legal (omega (arith, more, drawn)) ∙ after.world_is;
    }

-- a transaction ends, where it was active
pub ended_mirror : (z w : Zero) (at : Plain) (author start : ℕ) (was : Bool) → IsMirror z at → w ≡ and_then z author (cond was (End start) Look) → IsLegal w.groups w.history → IsMirror w at
ended_mirror z w at author start true m is legal = still z w at author (End start) m is legal (λ u. refl)
ended_mirror z w at author start false m is legal = still z w at author Look m is legal (λ u. refl)

-- an offer of changes is committed
pub committed_mirror : (z w : Zero) (at : Plain) (author ts : ℕ) (offer : Offer) → IsMirror z at → w ≡ and_then z author (commit_of offer ts) → IsLegal w.groups w.history → IsMadeOf at.schema at.graph offer.changes offer.keys offer.parts → IsMirror w (record { schema = at.schema; graph = after_changes at.schema at.graph offer.changes })
committed_mirror z w at author ts offer m is legal made =
    let e : Entry = record { author = author; event = commit_of offer ts } in
    let grown : w.history ≡ z.history ++ e ∷ [] = ap (λ (y : Zero). y.history) is in
    let led = made.lead_alike in
    record {
      legal = legal;
      world_is = ap world grown ∙ (world_push z.history e ∙ (ap (λ (u : World). world_after u (commit_of offer ts)) m.world_is ∙ (λ i. record { schema = at.schema; graph = led i })));
    }

-- its author may end it
pub open_author : (z : Zero) (at : Plain) (author start : ℕ) → author ≡ 0 → IsOpen z start at → is_active_of (active z.history) start author ≡ true
open_author z at author start own o = ap (is_active_of (active z.history) start) own ∙ o.active_is

-- what is sound over the graph beside is sound over that at the start
pub open_sound : (z : Zero) (start : ℕ) (at : Plain) (preds : List (List ℕ)) (keys : List ConflictKey) (parts : List Part) → IsOpen z start at → IsSound at.schema at.graph preds keys parts → IsSound (schema_at z.history start) (graph_at z.history start []) preds keys parts
open_sound z start at preds keys parts o s = subst (λ (u : World). IsSound u.schema u.graph preds keys parts) (sym o.seen) s

-- and so it is with what is made of changes
pub open_made : (z : Zero) (start : ℕ) (at : Plain) (changes : List Change) (keys : List ConflictKey) (parts : List Part) → IsOpen z start at → IsMadeOf at.schema at.graph changes keys parts → IsMadeOf (schema_at z.history start) (graph_at z.history start []) changes keys parts
open_made z start at changes keys parts o m = subst (λ (u : World). IsMadeOf u.schema u.graph changes keys parts) (sym o.seen) m

-- the graph beside is lawful
pub mirror_lawful : (z : Zero) (at : Plain) → IsMirror z at → IsLawful at.schema at.graph
mirror_lawful z at m = subst (λ (u : World). IsLawful u.schema u.graph) m.world_is (present_lawful z.groups z.history m.legal)
