-- What a begin makes of its session, the history and the machine.
use Rattle.std.proofs.Common.{◌≡◌, ℕ, ◌<◌, Bool, true, false, cond, List, [], Option, Some, None, is_some, Ok, Err, Vec, Global, refl, ap, subst, sym, ◌∙◌}
use Rattle.std.specs.Prelude.{◌++◌}
use Rattle.std.specs.Arc.{arc_value}
use Rattle.dg_schema.specs.declared.definition.PredDef.{PredDef}
use Rattle.dg_keys.specs.declared.record.Tablet.{Tablet}
use Rattle.dg_oracle.specs.Commits.{is_active}
use Rattle.dg_wire.specs.declared.refusal.Refusal.TheVariants as refusals
use Rattle.dg_wire.specs.declared.reply.Reply.{Reply}
use Rattle.dg_wire.specs.declared.reply.Reply.TheVariants as replies
use Rattle.dg_zero.specs.declared.entry.Event.TheVariants.{End, Look}
use Rattle.dg_zero.specs.declared.zero.Begun.{Begun}
use Rattle.dg_zero.specs.Counters.{next, active, starts_of, is_active_of}
use Rattle.dg_zero.specs.Legal.{IsLegal}
use Rattle.dg_zero.specs.States.{Zero, and_then}
use Rattle.dg_zero.specs.Worlds.{schema, graph_at}
use Rattle.dg_zero.proofs.Committing.{active_from}
use Rattle.dg_group.specs.Groups.{Group}
use Rattle.dg_txn.specs.Own.{Transaction}
use Rattle.dg_txn.specs.Pins.{ArePinsOf}
use Rattle.dg_node.specs.declared.cluster.ClusterFault.TheVariants as faults
use Rattle.dg_node.specs.Clusters.{Meets, BeginsAt, EndsAt}
use Rattle.dg_node.specs.Machine.{Machine}
use Rattle.dg_node.specs.Sessions.{IsOpen, Serves, Draws, Drops, SparesBegin}
use Rattle.dg_node.specs.State.{machine_beside}
use Rattle.dg_node.specs.Transactions.{begun}
use Rattle.dg_node.proofs.Alone.{meets_here}
use Rattle.dg_node.proofs.Between.{none_found, both_others}
use Rattle.dg_node.proofs.Opens.{opened_by, opened_open, open_met}
use Rattle.dg_node.proofs.ReplyLemmas.{begin_spent, begun_already}
use Rattle.dg_node.proofs.Serving.{meets_by, serves_nothing, looked_serves, finds_own, begun_serves, draws_nothing, draws_none, drops_none, draws_one, drops_one}

abbrev Pair : Type 0
Pair = Reply × Machine

-- a session that has a transaction already
pub already_serves : (takes : ℕ → Bool) (author sid : ℕ) (session : Option Transaction) (z : Zero) → is_some session ≡ true → IsLegal z.groups z.history → Meets takes z z (Serves author sid session session (λ m n. ◌≡◌ {A = Pair} (begun m sid) (replies.Refused (refusals.SessionOpen sid), n)))
already_serves takes author sid None z e legal = absurd (cc)
already_serves takes author sid (Some txn) z e legal =
    meets_here takes z z (Serves author sid (Some txn) (Some txn) (λ m n. ◌≡◌ {A = Pair} (begun m sid) (replies.Refused (refusals.SessionOpen sid), n))) legal
    (serves_nothing author sid (Some txn) _ z (λ rest front back a b. begun_already _ sid (ap is_some (finds_own sid txn z front back a))))

module _ (takes : ℕ → Bool) (author sid : ℕ) (z : Zero) where
  -- nothing was drawn
  pub spares_none : IsLegal z.groups z.history → SparesBegin takes author sid z z
  spares_none legal = record {
    drew = None;
    mid = z;
    draws = meets_here takes z z (Draws author sid None) legal (draws_none author sid z legal);
    drops = meets_here takes z z (Drops author None) legal (drops_none author sid z legal);
  }

  pub spares_look : (w : Zero) → IsLegal w.groups w.history → Meets takes z w (BeginsAt author (Err faults.OutOfMemory)) → SparesBegin takes author sid z w
  spares_look w legal m = record {
    drew = None;
    mid = w;
    draws = meets_by takes z w (BeginsAt author (Err faults.OutOfMemory)) (Draws author sid None) (λ met others b. draws_nothing author sid met others.legal w b.err) m;
    drops = meets_here takes w w (Drops author None) legal (drops_none author sid w legal);
  }

  -- timestamps are spent
  pub spent_meets : (session : Option Transaction) (spent : ℕ) (w : Zero) → is_some session ≡ false → Meets takes z w (BeginsAt author (Err (faults.TimestampsSpent spent))) → Meets takes z w (Serves author sid session session (λ m n. ◌≡◌ {A = Pair} (begun m sid) (replies.Refused (refusals.TimestampsSpent spent), n)))
  spent_meets (Some txn) spent w e m = absurd (cc)
  spent_meets None spent w e m =
      meets_by takes z w (BeginsAt author (Err (faults.TimestampsSpent spent))) (Serves author sid None None (λ m n. ◌≡◌ {A = Pair} (begun m sid) (replies.Refused (refusals.TimestampsSpent spent), n))) (λ met others b.
      looked_serves author sid None _ met w others.legal b.err (λ rest front back x y. begin_spent (machine_beside met (front ++ back)) sid spent (none_found sid (front ++ back) (both_others sid front back x y)) b.fault.1 b.fault.0)) m

  module _ (w : Zero) (legal : IsLegal w.groups w.history) (own : takes author ≡ true) (b : Begun) (pins : Vec Group Global) (m : Meets takes z w (BeginsAt author (Ok (b, pins)))) where
    -- its pins hold the graph that it sees
    pub pins_met : ArePinsOf b.start (arc_value b.schema) (arc_value b.owners) pins.items (graph_at m.met.history (next m.met.history) [])
    pins_met =
        subst (λ (t : ℕ). ArePinsOf t (arc_value b.schema) (arc_value b.owners) pins.items (graph_at m.met.history (next m.met.history) [])) (sym m.goes.start)
        (subst (λ (ds : List PredDef). ArePinsOf (next m.met.history) ds (arc_value b.owners) pins.items (graph_at m.met.history (next m.met.history) [])) (sym m.goes.schema_is)
        (subst (λ (ts : List Tablet). ArePinsOf (next m.met.history) (schema m.met.history) ts pins.items (graph_at m.met.history (next m.met.history) [])) (sym m.goes.owners_are) m.goes.pins))

    opened : IsOpen w.history author (opened_by author m.met.history)
    opened = opened_open m.met w author m.others.legal m.goes.ok legal

    pub start_drawn : b.start < next w.history
    start_drawn = subst (λ (t : ℕ). t < next w.history) (sym m.goes.start) opened.drawn

    pub start_active : is_active_of (active w.history) b.start author ≡ true
    start_active = subst (λ (t : ℕ). is_active_of (active w.history) t author ≡ true) (sym m.goes.start) opened.active

    -- memory was wanting, and the start has ended
    pub spares_drawn : (v : Zero) (was : Bool) → Meets takes w v (EndsAt author b.start was) → SparesBegin takes author sid z v
    spares_drawn v was ends =
        let start_is : b.start ≡ next m.met.history = m.goes.start in
        record {
          drew = Some (next m.met.history);
          mid = w;
          draws = record { met = m.met; others = m.others; goes = draws_one author sid m.met m.others.legal w m.goes.ok };
          drops = meets_by takes w v (EndsAt author b.start was) (Drops author (Some (next m.met.history))) (λ y others e.
              let there = open_met takes author w y (opened_by author m.met.history) own others opened in
              let yes : was ≡ true = e.was_active ∙ (ap (is_active (starts_of (active y.history))) start_is ∙ active_from (active y.history) (next m.met.history) author there.active) in
              drops_one author sid y others.legal v (next m.met.history) was yes (e.appends ∙ (λ i. and_then y author (cond was (End (start_is i)) Look)))) ends;
        }

    -- the transaction is open
    module _ (txn : Transaction) (made : txn ≡ record { start = b.start; schema = arc_value b.schema; base = (graph_at m.met.history (next m.met.history) []); own = []; author = author }) where
      txn_is : txn ≡ opened_by author m.met.history
      txn_is =
          let start_is = m.goes.start in
          let schema_is = m.goes.schema_is in
          made ∙ (λ i. record { start = start_is i; schema = schema_is i; base = (graph_at m.met.history (next m.met.history) []); own = []; author = author })

      pub begun_open : (v : Zero) → v ≡ w → IsOpen v.history author txn
      begun_open v same = subst (λ (y : Zero). IsOpen y.history author txn) (sym same) (subst (IsOpen w.history author) (sym txn_is) opened)

      pub begun_meets : (session : Option Transaction) (v : Zero) → is_some session ≡ false → v ≡ w → Meets takes z v (Serves author sid session (Some txn) (λ m n. ◌≡◌ {A = Pair} (begun m sid) (replies.Begin sid b.start, n)))
      begun_meets (Some other) v e same = absurd (cc)
      begun_meets None v e same =
          subst (λ (y : Zero). Meets takes z y (Serves author sid None (Some txn) (λ m n. ◌≡◌ {A = Pair} (begun m sid) (replies.Begin sid b.start, n)))) (sym same)
          (record { met = m.met; others = m.others; goes = begun_serves author sid m.met m.others.legal b.start w txn m.goes.not_spent m.goes.start txn_is m.goes.ok })
