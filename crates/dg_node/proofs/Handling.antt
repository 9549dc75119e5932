-- What a handler's calls make of its session.
use Rattle.std.proofs.Common.{◌≡◌, ℕ, Bool, true, cond, List, [], Option, Some, None, refl, subst, sym, ◌∙◌}
use Rattle.dg_wire.specs.declared.reply.Reply.{Reply}
use Rattle.dg_wire.specs.declared.reply.Reply.TheVariants as replies
use Rattle.dg_zero.specs.declared.entry.Event.TheVariants.{End, Look}
use Rattle.dg_zero.specs.Counters.{active}
use Rattle.dg_zero.specs.Legal.{IsLegal}
use Rattle.dg_zero.specs.States.{Zero, and_then}
use Rattle.dg_zero.proofs.Committing.{active_from}
use Rattle.dg_txn.specs.Own.{Transaction}
use Rattle.dg_node.specs.Clusters.{Meets, EndsAt}
use Rattle.dg_node.specs.Machine.{Machine, Session, without_session}
use Rattle.dg_node.specs.Sessions.{IsOpen, IsSession, HaveOthers, Serves, session_by}
use Rattle.dg_node.specs.State.{machine_beside}
use Rattle.dg_node.specs.Transactions.{committed, discarded}
use Rattle.dg_node.proofs.Between.{both_others}
use Rattle.dg_node.proofs.CommitLemmas.{end_quiet}
use Rattle.dg_node.proofs.Opens.{open_met}
use Rattle.dg_node.proofs.Alone.{meets_here}
use Rattle.dg_node.proofs.ReplyLemmas.{nothing_committed}
use Rattle.dg_node.proofs.Serving.{Finds, meets_by, serves_nothing, ended_serves}

abbrev Pair : Type 0
Pair = Reply × Machine

-- a session without a transaction, which no call is made for
pub none_serves : (takes : ℕ → Bool) (author sid : ℕ) (old new : Option Transaction) (before : Zero) (step : Machine → Machine → Type 0) → old ≡ None → new ≡ None → IsLegal before.groups before.history → ((ss : List Session) → HaveOthers sid ss → step (machine_beside before ss) (machine_beside before ss)) → Meets takes before before (Serves author sid old new step)
none_serves takes author sid old new before step old_is new_is legal f =
    subst (λ (o : Option Transaction). Meets takes before before (Serves author sid o new step)) (sym old_is)
    (subst (λ (o : Option Transaction). Meets takes before before (Serves author sid None o step)) (sym new_is)
    (meets_here takes before before (Serves author sid None None step) legal (serves_nothing author sid None step before (λ rest front back a b. f _ (both_others sid front back a b)))))

-- a transaction that ends without its changes
pub closed_serves : (takes : ℕ → Bool) (author sid : ℕ) (old new : Option Transaction) (txn : Transaction) (before w : Zero) (was : Bool) (step : Machine → Machine → Type 0) → takes author ≡ true → old ≡ Some txn → new ≡ None → IsSession before author old → Meets takes before w (EndsAt txn.author txn.start was) → ((m : Machine) → Finds sid txn m → step m (without_session m sid)) → Meets takes before w (Serves author sid old new step)
closed_serves takes author sid old new txn before w was step own old_is new_is session ends f =
    let o : IsOpen before.history author txn = subst (IsSession before author) old_is session in
    subst (λ (x : Option Transaction). Meets takes before w (Serves author sid x new step)) (sym old_is)
    (subst (λ (x : Option Transaction). Meets takes before w (Serves author sid (Some txn) x step)) (sym new_is)
    (meets_by takes before w (EndsAt txn.author txn.start was) (Serves author sid (Some txn) None step) (λ met others e.
    let there = open_met takes author before met txn own others o in
    let yes : was ≡ true = e.was_active ∙ active_from (active met.history) txn.start author there.active in
    let by = o.author_is in
    let appends : w ≡ and_then met author (End txn.start) = e.appends ∙ (λ i. and_then met (by i) (cond (yes i) (End txn.start) Look)) in
    ended_serves author sid txn step met w (End txn.start) others.legal appends (end_quiet txn.start) refl (λ uid. refl) (λ starts. refl) (λ rest ss found. f (machine_beside met ss) found)) ends))

-- a discard
pub discard_found : (m : Machine) (sid : ℕ) (txn : Transaction) → Finds sid txn m → ◌≡◌ {A = Pair} (discarded m sid) (replies.Discard sid, without_session m sid)
discard_found m sid txn found = rw found refl

-- a session, by what it was and what it is
pub serves_as : (takes : ℕ → Bool) (author sid : ℕ) (before w : Zero) (step : Machine → Machine → Type 0) (old was new is : Option Transaction) → old ≡ was → new ≡ is → Meets takes before w (Serves author sid was is step) → Meets takes before w (Serves author sid old new step)
serves_as takes author sid before w step old was new is old_is new_is m =
    subst (λ (x : Option Transaction). Meets takes before w (Serves author sid x new step)) (sym old_is)
    (subst (λ (x : Option Transaction). Meets takes before w (Serves author sid was x step)) (sym new_is) m)

-- a commit of nothing
pub nothing_found : (m : Machine) (sid : ℕ) (txn : Transaction) → txn.own ≡ [] → Finds sid txn m → ◌≡◌ {A = Pair} (committed m sid) (replies.Commit sid 0, without_session m sid)
nothing_found m sid txn none found = nothing_committed m sid (session_by sid txn) found refl none
