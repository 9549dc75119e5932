-- Steps of the engine, from those of the machine.
use Rattle.std.proofs.Common.{◌≡◌, ℕ, inl, inr, List, refl, subst, sym, Ok, Err}
use Rattle.std.specs.Prelude.{Result, IfOk, OnErr}
use Rattle.dg_check.specs.declared.patterns.Refusal.{Refusal as BadPattern}
use Rattle.dg_wire.specs.declared.refusal.Refusal.TheVariants as refusals
use Rattle.dg_wire.specs.declared.reply.Reply.{Reply}
use Rattle.dg_wire.specs.declared.reply.Reply.TheVariants as replies
use Rattle.dg_wire.specs.declared.request.Request.{Request}
use Rattle.dg_wire.specs.declared.request.Request.TheVariants as requests
use Rattle.dg_node.specs.Held.{Held}
use Rattle.dg_node.specs.Machine.{Machine}
use Rattle.dg_node.specs.Queries.{Queries}
use Rattle.dg_node.specs.Transactions.{discarded, HasChanges}
use Rattle.dg_node.specs.State.{machine_of, Leads, Stays, MayWant}
use Rattle.dg_node.specs.Steps.{Outcome, Spares, Step, TakesMemory}
use Rattle.dg_node.specs.Upserts.{Upserts}

-- what follows from a step follows from where it leads
pub leads_by : (before after : Held) (one other : Machine → Machine → Type 0) → ((m n : Machine) → one m n → other m n) → Leads before one after → Leads before other after
leads_by before after one other f leads = record { leads = f (machine_of before) (machine_of after) leads.leads }

-- the engine stays, and so does the machine
pub leads_nowhere : (before after : Held) (step : Machine → Machine → Type 0) → ((m : Machine) → step m m) → Stays before after → Leads before step after
leads_nowhere before after step f stays = record { leads = subst (λ (n : Machine). step (machine_of before) n) (sym stays) (f (machine_of before)) }

spares_all : (r : Request) (m : Machine) → Spares r m m
spares_all (requests.Begin sid) m = inl refl
spares_all (requests.Mutate sid body) m = inl refl
spares_all (requests.Upsert sid body) m = inl refl
spares_all r m = refl

pub step_made : (list : List BadPattern) (before after : Held) (r : Request) (p : Reply) → Leads before (λ m n. Outcome list m r p n) after → Leads before (λ m n. Step list m r p n) after
step_made list before after r p leads = leads_by before after (λ m n. Outcome list m r p n) (λ m n. Step list m r p n) (λ m n o. inl o) leads

-- memory was wanting, and no more was left than may be then
pub step_spared : (list : List BadPattern) (before after : Held) (r : Request) → Leads before (λ m n. Spares r m n) after → MayWant before r → Leads before (λ m n. Step list m r (replies.Refused refusals.Memory) n) after
step_spared list before after r leads wants =
    record { leads = inr (record { takes = wants; free = refl; spared = leads.leads }) }

-- where the machine stays, no more is left
pub err_spared : {A E : Type 0} (r : Result A E) (before after : Held) (request : Request) → OnErr r (Stays before after) → OnErr r (Leads before (λ m n. Spares request m n) after)
err_spared (Ok x) before after request stays = tt
err_spared (Err x) before after request stays = leads_nowhere before after (λ m n. Spares request m n) (spares_all request) stays

pub spared_by : {A E : Type 0} (r : Result A E) (before after : Held) (request q : Request) → request ≡ q → OnErr r (Leads before (λ m n. Spares q m n) after) → OnErr r (Leads before (λ m n. Spares request m n) after)
spared_by r before after request q e leads = subst (λ (s : Request). OnErr r (Leads before (λ m n. Spares s m n) after)) (sym e) leads

-- ---- a request, by its verb

pub query_led : {E : Type 0} (list : List BadPattern) (r : Result Reply E) (engine : Held) (request : Request) (sid : ℕ) (body text : List ℕ) → request ≡ requests.Query sid body → text ≡ body → IfOk r (λ p. Leads engine (λ m n. Queries list m sid text p n) engine) → IfOk r (λ p. Leads engine (λ m n. Outcome list m request p n) engine)
query_led list r engine request sid body text e f leads =
    subst (λ (q : Request). IfOk r (λ p. Leads engine (λ m n. Outcome list m q p n) engine)) (sym e)
    (subst (λ (b : List ℕ). IfOk r (λ p. Leads engine (λ m n. Queries list m sid b p n) engine)) f leads)

pub upsert_led : {E : Type 0} (list : List BadPattern) (r : Result Reply E) (before after : Held) (request : Request) (sid : ℕ) (body text : List ℕ) → request ≡ requests.Upsert sid body → text ≡ body → IfOk r (λ p. Leads before (λ m n. Upserts list m sid text p n) after) → IfOk r (λ p. Leads before (λ m n. Outcome list m request p n) after)
upsert_led list r before after request sid body text e f leads =
    subst (λ (q : Request). IfOk r (λ p. Leads before (λ m n. Outcome list m q p n) after)) (sym e)
    (subst (λ (b : List ℕ). IfOk r (λ p. Leads before (λ m n. Upserts list m sid b p n) after)) f leads)

pub discard_led : (list : List BadPattern) (p : Reply) (before after : Held) (request : Request) (sid : ℕ) → request ≡ requests.Discard sid → Leads before (λ m n. discarded m sid ≡ (p, n)) after → Leads before (λ m n. Outcome list m request p n) after
discard_led list p before after request sid e leads = subst (λ (q : Request). Leads before (λ m n. Outcome list m q p n) after) (sym e) leads

-- whatever comes of it, its calls take memory
pub takes_memory : {A E : Type 0} (r : Result A E) (engine : Held) (request q : Request) → request ≡ q → ((m : Machine) → TakesMemory m q) → OnErr r (MayWant engine request)
takes_memory (Ok x) engine request q e takes = tt
takes_memory (Err x) engine request q e takes = subst (λ (r : Request). MayWant engine r) (sym e) (takes (machine_of engine))

pub commit_takes : {A E : Type 0} (r : Result A E) (engine : Held) (request : Request) (sid : ℕ) → request ≡ requests.Commit sid → OnErr r (HasChanges (machine_of engine) sid) → OnErr r (MayWant engine request)
commit_takes (Ok x) engine request sid e wants = tt
commit_takes (Err x) engine request sid e wants = subst (λ (r : Request). MayWant engine r) (sym e) wants

-- an error or not
pub on_any : {A E : Type 0} (r : Result A E) (P : Type 0) → P → OnErr r P
on_any (Ok x) P p = tt
on_any (Err x) P p = p
