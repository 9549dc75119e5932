-- The steps of the machine, and its runs.
use Rattle.std.specs.Prelude.{◌≡◌, ◌≢◌, ℕ, ◌+◌, ◌⊎◌, ⊤, List, [], ◌∷◌}
use Rattle.std.specs.List.{AllByRecursion}
use Rattle.dg_check.specs.declared.patterns.Refusal.{Refusal as BadPattern}
use Rattle.dg_wire.specs.declared.refusal.Refusal.TheVariants as refusals
use Rattle.dg_wire.specs.declared.reply.Reply.{Reply}
use Rattle.dg_wire.specs.declared.reply.Reply.TheVariants as replies
use Rattle.dg_wire.specs.declared.request.Request.{Request}
use Rattle.dg_wire.specs.declared.request.Request.TheVariants as requests
use Rattle.dg_node.specs.Machine.{Machine, empty, drawn, leased_upto}
use Rattle.dg_node.specs.Replying.{IsUnbuilt}
use Rattle.dg_node.specs.Alters.{alters}
use Rattle.dg_node.specs.Transactions.{begun, committed, discarded, HasChanges}
use Rattle.dg_node.specs.Mutations.{Mutates}
use Rattle.dg_node.specs.Queries.{Queries}
use Rattle.dg_node.specs.Upserts.{Upserts}

-- what a request is answered and leaves, where there is memory and these patterns were refused by the end of the run
abbrev pub Outcome : List BadPattern → Machine → Request → Reply → Machine → Type 0
Outcome list old (requests.Alter body) reply new = alters old body ≡ (reply, new)
Outcome list old (requests.Begin sid) reply new = begun old sid ≡ (reply, new)
Outcome list old (requests.Mutate sid body) reply new = Mutates old sid body reply new
Outcome list old (requests.Upsert sid body) reply new = Upserts list old sid body reply new
Outcome list old (requests.Query sid body) reply new = Queries list old sid body reply new
Outcome list old (requests.Commit sid) reply new = committed old sid ≡ (reply, new)
Outcome list old (requests.Discard sid) reply new = discarded old sid ≡ (reply, new)
Outcome list old request reply new = IsUnbuilt old reply new

-- The request's calls take memory. A discard, a commit of nothing and a verb that isn't built always have their answer.
abbrev pub TakesMemory : Machine → Request → Type 0
TakesMemory old (requests.Alter body) = ⊤
TakesMemory old (requests.Begin sid) = ⊤
TakesMemory old (requests.Mutate sid body) = ⊤
TakesMemory old (requests.Upsert sid body) = ⊤
TakesMemory old (requests.Query sid body) = ⊤
TakesMemory old (requests.Commit sid) = HasChanges old sid
TakesMemory old request = ⊥

-- The next node is raised, as it is where one of these outcomes comes about.
pub record Raises (outcome : Machine → Reply → Machine → Type 0) (old new : Machine) : Type 0 where
  pub reply : Reply
  pub after : Machine
  pub comes : outcome old reply after
  pub raised : new ≡ leased_upto old after.next_uid

-- nothing is changed, or the next node is raised
abbrev pub MayRaise : (Machine → Reply → Machine → Type 0) → Machine → Machine → Type 0
MayRaise outcome old new = (new ≡ old) ⊎ Raises outcome old new

-- what a request leaves where memory is wanting: a begin may have drawn one timestamp, which isn't given back, and a mutation or an
-- upsert may have raised the next node, as its lease says, for which all its patterns were built
abbrev pub Spares : Request → Machine → Machine → Type 0
Spares (requests.Begin sid) old new = (new ≡ old) ⊎ (new ≡ drawn old (old.next + 1))
Spares (requests.Mutate sid body) old new = MayRaise (λ machine. Mutates machine sid body) old new
Spares (requests.Upsert sid body) old new = MayRaise (λ machine. Upserts [] machine sid body) old new
Spares request old new = new ≡ old

-- memory is wanting
pub record WantsMemory (old : Machine) (request : Request) (reply : Reply) (new : Machine) : Type 0 where
  pub takes : TakesMemory old request
  pub free : reply ≡ replies.Refused refusals.Memory
  pub spared : Spares request old new

-- From old, the machine may give this reply to the request and go on to new.
abbrev pub Step : List BadPattern → Machine → Request → Reply → Machine → Type 0
Step list old request reply new = Outcome list old request reply new ⊎ WantsMemory old request reply new

-- the machine may give these replies to these requests, one step after another
abbrev pub Steps : List BadPattern → Machine → List Request → List Reply → Machine → Type 0
Steps list old [] [] new = new ≡ old
Steps list old (request ∷ requests) (reply ∷ replies) new = (mid : Machine) × Step list old request reply mid × Steps list mid requests replies new
Steps list old [] (reply ∷ replies) new = ⊥
Steps list old (request ∷ requests) [] new = ⊥

-- a run: from the empty machine of so many groups
abbrev pub Run : List BadPattern → ℕ → List Request → List Reply → Machine → Type 0
Run list groups requests replies after = Steps list (empty groups) requests replies after

-- no reply says that memory was wanting
abbrev pub HadMemory : List Reply → Type 0
HadMemory given = AllByRecursion (λ reply. reply ≢ replies.Refused refusals.Memory) given

-- where none does and no pattern was refused, the replies and the state behind them are a function of the requests
abbrev pub IsDetermined : Type 0
IsDetermined = (groups : ℕ) (requests : List Request) (some others : List Reply) (one other : Machine)
    → Run [] groups requests some one → Run [] groups requests others other → HadMemory some → HadMemory others → (some ≡ others) × (one ≡ other)
