-- What a call of a cluster does to the history that its caller sees: entries of others, and then its own.
use Rattle.std.specs.Prelude.{◌≡◌, ℕ, ◌+◌, ◌-◌, ◌≤◌, ◌<◌, ◌^◌, Bool, false, if◌then◌else◌, List, [], ◌++◌, Some, None, Result, Vec, IfOk, IfErr, OnOk, OnErr}
use Rattle.std.specs.Arc.{arc_value}
use Rattle.std.specs.List.{AllByRecursion}
use Rattle.std.specs.declared.alloc.Global.{Global}
use Rattle.dg_schema.specs.declared.definition.PredDef.{PredDef}
use Rattle.dg_keys.specs.declared.record.Part.{Part}
use Rattle.dg_oracle.specs.Commits.{is_active}
use Rattle.dg_zero.specs.declared.entry.Entry.{Entry}
use Rattle.dg_zero.specs.declared.entry.Event.TheVariants as events
use Rattle.dg_zero.specs.declared.fault.CommitFault.{CommitFault}
use Rattle.dg_zero.specs.declared.fault.ZeroFault.{ZeroFault}
use Rattle.dg_zero.specs.declared.fault.ZeroFault.TheVariants as zeros
use Rattle.dg_zero.specs.declared.offer.Offer.{Offer}
use Rattle.dg_zero.specs.declared.zero.Begun.{Begun}
use Rattle.dg_zero.specs.Counters.{next, next_uid, leased, active, starts_of}
use Rattle.dg_zero.specs.Legal.{IsLegal}
use Rattle.dg_zero.specs.Places.{tablets}
use Rattle.dg_zero.specs.States.{Zero, and_then, owners, alter_of, commit_of, first_held, IsLeastStart, IsRefusal, AreAlterParts}
use Rattle.dg_zero.specs.Verdicts.{verdict}
use Rattle.dg_zero.specs.Worlds.{world, schema, graph_at}
use Rattle.dg_group.specs.Groups.{Group}
use Rattle.dg_txn.specs.Pins.{ArePinsOf}
use Rattle.dg_node.specs.declared.cluster.ClusterFault.{ClusterFault}
use Rattle.dg_node.specs.declared.cluster.ClusterFault.TheVariants as faults
use Rattle.dg_node.specs.Alters.{first_with_data}

-- entries of others came before the caller's own: none is of an author that the caller takes
pub record AreOthers (takes : ℕ → Bool) (before met : Zero) : Type 0 where
  pub groups_are : met.groups ≡ before.groups
  pub entries : List Entry
  pub history_is : met.history ≡ before.history ++ entries
  pub others : AllByRecursion (λ e. takes e.author ≡ false) entries
  pub legal : IsLegal met.groups met.history

-- a call meets a history, and leads on from there
pub record Meets (takes : ℕ → Bool) (before after : Zero) (step : Zero → Zero → Type 0) : Type 0 where
  pub met : Zero
  pub others : AreOthers takes before met
  pub goes : step met after

-- why a begin is refused: timestamps are spent where the next would be 2 ^ 62
abbrev pub IsBeginFault : List Entry → ClusterFault → Type 0
IsBeginFault history faults.OutOfMemory = Unit {0}
IsBeginFault history (faults.TimestampsSpent spent) = (spent ≡ next history) × (next history ≡ 2 ^ 62)
IsBeginFault history fault = ⊥

-- a begin draws a start, with pins that hold the graph there. A refused one appends a look
pub record BeginsAt (slip : ℕ) (result : Result (Begun × Vec Group Global) ClusterFault) (met after : Zero) : Type 0 where
  pub start : IfOk result (λ b. b.0.start ≡ next met.history)
  pub schema_is : IfOk result (λ b. arc_value b.0.schema ≡ schema met.history)
  pub owners_are : IfOk result (λ b. arc_value b.0.owners ≡ owners met.history)
  pub pins : IfOk result (λ b. ArePinsOf (next met.history) (schema met.history) (owners met.history) b.1.items (graph_at met.history (next met.history) []))
  pub ok : OnOk result (after ≡ and_then met slip (events.Begin (next met.history)))
  pub not_spent : OnOk result (next met.history < 2 ^ 62)
  pub fault : IfErr result (IsBeginFault met.history)
  pub err : OnErr result (after ≡ and_then met slip events.Look)

-- why a lease is refused: so many nodes aren't left
abbrev pub IsLeaseFault : List Entry → ℕ → ℕ → ClusterFault → Type 0
IsLeaseFault history top count (faults.UidsSpent spent) = (leased history top count ≡ None) × (spent ≡ next_uid history)
IsLeaseFault history top count fault = ⊥

-- a lease answers the first of the nodes; a refused one appends a look
pub record LeasesAt (slip top count : ℕ) (result : Result ℕ ClusterFault) (met after : Zero) : Type 0 where
  pub first : IfOk result (λ first. leased met.history top count ≡ Some first)
  pub ok : IfOk result (λ first. after ≡ and_then met slip (events.Lease top count first))
  pub fault : IfErr result (IsLeaseFault met.history top count)
  pub err : OnErr result (after ≡ and_then met slip events.Look)

-- an offer is committed at the next timestamp, or refused
pub record CommitsAt (slip : ℕ) (offer : Offer) (result : Result ℕ CommitFault) (met after : Zero) : Type 0 where
  pub ts : IfOk result (λ ts. ts ≡ next met.history)
  pub ok : IfOk result (λ ts. after ≡ and_then met slip (commit_of offer ts))
  pub clear : OnOk result (verdict met.history offer.start offer.preds offer.keys ≡ None)
  pub not_spent : OnOk result (next met.history < 2 ^ 62)
  pub fault : IfErr result (IsRefusal met after slip offer)

-- a start ends, where it was active; where it wasn't, a look is appended
pub record EndsAt (slip start : ℕ) (was : Bool) (met after : Zero) : Type 0 where
  pub was_active : was ≡ is_active (starts_of (active met.history)) start
  pub appends : after ≡ and_then met slip (if was then events.End start else events.Look)

-- why an alter is refused: a transaction is active, or else a tablet is held, or else data stands in the way, or else two timestamps aren't left
abbrev pub IsAlterFault : List Entry → List PredDef → ClusterFault → Type 0
IsAlterFault history newer faults.OutOfMemory = Unit {0}
IsAlterFault history newer (faults.Pending start) = IsLeastStart history start
IsAlterFault history newer (faults.Moving pred) = (active history ≡ []) × (first_held (tablets history) newer ≡ Some pred)
IsAlterFault history newer (faults.HasData pred) =
    (active history ≡ []) × (first_held (tablets history) newer ≡ None) × (first_with_data (schema history) (world history).graph newer ≡ Some pred)
IsAlterFault history newer (faults.TimestampsSpent spent) =
    (active history ≡ []) × (first_held (tablets history) newer ≡ None) × (first_with_data (schema history) (world history).graph newer ≡ None) × (spent ≡ next history) × (2 ^ 62 - 1 ≤ next history)
IsAlterFault history newer fault = ⊥

-- an alter draws two timestamps, and changes lists so that they agree with the new definitions; a refused one appends a look
pub record AltersAt (slip : ℕ) (newer : List PredDef) (result : Result (ℕ × ℕ) ClusterFault) (met after : Zero) : Type 0 where
  pub drawn : IfOk result (λ drawn. (drawn.0 ≡ next met.history) × (drawn.1 ≡ next met.history + 1))
  pub ok : OnOk result ((parts : List Part) × AreAlterParts met.history newer parts × (after ≡ and_then met slip (alter_of met newer parts)))
  pub none_active : OnOk result (active met.history ≡ [])
  pub none_held : OnOk result (first_held (tablets met.history) newer ≡ None)
  pub no_data : OnOk result (first_with_data (schema met.history) (world met.history).graph newer ≡ None)
  pub not_spent : OnOk result (next met.history + 1 < 2 ^ 62)
  pub fault : IfErr result (IsAlterFault met.history newer)
  pub err : OnErr result (after ≡ and_then met slip events.Look)

-- a fault of the state that coordinates all that leaves out no predicate
abbrev pub IsWhole : ZeroFault → Type 0
IsWhole zeros.NoPredicate = ⊥
IsWhole zeros.AlreadyMoving = ⊥
IsWhole (zeros.NotMoving phase) = ⊥
IsWhole (zeros.OldCopy group until) = ⊥
IsWhole fault = Unit {0}

-- a fault of the state that coordinates all, as one of the cluster, for a call about a predicate
abbrev pub cluster_fault : List ℕ → ZeroFault → ClusterFault
cluster_fault pred zeros.OutOfMemory = faults.OutOfMemory
cluster_fault pred (zeros.TimestampsSpent next) = faults.TimestampsSpent next
cluster_fault pred (zeros.UidsSpent next) = faults.UidsSpent next
cluster_fault pred (zeros.Pending start) = faults.Pending start
cluster_fault pred (zeros.Moving held) = faults.Moving held
cluster_fault pred (zeros.NoGroup group) = faults.NoGroup group
cluster_fault pred (zeros.SameGroup group) = faults.SameGroup group
cluster_fault pred zeros.AlreadyMoving = faults.AlreadyMoving pred
cluster_fault pred (zeros.OldCopy group until) = faults.OldCopy pred group until
cluster_fault pred (zeros.NotMoving phase) = faults.NotMoving pred phase
cluster_fault pred zeros.NoPredicate = faults.NoPredicate pred
