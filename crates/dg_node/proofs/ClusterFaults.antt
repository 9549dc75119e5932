-- Refusals of the state that coordinates all, as refusals of a cluster.
use Rattle.std.proofs.Common.{◌≡◌, ℕ, List, None, refl, subst, sym}
use Rattle.dg_schema.specs.declared.definition.PredDef.{PredDef}
use Rattle.dg_zero.specs.declared.entry.Entry.{Entry}
use Rattle.dg_zero.specs.declared.fault.ZeroFault.{ZeroFault}
use Rattle.dg_zero.specs.declared.fault.ZeroFault.TheVariants as zeros
use Rattle.dg_zero.specs.Counters.{next, next_uid, leased}
use Rattle.dg_zero.specs.Worlds.{world, schema}
use Rattle.dg_zero.specs.States as states
use Rattle.dg_node.specs.Alters.{first_with_data}
use Rattle.dg_node.specs.Clusters.{IsBeginFault, IsLeaseFault, IsAlterFault, cluster_fault}

pub begin_fault : (pred : List ℕ) (h : List Entry) (f : ZeroFault) → states.IsBeginFault (next h) f → IsBeginFault h (cluster_fault pred f)
begin_fault pred h zeros.OutOfMemory is = tt
begin_fault pred h (zeros.TimestampsSpent spent) is = is
begin_fault pred h (zeros.UidsSpent spent) is = is
begin_fault pred h (zeros.Pending start) is = is
begin_fault pred h (zeros.Moving held) is = is
begin_fault pred h (zeros.NoGroup group) is = is
begin_fault pred h (zeros.SameGroup group) is = is
begin_fault pred h zeros.AlreadyMoving is = is
begin_fault pred h (zeros.OldCopy group until) is = is
begin_fault pred h (zeros.NotMoving phase) is = is
begin_fault pred h zeros.NoPredicate is = is

pub alter_fault : (pred : List ℕ) (h : List Entry) (newer : List PredDef) (f : ZeroFault) → first_with_data (schema h) (world h).graph newer ≡ None → states.IsAlterFault h newer f → IsAlterFault h newer (cluster_fault pred f)
alter_fault pred h newer zeros.OutOfMemory free is = tt
alter_fault pred h newer (zeros.TimestampsSpent spent) free is = (is.0, is.1, free, is.2, is.3)
alter_fault pred h newer (zeros.UidsSpent spent) free is = is
alter_fault pred h newer (zeros.Pending start) free is = is
alter_fault pred h newer (zeros.Moving held) free is = is
alter_fault pred h newer (zeros.NoGroup group) free is = is
alter_fault pred h newer (zeros.SameGroup group) free is = is
alter_fault pred h newer zeros.AlreadyMoving free is = is
alter_fault pred h newer (zeros.OldCopy group until) free is = is
alter_fault pred h newer (zeros.NotMoving phase) free is = is
alter_fault pred h newer zeros.NoPredicate free is = is
