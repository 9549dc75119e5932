-- Events that leave what the machine has, and what the verdict on a transaction says to the machine.
use Rattle.std.proofs.Common.{◌≡◌, ℕ, List, Option, Some, None, refl}
use Rattle.std.specs.Prelude.{slice_get, option_map}
use Rattle.dg_keys.specs.declared.conflict.ConflictKey.{ConflictKey}
use Rattle.dg_keys.specs.Conflicts.{conflict_text}
use Rattle.dg_oracle.specs.declared.verdict.Verdict.{Verdict}
use Rattle.dg_oracle.specs.declared.verdict.Verdict.TheVariants as verdicts
use Rattle.dg_wire.specs.declared.refusal.Refusal.TheVariants as refusals
use Rattle.dg_zero.specs.declared.entry.Reason.{Reason}
use Rattle.dg_zero.specs.declared.entry.Reason.TheVariants as reasons
use Rattle.dg_zero.specs.declared.entry.Event.TheVariants.{Begin, Refused, End, Lease, Look}
use Rattle.dg_zero.specs.Verdicts.{conflict}
use Rattle.dg_node.specs.Transactions.{refusal_by}
use Rattle.dg_node.proofs.StandLemmas.{IsQuiet}

-- ---- events

pub look_quiet : IsQuiet Look
look_quiet = record { no_alter = refl; no_commit = refl; none_asked = refl; same_world = λ w. refl }

pub lease_quiet : (top count first : ℕ) → IsQuiet (Lease top count first)
lease_quiet top count first = record { no_alter = refl; no_commit = refl; none_asked = refl; same_world = λ w. refl }

pub begin_quiet : (start : ℕ) → IsQuiet (Begin start)
begin_quiet start = record { no_alter = refl; no_commit = refl; none_asked = refl; same_world = λ w. refl }

pub end_quiet : (start : ℕ) → IsQuiet (End start)
end_quiet start = record { no_alter = refl; no_commit = refl; none_asked = refl; same_world = λ w. refl }

pub refused_quiet : (start : ℕ) (reason : Reason) → IsQuiet (Refused start reason)
refused_quiet start reason = record { no_alter = refl; no_commit = refl; none_asked = refl; same_world = λ w. refl }

-- ---- refusals

pub refusal_none : (keys : List ConflictKey) (v : Verdict) → conflict keys v ≡ None → refusal_by keys v ≡ None
refusal_none keys verdicts.Clear e = refl
refusal_none keys (verdicts.Conflict at ts) e = by (slice_get keys at) e
  where
    by : (o : Option ConflictKey) → option_map (λ key. reasons.Conflict key ts) o ≡ None → option_map (λ key. refusals.Conflict ts (conflict_text key)) o ≡ None
    by None e = refl
    by (Some key) e = absurd (cc)

pub no_moving : (keys : List ConflictKey) (v : Verdict) (pred : List ℕ) → conflict keys v ≡ Some (reasons.Moving pred) → ⊥
no_moving keys verdicts.Clear pred e = absurd (cc)
no_moving keys (verdicts.Conflict at ts) pred e = by (slice_get keys at) e
  where
    by : (o : Option ConflictKey) → option_map (λ k. reasons.Conflict k ts) o ≡ Some (reasons.Moving pred) → ⊥
    by None e = absurd (cc)
    by (Some k) e = absurd (cc)
