-- What the verdict of the oracle says of a commit.
use Rattle.std.proofs.Common.{◌≡◌, ℕ, suc, ◌+◌, ◌-◌, ◌≤◌, true, false, cond, List, [], ◌∷◌, Option, Some, None, refl, ap, subst, ◌∙◌, arith}
use Rattle.std.specs.Prelude.{slice_get, filter, find, option_map}
use Rattle.std.specs.List.{AllByRecursion}
use Rattle.std.specs.declared.cmp.Ordering.{Ordering}
use Rattle.dg_values.specs.Order.{text_cmp}
use Rattle.dg_values.specs.Ascending.{ascending}
use Rattle.dg_keys.specs.declared.conflict.ConflictKey.{ConflictKey}
use Rattle.dg_keys.specs.Conflicts.{conflict_cmp}
use Rattle.dg_oracle.specs.Commits as oracle
use Rattle.dg_oracle.specs.Verdicts as judged
use Rattle.dg_oracle.specs.declared.verdict.Verdict.TheVariants as verdicts
use Rattle.dg_zero.specs.declared.entry.Entry.{Entry}
use Rattle.dg_zero.specs.declared.tablets.Phase.TheVariants.{Idle}
use Rattle.dg_zero.specs.declared.entry.Reason.TheVariants.{Conflict}
use Rattle.dg_zero.specs.declared.tablets.Place.{Place}
use Rattle.dg_zero.specs.Places.{tablets, is_held, is_held_phase, phase_by, is_place_of}
use Rattle.dg_zero.specs.Verdicts.{commits, first, conflict, reason_by, verdict}
use Rattle.dg_zero.specs.Legal.{IsReason}

-- the key that a conflict names
pub record Named {K : Type 0} (cmp : K → K → Ordering) (cs : List (oracle.Commit K)) (start : ℕ) (keys : List K) (place ts : ℕ) : Type 0 where
  pub key : K
  pub at : slice_get keys place ≡ Some key
  pub last : judged.last_clash cmp cs start key ≡ Some ts

named_from : {K : Type 0} (cmp : K → K → Ordering) (cs : List (oracle.Commit K)) (start low : ℕ) (keys : List K) (at ts : ℕ) → judged.verdict_from cmp cs start low keys ≡ verdicts.Conflict at ts → Named cmp cs start keys (at - low) ts × (low ≤ at)
named_from cmp cs start low [] at ts e = absurd (cc)
named_from {K} cmp cs start low (key ∷ keys) at ts e =
    by (judged.last_clash cmp cs start key) refl e (λ f. named_from cmp cs start (low + 1) keys at ts f)
  where
    by : (o : Option ℕ) → judged.last_clash cmp cs start key ≡ o → judged.conflict_or low o (judged.verdict_from cmp cs start (low + 1) keys) ≡ verdicts.Conflict at ts → (judged.verdict_from cmp cs start (low + 1) keys ≡ verdicts.Conflict at ts → Named cmp cs start keys (at - (low + 1)) ts × (low + 1 ≤ at)) → Named cmp cs start (key ∷ keys) (at - low) ts × (low ≤ at)
    by (Some t) is f rest =
        let place : low ≡ at = cc in
        let same : t ≡ ts = cc in
        let zero_is : 0 ≡ at - low = omega arith in
        (record { key = key; at = subst (λ (k : ℕ). slice_get (key ∷ keys) k ≡ Some key) zero_is refl; last = cc }, omega arith)
    by None is f rest =
        let r = rest f in
        let more : suc (at - (low + 1)) ≡ at - low = omega (arith, r.1) in
        (record { key = r.0.key; at = subst (λ (k : ℕ). slice_get (key ∷ keys) k ≡ Some r.0.key) more r.0.at; last = r.0.last }, omega (arith, r.1))

pub named : {K : Type 0} (cmp : K → K → Ordering) (cs : List (oracle.Commit K)) (start : ℕ) (keys : List K) (at ts : ℕ) → judged.verdict cmp cs start keys ≡ verdicts.Conflict at ts → Named cmp cs start keys at ts
named cmp cs start keys at ts e = let same : at - 0 ≡ at = omega arith in subst (λ (k : ℕ). Named cmp cs start keys k ts) same (named_from cmp cs start 0 keys at ts e).0

-- where no tablet is held
pub not_held : (ts : List Place) (pred : List ℕ) → AllByRecursion (λ (t : Place). t.phase ≡ Idle) ts → is_held ts pred ≡ false
not_held [] pred a = refl
not_held (t ∷ ts) pred a =
    elim (is_place_of pred t) as (λ b. is_held_phase (phase_by (cond b (Some t) (find (is_place_of pred) ts))) ≡ false) [ true ↦ ap is_held_phase a.0 | false ↦ not_held ts pred a.1 ]

none_held : (ts : List Place) (preds : List (List ℕ)) → AllByRecursion (λ (t : Place). t.phase ≡ Idle) ts → filter (is_held ts) preds ≡ []
none_held ts [] a = refl
none_held ts (pred ∷ preds) a = rw (not_held ts pred a) (none_held ts preds a)

pub verdict_where_idle : (h : List Entry) (start : ℕ) (preds : List (List ℕ)) (keys : List ConflictKey) → AllByRecursion (λ (t : Place). t.phase ≡ Idle) (tablets h) → verdict h start preds keys ≡ conflict keys (judged.verdict conflict_cmp (commits h) start keys)
verdict_where_idle h start preds keys a = ap (λ (held : List (List ℕ)). reason_by (first (ascending text_cmp held)) keys (judged.verdict conflict_cmp (commits h) start keys)) (none_held (tablets h) preds a)

-- a clear verdict
pub clear_is : (h : List Entry) (start : ℕ) (preds : List (List ℕ)) (keys : List ConflictKey) → AllByRecursion (λ (t : Place). t.phase ≡ Idle) (tablets h) → judged.verdict conflict_cmp (commits h) start keys ≡ verdicts.Clear → verdict h start preds keys ≡ None
clear_is h start preds keys a e = verdict_where_idle h start preds keys a ∙ ap (conflict keys) e

-- a conflict
pub conflict_is : (h : List Entry) (start : ℕ) (preds : List (List ℕ)) (keys : List ConflictKey) (at ts : ℕ) (key : ConflictKey) → AllByRecursion (λ (t : Place). t.phase ≡ Idle) (tablets h) → judged.verdict conflict_cmp (commits h) start keys ≡ verdicts.Conflict at ts → slice_get keys at ≡ Some key → verdict h start preds keys ≡ Some (Conflict key ts)
conflict_is h start preds keys at ts key a e is = verdict_where_idle h start preds keys a ∙ (ap (conflict keys) e ∙ ap (option_map (λ (k : ConflictKey). Conflict k ts)) is)

-- and its key alone is a reason
pub reason_is : (h : List Entry) (start : ℕ) (keys : List ConflictKey) (at ts : ℕ) (key : ConflictKey) → judged.verdict conflict_cmp (commits h) start keys ≡ verdicts.Conflict at ts → slice_get keys at ≡ Some key → IsReason h start (Conflict key ts)
reason_is h start keys at ts key e is =
    let n = named conflict_cmp (commits h) start keys at ts e in
    let same : n.key ≡ key = cc (n.at, is) in
    let last : judged.last_clash conflict_cmp (commits h) start key ≡ Some ts = subst (λ (k : ConflictKey). judged.last_clash conflict_cmp (commits h) start k ≡ Some ts) same n.last in
    rw last refl
