-- What a lease of nodes leaves.
use Rattle.std.proofs.Common.{◌≡◌, ℕ, ◌+◌, ◌≤◌, ◌^◌, max, Bool, true, false, cond, List, Some, None, refl, ap, subst, sym, ◌∙◌, arith}
use Rattle.std.specs.Prelude.{nat_le}
use Rattle.std.proofs.lemmas.Bool.Decides.{nat_tests}
use Rattle.dg_schema.specs.declared.definition.PredDef.{PredDef}
use Rattle.dg_keys.specs.declared.conflict.ConflictKey.{ConflictKey}
use Rattle.dg_keys.specs.declared.record.Tablet.{Tablet}
use Rattle.dg_oracle.specs.Commits as oracle
use Rattle.dg_zero.specs.declared.entry.Entry.{Entry}
use Rattle.dg_zero.specs.declared.entry.Event.TheVariants.{Lease}
use Rattle.dg_zero.specs.declared.tablets.Place.{Place}
use Rattle.dg_zero.specs.Counters.{next_uid, leased}
use Rattle.dg_zero.specs.Legal.{FitsLease}
use Rattle.dg_zero.specs.States.{IsKept, and_entry}
use Rattle.dg_zero.proofs.Kept.{lease_keeps}

-- the nodes that are answered are those above, and are left
lease_fits : (h : List Entry) (top count first : ℕ) → Some first ≡ leased h top count → FitsLease h top count first
lease_fits h top count first e = by (nat_le (max (next_uid h) (top + 1) + count) (2 ^ 62)) refl e
  where
    by : (b : Bool) → nat_le (max (next_uid h) (top + 1) + count) (2 ^ 62) ≡ b → Some first ≡ cond b (Some (max (next_uid h) (top + 1))) None → FitsLease h top count first
    by true t e =
        let is : first ≡ max (next_uid h) (top + 1) = cc in
        record { first_is = is; most = subst (λ (f : ℕ). f + count ≤ 2 ^ 62) (sym is) (grind (arith, nat_tests)) }
    by false t e = absurd (cc)

-- what is answered of the next node is where the history leads
pub leased_keeps : {cs : List ℕ} (n : ℕ) (o : oracle.OracleState ConflictKey) (uid : ℕ) (d : List PredDef) (ps : List Place) (w : List Tablet) (h : List Entry) (author : ℕ) → IsKept n o uid d ps w h cs → (top count first : ℕ) (past : List Entry) → Some first ≡ cond (nat_le (max uid (top + 1) + count) (2 ^ 62)) (Some (max uid (top + 1))) None → past ≡ and_entry h author (Lease top count first) → IsKept n o (first + count) d ps w past cs
leased_keeps {cs = cs} n o uid d ps w h author k top count first past e p =
    let fits = lease_fits h top count first (e ∙ ap (λ (u : ℕ). cond (nat_le (max u (top + 1) + count) (2 ^ 62)) (Some (max u (top + 1))) None) k.uid_is) in
    subst (λ (x : List Entry). IsKept n o (first + count) d ps w x cs) (sym p) (lease_keeps n o uid d ps w h author k top count first fits)
