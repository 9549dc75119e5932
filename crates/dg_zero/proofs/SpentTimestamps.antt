-- What transactions that changed nothing leave: their timestamps are drawn, and all else is as at first.
use Rattle.std.proofs.Common.{◌≡◌, ℕ, zero, suc, ◌+◌, ◌-◌, ◌≤◌, ◌<◌, ◌^◌, Bool, true, false, List, [], ◌∷◌, ◌++◌, fold, refl, ap, subst, ◌∙◌, arith, append_assoc}
use Rattle.std.specs.Prelude.{◌==◌, if◌then◌else◌, nat_le, flat_map}
use Rattle.std.proofs.lemmas.Bool.{eq-eqb}
use Rattle.std.proofs.lemmas.List.Sums.{fold-append}
use Rattle.std.proofs.lemmas.Grind.{flat_map-append}
use Rattle.dg_schema.specs.declared.definition.PredDef.{PredDef}
use Rattle.dg_keys.specs.declared.conflict.ConflictKey.{ConflictKey}
use Rattle.dg_keys.specs.declared.record.Tablet.{Tablet}
use Rattle.dg_oracle.specs.Commits as oracle
use Rattle.dg_zero.specs.declared.entry.Entry.{Entry}
use Rattle.dg_zero.specs.declared.entry.Event.TheVariants.{Begin, End}
use Rattle.dg_zero.specs.declared.tablets.Place.{Place}
use Rattle.dg_zero.specs.Counters.{Started, active, is_active_of}
use Rattle.dg_zero.specs.Chains.{own, spent}
use Rattle.dg_zero.specs.Records.{record_of, records}
use Rattle.dg_zero.specs.Places.{tally}
use Rattle.dg_zero.specs.States.{IsKept}
use Rattle.dg_zero.specs.Worlds.{empty_world, world_at, world_upto}
use Rattle.dg_zero.proofs.Histories.{active_push}
use Rattle.dg_zero.proofs.Kept.{begin_keeps, end_keeps, none_active}

-- ---- what no begin and no end changes

-- what neither a begin nor an end moves stays
pub fold_spent : {A : Type 0} (f : A → Entry → A) (a : A) → ((start : ℕ) → f a (own (Begin start)) ≡ a) → ((start : ℕ) → f a (own (End start)) ≡ a) → (n : ℕ) → fold f a (spent n) ≡ a
fold_spent f a begun ended zero = refl
fold_spent {A} f a begun ended (suc n) =
    fold-append f a (spent n) (own (Begin (suc n)) ∷ own (End (suc n)) ∷ [])
    ∙ (ap (λ (b : A). f (f b (own (Begin (suc n)))) (own (End (suc n)))) (fold_spent f a begun ended n)
    ∙ (ap (λ (b : A). f b (own (End (suc n)))) (begun (suc n)) ∙ ended (suc n)))

-- what neither gives any of is none
pub none_spent : {B : Type 0} (f : Entry → List B) → ((start : ℕ) → f (own (Begin start)) ≡ []) → ((start : ℕ) → f (own (End start)) ≡ []) → (n : ℕ) → flat_map f (spent n) ≡ []
none_spent f begun ended zero = refl
none_spent {B} f begun ended (suc n) =
    flat_map-append f (spent n) (own (Begin (suc n)) ∷ own (End (suc n)) ∷ [])
    ∙ (ap (λ (bs : List B). bs ++ (f (own (Begin (suc n))) ++ (f (own (End (suc n))) ++ []))) (none_spent f begun ended n)
    ∙ (ap (λ (bs : List B). bs ++ (f (own (End (suc n))) ++ [])) (begun (suc n)) ∙ ap (λ (bs : List B). bs ++ []) (ended (suc n))))

pub records_spent : (n : ℕ) → records (spent n) ≡ []
records_spent n = none_spent (λ (e : Entry). record_of e.event) (λ start. refl) (λ start. refl) n

pub world_at_spent : (n at : ℕ) → world_at (spent n) at ≡ empty_world
world_at_spent n at = fold_spent (world_upto at) empty_world (λ start. either (nat_le 0 at)) (λ start. either (nat_le 0 at)) n
  where
    either : (b : Bool) → (if b then empty_world else empty_world) ≡ empty_world
    either true = refl
    either false = refl

-- ---- what a state keeps

-- the oracle from this timestamp on
abbrev pub oracle_at : ℕ → oracle.OracleState ConflictKey
oracle_at next = record { next = next; active = []; commits = []; line = 0 }

itself : (n : ℕ) → (n == n) ≡ true
itself n = eq-eqb n n refl

-- a start that is drawn and ended leaves the oracle at the next one
drawn_and_ended : (n : ℕ) → oracle.ended (oracle.begun (oracle_at (suc n))) (suc n) ≡ oracle_at (suc (suc n))
drawn_and_ended n =
    let one : suc n + 1 ≡ suc (suc n) = omega arith in
    rw (itself (suc n), one) refl

-- after so many of them the state is as at first, but for the next timestamp
pub spent_keeps : (groups : ℕ) → 1 ≤ groups → (n : ℕ) → n < 2 ^ 62 → IsKept groups (oracle_at (suc n)) 1 [] [] [] (spent n) (tally groups [])
spent_keeps groups some zero lt = record {
  least = some;
  legal = tt;
  next_is = refl;
  active_are = refl;
  commits_are = refl;
  line_is = refl;
  uid_is = refl;
  schema_is = refl;
  tablets_are = refl;
  owners_are = refl;
  counts_are = refl;
  idle = tt;
}
spent_keeps groups some (suc n) lt =
    let lower : n < 2 ^ 62 = omega (arith, lt) in
    let before = spent_keeps groups some n lower in
    let begin : Entry = own (Begin (suc n)) in
    let end : Entry = own (End (suc n)) in
    let begun = begin_keeps groups (oracle_at (suc n)) 1 [] [] [] (spent n) 0 before lt in
    let none : active (spent n) ≡ [] = none_active groups (oracle_at (suc n)) 1 [] [] [] (spent n) 0 before refl in
    let alone : active (spent n ++ begin ∷ []) ≡ (record { start = suc n; author = 0 }) ∷ [] = active_push (spent n) begin ∙ ap (λ (starts : List Started). starts ++ (record { start = suc n; author = 0 }) ∷ []) none in
    let found : is_active_of (active (spent n ++ begin ∷ [])) (suc n) 0 ≡ true = rw (alone, itself (suc n)) refl in
    let ended = end_keeps groups (oracle.begun (oracle_at (suc n))) 1 [] [] [] (spent n ++ begin ∷ []) 0 begun (suc n) found in
    subst (λ (h : List Entry). IsKept groups (oracle_at (suc (suc n))) 1 [] [] [] h (tally groups [])) (append_assoc (spent n) (begin ∷ []) (end ∷ []))
    (subst (λ (o : oracle.OracleState ConflictKey). IsKept groups o 1 [] [] [] ((spent n ++ begin ∷ []) ++ end ∷ []) (tally groups [])) (drawn_and_ended n) ended)

-- the same of a state that begins with this timestamp
pub starting_keeps : (groups next : ℕ) (o : oracle.OracleState ConflictKey) (d : List PredDef) (ps : List Place) (w : List Tablet) (cs : List ℕ) → 1 ≤ groups → 1 ≤ next → next ≤ 2 ^ 62 → o ≡ oracle_at next → d ≡ [] → ps ≡ [] → w ≡ [] → cs ≡ tally groups [] → IsKept groups o 1 d ps w (spent (next - 1)) cs
starting_keeps groups next o d ps w cs some first last oracle_is schema_is tablets_are owners_are counts_are =
    let back : suc (next - 1) ≡ next = omega (arith, first) in
    let below : next - 1 < 2 ^ 62 = omega (arith, first, last) in
    rw (oracle_is, schema_is, tablets_are, owners_are, counts_are) (subst (λ (m : ℕ). IsKept groups (oracle_at m) 1 [] [] [] (spent (next - 1)) (tally groups [])) back (spent_keeps groups some (next - 1) below))
