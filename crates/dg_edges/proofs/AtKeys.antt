-- One step at the place of a key in a list that has an item for each key.
use Rattle.std.proofs.Common.{◌≡◌, ℕ, zero, suc, ◌<◌, false, List, [], ◌∷◌, length, get_or, map, refl, ap, subst, sym, arith}
use Rattle.std.specs.List.{AllByRecursion}
use Rattle.std.proofs.Math.ListN.{set}
use Rattle.std.proofs.lemmas.Bool.{or_parts}
use Rattle.std.specs.declared.cmp.Ordering.TheVariants.{Less}
use Rattle.std.specs.Ordering.{is_eq}
use Rattle.dg_values.specs.Ascending.{Ascends, has}
use Rattle.dg_sets.proofs.Sets.{not_above}
use Rattle.dg_keys.specs.declared.key.Key.{Key}
use Rattle.dg_keys.specs.Keys.{key_cmp}
use Rattle.dg_keys.specs.KeyOrder.{key_order}

pub all_at : {X : Type 0} (P : X → Type 0) (xs : List X) (place : ℕ) (d : X) → place < length xs → AllByRecursion P xs → P (get_or xs place d)
all_at P [] place d lt a = absurd (omega arith)
all_at P (x ∷ xs) zero d lt a = a.0
all_at P (x ∷ xs) (suc place) d lt a = all_at P xs place d (omega arith) a.1

pub mapped_at : {A : Type 0} (f : Key → A) (ks : List Key) (place : ℕ) (k : Key) (l : A) → place < length ks → get_or ks place k ≡ k → get_or (map f ks) place l ≡ f k
mapped_at f [] place k l lt is = absurd (omega arith)
mapped_at f (m ∷ ks) zero k l lt is = ap f is
mapped_at f (m ∷ ks) (suc place) k l lt is = mapped_at f ks place k l (omega arith) is

-- the step leaves what stands at other keys than this one
abbrev pub LeavesOthers : {A : Type 0} → (Key → A → A) → Key → Type 0
LeavesOthers {A} step key = (k : Key) (a : A) → is_eq (key_cmp k key) ≡ false → step k a ≡ a

pub others_stay : {A : Type 0} (step : Key → A → A) (key : Key) → LeavesOthers step key → (f : Key → A) (ks : List Key) → has key_cmp ks key ≡ false → map f ks ≡ map (λ k. step k (f k)) ks
others_stay step key other f [] h = refl
others_stay step key other f (k ∷ ks) h =
    let both = or_parts (is_eq (key_cmp k key)) (has key_cmp ks key) h in
    λ i. sym (other k (f k) both.0) i ∷ others_stay step key other f ks both.1 i

-- the item at the key's place
pub set_at : {A : Type 0} (step : Key → A → A) (key : Key) → LeavesOthers step key → (f : Key → A) (ks : List Key) (place : ℕ) → Ascends key_cmp ks → place < length ks → get_or ks place key ≡ key → set (map f ks) place (step key (f key)) ≡ map (λ k. step k (f k)) ks
set_at step key other f [] place a lt is = absurd (omega arith)
set_at step key other f (k ∷ ks) zero a lt is =
    let out : has key_cmp ks key ≡ false = subst (λ (l : Key). has key_cmp ks l ≡ false) is (not_above key_cmp key_order k ks a.0) in
    λ i. step (sym is i) (f (sym is i)) ∷ others_stay step key other f ks out i
set_at step key other f (k ∷ ks) (suc place) a lt is =
    let low = subst (λ (l : Key). key_cmp k l ≡ Less) is (all_at (λ l. key_cmp k l ≡ Less) ks place key (omega arith) a.0) in
    λ i. sym (other k (f k) (ap is_eq low)) i ∷ set_at step key other f ks place a.1 (omega arith) is i
