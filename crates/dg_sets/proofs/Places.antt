-- A place that parts a list that ascends into what is below an item and what isn't.
use Rattle.std.proofs.Common.{◌≡◌, ℕ, zero, suc, ◌<◌, ◌≤◌, Bool, true, false, cond, List, [], ◌∷◌, length, get_or, refl, ap, subst, sym, arith}
use Rattle.std.specs.Prelude.{◌||◌, not}
use Rattle.std.specs.List.{AllByRecursion, AllWithin}
use Rattle.std.specs.List.Sorted.{IsPartitionedBy}
use Rattle.std.specs.declared.cmp.Ordering.{Ordering}
use Rattle.std.specs.declared.cmp.Ordering.TheVariants.{Less, Equal, Greater}
use Rattle.std.specs.Ordering.{is_eq, is_lt}
use Rattle.dg_values.specs.Ascending.{Ascends, has, without_one}
use Rattle.dg_values.specs.Order.{IsOrder}
use Rattle.dg_sets.specs.Placing.{StandsAt, BelongsAt}
use Rattle.dg_sets.proofs.Sets.{back, forth, itself, not_above}

-- one of all
all_at : {X : Type 0} (P : X → Type 0) (xs : List X) (j : ℕ) (d : X) → j < length xs → AllByRecursion P xs → P (get_or xs j d)
all_at P [] j d lt a = absurd (omega arith)
all_at P (x ∷ xs) zero d lt a = a.0
all_at P (x ∷ xs) (suc j) d lt a = all_at P xs j d (omega arith) a.1

module _ {X : Type 0} (cmp : X → X → Ordering) (o : IsOrder cmp) (x : X) where
  abbrev pub less : X → Bool
  less y = is_lt (cmp y x)

  lt_less : (y : X) → less y ≡ true → cmp y x ≡ Less
  lt_less y e = by (cmp y x) refl e
    where
      by : (v : Ordering) → cmp y x ≡ v → is_lt v ≡ true → v ≡ Less
      by Less p e = refl
      by Equal p e = absurd (cc)
      by Greater p e = absurd (cc)

  -- those below the item come first
  pub parted : (ys : List X) → Ascends cmp ys → IsPartitionedBy less ys
  parted [] a i j d le lt e = absurd (omega arith)
  parted (y ∷ ys) a zero zero d le lt e = e
  parted (y ∷ ys) a zero (suc j) d le lt e =
      ap is_lt (o.trans y (get_or ys j d) x (all_at (λ z. cmp y z ≡ Less) ys j d (omega arith) a.0) (lt_less (get_or ys j d) e))
  parted (y ∷ ys) a (suc i) zero d le lt e = absurd (omega arith)
  parted (y ∷ ys) a (suc i) (suc j) d le lt e = parted ys a.1 i j d (omega arith) (omega arith) e

  -- none of those above it is the item
  pub none_taken : (ys : List X) → has cmp ys x ≡ false → without_one cmp ys x ≡ ys
  none_taken [] e = refl
  none_taken (y ∷ ys) e = by (is_eq (cmp y x)) refl e (λ h. none_taken ys h)
    where
      by : (v : Bool) → is_eq (cmp y x) ≡ v → (v || has cmp ys x) ≡ false → (has cmp ys x ≡ false → without_one cmp ys x ≡ ys) → cond (not v) (y ∷ without_one cmp ys x) (without_one cmp ys x) ≡ y ∷ ys
      by true p e rest = absurd (cc)
      by false p e rest = λ j. y ∷ rest e j

  above_all : (y : X) (ys : List X) → cmp x y ≡ Less → AllByRecursion (λ z. cmp y z ≡ Less) ys → AllByRecursion (λ z. cmp x z ≡ Less) ys
  above_all y [] p a = tt
  above_all y (z ∷ zs) p a = (o.trans x y z p a.0, above_all y zs p a.1)

  -- what begins where it stands
  stands_here : (y : X) (ys : List X) → Ascends cmp (y ∷ ys) → cmp y x ≡ Equal → StandsAt cmp (y ∷ ys) x 0
  stands_here y ys a e =
      let same : y ≡ x = o.same y x e in
      subst (λ (z : X). StandsAt cmp (z ∷ ys) x 0) (sym same) (here (subst (λ (z : X). AllByRecursion (λ w. cmp z w ≡ Less) ys) same a.0))
    where
      here : AllByRecursion (λ w. cmp x w ≡ Less) ys → StandsAt cmp (x ∷ ys) x 0
      here up =
          let t : cmp x x ≡ Equal = itself cmp o x in
          record { within = omega arith; item_is = refl; there = rw t refl; put = rw t refl; taken = rw t (none_taken ys (not_above cmp o x ys up)) }

  belongs_here : (y : X) (ys : List X) → Ascends cmp (y ∷ ys) → cmp y x ≡ Greater → BelongsAt cmp (y ∷ ys) x 0
  belongs_here y ys a e =
      let l : cmp x y ≡ Less = forth cmp o y x e in
      let no : has cmp ys x ≡ false = not_above cmp o x ys (above_all y ys l a.0) in
      record { within = omega arith; missing = rw e no; put = rw l refl; taken = rw e (λ j. y ∷ none_taken ys no j) }

  -- a place behind items that are below
  stands_behind : (y : X) (ys : List X) (i : ℕ) → cmp y x ≡ Less → StandsAt cmp ys x i → StandsAt cmp (y ∷ ys) x (suc i)
  stands_behind y ys i l s =
      let g : cmp x y ≡ Greater = back cmp o y x l in
      record { within = omega (arith, s.within); item_is = s.item_is; there = rw l s.there; put = rw g (λ j. y ∷ s.put j); taken = rw l (λ j. y ∷ s.taken j) }

  belongs_behind : (y : X) (ys : List X) (i : ℕ) → cmp y x ≡ Less → BelongsAt cmp ys x i → BelongsAt cmp (y ∷ ys) x (suc i)
  belongs_behind y ys i l s =
      let g : cmp x y ≡ Greater = back cmp o y x l in
      record { within = omega (arith, s.within); missing = rw l s.missing; put = rw g (λ j. y ∷ s.put j); taken = rw l (λ j. y ∷ s.taken j) }

  pub stands : (ys : List X) (i : ℕ) (d : X) → Ascends cmp ys → i < length ys → AllWithin (λ y. less y ≡ true) ys 0 i → is_eq (cmp (get_or ys i d) x) ≡ true → StandsAt cmp ys x i
  stands [] i d a lt f e = absurd (omega arith)
  stands (y ∷ ys) zero d a lt f e = stands_here y ys a (equal (cmp y x) e)
    where
      equal : (v : Ordering) → is_eq v ≡ true → v ≡ Equal
      equal Less e = absurd (cc)
      equal Equal e = refl
      equal Greater e = absurd (cc)
  stands (y ∷ ys) (suc i) d a lt f e =
      stands_behind y ys i (lt_less y (f zero y (omega arith) (omega arith))) (stands ys i d a.1 (omega arith) (λ k b p q. f (suc k) b (omega arith) (omega arith)) e)

  pub belongs : (ys : List X) (i : ℕ) → Ascends cmp ys → i ≤ length ys → AllWithin (λ y. less y ≡ true) ys 0 i → AllWithin (λ y. less y ≡ false) ys i (length ys) → ((d : X) → i < length ys → is_eq (cmp (get_or ys i d) x) ≡ false) → BelongsAt cmp ys x i
  belongs [] zero a le f b n = record { within = omega arith; missing = refl; put = refl; taken = refl }
  belongs [] (suc i) a le f b n = absurd (omega arith)
  belongs (y ∷ ys) zero a le f b n =
      belongs_here y ys a (greater (cmp y x) (b zero y (omega arith) (omega arith)) (n y (omega arith)))
    where
      greater : (v : Ordering) → is_lt v ≡ false → is_eq v ≡ false → v ≡ Greater
      greater Less e h = absurd (cc)
      greater Equal e h = absurd (cc)
      greater Greater e h = refl
  belongs (y ∷ ys) (suc i) a le f b n =
      belongs_behind y ys i (lt_less y (f zero y (omega arith) (omega arith))) (belongs ys i a.1 (omega arith) (λ k d p q. f (suc k) d (omega arith) (omega arith)) (λ k d p q. b (suc k) d (omega arith) (omega arith)) (λ d p. n d (omega arith)))
