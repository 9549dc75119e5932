-- Where numbers never rise along needs, a circular variable is used in a block of its definer's number.
use denote.Ref.{Bor}
use Rattle.std.proofs.Common.{◌≡◌, ℕ, zero, suc, ◌+◌, ◌<◌, ◌≤◌, length, take, get_or, map, Bool, true, false, cond, List, [], ◌∷◌, ◌++◌, refl, sym, ap, ◌∙◌, subst, eq-eqb, arith}
use Rattle.std.specs.Prelude.{Option, Some, None, ◌||◌, ◌==◌, nat_le, filter, slice_get}
use Rattle.std.specs.List.{list_any}
use Rattle.std.proofs.lemmas.Grind.{common_steps}
use Rattle.std.proofs.lemmas.List.Elements.{filter-append}
use Rattle.std.proofs.lemmas.List.Folds.{list_any-append}
use Rattle.std.proofs.lemmas.Bool.Decides.{nat_tests}
use Rattle.dg_values.specs.Order.{text_cmp, same_text}
use Rattle.dg_sets.proofs.MadeOrders.{text_order}
use Rattle.dg_sets.proofs.Sets.{is_one}
use Rattle.dg_check.specs.declared.blocks.BlockNames.{BlockNames}
use Rattle.dg_check.specs.Names.{is_name_in}
use Rattle.dg_check.specs.Cycles.{is_place_in, uses_at, uses_name_at, is_reached, with_used, within, definers, depended_on, is_circular}
use Rattle.dg_check.specs.RunOrder.{deps_at, dependencies}
use Rattle.dg_check.specs.Numbers.{number_at, are_below, are_falling, has_number, used_within, suspects_from, is_suspect, AreSuspects}
use Rattle.dg_check.proofs.OrderLaws.{left_part, right_of}
use Rattle.dg_check.proofs.CycleLaws.{all_has, any_has, use_needed, name_needed}
use Rattle.dg_check.proofs.ReachLaws.{or_left, or_right, any_here, used_is}

-- ---- numbers that fall

at_most : (a b : ℕ) → nat_le a b ≡ true → a ≤ b
at_most a b e = grind (arith, nat_tests)

-- a need has no greater number, of the blocks from a place on
falling_at : (numbers : List (Option ℕ)) (k : ℕ) (ds : List (List ℕ)) (i need : ℕ) → are_falling numbers k ds ≡ true → is_place_in (deps_at ds i) need ≡ true → number_at numbers need ≤ number_at numbers (k + i)
falling_at numbers k [] i need e f = absurd (cc)
falling_at numbers k (needs ∷ ds) zero need e f =
    let same : k ≡ k + 0 = omega arith in
    let own = all_has (λ place. nat_le (number_at numbers place) (number_at numbers k)) needs need (left_part (are_below numbers (number_at numbers k) needs) (are_falling numbers (k + 1) ds) e) f in
    subst (λ (p : ℕ). number_at numbers need ≤ number_at numbers p) same (at_most (number_at numbers need) (number_at numbers k) own)
falling_at numbers k (needs ∷ ds) (suc i) need e f =
    let same : k + 1 + i ≡ k + suc i = omega arith in
    subst (λ (p : ℕ). number_at numbers need ≤ number_at numbers p) same (falling_at numbers (k + 1) ds i need (right_of (are_below numbers (number_at numbers k) needs) (are_falling numbers (k + 1) ds) e) f)

-- ---- names that are kept

filter_keeps : (p : List ℕ → Bool) (names : List (List ℕ)) (x : List ℕ) → is_name_in names x ≡ true → p x ≡ true → is_name_in (filter p names) x ≡ true
filter_keeps p [] x e f = absurd (cc)
filter_keeps p (y ∷ names) x e f = by (same_text x y) refl e (p y) refl (λ g. filter_keeps p names x g f)
  where
    by : (v : Bool) → same_text x y ≡ v → (v || is_name_in names x) ≡ true → (w : Bool) → p y ≡ w → (is_name_in names x ≡ true → is_name_in (filter p names) x ≡ true) → is_name_in (cond w (y ∷ filter p names) (filter p names)) x ≡ true
    by true g h true k rest = or_left (same_text x y) (is_name_in (filter p names) x) g
    by true g h false k rest = absurd (let l : p y ≡ true = ap p (sym (is_one text_cmp text_order x y g)) ∙ f in cc)
    by false g h true k rest = or_right (same_text x y) (is_name_in (filter p names) x) (rest h)
    by false g h false k rest = rest h

grouped : (xs ys zs : List (List ℕ)) → (xs ++ ys) ++ zs ≡ xs ++ (ys ++ zs)
grouped [] ys zs = refl
grouped (x ∷ xs) ys zs = ap (λ l. x ∷ l) (grouped xs ys zs)

name_more : (names : List (Bor (List ℕ))) (i : ℕ) (name : Bor (List ℕ)) → i < length names → map (λ n. n.now) (take (i + 1) names) ≡ map (λ n. n.now) (take i names) ++ (get_or names i name).now ∷ []
name_more names i name lt = grind (arith, common_steps)

-- one name more, which is kept or isn't
pub within_more : (p : List ℕ → Bool) (names : List (Bor (List ℕ))) (i : ℕ) (name : Bor (List ℕ)) (old before after : List (List ℕ)) → i < length names → before ≡ old ++ filter p (map (λ n. n.now) (take i names)) → after ≡ before ++ filter p ((get_or names i name).now ∷ [])
    → after ≡ old ++ filter p (map (λ n. n.now) (take (i + 1) names))
within_more p names i name old before after lt e f =
    f ∙ (ap (λ l. l ++ filter p ((get_or names i name).now ∷ [])) e
    ∙ (grouped old (filter p (map (λ n. n.now) (take i names))) (filter p ((get_or names i name).now ∷ []))
    ∙ ap (λ l. old ++ l) (sym (filter-append p (map (λ n. n.now) (take i names)) ((get_or names i name).now ∷ [])) ∙ ap (filter p) (sym (name_more names i name lt)))))

-- a name that a block uses of one of its number is a suspect, of the blocks from a place on
suspect_in : (numbers : List (Option ℕ)) (under : List ℕ → List ℕ) (k : ℕ) (bs : List BlockNames) (i : ℕ) (user : BlockNames) (x : List ℕ) → slice_get bs i ≡ Some user → is_name_in user.used x ≡ true → has_number numbers (number_at numbers (k + i)) (under x) ≡ true
    → is_name_in (suspects_from numbers under k bs) x ≡ true
suspect_in numbers under k [] i user x e f g = absurd (cc)
suspect_in numbers under k (own ∷ bs) zero user x e f g =
    let same : user ≡ own = cc in
    let here : k + 0 ≡ k = omega arith in
    let used : is_name_in own.used x ≡ true = subst (λ (b : BlockNames). is_name_in b.used x ≡ true) same f in
    let alike : has_number numbers (number_at numbers k) (under x) ≡ true = subst (λ (p : ℕ). has_number numbers (number_at numbers p) (under x) ≡ true) here g in
    list_any-append (same_text x) (used_within numbers under (number_at numbers k) own.used) (suspects_from numbers under (k + 1) bs)
    ∙ or_left (is_name_in (used_within numbers under (number_at numbers k) own.used) x) (is_name_in (suspects_from numbers under (k + 1) bs) x) (filter_keeps (λ name. has_number numbers (number_at numbers k) (under name)) own.used x used alike)
suspect_in numbers under k (own ∷ bs) (suc i) user x e f g =
    let there : k + suc i ≡ k + 1 + i = omega arith in
    list_any-append (same_text x) (used_within numbers under (number_at numbers k) own.used) (suspects_from numbers under (k + 1) bs)
    ∙ or_right (is_name_in (used_within numbers under (number_at numbers k) own.used) x) (is_name_in (suspects_from numbers under (k + 1) bs) x)
    (suspect_in numbers under (k + 1) bs i user x e f (subst (λ (p : ℕ). has_number numbers (number_at numbers p) (under x) ≡ true) there g))

-- ---- a circular variable

module _ (numbers : List (Option ℕ)) (blocks : List BlockNames) (fall : are_falling numbers 0 (dependencies blocks) ≡ true) (x : List ℕ) where
  falls : (at need : ℕ) → is_place_in (deps_at (dependencies blocks) at) need ≡ true → number_at numbers need ≤ number_at numbers at
  falls at need e = let first : 0 + at ≡ at = omega arith in subst (λ (p : ℕ). number_at numbers need ≤ number_at numbers p) first (falling_at numbers 0 (dependencies blocks) at need fall e)

  -- a block of no greater number than one that defines the variable
  abbrev IsUnder : ℕ → Type 0
  IsUnder b = (d : ℕ) × (is_place_in (definers blocks x) d ≡ true) × (number_at numbers b ≤ number_at numbers d)

  abbrev AreUnder : List ℕ → Type 0
  AreUnder places = (b : ℕ) → is_place_in places b ≡ true → IsUnder b

  lower : (b u : ℕ) → number_at numbers b ≤ number_at numbers u → IsUnder u → IsUnder b
  lower b u e (d, f, g) = (d, f, omega (arith, g, e))

  used_under : (some : List ℕ) → AreUnder some → AreUnder (with_used blocks some)
  used_under some are b e = from (used_is blocks some b e)
    where
      by_use : (block : BlockNames) → slice_get blocks b ≡ Some block → (u : ℕ) × (is_place_in some u ≡ true) × (uses_at blocks u block ≡ true) → IsUnder b
      by_use block found (u, f, g) = lower b u (falls u b (use_needed blocks u b block found g).0) (are u f)

      by : (block : BlockNames) → slice_get blocks b ≡ Some block → (v : Bool) → is_place_in some b ≡ v → (v || list_any (λ user. uses_at blocks user block) some) ≡ true → IsUnder b
      by block found true f g = are b f
      by block found false f g = by_use block found (any_has (λ user. uses_at blocks user block) some g)

      from : (block : BlockNames) × (slice_get blocks b ≡ Some block) × (is_reached blocks some b block ≡ true) → IsUnder b
      from (block, f, g) = by block f (is_place_in some b) refl g

  within_under : (turns : List BlockNames) (some : List ℕ) → AreUnder some → AreUnder (within turns blocks some)
  within_under [] some are = are
  within_under (turn ∷ turns) some are = within_under turns (with_used blocks some) (used_under some are)

  -- the numbers of its definer and of a block that uses it are the same
  suspect_at : (u d : ℕ) → uses_name_at blocks x u ≡ true → is_place_in (definers blocks x) d ≡ true → number_at numbers u ≤ number_at numbers d → is_name_in (suspects_from numbers (definers blocks) 0 blocks) x ≡ true
  suspect_at u d e f g = by (slice_get blocks u) refl e
    where
      high : number_at numbers d ≤ number_at numbers u
      high = falls u d (name_needed blocks x u d e f).0

      same : number_at numbers d ≡ number_at numbers u
      same = omega (arith, g, high)

      alike : has_number numbers (number_at numbers u) (definers blocks x) ≡ true
      alike = any_here (λ place. number_at numbers place == number_at numbers u) (definers blocks x) d f (eq-eqb (number_at numbers d) (number_at numbers u) same)

      first : u ≡ 0 + u
      first = omega arith

      by : (o : Option BlockNames) → slice_get blocks u ≡ o → elim o [ None ↦ false | Some user ↦ is_name_in user.used x ] ≡ true → is_name_in (suspects_from numbers (definers blocks) 0 blocks) x ≡ true
      by None h k = absurd (cc)
      by (Some user) h k = suspect_in numbers (definers blocks) 0 blocks u user x h k (subst (λ (p : ℕ). has_number numbers (number_at numbers p) (definers blocks x) ≡ true) first alike)

  circular_suspect : is_circular blocks x ≡ true → is_name_in (suspects_from numbers (definers blocks) 0 blocks) x ≡ true
  circular_suspect e = from (any_has (uses_name_at blocks x) (depended_on blocks x) e)
    where
      under : AreUnder (depended_on blocks x)
      under = within_under blocks (definers blocks x) (λ b f. (b, f, omega arith))

      at : (u : ℕ) → uses_name_at blocks x u ≡ true → IsUnder u → is_name_in (suspects_from numbers (definers blocks) 0 blocks) x ≡ true
      at u g (d, h, k) = suspect_at u d g h k

      from : (u : ℕ) × (is_place_in (depended_on blocks x) u ≡ true) × (uses_name_at blocks x u ≡ true) → is_name_in (suspects_from numbers (definers blocks) 0 blocks) x ≡ true
      from (u, f, g) = at u g (under u f)

-- where the numbers fall, these are suspects
pub all_suspects : (blocks : List BlockNames) (deps : List (List ℕ)) (numbers : List (Option ℕ)) (names : List (List ℕ)) (falling : Bool) → deps ≡ dependencies blocks → falling ≡ are_falling numbers 0 deps → falling ≡ true → names ≡ suspects_from numbers (definers blocks) 0 blocks → AreSuspects blocks (Some names)
all_suspects blocks deps numbers names falling e f g h x circular =
    ap (λ l. is_name_in l x) h ∙ circular_suspect numbers blocks (ap (are_falling numbers 0) (sym e) ∙ (sym f ∙ g)) x circular

-- a name that is no suspect isn't circular
pub not_suspect : (blocks : List BlockNames) (suspects : Option (List (List ℕ))) (x : List ℕ) (b : Bool) → AreSuspects blocks suspects → b ≡ is_suspect suspects x → b ≡ false → false ≡ is_circular blocks x
not_suspect blocks suspects x b all e f = by (is_circular blocks x) refl
  where
    by : (v : Bool) → is_circular blocks x ≡ v → false ≡ v
    by true g = sym f ∙ (e ∙ all x g)
    by false g = refl
