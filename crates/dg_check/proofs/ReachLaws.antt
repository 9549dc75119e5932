-- The blocks on which a variable's block depends are all that dependency leads to; so where no variable is circular, all
-- blocks can run.
use Rattle.std.proofs.Common.{◌≡◌, ℕ, zero, suc, ◌+◌, ◌<◌, ◌≤◌, length, Bool, true, false, cond, List, [], ◌∷◌, refl, sym, ap, ◌∙◌, subst, eq-eqb, arith}
use Rattle.std.specs.Prelude.{Option, Some, None, ◌&&◌, ◌||◌, ◌==◌, slice_get, map, flat_map, find}
use Rattle.std.specs.List.{list_all, list_any}
use Rattle.std.proofs.lemmas.List.Folds.{list_any-append}
use Rattle.std.proofs.lemmas.Map.Views.{exact_unsigned_eq}
use Rattle.std.proofs.lemmas.Option.{slice_get_within}
use Rattle.dg_values.specs.Ascending.{ascending, has}
use Rattle.dg_values.specs.Order.{text_cmp, same_text}
use Rattle.dg_sets.proofs.MadeOrders.{text_order}
use Rattle.dg_sets.proofs.Sets.{is_itself, eq_turn, has_more, any_at}
use Rattle.dg_check.specs.declared.blocks.BlockNames.{BlockNames}
use Rattle.dg_check.specs.Names.{is_name_in}
use Rattle.dg_check.specs.Cycles.{is_place_in, uses_of, uses_at, uses_name_at, is_reached, reached_from, with_used, within, definers_from, definers, depended_on, is_circular, least_circular}
use Rattle.dg_check.specs.RunOrder.{dependencies, first_ready, run_order}
use Rattle.dg_check.specs.Search.{Among}
use Rattle.dg_check.proofs.OrderLaws.{both_of, one_left, left_of, left_most, none_ready, unready}
use Rattle.dg_check.proofs.CycleLaws.{all_has, any_has, reached_is}

pub or_left : (a b : Bool) → a ≡ true → (a || b) ≡ true
or_left true b e = refl
or_left false b e = absurd (cc)

pub or_right : (a b : Bool) → b ≡ true → (a || b) ≡ true
or_right true b e = refl
or_right false b e = e

-- ---- sets of places

pub any_here : (p : ℕ → Bool) (xs : List ℕ) (u : ℕ) → is_place_in xs u ≡ true → p u ≡ true → list_any p xs ≡ true
any_here p [] u e f = absurd (cc)
any_here p (x ∷ xs) u e f = by (x == u) refl e (λ g. any_here p xs u g f)
  where
    by : (v : Bool) → (x == u) ≡ v → (v || is_place_in xs u) ≡ true → (is_place_in xs u ≡ true → list_any p xs ≡ true) → (p x || list_any p xs) ≡ true
    by true g h rest = or_left (p x) (list_any p xs) (ap p (exact_unsigned_eq x u g) ∙ f)
    by false g h rest = or_right (p x) (list_any p xs) (rest h)

pub any_among : (p : ℕ → Bool) (xs ys : List ℕ) → Among xs ys → list_any p xs ≡ true → list_any p ys ≡ true
any_among p xs ys w e = from (any_has p xs e)
  where
    from : (u : ℕ) × (is_place_in xs u ≡ true) × (p u ≡ true) → list_any p ys ≡ true
    from (u, f, g) = any_here p ys u (w u f) g

some_fails : (p : ℕ → Bool) (xs : List ℕ) → list_all p xs ≡ false → (u : ℕ) × (is_place_in xs u ≡ true) × (p u ≡ false)
some_fails p [] e = absurd (cc)
some_fails p (x ∷ xs) e = by (p x) refl (apart (p x) (list_all p xs) e) (some_fails p xs)
  where
    later : (u : ℕ) × (is_place_in xs u ≡ true) × (p u ≡ false) → (u : ℕ) × (is_place_in (x ∷ xs) u ≡ true) × (p u ≡ false)
    later (u, f, g) = (u, or_right (x == u) (is_place_in xs u) f, g)

    apart : (a b : Bool) → (a && b) ≡ false → cond a b false ≡ false
    apart true b f = f
    apart false b f = refl

    by : (v : Bool) → p x ≡ v → cond v (list_all p xs) false ≡ false → (list_all p xs ≡ false → (u : ℕ) × (is_place_in xs u ≡ true) × (p u ≡ false)) → (u : ℕ) × (is_place_in (x ∷ xs) u ≡ true) × (p u ≡ false)
    by true f g rest = later (rest g)
    by false f g rest = (x, or_left (x == x) (is_place_in xs x) (eq-eqb x x refl), f)

all_from : (p : ℕ → Bool) (xs : List ℕ) → ((d : ℕ) → is_place_in xs d ≡ true → p d ≡ true) → list_all p xs ≡ true
all_from p [] h = refl
all_from p (x ∷ xs) h = both_of (p x) (list_all p xs) (h x (or_left (x == x) (is_place_in xs x) (eq-eqb x x refl))) (all_from p xs (λ d e. h d (or_right (x == d) (is_place_in xs d) e)))

single_among : (xs : List ℕ) (d : ℕ) → is_place_in xs d ≡ true → Among (d ∷ []) xs
single_among xs d e at f = by (d == at) refl f
  where
    by : (v : Bool) → (d == at) ≡ v → (v || false) ≡ true → is_place_in xs at ≡ true
    by true g h = subst (λ (p : ℕ). is_place_in xs p ≡ true) (exact_unsigned_eq d at g) e
    by false g h = absurd (cc)

one_fewer : (a b : Bool) → (a ≡ true → b ≡ true) → one_left b ≤ one_left a
one_fewer true true f = omega arith
one_fewer true false f = let g = f refl in absurd (cc)
one_fewer false true f = omega arith
one_fewer false false f = omega arith

one_less : (a b : Bool) → a ≡ false → b ≡ true → one_left b + 1 ≤ one_left a
one_less true b e f = absurd (cc)
one_less false true e f = omega arith
one_less false false e f = absurd (cc)

left_among : (xs ys : List ℕ) → Among xs ys → (k : ℕ) (ds : List (List ℕ)) → left_of ys k ds ≤ left_of xs k ds
left_among xs ys w k [] = omega arith
left_among xs ys w k (d ∷ ds) = let a = one_fewer (is_place_in xs k) (is_place_in ys k) (w k) in let b = left_among xs ys w (k + 1) ds in omega arith

-- a place more, one less is left
left_more : (xs ys : List ℕ) → Among xs ys → (i k : ℕ) (ds : List (List ℕ)) → i < length ds → is_place_in xs (k + i) ≡ false → is_place_in ys (k + i) ≡ true → left_of ys k ds + 1 ≤ left_of xs k ds
left_more xs ys w i k [] lt e f = absurd (omega arith)
left_more xs ys w zero k (d ∷ ds) lt e f =
    let same : k + 0 ≡ k = omega arith in
    let own = one_less (is_place_in xs k) (is_place_in ys k) (subst (λ (p : ℕ). is_place_in xs p ≡ false) same e) (subst (λ (p : ℕ). is_place_in ys p ≡ true) same f) in
    let rest = left_among xs ys w (k + 1) ds in
    omega arith
left_more xs ys w (suc i) k (d ∷ ds) lt e f =
    let same : k + suc i ≡ k + 1 + i = omega arith in
    let within_ : i < length ds = omega arith in
    let own = one_fewer (is_place_in xs k) (is_place_in ys k) (w k) in
    let rest = left_more xs ys w i (k + 1) ds within_ (subst (λ (p : ℕ). is_place_in xs p ≡ false) same e) (subst (λ (p : ℕ). is_place_in ys p ≡ true) same f) in
    omega arith

same_length : {X Y : Type 0} (f : X → Y) (xs : List X) → length (map f xs) ≡ length xs
same_length f [] = refl
same_length f (x ∷ xs) = ap suc (same_length f xs)

there_is : (bs : List BlockNames) (i : ℕ) → i < length bs → (block : BlockNames) × (slice_get bs i ≡ Some block)
there_is [] i lt = absurd (omega arith)
there_is (b ∷ bs) zero lt = (b, refl)
there_is (b ∷ bs) (suc i) lt = there_is bs i (omega arith)

get_of : (f : BlockNames → List ℕ) (bs : List BlockNames) (u : ℕ) (user : BlockNames) → slice_get bs u ≡ Some user → slice_get (map f bs) u ≡ Some (f user)
get_of f [] u user e = absurd (cc)
get_of f (own ∷ more) zero user e = let same : own ≡ user = cc in ap (λ b. Some (f b)) same
get_of f (own ∷ more) (suc u) user e = get_of f more u user e

-- ---- names

name_has : (names : List (List ℕ)) (x : List ℕ) → is_name_in names x ≡ true → has text_cmp names x ≡ true
name_has [] x e = absurd (cc)
name_has (y ∷ names) x e = by (same_text x y) refl e (name_has names x)
  where
    by : (v : Bool) → same_text x y ≡ v → (v || is_name_in names x) ≡ true → (is_name_in names x ≡ true → has text_cmp names x ≡ true) → has text_cmp (y ∷ names) x ≡ true
    by true f g rest = or_left _ (has text_cmp names x) (eq_turn text_cmp text_order y x ∙ f)
    by false f g rest = or_right _ (has text_cmp names x) (rest g)

pub flat_in : (f : List ℕ → List ℕ) (used : List (List ℕ)) (d : ℕ) → is_place_in (flat_map f used) d ≡ true → (name : List ℕ) × (is_name_in used name ≡ true) × (is_place_in (f name) d ≡ true)
flat_in f [] d e = absurd (cc)
flat_in f (name ∷ used) d e = by (is_place_in (f name) d) refl (sym (list_any-append (λ place. place == d) (f name) (flat_map f used)) ∙ e) (flat_in f used d)
  where
    later : (other : List ℕ) × (is_name_in used other ≡ true) × (is_place_in (f other) d ≡ true) → (other : List ℕ) × (is_name_in (name ∷ used) other ≡ true) × (is_place_in (f other) d ≡ true)
    later (other, p, q) = (other, or_right (same_text other name) (is_name_in used other) p, q)

    by : (v : Bool) → is_place_in (f name) d ≡ v → (v || is_place_in (flat_map f used) d) ≡ true → (is_place_in (flat_map f used) d ≡ true → (other : List ℕ) × (is_name_in used other ≡ true) × (is_place_in (f other) d ≡ true)) → (other : List ℕ) × (is_name_in (name ∷ used) other ≡ true) × (is_place_in (f other) d ≡ true)
    by true g h rest = (name, or_left (same_text name name) (is_name_in used name) (is_itself text_cmp text_order name), g)
    by false g h rest = later (rest h)

flat_name : (bs : List BlockNames) (i : ℕ) (block : BlockNames) (x : List ℕ) → slice_get bs i ≡ Some block → is_name_in block.defined x ≡ true → is_name_in (flat_map (λ b. b.defined) bs) x ≡ true
flat_name [] i block x e f = absurd (cc)
flat_name (own ∷ bs) zero block x e f =
    let same : own ≡ block = cc in
    list_any-append (same_text x) own.defined (flat_map (λ b. b.defined) bs) ∙ or_left (is_name_in own.defined x) (is_name_in (flat_map (λ b. b.defined) bs) x) (ap (λ b. is_name_in b.defined x) same ∙ f)
flat_name (own ∷ bs) (suc i) block x e f =
    list_any-append (same_text x) own.defined (flat_map (λ b. b.defined) bs) ∙ or_right (is_name_in own.defined x) (is_name_in (flat_map (λ b. b.defined) bs) x) (flat_name bs i block x e f)

definers_is : (x : List ℕ) (k : ℕ) (bs : List BlockNames) (d : ℕ) → is_place_in (definers_from x k bs) d ≡ true → (i : ℕ) × (block : BlockNames) × (d ≡ k + i) × (slice_get bs i ≡ Some block) × (is_name_in block.defined x ≡ true)
definers_is x k [] d e = absurd (cc)
definers_is x k (own ∷ more) d e = by (is_name_in own.defined x) refl e (definers_is x (k + 1) more d)
  where
    later : (i : ℕ) × (block : BlockNames) × (d ≡ k + 1 + i) × (slice_get more i ≡ Some block) × (is_name_in block.defined x ≡ true) → (i : ℕ) × (block : BlockNames) × (d ≡ k + i) × (slice_get (own ∷ more) i ≡ Some block) × (is_name_in block.defined x ≡ true)
    later (i, block, f, g, h) = (suc i, block, omega (arith, f), g, h)

    at_once : is_name_in own.defined x ≡ true → (w : Bool) → (k == d) ≡ w → (w || is_place_in (definers_from x (k + 1) more) d) ≡ true
        → (is_place_in (definers_from x (k + 1) more) d ≡ true → (i : ℕ) × (block : BlockNames) × (d ≡ k + 1 + i) × (slice_get more i ≡ Some block) × (is_name_in block.defined x ≡ true)) → (i : ℕ) × (block : BlockNames) × (d ≡ k + i) × (slice_get (own ∷ more) i ≡ Some block) × (is_name_in block.defined x ≡ true)
    at_once f true g h rest = let same : k ≡ d = exact_unsigned_eq k d g in (0, own, omega (arith, same), refl, f)
    at_once f false g h rest = later (rest h)

    by : (v : Bool) → is_name_in own.defined x ≡ v → is_place_in (cond v (k ∷ definers_from x (k + 1) more) (definers_from x (k + 1) more)) d ≡ true
        → (is_place_in (definers_from x (k + 1) more) d ≡ true → (i : ℕ) × (block : BlockNames) × (d ≡ k + 1 + i) × (slice_get more i ≡ Some block) × (is_name_in block.defined x ≡ true)) → (i : ℕ) × (block : BlockNames) × (d ≡ k + i) × (slice_get (own ∷ more) i ≡ Some block) × (is_name_in block.defined x ≡ true)
    by true f g rest = at_once f (k == d) refl g rest
    by false f g rest = later (rest g)

reached_has : (blocks : List BlockNames) (some : List ℕ) (k : ℕ) (bs : List BlockNames) (i : ℕ) (block : BlockNames) → slice_get bs i ≡ Some block → is_reached blocks some (k + i) block ≡ true → is_place_in (reached_from blocks some k bs) (k + i) ≡ true
reached_has blocks some k [] i block e f = absurd (cc)
reached_has blocks some k (own ∷ more) zero block e f = by (is_reached blocks some k own) own_has
  where
    same : own ≡ block
    same = cc

    here : k ≡ k + 0
    here = omega arith

    own_has : is_reached blocks some k own ≡ true
    own_has = (λ j. is_reached blocks some (here j) (same j)) ∙ f

    by : (v : Bool) → v ≡ true → is_place_in (cond v (k ∷ reached_from blocks some (k + 1) more) (reached_from blocks some (k + 1) more)) (k + 0) ≡ true
    by true g = or_left (k == k + 0) (is_place_in (reached_from blocks some (k + 1) more) (k + 0)) (eq-eqb k (k + 0) here)
    by false g = absurd (cc)
reached_has blocks some k (own ∷ more) (suc i) block e f =
    let g : k + 1 + i ≡ k + suc i = omega arith in
    by (is_reached blocks some k own) (subst (λ (p : ℕ). is_place_in (reached_from blocks some (k + 1) more) p ≡ true) g (reached_has blocks some (k + 1) more i block e (subst (λ (p : ℕ). is_reached blocks some p block ≡ true) (sym g) f)))
  where
    by : (v : Bool) → is_place_in (reached_from blocks some (k + 1) more) (k + suc i) ≡ true → is_place_in (cond v (k ∷ reached_from blocks some (k + 1) more) (reached_from blocks some (k + 1) more)) (k + suc i) ≡ true
    by true g = or_right (k == k + suc i) (is_place_in (reached_from blocks some (k + 1) more) (k + suc i)) g
    by false g = g

find_none : (p : List ℕ → Bool) (names : List (List ℕ)) → find p names ≡ None → list_any p names ≡ false
find_none p [] e = refl
find_none p (x ∷ names) e = by (p x) e (find_none p names)
  where
    by : (v : Bool) → cond v (Some x) (find p names) ≡ None → (find p names ≡ None → list_any p names ≡ false) → (v || list_any p names) ≡ false
    by true f rest = absurd (cc)
    by false f rest = rest f

module _ (blocks : List BlockNames) where
  used_has : (some : List ℕ) (b : ℕ) (block : BlockNames) → slice_get blocks b ≡ Some block → is_reached blocks some b block ≡ true → is_place_in (with_used blocks some) b ≡ true
  used_has some b block e f =
      let first : 0 + b ≡ b = omega arith in
      subst (λ (p : ℕ). is_place_in (with_used blocks some) p ≡ true) first (reached_has blocks some 0 blocks b block e (subst (λ (p : ℕ). is_reached blocks some p block ≡ true) (sym first) f))

  pub used_is : (some : List ℕ) (b : ℕ) → is_place_in (with_used blocks some) b ≡ true → (block : BlockNames) × (slice_get blocks b ≡ Some block) × (is_reached blocks some b block ≡ true)
  used_is some b e = from (reached_is blocks some 0 blocks b e)
    where
      from : (i : ℕ) × (block : BlockNames) × (b ≡ 0 + i) × (slice_get blocks i ≡ Some block) × (is_reached blocks some b block ≡ true) → (block : BlockNames) × (slice_get blocks b ≡ Some block) × (is_reached blocks some b block ≡ true)
      from (i, block, f, g, h) = let same : i ≡ b = omega (arith, f) in (block, subst (λ (p : ℕ). slice_get blocks p ≡ Some block) same g, h)

  reached_among : (xs ys : List ℕ) (b : ℕ) (block : BlockNames) → Among xs ys → is_reached blocks xs b block ≡ true → is_reached blocks ys b block ≡ true
  reached_among xs ys b block w e = by (is_place_in xs b) refl e
    where
      by : (v : Bool) → is_place_in xs b ≡ v → (v || list_any (λ user. uses_at blocks user block) xs) ≡ true → is_reached blocks ys b block ≡ true
      by true f g = or_left (is_place_in ys b) (list_any (λ user. uses_at blocks user block) ys) (w b f)
      by false f g = or_right (is_place_in ys b) (list_any (λ user. uses_at blocks user block) ys) (any_among (λ user. uses_at blocks user block) xs ys w g)

  mono : (xs ys : List ℕ) → Among xs ys → Among (with_used blocks xs) (with_used blocks ys)
  mono xs ys w b e = from (used_is xs b e)
    where
      from : (block : BlockNames) × (slice_get blocks b ≡ Some block) × (is_reached blocks xs b block ≡ true) → is_place_in (with_used blocks ys) b ≡ true
      from (block, f, g) = used_has ys b block f (reached_among xs ys b block w g)

  within_mono : (turns : List BlockNames) (xs ys : List ℕ) → Among xs ys → Among (within turns blocks xs) (within turns blocks ys)
  within_mono [] xs ys w = w
  within_mono (turn ∷ turns) xs ys w = within_mono turns (with_used blocks xs) (with_used blocks ys) (mono xs ys w)

  abbrev IsBlock : ℕ → Type 0
  IsBlock b = (block : BlockNames) × (slice_get blocks b ≡ Some block)

  abbrev AreBlocks : List ℕ → Type 0
  AreBlocks some = (b : ℕ) → is_place_in some b ≡ true → IsBlock b

  abbrev IsClosed : List ℕ → Type 0
  IsClosed some = Among (with_used blocks some) some

  used_are : (some : List ℕ) → AreBlocks (with_used blocks some)
  used_are some b e = from (used_is some b e)
    where
      from : (block : BlockNames) × (slice_get blocks b ≡ Some block) × (is_reached blocks some b block ≡ true) → IsBlock b
      from (block, f, g) = (block, f)

  kept_one : (some : List ℕ) → AreBlocks some → Among some (with_used blocks some)
  kept_one some are b e = from (are b e)
    where
      from : IsBlock b → is_place_in (with_used blocks some) b ≡ true
      from (block, f) = used_has some b block f (or_left (is_place_in some b) (list_any (λ user. uses_at blocks user block) some) e)

  pub kept_within : (turns : List BlockNames) (some : List ℕ) → AreBlocks some → Among some (within turns blocks some)
  kept_within [] some are b e = e
  kept_within (turn ∷ turns) some are b e = kept_within turns (with_used blocks some) (used_are some) b (kept_one some are b e)

  closed_used : (some : List ℕ) → IsClosed some → IsClosed (with_used blocks some)
  closed_used some c = mono (with_used blocks some) some c

  closed_within : (turns : List BlockNames) (some : List ℕ) → IsClosed some → IsClosed (within turns blocks some)
  closed_within [] some c = c
  closed_within (turn ∷ turns) some c = closed_within turns (with_used blocks some) (closed_used some c)

  pub inside : (turns : List BlockNames) (some all : List ℕ) → IsClosed all → Among some all → Among (within turns blocks some) all
  inside [] some all c w = w
  inside (turn ∷ turns) some all c w = inside turns (with_used blocks some) all c (λ b e. c b (mono some all w b e))

  one_fewer_left : (some : List ℕ) (b : ℕ) → AreBlocks some → is_place_in (with_used blocks some) b ≡ true → is_place_in some b ≡ false → left_of (with_used blocks some) 0 (dependencies blocks) + 1 ≤ left_of some 0 (dependencies blocks)
  one_fewer_left some b are e f = from (used_are some b e)
    where
      first : b ≡ 0 + b
      first = omega arith

      from : IsBlock b → left_of (with_used blocks some) 0 (dependencies blocks) + 1 ≤ left_of some 0 (dependencies blocks)
      from (block, found) =
          let low : b < length (dependencies blocks) = subst (λ (n : ℕ). b < n) (sym (same_length (λ own. flat_map (definers blocks) own.used) blocks)) (slice_get_within blocks b block found) in
          left_more some (with_used blocks some) (kept_one some are) b 0 (dependencies blocks) low (subst (λ (p : ℕ). is_place_in some p ≡ false) first f) (subst (λ (p : ℕ). is_place_in (with_used blocks some) p ≡ true) first e)

  -- as many turns as blocks are left reach all that is used
  settled : (turns : List BlockNames) (some : List ℕ) → AreBlocks some → left_of some 0 (dependencies blocks) ≤ length turns → IsClosed (within turns blocks some)
  settled [] some are le = all
    where
      all : Among (with_used blocks some) some
      all b e = by (is_place_in some b) refl
        where
          by : (v : Bool) → is_place_in some b ≡ v → v ≡ true
          by true f = refl
          by false f = let g = one_fewer_left some b are e f in absurd (omega arith)
  settled (turn ∷ turns) some are le = by (λ h. settled turns (with_used blocks some) (used_are some) h) (list_all (is_place_in some) (with_used blocks some)) refl
    where
      from : (left_of (with_used blocks some) 0 (dependencies blocks) ≤ length turns → IsClosed (within turns blocks (with_used blocks some))) → (u : ℕ) × (is_place_in (with_used blocks some) u ≡ true) × (is_place_in some u ≡ false) → IsClosed (within turns blocks (with_used blocks some))
      from rest (u, f, g) = let h = one_fewer_left some u are f g in rest (omega arith)

      by : (left_of (with_used blocks some) 0 (dependencies blocks) ≤ length turns → IsClosed (within turns blocks (with_used blocks some))) → (v : Bool) → list_all (is_place_in some) (with_used blocks some) ≡ v → IsClosed (within turns blocks (with_used blocks some))
      by rest true f = closed_within turns (with_used blocks some) (closed_used some (λ b e. all_has (is_place_in some) (with_used blocks some) b f e))
      by rest false f = from rest (some_fails (is_place_in some) (with_used blocks some) f)

  all_closed : (some : List ℕ) → AreBlocks some → IsClosed (within blocks blocks some)
  all_closed some are = settled blocks some are (subst (λ (n : ℕ). left_of some 0 (dependencies blocks) ≤ n) (same_length (λ own. flat_map (definers blocks) own.used) blocks) (left_most some 0 (dependencies blocks)))

  define_are : (x : List ℕ) → (d : ℕ) → is_place_in (definers blocks x) d ≡ true → (block : BlockNames) × (slice_get blocks d ≡ Some block) × (is_name_in block.defined x ≡ true)
  define_are x d e = from (definers_is x 0 blocks d e)
    where
      from : (i : ℕ) × (block : BlockNames) × (d ≡ 0 + i) × (slice_get blocks i ≡ Some block) × (is_name_in block.defined x ≡ true) → (block : BlockNames) × (slice_get blocks d ≡ Some block) × (is_name_in block.defined x ≡ true)
      from (i, block, f, g, h) = let same : i ≡ d = omega (arith, f) in (block, subst (λ (p : ℕ). slice_get blocks p ≡ Some block) same g, h)

  pub definers_are : (x : List ℕ) → AreBlocks (definers blocks x)
  definers_are x d e = from (define_are x d e)
    where
      from : (block : BlockNames) × (slice_get blocks d ≡ Some block) × (is_name_in block.defined x ≡ true) → IsBlock d
      from (block, f, g) = (block, f)

  pub depended_closed : (x : List ℕ) → IsClosed (depended_on blocks x)
  depended_closed x = all_closed (definers blocks x) (definers_are x)

  -- a block of which one among these uses a variable is among them, where they are closed
  pub led : (all : List ℕ) (b d : ℕ) (block : BlockNames) (x : List ℕ) → IsClosed all → is_place_in all b ≡ true → slice_get blocks b ≡ Some block → is_name_in block.used x ≡ true → is_place_in (definers blocks x) d ≡ true → is_place_in all d ≡ true
  led all b d block x c in_ found used e = from (define_are x d e)
    where
      from : (own : BlockNames) × (slice_get blocks d ≡ Some own) × (is_name_in own.defined x ≡ true) → is_place_in all d ≡ true
      from (own, f, g) =
          let uses : uses_of block own ≡ true = any_at text_cmp text_order (is_name_in own.defined) block.used x g (name_has block.used x used) in
          let uses_there : uses_at blocks b own ≡ true = subst (λ (o : Option BlockNames). elim o [ None ↦ false | Some user ↦ uses_of user own ] ≡ true) (sym found) uses in
          c d (used_has all d own f (or_right (is_place_in all d) (list_any (λ user. uses_at blocks user own) all) (any_here (λ user. uses_at blocks user own) all b in_ uses_there)))

  -- ---- where no variable is circular

  abbrev reach : ℕ → List ℕ
  reach b = within blocks blocks (b ∷ [])

  reach_closed : (b : ℕ) → IsBlock b → IsClosed (reach b)
  reach_closed b is_ = all_closed (b ∷ []) (single_are b is_)
    where
      single_are : (b : ℕ) → IsBlock b → AreBlocks (b ∷ [])
      single_are b is_ at e = by (b == at) refl e
        where
          by : (v : Bool) → (b == at) ≡ v → (v || false) ≡ true → IsBlock at
          by true g h = subst IsBlock (exact_unsigned_eq b at g) is_
          by false g h = absurd (cc)

  reach_itself : (b : ℕ) → IsBlock b → is_place_in (reach b) b ≡ true
  reach_itself b (block, found) = kept_within blocks (b ∷ []) single_are b (or_left (b == b) false (eq-eqb b b refl))
    where
      single_are : AreBlocks (b ∷ [])
      single_are at e = by (b == at) refl e
        where
          by : (v : Bool) → (b == at) ≡ v → (v || false) ≡ true → IsBlock at
          by true g h = subst IsBlock (exact_unsigned_eq b at g) (block, found)
          by false g h = absurd (cc)

  module _ (none : least_circular blocks ≡ None) where
    not_circular : (x : List ℕ) (d : ℕ) → is_place_in (definers blocks x) d ≡ true → is_circular blocks x ≡ false
    not_circular x d e = from (define_are x d e)
      where
        from : (own : BlockNames) × (slice_get blocks d ≡ Some own) × (is_name_in own.defined x ≡ true) → is_circular blocks x ≡ false
        from (own, f, g) = by (is_circular blocks x) refl
          where
            there : has text_cmp (ascending text_cmp (flat_map (λ block. block.defined) blocks)) x ≡ true
            there = has_more text_cmp text_order [] (flat_map (λ block. block.defined) blocks) x ∙ name_has (flat_map (λ block. block.defined) blocks) x (flat_name blocks d own x f g)

            by : (v : Bool) → is_circular blocks x ≡ v → v ≡ false
            by true h = sym (any_at text_cmp text_order (is_circular blocks) (ascending text_cmp (flat_map (λ block. block.defined) blocks)) x h there) ∙ find_none (is_circular blocks) (ascending text_cmp (flat_map (λ block. block.defined) blocks)) none
            by false h = refl

    -- what a block uses leads to fewer blocks
    leads_less : (b d : ℕ) (block : BlockNames) (x : List ℕ) → slice_get blocks b ≡ Some block → is_name_in block.used x ≡ true → is_place_in (definers blocks x) d ≡ true → left_of (reach b) 0 (dependencies blocks) + 1 ≤ left_of (reach d) 0 (dependencies blocks)
    leads_less b d block x found used e = left_more (reach d) (reach b) among b 0 (dependencies blocks) low (subst (λ (p : ℕ). is_place_in (reach d) p ≡ false) first away) (subst (λ (p : ℕ). is_place_in (reach b) p ≡ true) first (reach_itself b (block, found)))
      where
        first : b ≡ 0 + b
        first = omega arith

        low : b < length (dependencies blocks)
        low = subst (λ (n : ℕ). b < n) (sym (same_length (λ own. flat_map (definers blocks) own.used) blocks)) (slice_get_within blocks b block found)

        among : Among (reach d) (reach b)
        among = inside blocks (d ∷ []) (reach b) (reach_closed b (block, found)) (single_among (reach b) d (led (reach b) b d block x (reach_closed b (block, found)) (reach_itself b (block, found)) found used e))

        uses : uses_name_at blocks x b ≡ true
        uses = subst (λ (o : Option BlockNames). elim o [ None ↦ false | Some user ↦ is_name_in user.used x ] ≡ true) (sym found) used

        away : is_place_in (reach d) b ≡ false
        away = by (is_place_in (reach d) b) refl
          where
            by : (v : Bool) → is_place_in (reach d) b ≡ v → v ≡ false
            by true f = sym (any_here (uses_name_at blocks x) (depended_on blocks x) b (within_mono blocks (d ∷ []) (definers blocks x) (single_among (definers blocks x) d e) b f) uses) ∙ not_circular x d e
            by false f = refl

    stuck : first_ready (run_order (dependencies blocks)) 0 (dependencies blocks) ≡ None
    stuck = none_ready (dependencies blocks) (dependencies blocks) [] (left_most [] 0 (dependencies blocks))

    -- a block has run where all that it needs have
    runs_behind : (b : ℕ) (block : BlockNames) → slice_get blocks b ≡ Some block → ((d : ℕ) → is_place_in (flat_map (definers blocks) block.used) d ≡ true → is_place_in (run_order (dependencies blocks)) d ≡ true) → is_place_in (run_order (dependencies blocks)) b ≡ true
    runs_behind b block found all =
        let first : 0 + b ≡ b = omega arith in
        subst (λ (p : ℕ). is_place_in (run_order (dependencies blocks)) p ≡ true) first
        (unready (run_order (dependencies blocks)) 0 (dependencies blocks) b (flat_map (definers blocks) block.used) stuck (get_of (λ own. flat_map (definers blocks) own.used) blocks b block found)
        (all_from (is_place_in (run_order (dependencies blocks))) (flat_map (definers blocks) block.used) all))

    needs_lead : (b d : ℕ) (block : BlockNames) → slice_get blocks b ≡ Some block → is_place_in (flat_map (definers blocks) block.used) d ≡ true → (left_of (reach b) 0 (dependencies blocks) + 1 ≤ left_of (reach d) 0 (dependencies blocks)) × IsBlock d
    needs_lead b d block found e = from (flat_in (definers blocks) block.used d e)
      where
        from : (name : List ℕ) × (is_name_in block.used name ≡ true) × (is_place_in (definers blocks name) d ≡ true) → (left_of (reach b) 0 (dependencies blocks) + 1 ≤ left_of (reach d) 0 (dependencies blocks)) × IsBlock d
        from (name, f, g) = (leads_less b d block name found f g, definers_are name d g)

    most : (d : ℕ) → left_of (reach d) 0 (dependencies blocks) ≤ length blocks
    most d = subst (λ (n : ℕ). left_of (reach d) 0 (dependencies blocks) ≤ n) (same_length (λ own. flat_map (definers blocks) own.used) blocks) (left_most (reach d) 0 (dependencies blocks))

    runs : (k b : ℕ) → IsBlock b → length blocks ≤ left_of (reach b) 0 (dependencies blocks) + k → is_place_in (run_order (dependencies blocks)) b ≡ true
    runs zero b (block, found) le = runs_behind b block found (λ d e. let led_ = (needs_lead b d block found e).0 in let m = most d in absurd (omega arith))
    runs (suc k) b (block, found) le = runs_behind b block found (λ d e. let led_ = needs_lead b d block found e in let less = led_.0 in runs k d led_.1 (omega arith))

    pub all_run : (at : ℕ) → at < length blocks → is_place_in (run_order (dependencies blocks)) at ≡ true
    all_run at lt = runs (length blocks) at (there_is blocks at lt) (omega arith)
