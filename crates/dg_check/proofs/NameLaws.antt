-- Names in order, and the first place of each in a map.
use Rattle.std.specs.BTreeMap as tree
use Rattle.std.specs.BTreeMap.{BTreeMap}
use denote.Ref.{Bor}
use Rattle.std.proofs.Common.{◌≡◌, ℕ, suc, map, ◌+◌, ◌≤◌, Bool, true, false, cond, List, [], ◌∷◌, ◌++◌, Option, Some, None, length, refl, ap, subst, sym, ◌∙◌, arith}
use Rattle.std.specs.Prelude.{◌||◌, not, is_some, nat_lt}
use Rattle.std.specs.Str.{bytes_eq}
use Rattle.std.specs.List.{list_any, position, position_from, position_or_len}
use Rattle.std.specs.Cmp.Lexicographic.{slice_cmp}
use Rattle.std.specs.Ordering.{nat_cmp}
use Rattle.std.proofs.lemmas.Bool.{ltb-false}
use Rattle.std.proofs.lemmas.List.{map-append, length-map}
use Rattle.std.proofs.lemmas.List.Sums.{prefix_len-le-length}
use Rattle.std.proofs.lemmas.Iterator.Adapters.{position_from-zero}
use Rattle.std.proofs.lemmas.Map.Text.{btree_map_updates_str, is_eq-slice_cmp}
use Rattle.dg_values.specs.Order.{text_cmp, same_text}
use Rattle.dg_sets.proofs.MadeOrders.{text_order}
use Rattle.dg_sets.proofs.Sets.{is_one, is_itself, eq_turn}

-- ---- the first place of one that passes

push_passes : {X : Type 0} (p : X → Bool) (xs : List X) (y : X) (i : ℕ) → position_from p i xs ≡ None → p y ≡ true → position_from p i (xs ++ y ∷ []) ≡ Some (i + length xs)
push_passes p [] y i none e = by (p y) e
  where
    by : (v : Bool) → v ≡ true → cond v (Some i) None ≡ Some (i + 0)
    by true f = ap Some (omega arith)
    by false f = absurd (cc)
push_passes p (x ∷ xs) y i none e = by (p x) none (λ k. push_passes p xs y (i + 1) k e)
  where
    by : (v : Bool) → cond v (Some i) (position_from p (i + 1) xs) ≡ None → (position_from p (i + 1) xs ≡ None → position_from p (i + 1) (xs ++ y ∷ []) ≡ Some (i + 1 + length xs)) → cond v (Some i) (position_from p (i + 1) (xs ++ y ∷ [])) ≡ Some (i + suc (length xs))
    by true f rest = absurd (cc)
    by false f rest = rest f ∙ ap Some (omega arith)

push_fails : {X : Type 0} (p : X → Bool) (xs : List X) (y : X) (i : ℕ) → p y ≡ false → position_from p i (xs ++ y ∷ []) ≡ position_from p i xs
push_fails p [] y i e = λ j. cond (e j) (Some i) None
push_fails p (x ∷ xs) y i e = λ j. cond (p x) (Some i) (push_fails p xs y (i + 1) e j)

any_is : {X : Type 0} (p : X → Bool) (xs : List X) (i : ℕ) → list_any p xs ≡ is_some (position_from p i xs)
any_is p [] i = refl
any_is p (x ∷ xs) i = by (p x) (any_is p xs (i + 1))
  where
    by : (v : Bool) → list_any p xs ≡ is_some (position_from p (i + 1) xs) → (v || list_any p xs) ≡ is_some (cond v (Some i) (position_from p (i + 1) xs))
    by true e = refl
    by false e = e

-- whether one passes, by its place
pub any_by_place : {X : Type 0} (p : X → Bool) (xs : List X) → list_any p xs ≡ is_some (position p xs)
any_by_place p xs = any_is p xs 0 ∙ sym (ap is_some (position_from-zero p xs))

-- ---- names and their places in a map

-- the map has the place of each name
abbrev pub ArePlaces : List (List ℕ) → BTreeMap (Bor (List ℕ)) ℕ → Type 0
ArePlaces names places = (name : List ℕ) → tree.get_by (λ other. text_cmp name other.now) places ≡ position (same_text name) names

-- the place of a name that is added
added_place : (names : List (List ℕ)) (name other : List ℕ) → position (same_text name) names ≡ None → cond (bytes_eq name other) (Some (length names)) (position (same_text other) names) ≡ position (same_text other) (names ++ name ∷ [])
added_place names name other none = by (bytes_eq name other) refl
  where
    from : {X : Type 0} (p : X → Bool) (xs : List X) → position p xs ≡ position_from p 0 xs
    from p xs = position_from-zero p xs

    own : other ≡ name → Some (length names) ≡ position (same_text other) (names ++ name ∷ [])
    own same =
        let last = push_passes (same_text name) names name 0 (sym (from (same_text name) names) ∙ none) (is_itself text_cmp text_order name) in
        ap Some (omega arith) ∙ (sym last ∙ (sym (from (same_text name) (names ++ name ∷ [])) ∙ λ i. position (same_text (sym same i)) (names ++ name ∷ [])))

    by : (v : Bool) → bytes_eq name other ≡ v → cond v (Some (length names)) (position (same_text other) names) ≡ position (same_text other) (names ++ name ∷ [])
    by true e = own (sym (is_one text_cmp text_order name other (is_eq-slice_cmp name other ∙ e)))
    by false e =
        let apart : same_text other name ≡ false = eq_turn text_cmp text_order other name ∙ (is_eq-slice_cmp name other ∙ e) in
        from (same_text other) names ∙ (sym (push_fails (same_text other) names name 0 apart) ∙ sym (from (same_text other) (names ++ name ∷ [])))

-- a name that isn't there, added with its place
pub places_grow : (names : List (List ℕ)) (name : Bor (List ℕ)) (m n : BTreeMap (Bor (List ℕ)) ℕ) → ArePlaces names m → position (same_text name.now) names ≡ None → tree.UpdatesBy (λ x y. slice_cmp nat_cmp x.now y.now) (λ k. slice_cmp nat_cmp name.now k.now) m n (Some (length names)) → ArePlaces (names ++ name.now ∷ []) n
places_grow names name m n are none u = λ other.
    btree_map_updates_str name.now m n (Some (length names)) u other ∙ ((λ i. cond (bytes_eq name.now other) (Some (length names)) (are other i)) ∙ added_place names name.now other none)

-- the bytes of names
abbrev pub texts : List (Bor (List ℕ)) → List (List ℕ)
texts names = map (λ name. name.now) names

not_some : {X : Type 0} (o : Option X) → is_some o ≡ false → o ≡ None
not_some None e = refl
not_some (Some x) e = absurd (cc)

texts_more : (order more : List (Bor (List ℕ))) (name : Bor (List ℕ)) → more ≡ order ++ name ∷ [] → texts more ≡ texts order ++ name.now ∷ []
texts_more order more name e = ap texts e ∙ map-append (λ n. n.now) order (name ∷ [])

-- the same, of borrowed names
pub added_places : (order more : List (Bor (List ℕ))) (name : Bor (List ℕ)) (place : ℕ) (m n : BTreeMap (Bor (List ℕ)) ℕ) → ArePlaces (texts order) m → is_some (tree.get_by (λ k. slice_cmp nat_cmp name.now k.now) m) ≡ false → place ≡ length order → more ≡ order ++ name ∷ [] → tree.UpdatesBy (λ x y. slice_cmp nat_cmp x.now y.now) (λ k. slice_cmp nat_cmp name.now k.now) m n (Some place) → ArePlaces (texts more) n
added_places order more name place m n are none at e u =
    let count : place ≡ length (texts order) = at ∙ sym (length-map order (λ (r : Bor (List ℕ)). r.now)) in
    let v = subst (λ (p : ℕ). tree.UpdatesBy (λ x y. slice_cmp nat_cmp x.now y.now) (λ k. slice_cmp nat_cmp name.now k.now) m n (Some p)) count u in
    subst (λ (ns : List (List ℕ)). ArePlaces ns n) (sym (texts_more order more name e)) (places_grow (texts order) name m n are (sym (are name.now) ∙ not_some _ none) v)

-- one that stands there already
stays : {X : Type 0} (p : X → Bool) (xs : List X) (y : X) (i : ℕ) → is_some (position_from p i xs) ≡ true → position_from p i (xs ++ y ∷ []) ≡ position_from p i xs
stays p [] y i s = absurd (cc)
stays p (x ∷ xs) y i s = by (p x) s (stays p xs y (i + 1))
  where
    by : (v : Bool) → is_some (cond v (Some i) (position_from p (i + 1) xs)) ≡ true → (is_some (position_from p (i + 1) xs) ≡ true → position_from p (i + 1) (xs ++ y ∷ []) ≡ position_from p (i + 1) xs) → cond v (Some i) (position_from p (i + 1) (xs ++ y ∷ [])) ≡ cond v (Some i) (position_from p (i + 1) xs)
    by true t rest = refl
    by false t rest = rest t

known_place : (names : List (List ℕ)) (name other : List ℕ) → is_some (position (same_text name) names) ≡ true → position (same_text other) names ≡ position (same_text other) (names ++ name ∷ [])
known_place names name other known = by (position (same_text other) names) refl
  where
    apart : position (same_text other) names ≡ None → (v : Bool) → same_text other name ≡ v → same_text other name ≡ false
    apart e true f =
        let same : other ≡ name = is_one text_cmp text_order other name f in
        let gone : position (same_text name) names ≡ None = (λ i. position (same_text (sym same i)) names) ∙ e in
        let no : false ≡ true = ap is_some (sym gone) ∙ known in
        absurd (cc)
    apart e false f = f

    by : (o : Option ℕ) → position (same_text other) names ≡ o → position (same_text other) names ≡ position (same_text other) (names ++ name ∷ [])
    by (Some at) e =
        position_from-zero (same_text other) names
        ∙ (sym (stays (same_text other) names name 0 (ap is_some (sym (position_from-zero (same_text other) names) ∙ e)))
        ∙ sym (position_from-zero (same_text other) (names ++ name ∷ [])))
    by None e =
        position_from-zero (same_text other) names
        ∙ (sym (push_fails (same_text other) names name 0 (apart e (same_text other name) refl))
        ∙ sym (position_from-zero (same_text other) (names ++ name ∷ [])))

-- names that stand again leave the places as they are
pub known_places : (order more : List (Bor (List ℕ))) (name : Bor (List ℕ)) (m : BTreeMap (Bor (List ℕ)) ℕ) → ArePlaces (texts order) m → is_some (tree.get_by (λ k. slice_cmp nat_cmp name.now k.now) m) ≡ true → more ≡ order ++ name ∷ [] → ArePlaces (texts more) m
known_places order more name m are known e = λ other.
    are other ∙ (known_place (texts order) name.now other (ap is_some (sym (are name.now)) ∙ known) ∙ ap (position (same_text other)) (sym (texts_more order more name e)))

-- the bytes of names with one more
pub pushed : (order more : List (Bor (List ℕ))) (name : Bor (List ℕ)) → more ≡ order ++ name ∷ [] → texts more ≡ texts order ++ name.now ∷ []
pushed = texts_more

-- a place that is found, or how many there are
pub place_found : (names : List (List ℕ)) (name : List ℕ) (place : ℕ) → position (same_text name) names ≡ Some place → place ≡ position_or_len (same_text name) names
place_found names name place e = by (nat_lt (position_or_len (same_text name) names) (length names)) e
  where
    by : (v : Bool) → cond v (Some (position_or_len (same_text name) names)) None ≡ Some place → place ≡ position_or_len (same_text name) names
    by true f = cc
    by false f = absurd (cc)

-- a place is within them
pub place_within : (names : List (List ℕ)) (name : List ℕ) → position_or_len (same_text name) names ≤ length names
place_within names name = prefix_len-le-length (λ x. not (same_text name x)) names

unplaced : (a b : ℕ) → a ≤ b → cond (nat_lt a b) (Some a) None ≡ None → b ≡ a
unplaced a b le e = by (nat_lt a b) refl e
  where
    by : (v : Bool) → nat_lt a b ≡ v → cond v (Some a) None ≡ None → b ≡ a
    by true f g = absurd (cc)
    by false f g = let out = ltb-false a b f in omega arith

pub place_missing : (order : List (Bor (List ℕ))) (name : List ℕ) → position (same_text name) (texts order) ≡ None → length order ≡ position_or_len (same_text name) (texts order)
place_missing order name e = sym (length-map order (λ (r : Bor (List ℕ)). r.now)) ∙ unplaced (position_or_len (same_text name) (texts order)) (length (texts order)) (place_within (texts order) name) e
