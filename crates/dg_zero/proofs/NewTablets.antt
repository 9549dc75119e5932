-- The group with the fewest tablets, and the tablets of new predicates.
use Rattle.std.proofs.Common.{◌≡◌, ℕ, zero, suc, ◌+◌, ◌-◌, ◌<◌, ◌≤◌, length-append, Bool, true, false, cond, List, [], ◌∷◌, ◌++◌, refl, ap, sym, subst, ◌∙◌, arith, append_assoc, length, get_or, take}
use Rattle.std.specs.Prelude.{◌≢◌, nat_lt, fold, map, slice_index, slice_set, ◌==◌}
use Rattle.std.specs.List.{list_any}
use Rattle.std.proofs.lemmas.List.{append-nil, map-append, take_more, length-map, get_or-map, length-set, get_or-set_same, get_or-set_other, get_or-append_right, get_or_append_left}
use Rattle.std.proofs.lemmas.Grind.{same_number_lists}
use Rattle.std.proofs.lemmas.Bool.Decides.{nat_tests}
use Rattle.std.proofs.lemmas.List.Sums.{fold-append, count_by-le-length, sum_by-append}
use Rattle.dg_schema.specs.declared.definition.PredDef.{PredDef}
use Rattle.dg_keys.specs.declared.record.Tablet.{Tablet}
use Rattle.dg_keys.specs.Tablets.{tablet_cmp}
use Rattle.std.specs.Ordering.{nat_cmp}
use Rattle.dg_values.specs.Ascending.{Ascends, ascending, with_one}
use Rattle.dg_values.specs.Order.{text_cmp, IsOrder}
use Rattle.dg_sets.proofs.MadeOrders.{nat_order, text_order, then_order}
use Rattle.dg_sets.proofs.Sets.{one_list, has_more, ascends_more}
use Rattle.dg_zero.specs.declared.tablets.Place.{Place}
use Rattle.dg_zero.specs.States.{tablet_of, owners_of}
use Rattle.dg_zero.specs.Places.{groups, owned, tally, fewest, fresh, fresh_place, is_place_of, at_rest}

-- one group more
pub fewest_push : (places : List Place) (n : ℕ) → fewest places (groups (n + 1)) ≡ cond (nat_lt (owned places (n + 1)) (owned places (fewest places (groups n)))) (n + 1) (fewest places (groups n))
fewest_push places n =
    let e : suc n ≡ n + 1 = omega arith in
    subst (λ (k : ℕ). fewest places (groups k) ≡ cond (nat_lt (owned places (n + 1)) (owned places (fewest places (groups n)))) (n + 1) (fewest places (groups n))) e
    (fold-append (λ (best group : ℕ). cond (nat_lt (owned places group) (owned places best)) group best) 1 (groups n) ((n + 1) ∷ []))

-- the tablets of definitions, and of one more
pub fresh_push : (n : ℕ) (places : List Place) (defs : List PredDef) (def : PredDef) → fresh n places (defs ++ def ∷ []) ≡ fresh n places defs ++ fresh n (places ++ map fresh_place (fresh n places defs)) (def ∷ [])
fresh_push n places [] def = ap (λ (ps : List Place). fresh n ps (def ∷ [])) (sym (append-nil places))
fresh_push n places (d ∷ defs) def =
    by (list_any (is_place_of d.name) places) refl (fresh_push n places defs def) (fresh_push n (places ++ at_rest d.name (fewest places (groups n)) ∷ []) defs def)
  where
    by : (b : Bool) → list_any (is_place_of d.name) places ≡ b
        → fresh n places (defs ++ def ∷ []) ≡ fresh n places defs ++ fresh n (places ++ map fresh_place (fresh n places defs)) (def ∷ [])
        → fresh n (places ++ at_rest d.name (fewest places (groups n)) ∷ []) (defs ++ def ∷ []) ≡ fresh n (places ++ at_rest d.name (fewest places (groups n)) ∷ []) defs ++ fresh n ((places ++ at_rest d.name (fewest places (groups n)) ∷ []) ++ map fresh_place (fresh n (places ++ at_rest d.name (fewest places (groups n)) ∷ []) defs)) (def ∷ [])
        → fresh n places (d ∷ (defs ++ def ∷ [])) ≡ fresh n places (d ∷ defs) ++ fresh n (places ++ map fresh_place (fresh n places (d ∷ defs))) (def ∷ [])
    by true e old new = rw e old
    by false e old new =
        let place : Place = at_rest d.name (fewest places (groups n)) in
        let tablet : Tablet = record { pred = d.name; group = fewest places (groups n) } in
        rw e (ap (λ (ts : List Tablet). tablet ∷ ts) (new ∙ ap (λ (ps : List Place). fresh n (places ++ place ∷ []) defs ++ fresh n ps (def ∷ [])) (append_assoc places (place ∷ []) (map fresh_place (fresh n (places ++ place ∷ []) defs)))))

-- a fresh place is of its tablet
pub tablets_back : (fresh : List Tablet) → map tablet_of (map fresh_place fresh) ≡ fresh
tablets_back [] = refl
tablets_back (t ∷ fresh) = ap (λ (ts : List Tablet). t ∷ ts) (tablets_back fresh)

-- the owners of tablets and of fresh ones
pub owners_fresh : (places : List Place) (fresh : List Tablet) → fold (with_one tablet_cmp) (owners_of places) fresh ≡ owners_of (places ++ map fresh_place fresh)
owners_fresh places fresh =
    ap (fold (with_one tablet_cmp) (owners_of places)) (sym (tablets_back fresh))
    ∙ (sym (fold-append (with_one tablet_cmp) [] (map tablet_of places) (map tablet_of (map fresh_place fresh))) ∙ ap (fold (with_one tablet_cmp) []) (sym (map-append tablet_of places (map fresh_place fresh))))

-- ---- how many tablets each group owns

length_groups : (n : ℕ) → length (groups n) ≡ n
length_groups zero = refl
length_groups (suc n) = length-append (groups n) ((n + 1) ∷ []) ∙ (let e = length_groups n in omega arith)

pub length_tally : (n : ℕ) (places : List Place) → length (tally n places) ≡ n
length_tally n places = length-map (groups n) (owned places) ∙ length_groups n

group_at : (n i : ℕ) → i < n → get_or (groups n) i 0 ≡ i + 1
group_at zero i lt = absurd (omega arith)
group_at (suc n) i lt = by (i == n) refl (λ less. group_at n i less)
  where
    long : length (groups n) ≡ n
    long = length_groups n

    by : (b : Bool) → (i == n) ≡ b → (i < n → get_or (groups n) i 0 ≡ i + 1) → get_or (groups n ++ (n + 1) ∷ []) i 0 ≡ i + 1
    by true e rest =
        let same : i ≡ n = grind (arith, nat_tests) in
        let first : i - n ≡ 0 = omega (arith, same) in
        get_or-append_right (groups n) ((n + 1) ∷ []) n i 0 long (omega (arith, same)) ∙ (ap (λ (k : ℕ). get_or ((n + 1) ∷ []) k 0) first ∙ (λ j. sym same j + 1))
    by false e rest =
        let other : i ≢ n = λ same. absurd (grind (arith, nat_tests)) in
        let less : i < n = omega (arith, other) in
        get_or_append_left (groups n) ((n + 1) ∷ []) 0 i (omega (arith, long, less)) ∙ rest less

-- the count of a group is how many it owns
pub tally_at : (n : ℕ) (places : List Place) (group : ℕ) → 1 ≤ group → group ≤ n → slice_index (tally n places) (group - 1) ≡ owned places group
tally_at n places group least most =
    let lt : group - 1 < length (groups n) = rw length_groups (omega arith) in
    get_or-map (owned places) (groups n) (group - 1) 0 0 lt ∙ ap (owned places) (group_at n (group - 1) (omega arith) ∙ (let back : group - 1 + 1 ≡ group = omega arith in back))

-- no group owns more than there are
pub owned_most : (places : List Place) (group : ℕ) → owned places group ≤ length places
owned_most places group = count_by-le-length (λ (t : Place). t.group == group) places

-- one tablet more at a group
owned_push : (places : List Place) (t : Place) (group : ℕ) → owned (places ++ t ∷ []) group ≡ owned places group + owned (t ∷ []) group
owned_push places t group = sum_by-append (λ (t : Place). cond (t.group == group) 1 0) places (t ∷ [])

owned_one : (t : Place) (group : ℕ) → owned (t ∷ []) group ≡ cond (t.group == group) 1 0
owned_one t group = omega arith

pub tally_push : (n : ℕ) (places : List Place) (t : Place) → 1 ≤ t.group → t.group ≤ n → tally n (places ++ t ∷ []) ≡ slice_set (tally n places) (t.group - 1) (slice_index (tally n places) (t.group - 1) + 1)
tally_push n places t least most = same_number_lists (tally n (places ++ t ∷ [])) set_one (length_tally n (places ++ t ∷ []) ∙ sym (length-set (tally n places) at one ∙ length_tally n places)) each
  where
    at : ℕ
    at = t.group - 1

    one : ℕ
    one = slice_index (tally n places) (t.group - 1) + 1

    set_one : List ℕ
    set_one = slice_set (tally n places) at one

    long : length (tally n places) ≡ n
    long = length_tally n places

    counted : (k : ℕ) → k < n → get_or (tally n (places ++ t ∷ [])) k 0 ≡ get_or (tally n places) k 0 + owned (t ∷ []) (k + 1)
    counted k lt =
        let here : k + 1 - 1 ≡ k = omega arith in
        let new : get_or (tally n (places ++ t ∷ [])) (k + 1 - 1) 0 ≡ owned (places ++ t ∷ []) (k + 1) = tally_at n (places ++ t ∷ []) (k + 1) (omega arith) (omega arith) in
        let old : get_or (tally n places) (k + 1 - 1) 0 ≡ owned places (k + 1) = tally_at n places (k + 1) (omega arith) (omega arith) in
        subst (λ (j : ℕ). get_or (tally n (places ++ t ∷ [])) j 0 ≡ get_or (tally n places) j 0 + owned (t ∷ []) (k + 1)) here
        (new ∙ (owned_push places t (k + 1) ∙ ap (λ (m : ℕ). m + owned (t ∷ []) (k + 1)) (sym old)))

    each : (k : ℕ) → k < length (tally n (places ++ t ∷ [])) → get_or (tally n (places ++ t ∷ [])) k 0 ≡ get_or set_one k 0
    each k lt =
        counted k (rw length_tally at lt) ∙ (ap (λ (m : ℕ). get_or (tally n places) k 0 + m) (owned_one t (k + 1)) ∙ by (t.group == k + 1) refl)
      where
        by : (b : Bool) → (t.group == k + 1) ≡ b → get_or (tally n places) k 0 + cond b 1 0 ≡ get_or set_one k 0
        by true e =
            let same : t.group ≡ k + 1 = grind (arith, nat_tests) in
            let here : at ≡ k = omega (arith, same) in
            subst (λ (j : ℕ). get_or (tally n places) j 0 + 1 ≡ get_or set_one j 0) here (sym (get_or-set_same (tally n places) at one 0 (omega (arith, long))))
        by false e =
            let other : k ≢ at = λ same. (let no : t.group ≡ k + 1 = omega (arith, same) in absurd (grind (arith, nat_tests))) in
            let none : get_or (tally n places) k 0 + 0 ≡ get_or (tally n places) k 0 = omega arith in
            none ∙ sym (get_or-set_other (tally n places) at k one 0 other)

-- of two groups the lesser is one of them
pub lesser_within : (counts : List ℕ) (group best n : ℕ) → 1 ≤ group → group ≤ n → 1 ≤ best → best ≤ n
    → (1 ≤ cond (nat_lt (slice_index counts (group - 1)) (slice_index counts (best - 1))) group best) × (cond (nat_lt (slice_index counts (group - 1)) (slice_index counts (best - 1))) group best ≤ n)
lesser_within counts group best n g1 g2 b1 b2 = by (nat_lt (slice_index counts (group - 1)) (slice_index counts (best - 1)))
  where
    by : (b : Bool) → (1 ≤ cond b group best) × (cond b group best ≤ n)
    by true = (g1, g2)
    by false = (b1, b2)

-- the group with the fewest among one group more, by counts
pub fewest_next : (n i best : ℕ) (counts : List ℕ) (places : List Place) → i < n → 1 ≤ best → best ≤ n → counts ≡ tally n places → best ≡ fewest places (groups i)
    → cond (nat_lt (slice_index counts (i + 1 - 1)) (slice_index counts (best - 1))) (i + 1) best ≡ fewest places (groups (i + 1))
fewest_next n i best counts places lt least most e is =
    let new : slice_index counts (i + 1 - 1) ≡ owned places (i + 1) = ap (λ (cs : List ℕ). slice_index cs (i + 1 - 1)) e ∙ tally_at n places (i + 1) (omega arith) (omega arith) in
    let old : slice_index counts (best - 1) ≡ owned places best = ap (λ (cs : List ℕ). slice_index cs (best - 1)) e ∙ tally_at n places best least most in
    (λ j. cond (nat_lt (new j) (old j)) (i + 1) best) ∙ (ap (λ (b : ℕ). cond (nat_lt (owned places (i + 1)) (owned places b)) (i + 1) b) is ∙ sym (fewest_push places i))

-- ---- one definition more

-- no tablet, one group more
pub none_push : (n : ℕ) → tally (n + 1) [] ≡ tally n [] ++ 0 ∷ []
none_push n =
    let e : suc n ≡ n + 1 = omega arith in
    subst (λ (k : ℕ). tally k [] ≡ tally n [] ++ 0 ∷ []) e (map-append (owned []) (groups n) ((n + 1) ∷ []))

-- a definition whose predicate has a tablet brings none
pub fresh_none : (n : ℕ) (places : List Place) (d : PredDef) → list_any (is_place_of d.name) places ≡ true → fresh n places (d ∷ []) ≡ []
fresh_none n places d e = rw e refl

-- and another one brings its own
pub fresh_one : (n : ℕ) (places : List Place) (d : PredDef) → list_any (is_place_of d.name) places ≡ false → fresh n places (d ∷ []) ≡ (record { pred = d.name; group = fewest places (groups n) }) ∷ []
fresh_one n places d e = rw e refl

-- the count of a group with one tablet more fits
pub count_fits : (n : ℕ) (places : List Place) (made : List Tablet) (counts : List ℕ) (group : ℕ) → counts ≡ tally n (places ++ map fresh_place made) → 1 ≤ group → group ≤ n → slice_index counts (group - 1) ≤ length places + length made
count_fits n places made counts group e least most =
    let is : slice_index counts (group - 1) ≡ owned (places ++ map fresh_place made) group = ap (λ (cs : List ℕ). slice_index cs (group - 1)) e ∙ tally_at n (places ++ map fresh_place made) group least most in
    let few = owned_most (places ++ map fresh_place made) group in
    let long : length (places ++ map fresh_place made) ≡ length places + length made = length-append places (map fresh_place made) ∙ ap (λ (k : ℕ). length places + k) (length-map made fresh_place) in
    omega (arith, is, few, long)

-- the counts with one tablet more
pub counts_more : (n : ℕ) (places : List Place) (made : List Tablet) (t : Tablet) (counts : List ℕ) → counts ≡ tally n (places ++ map fresh_place made) → 1 ≤ t.group → t.group ≤ n
    → slice_set counts (t.group - 1) (slice_index counts (t.group - 1) + 1) ≡ tally n (places ++ map fresh_place (made ++ t ∷ []))
counts_more n places made t counts e least most =
    ap (λ (cs : List ℕ). slice_set cs (t.group - 1) (slice_index cs (t.group - 1) + 1)) e
    ∙ (sym (tally_push n (places ++ map fresh_place made) (fresh_place t) least most)
    ∙ ap (tally n) (append_assoc places (map fresh_place made) (fresh_place t ∷ []) ∙ ap (λ (ts : List Place). places ++ ts) (sym (map-append fresh_place made (t ∷ [])))))

-- the tablets that definitions bring, and one more
pub fresh_to : (n : ℕ) (places : List Place) (made : List Tablet) (newer : List PredDef) (i : ℕ) (d : PredDef) → i < length newer → get_or newer i d ≡ d → made ≡ fresh n places (take i newer)
    → made ++ fresh n (places ++ map fresh_place made) (d ∷ []) ≡ fresh n places (take (i + 1) newer)
fresh_to n places made newer i d lt is e =
    let some : take (i + 1) newer ≡ take i newer ++ d ∷ [] = take_more newer i d lt ∙ λ j. take i newer ++ is j ∷ [] in
    (λ j. e j ++ fresh n (places ++ map fresh_place (e j)) (d ∷ [])) ∙ (sym (fresh_push n places (take i newer) d) ∙ ap (fresh n places) (sym some))

-- ---- tablets in order

pub tablet_order : IsOrder tablet_cmp
tablet_order = then_order (λ (t : Tablet). t.pred) (λ t. t.group) text_cmp nat_cmp text_order nat_order (λ x y e f. λ i. record { pred = e i; group = f i })

-- others sorted in are put at their places
pub put_behind : (tablets more : List Tablet) → Ascends tablet_cmp tablets → ascending tablet_cmp (tablets ++ more) ≡ fold (with_one tablet_cmp) tablets more
put_behind tablets more a =
    let same : ascending tablet_cmp tablets ≡ tablets = one_list tablet_cmp tablet_order (ascending tablet_cmp tablets) tablets (ascends_more tablet_cmp tablet_order [] tablets tt) a (λ u. has_more tablet_cmp tablet_order [] tablets u) in
    fold-append (with_one tablet_cmp) [] tablets more ∙ ap (λ (ts : List Tablet). fold (with_one tablet_cmp) ts more) same
