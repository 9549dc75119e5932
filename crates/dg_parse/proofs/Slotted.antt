-- The fields of a list, found in slots by their keys.
use Rattle.std.proofs.Common.{◌≡◌, ℕ, zero, suc, ◌<◌, ◌≤◌, ◌+◌, inl, inr, Bool, true, false, ◌||◌, ◌&&◌, List, [], ◌∷◌, ◌++◌, length, replicate, Option, Some, None, refl, sym, ap, subst, ◌∙◌, arith, length-append}
use Rattle.std.specs.Prelude.{cond, slice_get, slice_set, unwrap_or, if◌then◌else◌, ◌==◌}
use Rattle.std.specs.BTreeSet.{BTreeSet, contains_by, contains, Updates}
use Rattle.std.specs.List.{list_any}
use Rattle.std.specs.Str.{bytes_eq}
use Rattle.std.proofs.lemmas.Bool.{false≢true, eq-eqb, cases_eq}
use Rattle.std.proofs.lemmas.List.{length-set}
use Rattle.std.proofs.lemmas.List.Folds.{list_any-append}
use Rattle.std.proofs.lemmas.Slice.Eq.{bytes_eq-Decides}
use Rattle.std.specs.Option.{is_some}
use Rattle.dg_text.specs.Marks.{tilde}
use Rattle.dg_values.specs.Order.{text_cmp}
use Rattle.dg_parse.specs.declared.query.QField.{QField}
use Rattle.dg_parse.specs.declared.query.QItem.TheOpen.{QItem-F}
use Rattle.dg_parse.specs.declared.query.QItem.TheViews.{out-QItem}
use Rattle.dg_parse.specs.declared.slots.Slot.{Slot}
use Rattle.dg_parse.specs.Keys.{shown_key, key_of, is_key}
use Rattle.dg_parse.specs.Slots.{plain_shown, alias_or, plain_key, is_same, hash, tag_of, group_of, is_at, is_numbered, holds, is_in_group, is_in, AreWithin, AreIndexed}
use Rattle.dg_parse.proofs.OwnKeys.{same_test}

-- ---- a key that is a text of its field

some_is : (a b : List ℕ) → Some a ≡ Some b → a ≡ b
some_is a b e = ap (λ (o : Option (List ℕ)). unwrap_or o []) e

none_is_some : {A : Type 0} (a : List ℕ) → None ≡ Some a → A
none_is_some a e = absurd (false≢true (ap (λ (o : Option (List ℕ)). is_some o) e))

plain_edge : (back : Bool) (pred k : List ℕ) → (if back then None else Some pred) ≡ Some k → (if back then tilde ∷ pred else pred) ≡ k
plain_edge true pred k e = none_is_some k e
plain_edge false pred k e = some_is pred k e

plain_item : {A B : Type 0} (o : QItem-F A B) (k : List ℕ) → plain_shown o ≡ Some k → shown_key o ≡ k
plain_item QItem-F.Uid k h = none_is_some k h
plain_item QItem-F.CountUid k h = none_is_some k h
plain_item (QItem-F.Count e) k h = none_is_some k h
plain_item (QItem-F.Val x) k h = none_is_some k h
plain_item (QItem-F.Agg op x) k h = none_is_some k h
plain_item (QItem-F.Edge e args dirs fields) k h = plain_edge e.back e.pred k h

plain_alias : (alias own : Option (List ℕ)) (item k : List ℕ) → (own ≡ Some k → item ≡ k) → alias_or alias own ≡ Some k → unwrap_or alias item ≡ k
plain_alias None own item k h e = h e
plain_alias (Some a) own item k h e = some_is a k e

pub plain_is : (f : QField) (k : List ℕ) → plain_key f ≡ Some k → key_of f ≡ k
plain_is f k e = plain_alias f.alias (plain_shown (out-QItem f.item)) (shown_key (out-QItem f.item)) k (plain_item (out-QItem f.item) k) e

-- ---- lists

get_before : {X : Type 0} (xs ys : List X) (i : ℕ) → i < length xs → slice_get (xs ++ ys) i ≡ slice_get xs i
get_before [] ys i lt = absurd (omega (arith, lt))
get_before (x ∷ xs) ys zero lt = refl
get_before (x ∷ xs) ys (suc i) lt = get_before xs ys i (omega (arith, lt))

get_end : {X : Type 0} (xs : List X) (y : X) → slice_get (xs ++ y ∷ []) (length xs) ≡ Some y
get_end [] y = refl
get_end (x ∷ xs) y = get_end xs y

get_set : {X : Type 0} (xs : List X) (i : ℕ) (v s : X) → slice_get xs i ≡ Some s → slice_get (slice_set xs i v) i ≡ Some v
get_set [] i v s e = absurd (false≢true (ap is_some e))
get_set (x ∷ xs) zero v s e = refl
get_set (x ∷ xs) (suc i) v s e = get_set xs i v s e

get_other : {X : Type 0} (xs : List X) (i j : ℕ) (v : X) → (j ≡ i → ⊥) → slice_get (slice_set xs i v) j ≡ slice_get xs j
get_other [] i j v n = refl
get_other (x ∷ xs) zero zero v n = absurd (n refl)
get_other (x ∷ xs) zero (suc j) v n = refl
get_other (x ∷ xs) (suc i) zero v n = refl
get_other (x ∷ xs) (suc i) (suc j) v n = get_other xs i j v (λ e. n (ap suc e))

get_replicate : {X : Type 0} (n : ℕ) (x : X) (i : ℕ) (y : X) → slice_get (replicate n x) i ≡ Some y → y ≡ x
get_replicate zero x i y e = absurd (false≢true (ap is_some e))
get_replicate (suc n) x zero y e = sym (ap (λ o. unwrap_or o x) e)
get_replicate (suc n) x (suc i) y e = get_replicate n x i y e

or_swap : (a b c : Bool) → ((a || b) || c) ≡ ((a || c) || b)
or_swap true b c = refl
or_swap false true true = refl
or_swap false true false = refl
or_swap false false true = refl
or_swap false false false = refl

or_after : (a b c : Bool) → (a || (b || c)) ≡ ((a || b) || c)
or_after true b c = refl
or_after false b c = refl

or_false : (a : Bool) → (a || false) ≡ a
or_false true = refl
or_false false = refl

and_false : (a : Bool) → (a && false) ≡ false
and_false true = refl
and_false false = refl

or_first : (a b c : Bool) → a ≡ false → (b || c) ≡ ((a || c) || b)
or_first true b c e = absurd (false≢true (sym e))
or_first false true true e = refl
or_first false true false e = refl
or_first false false true e = refl
or_first false false false e = refl

any_set : {X : Type 0} (p : X → Bool) (xs : List X) (i : ℕ) (v s : X) → slice_get xs i ≡ Some s → p s ≡ false → list_any p (slice_set xs i v) ≡ (list_any p xs || p v)
any_set p [] i v s e h = absurd (false≢true (ap is_some e))
any_set p (x ∷ xs) zero v s e h = or_first (p x) (p v) (list_any p xs) (ap p (ap (λ o. unwrap_or o x) e) ∙ h)
any_set p (x ∷ xs) (suc i) v s e h = ap (λ b. p x || b) (any_set p xs i v s e h) ∙ or_after (p x) (list_any p xs) (p v)

any_same : {X : Type 0} (p q : X → Bool) (xs : List X) → ((j : ℕ) (x : X) → slice_get xs j ≡ Some x → p x ≡ q x) → list_any p xs ≡ list_any q xs
any_same p q [] h = refl
any_same p q (x ∷ xs) h = ap (λ b. b || list_any p xs) (h zero x refl) ∙ ap (λ b. q x || b) (any_same p q xs (λ j y e. h (suc j) y e))

any_none : {X : Type 0} (p : X → Bool) (xs : List X) → ((j : ℕ) (x : X) → slice_get xs j ≡ Some x → p x ≡ false) → list_any p xs ≡ false
any_none p [] h = refl
any_none p (x ∷ xs) h = ap (λ b. b || list_any p xs) (h zero x refl) ∙ any_none p xs (λ j y e. h (suc j) y e)

-- ---- one more field

numbered_more : (fields : List QField) (f : QField) (number : ℕ) (key : List ℕ) → number ≤ length fields → is_numbered (fields ++ f ∷ []) number key ≡ is_numbered fields number key
numbered_more fields f zero key le = refl
numbered_more fields f (suc i) key le = ap (is_at key) (get_before fields (f ∷ []) i (omega (arith, le)))

group_more : (fields : List QField) (f : QField) (key : List ℕ) (group : Option (List Slot)) → ((g : List Slot) (j : ℕ) (s : Slot) → group ≡ Some g → slice_get g j ≡ Some s → s.number ≤ length fields) → is_in_group (fields ++ f ∷ []) key group ≡ is_in_group fields key group
group_more fields f key None within = refl
group_more fields f key (Some g) within =
    any_same (holds (fields ++ f ∷ []) key) (holds fields key) g
    (λ j s e. ap (λ b. (s.tag == tag_of (hash key)) && b) (numbered_more fields f s.number key (within g j s refl e)))

pub still_in : (fields : List QField) (f : QField) (groups : List (List Slot)) (key : List ℕ) → AreWithin (length fields) groups → is_in (fields ++ f ∷ []) groups key ≡ is_in fields groups key
still_in fields f groups key within =
    group_more fields f key (slice_get groups (group_of (length groups) (hash key)))
    (λ g j s e h. within (group_of (length groups) (hash key)) j g s e h)

and_same : (t b : Bool) → (b ≡ true → t ≡ true) → (t && b) ≡ b
and_same true b h = refl
and_same false true h = h refl
and_same false false h = refl

same_tag : (q k : List ℕ) → bytes_eq q k ≡ true → (tag_of (hash k) == tag_of (hash q)) ≡ true
same_tag q k e = eq-eqb (tag_of (hash k)) (tag_of (hash q)) (ap (λ (t : List ℕ). tag_of (hash t)) (sym ((bytes_eq-Decides q k).0 e)))

own_holds : (fields : List QField) (f : QField) (k q : List ℕ) (number : ℕ) → plain_key f ≡ Some k → number ≡ suc (length fields) → holds (fields ++ f ∷ []) q (record { tag = tag_of (hash k); number = number }) ≡ bytes_eq q k
own_holds fields f k q number plain e =
    ap (λ (n : ℕ). (tag_of (hash k) == tag_of (hash q)) && is_numbered (fields ++ f ∷ []) n q) e
    ∙ ap (λ (o : Option QField). (tag_of (hash k) == tag_of (hash q)) && is_at q o) (get_end fields f)
    ∙ ap (λ (o : Option (List ℕ)). (tag_of (hash k) == tag_of (hash q)) && is_same q o) plain
    ∙ and_same (tag_of (hash k) == tag_of (hash q)) (bytes_eq q k) (same_tag q k)

free_holds : (fields : List QField) (key : List ℕ) (s : Slot) → s.number ≡ 0 → holds fields key s ≡ false
free_holds fields key s e = ap (λ (n : ℕ). (s.tag == tag_of (hash key)) && is_numbered fields n key) e ∙ and_false (s.tag == tag_of (hash key))

module _ (fields : List QField) (f : QField) (k : List ℕ) (plain : plain_key f ≡ Some k) (groups : List (List Slot)) (number : ℕ) (place : ℕ) (group : List Slot) (s : Slot)
    (got : slice_get groups (group_of (length groups) (hash k)) ≡ Some group) (free : slice_get group place ≡ Some s) (none : s.number ≡ 0)
    (within : AreWithin (length fields) groups) (next : number ≡ suc (length fields)) where
  abbrev at : ℕ
  at = group_of (length groups) (hash k)

  abbrev own : Slot
  own = record { tag = tag_of (hash k); number = number }

  abbrev filled : List (List Slot)
  filled = slice_set groups at (slice_set group place own)

  slot_within : (j : ℕ) (t : Slot) → slice_get (slice_set group place own) j ≡ Some t → t.number ≤ number
  slot_within j t e = elim (cases_eq j place) [
    | inl same ↦
        let is : own ≡ t = ap (λ o. unwrap_or o own) (sym (get_set group place own s free) ∙ ap (λ (n : ℕ). slice_get (slice_set group place own) n) (sym same) ∙ e) in
        omega (arith, ap (λ (t : Slot). t.number) is)
    | inr other ↦ omega (arith, next, within at j group t got (sym (get_other group place j own other) ∙ e))
  ]

  pub filled_within : AreWithin number filled
  filled_within i j g t h e = elim (cases_eq i at) [
    | inl same ↦
        let is : slice_set group place own ≡ g = ap (λ o. unwrap_or o []) (sym (get_set groups at (slice_set group place own) group got) ∙ ap (λ (n : ℕ). slice_get filled n) (sym same) ∙ h) in
        slot_within j t (ap (λ (l : List Slot). slice_get l j) is ∙ e)
    | inr other ↦ omega (arith, next, within i j g t (sym (get_other groups at i (slice_set group place own) other) ∙ h) e)
  ]

  in_own : (q : List ℕ) → is_in_group (fields ++ f ∷ []) q (Some (slice_set group place own)) ≡ (is_in_group fields q (Some group) || bytes_eq q k)
  in_own q =
      any_set (holds (fields ++ f ∷ []) q) group place own s free (free_holds (fields ++ f ∷ []) q s none)
      ∙ ap (λ b. b || holds (fields ++ f ∷ []) q own) (group_more fields f q (Some group) (λ g j t e h. within at j g t (got ∙ e) h))
      ∙ ap (λ b. list_any (holds fields q) group || b) (own_holds fields f k q number plain next)

  no_key : (q : List ℕ) → (group_of (length groups) (hash q) ≡ at → ⊥) → bytes_eq q k ≡ false
  no_key q n = by (bytes_eq q k) refl
    where
      by : (b : Bool) → bytes_eq q k ≡ b → bytes_eq q k ≡ false
      by true e = absurd (n (ap (λ (t : List ℕ). group_of (length groups) (hash t)) ((bytes_eq-Decides q k).0 e)))
      by false e = e

  pub filled_in : (q : List ℕ) → is_in (fields ++ f ∷ []) filled q ≡ (is_in fields groups q || bytes_eq q k)
  filled_in q = ap (λ (n : ℕ). is_in_group (fields ++ f ∷ []) q (slice_get filled (group_of n (hash q)))) (length-set groups at (slice_set group place own)) ∙ elim (cases_eq (group_of (length groups) (hash q)) at) [
    | inl same ↦
        ap (λ (n : ℕ). is_in_group (fields ++ f ∷ []) q (slice_get filled n)) same
        ∙ ap (λ (o : Option (List Slot)). is_in_group (fields ++ f ∷ []) q o) (get_set groups at (slice_set group place own) group got)
        ∙ in_own q
        ∙ ap (λ (o : Option (List Slot)). is_in_group fields q o || bytes_eq q k) (sym got)
        ∙ ap (λ (n : ℕ). is_in_group fields q (slice_get groups n) || bytes_eq q k) (sym same)
    | inr other ↦
        ap (λ (o : Option (List Slot)). is_in_group (fields ++ f ∷ []) q o) (get_other groups at (group_of (length groups) (hash q)) (slice_set group place own) other)
        ∙ still_in fields f groups q within
        ∙ sym (or_false (is_in fields groups q))
        ∙ ap (λ b. is_in fields groups q || b) (sym (no_key q other))
  ]

-- ---- an index of one more

more_within : (n m : ℕ) (groups : List (List Slot)) → n ≤ m → AreWithin n groups → AreWithin m groups
more_within n m groups le w i j g s h e = omega (arith, le, w i j g s h e)

-- a free slot was found for the key, and was filled
pub put_is : (before : List QField) (f : QField) (k : List ℕ) (groups : List (List Slot)) (at place number tag h count : ℕ) (group : List Slot) (s : Slot)
    → plain_key f ≡ Some k → h ≡ hash k → at ≡ group_of (length groups) h → tag ≡ tag_of h → slice_get groups at ≡ Some group → slice_get group place ≡ Some s → s.number ≡ 0
    → number ≡ count + 1 → length before ≡ count → AreWithin count groups
    → AreWithin (count + 1) (slice_set groups at (slice_set group place (record { tag = tag; number = number })))
    × ((q : List ℕ) → is_in (before ++ f ∷ []) (slice_set groups at (slice_set group place (record { tag = tag; number = number }))) q ≡ (is_in before groups q || bytes_eq q (key_of f)))
put_is before f k groups at place number tag h count group s plain eh ea et got free none en el within =
    let there : slice_get groups (group_of (length groups) (hash k)) ≡ Some group = ap (λ (n : ℕ). slice_get groups n) (sym (ea ∙ ap (λ (n : ℕ). group_of (length groups) n) eh)) ∙ got in
    let below : AreWithin (length before) groups = subst (λ (n : ℕ). AreWithin n groups) (sym el) within in
    let next : number ≡ suc (length before) = omega (arith, en, el) in
    rw (et, ea, eh) (
      more_within number (count + 1) (filled before f k plain groups number place group s there free none below next) (omega (arith, en)) (filled_within before f k plain groups number place group s there free none below next),
      λ q. filled_in before f k plain groups number place group s there free none below next q ∙ ap (λ (t : List ℕ). is_in before groups q || bytes_eq q t) (sym (plain_is f k plain)),
    )

key_more : (fields : List QField) (f : QField) (q : List ℕ) → is_key (fields ++ f ∷ []) q ≡ (is_key fields q || bytes_eq q (key_of f))
key_more fields f q =
    list_any-append (λ f. bytes_eq q (key_of f)) fields (f ∷ [])
    ∙ ap (λ b. is_key fields q || b) (or_false (bytes_eq q (key_of f)))

pub indexed_slot : (fields : List QField) (f : QField) (groups filled : List (List Slot)) (others : BTreeSet (List ℕ)) (count : ℕ) → length fields ≡ count → AreIndexed fields groups others
    → (AreWithin count groups → AreWithin (count + 1) filled × ((q : List ℕ) → is_in (fields ++ f ∷ []) filled q ≡ (is_in fields groups q || bytes_eq q (key_of f)))) → AreIndexed (fields ++ f ∷ []) filled others
indexed_slot fields f groups filled others count e are put =
    let is = put (subst (λ (n : ℕ). AreWithin n groups) e are.0) in (
      more_within (count + 1) (length (fields ++ f ∷ [])) filled (omega (arith, e, length-append fields (f ∷ []))) is.0,
      λ q. ap (λ b. b || contains_by (text_cmp q) others) (is.1 q)
          ∙ or_swap (is_in fields groups q) (bytes_eq q (key_of f)) (contains_by (text_cmp q) others)
          ∙ ap (λ b. b || bytes_eq q (key_of f)) (are.1 q)
          ∙ sym (key_more fields f q),
    )

or_cond : (a t c : Bool) → (a || cond t true c) ≡ ((a || c) || t)
or_cond true t c = refl
or_cond false true true = refl
or_cond false true false = refl
or_cond false false true = refl
or_cond false false false = refl

pub indexed_other : (fields : List QField) (f : QField) (groups : List (List Slot)) (k : List ℕ) (others after : BTreeSet (List ℕ)) → AreIndexed fields groups others
    → k ≡ key_of f → Updates text_cmp others after k true → AreIndexed (fields ++ f ∷ []) groups after
indexed_other fields f groups k others after are e u =
    let v : Updates text_cmp others after (key_of f) true = subst (λ (t : List ℕ). Updates text_cmp others after t true) e u in (
      more_within (length fields) (length (fields ++ f ∷ [])) groups (omega (arith, length-append fields (f ∷ []))) are.0,
      λ q. ap (λ b. b || contains_by (text_cmp q) after) (still_in fields f groups q are.0)
          ∙ ap (λ b. is_in fields groups q || b) (v.0 q ∙ ap (λ t. cond t true (contains text_cmp others q)) (same_test (key_of f) q))
          ∙ or_cond (is_in fields groups q) (bytes_eq q (key_of f)) (contains text_cmp others q)
          ∙ ap (λ b. b || bytes_eq q (key_of f)) (are.1 q)
          ∙ sym (key_more fields f q),
    )

or_kept : (a b : Bool) → (b ≡ true → a ≡ true) → a ≡ (a || b)
or_kept true b h = refl
or_kept false true h = h refl
or_kept false false h = refl

-- a key that is there already
pub indexed_again : (fields : List QField) (f : QField) (groups : List (List Slot)) (others : BTreeSet (List ℕ)) → AreIndexed fields groups others
    → is_in fields groups (key_of f) ≡ true → AreIndexed (fields ++ f ∷ []) groups others
indexed_again fields f groups others are there = (
  more_within (length fields) (length (fields ++ f ∷ [])) groups (omega (arith, length-append fields (f ∷ []))) are.0,
  λ q. ap (λ b. b || contains_by (text_cmp q) others) (still_in fields f groups q are.0)
      ∙ are.1 q
      ∙ or_kept (is_key fields q) (bytes_eq q (key_of f)) (λ e.
      let same : q ≡ key_of f = (bytes_eq-Decides q (key_of f)).0 e in
      let in_slot : is_in fields groups q ≡ true = ap (λ (k : List ℕ). is_in fields groups k) same ∙ there in
      sym (are.1 q) ∙ ap (λ b. b || contains_by (text_cmp q) others) in_slot)
      ∙ sym (key_more fields f q),
)

-- ---- no field

free_in : (fields : List QField) (groups : List (List Slot)) (key : List ℕ) (group : Option (List Slot)) → ((g : List Slot) (j : ℕ) (s : Slot) → group ≡ Some g → slice_get g j ≡ Some s → s.number ≡ 0) → is_in_group fields key group ≡ false
free_in fields groups key None h = refl
free_in fields groups key (Some g) h = any_none (holds fields key) g (λ j s e. free_holds fields key s (h g j s refl e))

pub indexed_none : (groups : List (List Slot)) (others : BTreeSet (List ℕ)) → ((i j : ℕ) (g : List Slot) (s : Slot) → slice_get groups i ≡ Some g → slice_get g j ≡ Some s → s.number ≡ 0)
    → ((q : List ℕ) → contains_by (text_cmp q) others ≡ false) → AreIndexed [] groups others
indexed_none groups others free none = (
  (λ i j g s h e. omega (arith, free i j g s h e)),
  λ q. ap (λ b. b || contains_by (text_cmp q) others) (free_in [] groups q (slice_get groups (group_of (length groups) (hash q))) (λ g j s h e. free (group_of (length groups) (hash q)) j g s h e)) ∙ none q,
)

pub all_free : (count : ℕ) (i j : ℕ) (g : List Slot) (s : Slot) → slice_get (replicate count (replicate 8 (record { tag = 0; number = 0 }))) i ≡ Some g → slice_get g j ≡ Some s → s.number ≡ 0
all_free count i j g s h e =
    let free : Slot = record { tag = 0; number = 0 } in
    let is : g ≡ replicate 8 free = get_replicate count (replicate 8 free) i g h in
    ap (λ (t : Slot). t.number) (get_replicate 8 free j s (ap (λ (l : List Slot). slice_get l j) (sym is) ∙ e))

-- ---- a list with its index

pub kept_index : (fields now after : List QField) (f : QField) (groups more : List (List Slot)) (others over : BTreeSet (List ℕ)) → now ≡ fields → after ≡ fields ++ f ∷ [] → AreIndexed fields groups others
    → (AreIndexed now groups others → AreIndexed (now ++ f ∷ []) more over) → AreIndexed after more over
kept_index fields now after f groups more others over en ea are made =
    subst (λ (l : List QField). AreIndexed l more over) (sym ea)
    (subst (λ (l : List QField). AreIndexed (l ++ f ∷ []) more over) en (made (subst (λ (l : List QField). AreIndexed l groups others) (sym en) are)))
