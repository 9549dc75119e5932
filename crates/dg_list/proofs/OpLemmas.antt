-- What gathered operations say, and operations that stand on all that a list has.
use Rattle.std.proofs.Common.{◌≡◌, ◌∙◌, sym, ap, subst, refl, Bool, true, false, cond, List, [], ◌∷◌, ◌++◌}
use Rattle.std.specs.Prelude.{◌&&◌, ◌||◌, not, Option, Some, None, unwrap_or, is_some}
use Rattle.std.specs.Ordering.{is_eq}
use Rattle.dg_values.specs.Ascending.{Ascends, has}
use Rattle.dg_values.specs.Order.{posting_cmp}
use Rattle.dg_values.specs.declared.value.Posting.{Posting}
use Rattle.dg_values.proofs.OrderLaws.{posting_order}
use Rattle.dg_sets.proofs.Sets.{is_one, is_itself, one_list}
use Rattle.dg_delta.specs.declared.op.Op.{Op}
use Rattle.dg_delta.specs.Ops.{posting_of, op_cmp, after_ops}
use Rattle.dg_delta.specs.declared.op.Op.TheVariants.{Set, Del}
use Rattle.dg_delta.specs.Effects.{is_set, put_by_all, Says}
use Rattle.dg_delta.proofs.OpLaws.{hits, there_after, has_after, ascends_after, moved}
use Rattle.dg_list.specs.Gathered.{is_on, there_by, stand_on, stand_on_puts, stand_on_all}

-- ---- what gathered operations say

-- operations of which no two are on one posting say the same from either end
pub said_in_turn : (ops : List Op) (q : Posting) (was : Bool) → Ascends op_cmp ops → there_after ops q was ≡ there_by ops q was
said_in_turn [] q was a = refl
said_in_turn (op ∷ ops) q was a = moved op ops q was a.0 ∙ ap (cond (hits op q) (is_set op)) (said_in_turn ops q was a.1)

pub said_joined : (ops older : List Op) (q : Posting) (was : Bool) → there_by (ops ++ older) q was ≡ there_by ops q (there_by older q was)
said_joined [] older q was = refl
said_joined (op ∷ ops) older q was = ap (cond (is_on q op) (is_set op)) (said_joined ops older q was)

-- ---- operations that stand on a posting

and_left : (a b : Bool) → (a && b) ≡ true → a ≡ true
and_left true b h = refl
and_left false b h = h

pub and_right : (a b : Bool) → (a && b) ≡ true → b ≡ true
and_right true b h = h
and_right false b h = absurd (cc)

-- they decide it
pub stood_on : (ops : List Op) (q : Posting) (was : Bool) → stand_on ops q ≡ true → there_after ops q was ≡ there_after ops q false
stood_on [] q was h = absurd (cc)
stood_on (op ∷ ops) q was h = by (is_on q op) h (stood_on ops q was)
  where
    by : (v : Bool) → (v || stand_on ops q) ≡ true → (stand_on ops q ≡ true → there_after ops q was ≡ there_after ops q false) → there_after ops q (cond v (is_set op) was) ≡ there_after ops q (cond v (is_set op) false)
    by true h rest = refl
    by false h rest = rest h

-- and others leave it to itself
passed_by : (ops : List Op) (q : Posting) (was : Bool) → stand_on ops q ≡ false → there_after ops q was ≡ was
passed_by [] q was h = refl
passed_by (op ∷ ops) q was h = by (is_on q op) h (passed_by ops q was)
  where
    by : (v : Bool) → (v || stand_on ops q) ≡ false → (stand_on ops q ≡ false → there_after ops q was ≡ was) → there_after ops q (cond v (is_set op) was) ≡ was
    by true h rest = absurd (cc)
    by false h rest = rest h

-- what operations answer of a posting tells whether they stand on it
pub answer_tells : (ops : List Op) (q : Posting) (answer : Option Bool) → Says ops q answer → is_some answer ≡ stand_on ops q
answer_tells ops q answer says = by answer (stand_on ops q) (stood_on ops q true) (passed_by ops q true) (passed_by ops q false) without with_it
  where
    without : there_after ops q false ≡ unwrap_or answer false
    without = sym (has_after ops [] q) ∙ says [] tt

    one : has posting_cmp (q ∷ []) q ≡ true
    one = rw (is_itself posting_cmp posting_order q) refl

    with_it : there_after ops q true ≡ unwrap_or answer true
    with_it = ap (there_after ops q) (sym one) ∙ sym (has_after ops (q ∷ []) q) ∙ says (q ∷ []) (tt, tt) ∙ ap (unwrap_or answer) one

    by : (a : Option Bool) (v : Bool) → (v ≡ true → there_after ops q true ≡ there_after ops q false) → (v ≡ false → there_after ops q true ≡ true) → (v ≡ false → there_after ops q false ≡ false) → there_after ops q false ≡ unwrap_or a false → there_after ops q true ≡ unwrap_or a true → is_some a ≡ v
    by None true f g h e k = let s = f refl in cc
    by None false f g h e k = refl
    by (Some b) true f g h e k = refl
    by (Some b) false f g h e k = let s = g refl in let t = h refl in cc

-- ---- operations that stand on all that a list has

abbrev pub IsCovered : List Op → List Posting → Type 0
IsCovered ops xs = (q : Posting) → has posting_cmp xs q ≡ true → stand_on ops q ≡ true

pub nothing_covered : (ops : List Op) → IsCovered ops []
nothing_covered ops q h = absurd (cc)

-- they leave nothing of it
pub covered_replaced : (ops : List Op) (xs : List Posting) → Ascends posting_cmp xs → IsCovered ops xs → after_ops xs ops ≡ after_ops [] ops
covered_replaced ops xs a c =
    one_list posting_cmp posting_order (after_ops xs ops) (after_ops [] ops)
    (ascends_after ops xs a)
    (ascends_after ops [] tt)
    (λ q. has_after ops xs q ∙ by q (has posting_cmp xs q) refl ∙ sym (has_after ops [] q))
  where
    by : (q : Posting) (v : Bool) → has posting_cmp xs q ≡ v → there_after ops q v ≡ there_after ops q false
    by q true e = stood_on ops q true (c q e)
    by q false e = refl

pub all_covered : (ops : List Op) (xs : List Posting) → stand_on_all ops xs ≡ true → IsCovered ops xs
all_covered ops [] h q e = absurd (cc)
all_covered ops (x ∷ xs) h q e = by (is_eq (posting_cmp x q)) refl e (all_covered ops xs (and_right (stand_on ops x) (stand_on_all ops xs) h) q)
  where
    by : (v : Bool) → is_eq (posting_cmp x q) ≡ v → (v || has posting_cmp xs q) ≡ true → (has posting_cmp xs q ≡ true → stand_on ops q ≡ true) → stand_on ops q ≡ true
    by true p e rest = subst (λ (w : Posting). stand_on ops w ≡ true) (is_one posting_cmp posting_order x q p) (and_left (stand_on ops x) (stand_on_all ops xs) h)
    by false p e rest = rest e

from_puts : (ops others : List Op) (q : Posting) (was : Bool) → stand_on_puts ops others ≡ true → (was ≡ true → stand_on ops q ≡ true) → there_after others q was ≡ true → stand_on ops q ≡ true
from_puts ops [] q was h f e = f e
from_puts ops (o ∷ os) q was h f e =
    from_puts ops os q (cond (hits o q) (is_set o) was)
    (and_right (not (is_set o) || stand_on ops (posting_of o)) (stand_on_puts ops os) h)
    (by (hits o q) refl)
    e
  where
    put : (v : Bool) → v ≡ true → (not v || stand_on ops (posting_of o)) ≡ true → stand_on ops (posting_of o) ≡ true
    put true p h = h
    put false p h = absurd (cc)

    by : (v : Bool) → hits o q ≡ v → cond v (is_set o) was ≡ true → stand_on ops q ≡ true
    by true p k =
        subst (λ (w : Posting). stand_on ops w ≡ true) (is_one posting_cmp posting_order (posting_of o) q p)
        (put (is_set o) k (and_left (not (is_set o) || stand_on ops (posting_of o)) (stand_on_puts ops os) h))
    by false p k = f k

-- and on all that it has after others, where they stand on what these put in
pub puts_covered : (ops others : List Op) (xs : List Posting) → stand_on_puts ops others ≡ true → IsCovered ops xs → IsCovered ops (after_ops xs others)
puts_covered ops others xs h c q e = from_puts ops others q (has posting_cmp xs q) h (c q) (sym (has_after others xs q) ∙ e)

-- ---- and where nothing is left, they stand on all

pub covered_if_nothing_left : (ops : List Op) (xs : List Posting) → after_ops xs ops ≡ after_ops [] ops → IsCovered ops xs
covered_if_nothing_left ops xs e q h = by (stand_on ops q) refl
  where
    by : (v : Bool) → stand_on ops q ≡ v → v ≡ true
    by true p = refl
    by false p =
        let kept : has posting_cmp (after_ops xs ops) q ≡ true = has_after ops xs q ∙ passed_by ops q (has posting_cmp xs q) p ∙ h in
        let gone : has posting_cmp (after_ops [] ops) q ≡ false = has_after ops [] q ∙ passed_by ops q false p in
        sym gone ∙ ap (λ ys. has posting_cmp ys q) (sym e) ∙ kept

covered_rest : (ops : List Op) (x : Posting) (xs : List Posting) → IsCovered ops (x ∷ xs) → IsCovered ops xs
covered_rest ops x xs c q h = c q (or_right (is_eq (posting_cmp x q)) (has posting_cmp xs q) h)
  where
    or_right : (a b : Bool) → b ≡ true → (a || b) ≡ true
    or_right true b h = refl
    or_right false b h = h

covered_first : (ops : List Op) (x : Posting) (xs : List Posting) → IsCovered ops (x ∷ xs) → stand_on ops x ≡ true
covered_first ops x xs c = c x (ap (λ b. b || has posting_cmp xs x) (is_itself posting_cmp posting_order x))

pub all_from_covered : (ops : List Op) (xs : List Posting) → IsCovered ops xs → stand_on_all ops xs ≡ true
all_from_covered ops [] c = refl
all_from_covered ops (x ∷ xs) c = ap (λ b. b && stand_on_all ops xs) (covered_first ops x xs c) ∙ all_from_covered ops xs (covered_rest ops x xs c)

pub puts_from_covered : (ops others : List Op) → IsCovered ops (put_by_all others) → stand_on_puts ops others ≡ true
puts_from_covered ops [] c = refl
puts_from_covered ops (Set p ∷ os) c = ap (λ b. b && stand_on_puts ops os) (covered_first ops p (put_by_all os) c) ∙ puts_from_covered ops os (covered_rest ops p (put_by_all os) c)
puts_from_covered ops (Del p ∷ os) c = puts_from_covered ops os c
