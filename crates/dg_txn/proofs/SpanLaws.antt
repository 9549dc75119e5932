-- Spans of keys: where they begin, and that behind a key past the span there is none of it.
use Rattle.std.proofs.Common.{◌≡◌, ◌<◌, ◌∙◌, sym, ap, subst, refl, arith, ℕ, zero, suc, Bool, true, false, List, Option, Some, None}
use Rattle.std.specs.Prelude.{if◌then◌else◌, nat_le, IfOk, Result, Ok, Err}
use Rattle.std.proofs.lemmas.Grind.{common_steps}
use Rattle.std.specs.Cmp.{nat_cmp_is}
use Rattle.std.specs.declared.cmp.Ordering.{Ordering}
use Rattle.std.specs.declared.cmp.Ordering.TheVariants.{Less, Equal, Greater}
use Rattle.std.specs.Ordering.{nat_cmp, ordering_then, ordering_reverse, is_le}
use Rattle.dg_values.specs.Order.{IsOrder, text_cmp, value_cmp, tokenizer_cmp}
use Rattle.dg_values.specs.declared.kind.Tokenizer.{Tokenizer}
use Rattle.dg_values.specs.declared.value.Value.{Value}
use Rattle.dg_values.proofs.OrderLaws.{value_order}
use Rattle.dg_sets.proofs.MadeOrders.{nat_order, text_order, then_parts}
use Rattle.dg_tokens.proofs.TokenOrder.{tokenizer_order}
use Rattle.dg_tokens.specs.declared.tokens.IndexToken.{IndexToken}
use Rattle.dg_keys.specs.declared.key.Key.{Key}
use Rattle.dg_keys.specs.declared.key.Key.TheVariants.{Data, Index, Count, RCount}
use Rattle.dg_keys.specs.Keys.{key_cmp, field_cmp, kind_rank, pred_of}
use Rattle.dg_txn.specs.declared.span.Over.{Over}
use Rattle.dg_txn.specs.declared.span.Over.TheVariants.{Subjects, Tokens, Objects, Pointers}
use Rattle.dg_txn.specs.declared.span.Span.{Span}
use Rattle.dg_txn.specs.Spans.{below_end, value_place, number_place, field_place, rank_over, place, IsStart}

-- ---- past an end

-- what lies above one that is past x in the order, or at x and then past by what follows, is past too
then_past : {X : Type 0} (R : X → X → Ordering) → IsOrder R → (x a b : X) (u v w : Ordering) → ordering_then (R a x) u ≡ Greater → ordering_then (R a b) w ≡ Less
    → (a ≡ x → b ≡ x → u ≡ Greater → w ≡ Less → v ≡ Greater) → ordering_then (R b x) v ≡ Greater
then_past R o x a b u v w past lt last = by (R a x) refl (R a b) refl past lt
  where
    up : R x b ≡ Less → ordering_then (R b x) v ≡ Greater
    up l = ap (λ (c : Ordering). ordering_then c v) (o.antisymm b x ∙ ap ordering_reverse l)

    by : (c : Ordering) → R a x ≡ c → (d : Ordering) → R a b ≡ d → ordering_then c u ≡ Greater → ordering_then d w ≡ Less → ordering_then (R b x) v ≡ Greater
    by Less e d f p l = absurd (cc)
    by Equal e Less f p l = up (ap (λ y. R y b) (sym (o.same a x e)) ∙ f)
    by Equal e Equal f p l =
        let is : b ≡ x = sym (o.same a b f) ∙ o.same a x e in
        ap (λ (c : Ordering). ordering_then c v) (ap (λ y. R y x) is ∙ o.itself x) ∙ last (o.same a x e) is p l
    by Equal e Greater f p l = absurd (cc)
    by Greater e Less f p l = up (o.trans x a b (o.antisymm x a ∙ ap ordering_reverse e) f)
    by Greater e Equal f p l = ap (λ (c : Ordering). ordering_then c v) (ap (λ y. R y x) (sym (o.same a b f)) ∙ e)
    by Greater e Greater f p l = absurd (cc)

below_past : (high : Option Value) (v w : Value) → below_end high v ≡ Greater → value_cmp v w ≡ Less → below_end high w ≡ Greater
below_past None v w e l = absurd (cc)
below_past (Some high) v w e l = by (value_cmp v high) refl e
  where
    above : value_cmp high w ≡ Less → below_end (Some high) w ≡ Greater
    above k = ap (λ (c : Ordering). if is_le c then Equal else Greater) (value_order.antisymm w high ∙ ap ordering_reverse k)

    by : (c : Ordering) → value_cmp v high ≡ c → (if is_le c then Equal else Greater) ≡ Greater → below_end (Some high) w ≡ Greater
    by Less f g = absurd (cc)
    by Equal f g = absurd (cc)
    by Greater f g = above (value_order.trans high v w (value_order.antisymm high v ∙ ap ordering_reverse f) l)

value_past : (low high : Option Value) (v w : Value) → value_place low high v ≡ Greater → value_cmp v w ≡ Less → value_place low high w ≡ Greater
value_past None high v w e l = below_past high v w e l
value_past (Some low) high v w e l = by (value_cmp low v) refl e
  where
    from : value_cmp low w ≡ Less → below_end high v ≡ Greater → value_place (Some low) high w ≡ Greater
    from k g = ap (λ (c : Ordering). if is_le c then below_end high w else Less) k ∙ below_past high v w g l

    by : (c : Ordering) → value_cmp low v ≡ c → (if is_le c then below_end high v else Less) ≡ Greater → value_place (Some low) high w ≡ Greater
    by Less f g = from (value_order.trans low v w f l) g
    by Equal f g = from (ap (λ (x : Value). value_cmp x w) (value_order.same low v f) ∙ l) g
    by Greater f g = absurd (cc)

less_is : (n m : ℕ) → nat_cmp n m ≡ Less → n < m
less_is n m e = grind (arith, common_steps, e)

number_past : (low : ℕ) (high : Option ℕ) (n m : ℕ) → number_place low high n ≡ Greater → nat_cmp n m ≡ Less → number_place low high m ≡ Greater
number_past low None n m e l = by (nat_le low n) e
  where
    by : (b : Bool) → (if b then Equal else Less) ≡ Greater → number_place low None m ≡ Greater
    by true f = absurd (cc)
    by false f = absurd (cc)
number_past low (Some high) n m e l =
    let lt = less_is n m l in
    grind (arith, common_steps)

field_past : (over : Over) (a b : Key) → kind_rank a ≡ rank_over over → kind_rank b ≡ rank_over over → field_place over a ≡ Greater → field_cmp a b ≡ Less → field_place over b ≡ Greater
field_past (Tokens tokenizer low high) (Index p t) (Index q u) ra rb e l =
    then_past tokenizer_cmp tokenizer_order tokenizer t.tokenizer u.tokenizer (value_place low high t.value) (value_place low high u.value) (value_cmp t.value u.value) e l (λ is also f g. value_past low high t.value u.value f g)
field_past (Objects low high) (Count p n) (Count q m) ra rb e l = number_past low high n m e l
field_past (Pointers low high) (RCount p n) (RCount q m) ra rb e l = number_past low high n m e l
field_past over a b ra rb e l = absurd (first_of (cc, omega (arith, ra, rb)))

pub place_past : (span : Span) (a b : Key) → place span a ≡ Greater → key_cmp a b ≡ Less → place span b ≡ Greater
place_past span a b e l =
    then_past text_cmp text_order span.pred (pred_of a) (pred_of b) (ordering_then (nat_cmp (kind_rank a) (rank_over span.over)) (field_place span.over a)) (ordering_then (nat_cmp (kind_rank b) (rank_over span.over)) (field_place span.over b)) (ordering_then (nat_cmp (kind_rank a) (kind_rank b)) (field_cmp a b)) e l
    (λ pa pb f g.
    then_past nat_cmp nat_order (rank_over span.over) (kind_rank a) (kind_rank b) (field_place span.over a) (field_place span.over b) (field_cmp a b) f g
    (λ ra rb h k. field_past span.over a b ra rb h k))

-- ---- where they begin

-- a key of the span has its predicate and its kind
pub record IsInSpan (span : Span) (key : Key) : Type 0 where
  pub pred : pred_of key ≡ span.pred
  pub rank : kind_rank key ≡ rank_over span.over
  pub field : field_place span.over key ≡ Equal

pub in_span : (span : Span) (key : Key) → place span key ≡ Equal → IsInSpan span key
in_span span key e =
    let outer = then_parts (text_cmp (pred_of key) span.pred) (ordering_then (nat_cmp (kind_rank key) (rank_over span.over)) (field_place span.over key)) e in
    let inner = then_parts (nat_cmp (kind_rank key) (rank_over span.over)) (field_place span.over key) outer.1 in
    record { pred = text_order.same (pred_of key) span.pred outer.0; rank = nat_order.same (kind_rank key) (rank_over span.over) inner.0; field = inner.1 }

-- within a predicate keys are compared by kind and by field
within : (pred : List ℕ) (a b : Key) → pred_of a ≡ pred → pred_of b ≡ pred → key_cmp a b ≡ ordering_then (nat_cmp (kind_rank a) (kind_rank b)) (field_cmp a b)
within pred a b e f = ap (λ (c : Ordering). ordering_then c (ordering_then (nat_cmp (kind_rank a) (kind_rank b)) (field_cmp a b))) ((λ i. text_cmp (e i) (f i)) ∙ text_order.itself pred)

zero_first : (n : ℕ) → is_le (nat_cmp 0 n) ≡ true
zero_first zero = refl
zero_first (suc n) = ap is_le (sym (nat_cmp_is 0 (suc n) Less (omega arith)))

pub subjects_start : (pred : List ℕ) → IsStart (record { pred = pred; over = Subjects }) (Data pred 0)
subjects_start pred key e = of key (in_span (record { pred = pred; over = Subjects }) key e)
  where
    of : (key : Key) → IsInSpan (record { pred = pred; over = Subjects }) key → is_le (key_cmp (Data pred 0) key) ≡ true
    of (Data p s) h = ap is_le (within pred (Data pred 0) (Data p s) refl h.pred) ∙ zero_first s
    of key h = absurd (omega (arith, h.rank))

from_low : (low : ℕ) (high : Option ℕ) (n : ℕ) → number_place low high n ≡ Equal → is_le (nat_cmp low n) ≡ true
from_low low None n e = grind (arith, common_steps)
from_low low (Some high) n e = grind (arith, common_steps)

pub objects_start : (pred : List ℕ) (low : ℕ) (high : Option ℕ) → IsStart (record { pred = pred; over = Objects low high }) (Count pred low)
objects_start pred low high key e = of key (in_span (record { pred = pred; over = Objects low high }) key e)
  where
    of : (key : Key) → IsInSpan (record { pred = pred; over = Objects low high }) key → is_le (key_cmp (Count pred low) key) ≡ true
    of (Count p n) h = ap is_le (within pred (Count pred low) (Count p n) refl h.pred) ∙ from_low low high n h.field
    of key h = absurd (omega (arith, h.rank))

pub pointers_start : (pred : List ℕ) (low : ℕ) (high : Option ℕ) → IsStart (record { pred = pred; over = Pointers low high }) (RCount pred low)
pointers_start pred low high key e = of key (in_span (record { pred = pred; over = Pointers low high }) key e)
  where
    of : (key : Key) → IsInSpan (record { pred = pred; over = Pointers low high }) key → is_le (key_cmp (RCount pred low) key) ≡ true
    of (RCount p n) h = ap is_le (within pred (RCount pred low) (RCount p n) refl h.pred) ∙ from_low low high n h.field
    of key h = absurd (omega (arith, h.rank))

value_from : (low : Value) (high : Option Value) (v : Value) → value_place (Some low) high v ≡ Equal → is_le (value_cmp low v) ≡ true
value_from low high v e = by (is_le (value_cmp low v)) e
  where
    by : (b : Bool) → (if b then below_end high v else Less) ≡ Equal → b ≡ true
    by true e = refl
    by false e = absurd (cc)

pub tokens_start : (pred : List ℕ) (tokenizer : Tokenizer) (low : Value) (high : Option Value) → IsStart (record { pred = pred; over = Tokens tokenizer (Some low) high }) (Index pred (record { tokenizer = tokenizer; value = low }))
tokens_start pred tokenizer low high key e = of key (in_span (record { pred = pred; over = Tokens tokenizer (Some low) high }) key e)
  where
    first : Key
    first = Index pred (record { tokenizer = tokenizer; value = low })

    of : (key : Key) → IsInSpan (record { pred = pred; over = Tokens tokenizer (Some low) high }) key → is_le (key_cmp (Index pred (record { tokenizer = tokenizer; value = low })) key) ≡ true
    of (Index p t) h =
        let parts = then_parts (tokenizer_cmp t.tokenizer tokenizer) (value_place (Some low) high t.value) h.field in
        let same : tokenizer ≡ t.tokenizer = sym (tokenizer_order.same t.tokenizer tokenizer parts.0) in
        ap is_le (within pred (Index pred (record { tokenizer = tokenizer; value = low })) (Index p t) refl h.pred)
        ∙ (ap (λ (c : Ordering). is_le (ordering_then c (value_cmp low t.value))) (ap (λ (u : Tokenizer). tokenizer_cmp u t.tokenizer) same ∙ tokenizer_order.itself t.tokenizer)
        ∙ value_from low high t.value parts.1)
    of key h = absurd (omega (arith, h.rank))

-- a key of the predicate that is below all its keys of the tokenizer
pub below_tokens : (pred : List ℕ) (tokenizer : Tokenizer) (high : Option Value) (start : Key) → ((p : List ℕ) (t : IndexToken) → p ≡ pred → t.tokenizer ≡ tokenizer → is_le (key_cmp start (Index p t)) ≡ true) → IsStart (record { pred = pred; over = Tokens tokenizer None high }) start
below_tokens pred tokenizer high start below key e = of key (in_span (record { pred = pred; over = Tokens tokenizer None high }) key e)
  where
    of : (key : Key) → IsInSpan (record { pred = pred; over = Tokens tokenizer None high }) key → is_le (key_cmp start key) ≡ true
    of (Index p t) h = below p t h.pred (tokenizer_order.same t.tokenizer tokenizer (then_parts (tokenizer_cmp t.tokenizer tokenizer) (value_place None high t.value) h.field).0)
    of key h = absurd (omega (arith, h.rank))

pub data_below : (pred : List ℕ) (s : ℕ) (p : List ℕ) (t : IndexToken) → p ≡ pred → is_le (key_cmp (Data pred s) (Index p t)) ≡ true
data_below pred s p t e = ap is_le (within pred (Data pred s) (Index p t) refl e)

pub token_below : (pred : List ℕ) (before tokenizer : Tokenizer) (v : Value) (p : List ℕ) (t : IndexToken) → tokenizer_cmp before tokenizer ≡ Less → p ≡ pred → t.tokenizer ≡ tokenizer → is_le (key_cmp (Index pred (record { tokenizer = before; value = v })) (Index p t)) ≡ true
token_below pred before tokenizer v p t l e f =
    ap is_le (within pred (Index pred (record { tokenizer = before; value = v })) (Index p t) refl e)
    ∙ ap (λ (c : Ordering). is_le (ordering_then c (value_cmp v t.value))) (ap (tokenizer_cmp before) f ∙ l)

-- the same of a span with this predicate and these ends
pub starts : (span : Span) (p : List ℕ) (over : Over) (start : Key) → p ≡ span.pred → span.over ≡ over → IsStart (record { pred = p; over = over }) start → IsStart span start
starts span p over start e f h = subst (λ (s : Span). IsStart s start) (λ i. record { pred = e i; over = sym f i }) h

pub lower_end : (p : List ℕ) (tokenizer : Tokenizer) (low end high : Option Value) (start : Key) → low ≡ end → IsStart (record { pred = p; over = Tokens tokenizer end high }) start → IsStart (record { pred = p; over = Tokens tokenizer low high }) start
lower_end p tokenizer low end high start e h = subst (λ (l : Option Value). IsStart (record { pred = p; over = Tokens tokenizer l high }) start) (sym e) h

abbrev pub BeginsTokens : List ℕ → Tokenizer → Option Value → Key → Type 0
BeginsTokens p tokenizer low start = (high : Option Value) → IsStart (record { pred = p; over = Tokens tokenizer low high }) start

pub begun : {E : Type 0} (span : Span) (p : List ℕ) (tokenizer : Tokenizer) (low high : Option Value) (r : Result Key E) → p ≡ span.pred → span.over ≡ Tokens tokenizer low high → IfOk r (BeginsTokens p tokenizer low) → IfOk r (IsStart span)
begun span p tokenizer low high (Ok start) e f h = starts span p (Tokens tokenizer low high) start e f (h high)
begun span p tokenizer low high (Err fault) e f h = tt
