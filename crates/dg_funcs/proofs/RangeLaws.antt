-- Which nodes the range of an index lists.
use Rattle.std.proofs.Common.{◌≡◌, ℕ, ℤ, Bool, true, false, List, [], ◌∷◌, refl, ap, sym, subst, ◌∙◌, ◌≤ℤ◌, arith}
use Rattle.jiff_core.proofs.SignedLemmas.{signed_arith}
use Rattle.std.specs.Prelude.{◌&&◌, ◌||◌, filter, Option, Some, None}
use Rattle.std.specs.List.{list_any}
use Rattle.std.specs.declared.cmp.Ordering.{Ordering}
use Rattle.std.specs.declared.cmp.Ordering.TheVariants.{Less, Equal, Greater}
use Rattle.std.specs.Ordering.{is_le, is_ge, ordering_reverse}
use Rattle.dg_values.specs.Order.{value_cmp}
use Rattle.dg_values.specs.declared.kind.Kind.{Kind}
use Rattle.dg_values.specs.declared.kind.Kind.TheVariants as kinds
use Rattle.dg_values.specs.declared.kind.DatePart.{DatePart}
use Rattle.dg_values.specs.declared.kind.DatePart.TheVariants as parts
use Rattle.dg_values.specs.declared.kind.Tokenizer.{Tokenizer}
use Rattle.dg_values.specs.declared.kind.Tokenizer.TheVariants as tokenizers
use Rattle.dg_values.specs.declared.value.Value.{Value}
use Rattle.dg_values.specs.declared.value.Value.TheVariants.{Int, Text, Bool as Truth, Time}
use Rattle.dg_values.specs.declared.value.Posting.TheVariants.{Val}
use Rattle.dg_values.specs.Instant.{Instant, IsInstant, last_second}
use Rattle.dg_values.specs.Calendar.{truncated}
use Rattle.dg_values.proofs.OrderLaws.{value_order}
use Rattle.dg_schema.specs.declared.definition.PredDef.{PredDef}
use Rattle.dg_tokens.specs.Tokens.{one_token, tokens_of}
use Rattle.dg_graph.specs.declared.change.Triple.{Triple}
use Rattle.dg_graph.specs.Graphs.{IsLawful}
use Rattle.dg_graph.specs.Lookups.{is_from, is_up_to, has_token_between, by_token_range}
use Rattle.dg_parse.specs.declared.query.CmpOp.{CmpOp}
use Rattle.dg_check.specs.declared.parts.Of.TheVariants as part
use Rattle.dg_check.specs.declared.parts.Func.TheVariants as funcs
use Rattle.dg_check.specs.declared.vars.Variable.{Variable}
use Rattle.dg_funcs.specs.Truth.{stands, stands_to_any, is_between, holds_at}
use Rattle.dg_funcs.specs.Roots.{root_nodes}
use Rattle.dg_funcs.specs.Filed.{filed_as, IsInYears}
use Rattle.dg_funcs.specs.Kinds.{is_of_known_kind, declared_kind, keeps}
use Rattle.dg_funcs.proofs.PassLaws.{or_false}
use Rattle.dg_funcs.proofs.KindLaws.{own_token}
use Rattle.dg_funcs.proofs.NarrowLaws.{same_of_listed, same_of_fitting}
use Rattle.dg_funcs.proofs.CutLaws.{cut_in_order, secs_in_order}

-- what is filed has one token
pub one_of : (tokenizer : Tokenizer) (v w : Value) → filed_as tokenizer v ≡ Some w → tokens_of tokenizer v ≡ one_token tokenizer w
one_of tokenizers.Exact (Text t) w e = let same : Text t ≡ w = cc in ap (one_token tokenizers.Exact) same
one_of tokenizers.Exact (Int n) w e = absurd (cc)
one_of tokenizers.Exact (Truth b) w e = absurd (cc)
one_of tokenizers.Exact (Time m) w e = absurd (cc)
one_of tokenizers.Int (Int n) w e = let same : Int n ≡ w = cc in ap (one_token tokenizers.Int) same
one_of tokenizers.Int (Text t) w e = absurd (cc)
one_of tokenizers.Int (Truth b) w e = absurd (cc)
one_of tokenizers.Int (Time m) w e = absurd (cc)
one_of tokenizers.Hour (Time m) w e = let same : Time (truncated parts.Hour m) ≡ w = cc in ap (one_token tokenizers.Hour) same
one_of tokenizers.Hour (Int n) w e = absurd (cc)
one_of tokenizers.Hour (Text t) w e = absurd (cc)
one_of tokenizers.Hour (Truth b) w e = absurd (cc)
one_of tokenizers.Day (Time m) w e = let same : Time (truncated parts.Day m) ≡ w = cc in ap (one_token tokenizers.Day) same
one_of tokenizers.Day (Int n) w e = absurd (cc)
one_of tokenizers.Day (Text t) w e = absurd (cc)
one_of tokenizers.Day (Truth b) w e = absurd (cc)
one_of tokenizers.Month (Time m) w e = let same : Time (truncated parts.Month m) ≡ w = cc in ap (one_token tokenizers.Month) same
one_of tokenizers.Month (Int n) w e = absurd (cc)
one_of tokenizers.Month (Text t) w e = absurd (cc)
one_of tokenizers.Month (Truth b) w e = absurd (cc)
one_of tokenizers.Year (Time m) w e = let same : Time (truncated parts.Year m) ≡ w = cc in ap (one_token tokenizers.Year) same
one_of tokenizers.Year (Int n) w e = absurd (cc)
one_of tokenizers.Year (Text t) w e = absurd (cc)
one_of tokenizers.Year (Truth b) w e = absurd (cc)
one_of tokenizers.Hash v w e = absurd (cc)
one_of tokenizers.Term v w e = absurd (cc)
one_of tokenizers.Trigram v w e = absurd (cc)
one_of tokenizers.Bool v w e = absurd (cc)

-- a value with one token is listed where this lies between the ends
listed_by : (tokenizer : Tokenizer) (v w : Value) (low high : Option Value) → tokens_of tokenizer v ≡ one_token tokenizer w → is_from low w ≡ true → is_up_to high w ≡ true → has_token_between tokenizer low high (Val v) ≡ true
listed_by tokenizer v w low high e a b =
    ap (list_any (λ t. is_from low t.value && is_up_to high t.value)) e ∙ λ i. (a i && b i) || false

listed : (tokenizer : Tokenizer) (v w : Value) (low high : Option Value) → filed_as tokenizer v ≡ Some w → is_from low w ≡ true → is_up_to high w ≡ true → has_token_between tokenizer low high (Val v) ≡ true
listed tokenizer v w low high e a b = listed_by tokenizer v w low high (one_of tokenizer v w e) a b

-- ---- orders

turned : (o : Ordering) → is_ge (ordering_reverse o) ≡ is_le o
turned Less = refl
turned Equal = refl
turned Greater = refl

from_above : (v a : Value) → is_ge (value_cmp v a) ≡ true → is_le (value_cmp a v) ≡ true
from_above v a h = sym (ap is_ge (value_order.antisymm v a) ∙ turned (value_cmp a v)) ∙ h

and_left : (a b : Bool) → (a && b) ≡ true → a ≡ true
and_left true b e = refl
and_left false b e = e

and_right : (a b : Bool) → (a && b) ≡ true → b ≡ true
and_right true b e = e
and_right false b e = absurd (cc)

module _ (a b v : Value) (h : is_between (a ∷ b ∷ []) v ≡ true) where
  low_end : is_le (value_cmp a v) ≡ true
  low_end = from_above v a (and_left (is_ge (value_cmp v a)) (is_le (value_cmp v b)) h)

  high_end : is_le (value_cmp v b) ≡ true
  high_end = and_right (is_ge (value_cmp v a)) (is_le (value_cmp v b)) h

-- ---- between two values

exact_between : (a b v x y : Value) → filed_as tokenizers.Exact a ≡ Some x → filed_as tokenizers.Exact b ≡ Some y → is_between (a ∷ b ∷ []) v ≡ true → has_token_between tokenizers.Exact (Some x) (Some y) (Val v) ≡ true
exact_between (Text a) (Text b) (Text v) x y e f h =
    let first : Text a ≡ x = cc in
    let last : Text b ≡ y = cc in
    listed tokenizers.Exact (Text v) (Text v) (Some x) (Some y) refl
    (subst (λ (w : Value). is_le (value_cmp w (Text v)) ≡ true) first (low_end (Text a) (Text b) (Text v) h))
    (subst (λ (w : Value). is_le (value_cmp (Text v) w) ≡ true) last (high_end (Text a) (Text b) (Text v) h))
exact_between (Text a) (Text b) (Int v) x y e f h = absurd (cc)
exact_between (Text a) (Text b) (Truth v) x y e f h = absurd (cc)
exact_between (Text a) (Text b) (Time v) x y e f h = absurd (cc)
exact_between (Text a) (Int b) v x y e f h = absurd (cc)
exact_between (Text a) (Truth b) v x y e f h = absurd (cc)
exact_between (Text a) (Time b) v x y e f h = absurd (cc)
exact_between (Int a) b v x y e f h = absurd (cc)
exact_between (Truth a) b v x y e f h = absurd (cc)
exact_between (Time a) b v x y e f h = absurd (cc)

int_between : (a b v x y : Value) → filed_as tokenizers.Int a ≡ Some x → filed_as tokenizers.Int b ≡ Some y → is_between (a ∷ b ∷ []) v ≡ true → has_token_between tokenizers.Int (Some x) (Some y) (Val v) ≡ true
int_between (Int a) (Int b) (Int v) x y e f h =
    let first : Int a ≡ x = cc in
    let last : Int b ≡ y = cc in
    listed tokenizers.Int (Int v) (Int v) (Some x) (Some y) refl
    (subst (λ (w : Value). is_le (value_cmp w (Int v)) ≡ true) first (low_end (Int a) (Int b) (Int v) h))
    (subst (λ (w : Value). is_le (value_cmp (Int v) w) ≡ true) last (high_end (Int a) (Int b) (Int v) h))
int_between (Int a) (Int b) (Text v) x y e f h = absurd (cc)
int_between (Int a) (Int b) (Truth v) x y e f h = absurd (cc)
int_between (Int a) (Int b) (Time v) x y e f h = absurd (cc)
int_between (Int a) (Text b) v x y e f h = absurd (cc)
int_between (Int a) (Truth b) v x y e f h = absurd (cc)
int_between (Int a) (Time b) v x y e f h = absurd (cc)
int_between (Text a) b v x y e f h = absurd (cc)
int_between (Truth a) b v x y e f h = absurd (cc)
int_between (Time a) b v x y e f h = absurd (cc)

-- before a moment of the years 0000 to 9999
not_later : (a b : Instant) → IsInstant b → a.secs ≤ℤ b.secs → a.secs ≤ℤ last_second
not_later a b i h = omega (arith, signed_arith, i.1, h)

module _ (tokenizer : Tokenizer) (part : DatePart)
    (time : (m : Instant) → filed_as tokenizer (Time m) ≡ Some (Time (truncated part m)))
    (int : (n : ℤ) → filed_as tokenizer (Int n) ≡ None)
    (text : (t : List ℕ) → filed_as tokenizer (Text t) ≡ None)
    (truth : (b : Bool) → filed_as tokenizer (Truth b) ≡ None) where
  moment_as : (m : Instant) (x : Value) → filed_as tokenizer (Time m) ≡ Some x → Time (truncated part m) ≡ x
  moment_as m x e = let same = sym (time m) ∙ e in cc

  -- moments from another on
  date_above : (a v x : Value) → filed_as tokenizer a ≡ Some x → IsInYears a → is_le (value_cmp a v) ≡ true → has_token_between tokenizer (Some x) None (Val v) ≡ true
  date_above (Time a) (Time v) x e i h =
      listed tokenizer (Time v) (Time (truncated part v)) (Some x) None (time v)
      (subst (λ (w : Value). is_le (value_cmp w (Time (truncated part v))) ≡ true) (moment_as a x e) (cut_in_order part a v i.1 (secs_in_order a v h)))
      refl
  date_above (Time a) (Int v) x e i h = absurd (cc)
  date_above (Time a) (Text v) x e i h = absurd (cc)
  date_above (Time a) (Truth v) x e i h = absurd (cc)
  date_above (Int a) v x e i h = let no = sym (int a) ∙ e in absurd (cc)
  date_above (Text a) v x e i h = let no = sym (text a) ∙ e in absurd (cc)
  date_above (Truth a) v x e i h = let no = sym (truth a) ∙ e in absurd (cc)

  -- moments up to another
  date_below : (b : Instant) (v x : Value) → filed_as tokenizer (Time b) ≡ Some x → IsInstant b → is_of_known_kind (Some kinds.Time) v ≡ true → is_le (value_cmp v (Time b)) ≡ true → has_token_between tokenizer None (Some x) (Val v) ≡ true
  date_below b (Time v) x e i k h =
      let last = secs_in_order v b h in
      listed tokenizer (Time v) (Time (truncated part v)) None (Some x) (time v)
      refl
      (subst (λ (w : Value). is_le (value_cmp (Time (truncated part v)) w) ≡ true) (moment_as b x e) (cut_in_order part v b (not_later v b i last) last))
  date_below b (Int v) x e i k h = absurd (cc)
  date_below b (Text v) x e i k h = absurd (cc)
  date_below b (Truth v) x e i k h = absurd (cc)

  date_between : (a b v x y : Value) → filed_as tokenizer a ≡ Some x → filed_as tokenizer b ≡ Some y → IsInYears a → IsInYears b → is_between (a ∷ b ∷ []) v ≡ true → has_token_between tokenizer (Some x) (Some y) (Val v) ≡ true
  date_between (Time a) (Time b) (Time v) x y e f i j h =
      let first = secs_in_order a v (low_end (Time a) (Time b) (Time v) h) in
      let last = secs_in_order v b (high_end (Time a) (Time b) (Time v) h) in
      listed tokenizer (Time v) (Time (truncated part v)) (Some x) (Some y) (time v)
      (subst (λ (w : Value). is_le (value_cmp w (Time (truncated part v))) ≡ true) (moment_as a x e) (cut_in_order part a v i.1 first))
      (subst (λ (w : Value). is_le (value_cmp (Time (truncated part v)) w) ≡ true) (moment_as b y f) (cut_in_order part v b (not_later v b j last) last))
  date_between (Time a) (Time b) (Int v) x y e f i j h = absurd (cc)
  date_between (Time a) (Time b) (Text v) x y e f i j h = absurd (cc)
  date_between (Time a) (Time b) (Truth v) x y e f i j h = absurd (cc)
  date_between (Time a) (Int b) v x y e f i j h = let no = sym (int b) ∙ f in absurd (cc)
  date_between (Time a) (Text b) v x y e f i j h = let no = sym (text b) ∙ f in absurd (cc)
  date_between (Time a) (Truth b) v x y e f i j h = let no = sym (truth b) ∙ f in absurd (cc)
  date_between (Int a) b v x y e f i j h = let no = sym (int a) ∙ e in absurd (cc)
  date_between (Text a) b v x y e f i j h = let no = sym (text a) ∙ e in absurd (cc)
  date_between (Truth a) b v x y e f i j h = let no = sym (truth a) ∙ e in absurd (cc)

between_lists : (tokenizer : Tokenizer) (a b v x y : Value) → filed_as tokenizer a ≡ Some x → filed_as tokenizer b ≡ Some y → IsInYears a → IsInYears b → is_between (a ∷ b ∷ []) v ≡ true → has_token_between tokenizer (Some x) (Some y) (Val v) ≡ true
between_lists tokenizers.Exact a b v x y e f i j h = exact_between a b v x y e f h
between_lists tokenizers.Int a b v x y e f i j h = int_between a b v x y e f h
between_lists tokenizers.Hour a b v x y e f i j h = date_between tokenizers.Hour parts.Hour (λ m. refl) (λ n. refl) (λ t. refl) (λ b. refl) a b v x y e f i j h
between_lists tokenizers.Day a b v x y e f i j h = date_between tokenizers.Day parts.Day (λ m. refl) (λ n. refl) (λ t. refl) (λ b. refl) a b v x y e f i j h
between_lists tokenizers.Month a b v x y e f i j h = date_between tokenizers.Month parts.Month (λ m. refl) (λ n. refl) (λ t. refl) (λ b. refl) a b v x y e f i j h
between_lists tokenizers.Year a b v x y e f i j h = date_between tokenizers.Year parts.Year (λ m. refl) (λ n. refl) (λ t. refl) (λ b. refl) a b v x y e f i j h
between_lists tokenizers.Hash a b v x y e f i j h = absurd (cc)
between_lists tokenizers.Term a b v x y e f i j h = absurd (cc)
between_lists tokenizers.Trigram a b v x y e f i j h = absurd (cc)
between_lists tokenizers.Bool a b v x y e f i j h = absurd (cc)

above_lists : (tokenizer : Tokenizer) (m : Instant) (v x : Value) → filed_as tokenizer (Time m) ≡ Some x → IsInstant m → is_le (value_cmp (Time m) v) ≡ true → has_token_between tokenizer (Some x) None (Val v) ≡ true
above_lists tokenizers.Hour m v x e i h = date_above tokenizers.Hour parts.Hour (λ m. refl) (λ n. refl) (λ t. refl) (λ b. refl) (Time m) v x e i h
above_lists tokenizers.Day m v x e i h = date_above tokenizers.Day parts.Day (λ m. refl) (λ n. refl) (λ t. refl) (λ b. refl) (Time m) v x e i h
above_lists tokenizers.Month m v x e i h = date_above tokenizers.Month parts.Month (λ m. refl) (λ n. refl) (λ t. refl) (λ b. refl) (Time m) v x e i h
above_lists tokenizers.Year m v x e i h = date_above tokenizers.Year parts.Year (λ m. refl) (λ n. refl) (λ t. refl) (λ b. refl) (Time m) v x e i h
above_lists tokenizers.Exact m v x e i h = absurd (cc)
above_lists tokenizers.Int m v x e i h = absurd (cc)
above_lists tokenizers.Hash m v x e i h = absurd (cc)
above_lists tokenizers.Term m v x e i h = absurd (cc)
above_lists tokenizers.Trigram m v x e i h = absurd (cc)
above_lists tokenizers.Bool m v x e i h = absurd (cc)

below_lists : (tokenizer : Tokenizer) (m : Instant) (v x : Value) → filed_as tokenizer (Time m) ≡ Some x → IsInstant m → is_of_known_kind (Some kinds.Time) v ≡ true → is_le (value_cmp v (Time m)) ≡ true → has_token_between tokenizer None (Some x) (Val v) ≡ true
below_lists tokenizers.Hour m v x e i k h = date_below tokenizers.Hour parts.Hour (λ m. refl) (λ n. refl) (λ t. refl) (λ b. refl) m v x e i k h
below_lists tokenizers.Day m v x e i k h = date_below tokenizers.Day parts.Day (λ m. refl) (λ n. refl) (λ t. refl) (λ b. refl) m v x e i k h
below_lists tokenizers.Month m v x e i k h = date_below tokenizers.Month parts.Month (λ m. refl) (λ n. refl) (λ t. refl) (λ b. refl) m v x e i k h
below_lists tokenizers.Year m v x e i k h = date_below tokenizers.Year parts.Year (λ m. refl) (λ n. refl) (λ t. refl) (λ b. refl) m v x e i k h
below_lists tokenizers.Exact m v x e i k h = absurd (cc)
below_lists tokenizers.Int m v x e i k h = absurd (cc)
below_lists tokenizers.Hash m v x e i k h = absurd (cc)
below_lists tokenizers.Term m v x e i k h = absurd (cc)
below_lists tokenizers.Trigram m v x e i k h = absurd (cc)
below_lists tokenizers.Bool m v x e i k h = absurd (cc)

-- ---- roots

module _ (graph : List Triple) (p : List ℕ) (vars : List Variable) (kind : Option Kind) where
  pub between_root : (tokenizer : Tokenizer) (a b x y : Value) → filed_as tokenizer a ≡ Some x → filed_as tokenizer b ≡ Some y → IsInYears a → IsInYears b
      → filter (λ n. holds_at graph vars n (funcs.Between (part.Pred p) kind (a ∷ b ∷ []))) (by_token_range graph p tokenizer (Some x) (Some y)) ≡ root_nodes graph vars (funcs.Between (part.Pred p) kind (a ∷ b ∷ []))
  between_root tokenizer a b x y e f i j =
      same_of_listed graph p (is_between (a ∷ b ∷ [])) (has_token_between tokenizer (Some x) (Some y)) (λ v h. between_lists tokenizer a b v x y e f i j h)

  pub after_root : (op : CmpOp) → ((o : Ordering) → stands op o ≡ true → is_ge o ≡ true) → (tokenizer : Tokenizer) (m : Instant) (x : Value) → filed_as tokenizer (Time m) ≡ Some x → IsInstant m
      → filter (λ n. holds_at graph vars n (funcs.Cmp op (part.Pred p) kind (Time m ∷ []))) (by_token_range graph p tokenizer (Some x) None) ≡ root_nodes graph vars (funcs.Cmp op (part.Pred p) kind (Time m ∷ []))
  after_root op above tokenizer m x e i =
      same_of_listed graph p (stands_to_any op (Time m ∷ [])) (has_token_between tokenizer (Some x) None)
      (λ v h. above_lists tokenizer m v x e i (from_above v (Time m) (above (value_cmp v (Time m)) (sym (or_false (stands op (value_cmp v (Time m)))) ∙ h))))

  pub before_root : (schema : List PredDef) → IsLawful schema graph → declared_kind schema p ≡ Some kinds.Time → (op : CmpOp) → ((o : Ordering) → stands op o ≡ true → is_le o ≡ true) → (tokenizer : Tokenizer) (m : Instant) (x : Value) → filed_as tokenizer (Time m) ≡ Some x → IsInstant m
      → filter (λ n. holds_at graph vars n (funcs.Cmp op (part.Pred p) kind (Time m ∷ []))) (by_token_range graph p tokenizer None (Some x)) ≡ root_nodes graph vars (funcs.Cmp op (part.Pred p) kind (Time m ∷ []))
  before_root schema lawful moments op below tokenizer m x e i =
      same_of_fitting graph p schema lawful (stands_to_any op (Time m ∷ [])) (has_token_between tokenizer None (Some x))
      (λ v k h. below_lists tokenizer m v x e i (subst (λ (o : Option Kind). is_of_known_kind o v ≡ true) moments k) (below (value_cmp v (Time m)) (sym (or_false (stands op (value_cmp v (Time m)))) ∙ h)))

  -- by an index that lists the values of a lawful graph under themselves
  module _ (schema : List PredDef) (lawful : IsLawful schema graph) (tokenizer : Tokenizer) (own : keeps tokenizer (declared_kind schema p) ≡ true) (op : CmpOp) (a : Value) where
    stands_so : (v : Value) → stands_to_any op (a ∷ []) v ≡ true → stands op (value_cmp v a) ≡ true
    stands_so v h = sym (or_false (stands op (value_cmp v a))) ∙ h

    pub below_root : ((o : Ordering) → stands op o ≡ true → is_le o ≡ true)
        → filter (λ n. holds_at graph vars n (funcs.Cmp op (part.Pred p) kind (a ∷ []))) (by_token_range graph p tokenizer None (Some a)) ≡ root_nodes graph vars (funcs.Cmp op (part.Pred p) kind (a ∷ []))
    below_root below =
        same_of_fitting graph p schema lawful (stands_to_any op (a ∷ [])) (has_token_between tokenizer None (Some a))
        (λ v k h. listed_by tokenizer v v None (Some a) (own_token tokenizer (declared_kind schema p) v own k) refl (below (value_cmp v a) (stands_so v h)))

    pub above_root : ((o : Ordering) → stands op o ≡ true → is_ge o ≡ true)
        → filter (λ n. holds_at graph vars n (funcs.Cmp op (part.Pred p) kind (a ∷ []))) (by_token_range graph p tokenizer (Some a) None) ≡ root_nodes graph vars (funcs.Cmp op (part.Pred p) kind (a ∷ []))
    above_root above =
        same_of_fitting graph p schema lawful (stands_to_any op (a ∷ [])) (has_token_between tokenizer (Some a) None)
        (λ v k h. listed_by tokenizer v v (Some a) None (own_token tokenizer (declared_kind schema p) v own k) (from_above v a (above (value_cmp v a) (stands_so v h))) refl)
