-- The orders of tokens, keys and conflict keys are total, and equal by them are only the same.
use Rattle.std.proofs.Common.{◌≡◌, ℕ, zero, suc, List, Option, Some, None, pos, refl, sym, ap, ◌∙◌, subst, true≢false}
use Rattle.std.specs.declared.cmp.Ordering.{Ordering}
use Rattle.std.specs.declared.cmp.Ordering.TheVariants.{Less, Equal, Greater}
use Rattle.std.specs.Cmp.{IsTotalOrder}
use Rattle.std.specs.Ordering.{nat_cmp, ordering_then, ordering_reverse, is_lt, is_eq}
use Rattle.dg_values.specs.Order.{IsOrder, text_cmp, posting_cmp}
use Rattle.dg_values.specs.declared.kind.Tokenizer.TheVariants as tokenizers
use Rattle.dg_values.specs.declared.value.Value.TheVariants as values
use Rattle.dg_values.specs.declared.value.Posting.{Posting}
use Rattle.dg_values.proofs.OrderLaws.{posting_order}
use Rattle.dg_sets.proofs.MadeOrders.{nat_order, text_order, then_order, by_order, total_from}
use Rattle.dg_tokens.specs.declared.tokens.IndexToken.{IndexToken}
use Rattle.dg_keys.specs.declared.key.Key.{Key}
use Rattle.dg_keys.specs.declared.key.Key.TheVariants as keys
use Rattle.dg_keys.specs.declared.conflict.ConflictKey.{ConflictKey}
use Rattle.dg_keys.specs.declared.conflict.ConflictKey.TheVariants.{Data, Index, Count, RCount}
use Rattle.dg_tokens.specs.Orders.{index_token_cmp}
use Rattle.dg_tokens.proofs.TokenOrder.{index_token_order}
use Rattle.dg_keys.specs.Keys.{key_cmp, pred_of, kind_rank, field_cmp}
use Rattle.dg_keys.specs.Conflicts.{option_cmp, conflict_cmp, conflict_rank}

-- ---- tools

-- something, and something more
record Both (A B : Type 0) : Type 0 where
  first : A
  rest : B

-- by the first, and then by the rest
abbrev both_cmp : {A B : Type 0} → (A → A → Ordering) → (B → B → Ordering) → Both A B → Both A B → Ordering
both_cmp R S x y = ordering_then (R x.first y.first) (S x.rest y.rest)

both_order : {A B : Type 0} (R : A → A → Ordering) (S : B → B → Ordering) → IsOrder R → IsOrder S → IsOrder (both_cmp R S)
both_order {A} {B} R S r s = then_order (λ (x : Both A B). x.first) (λ (x : Both A B). x.rest) R S r s (λ x y p q i. record { first = p i; rest = q i })

then_equal : (r : Ordering) → ordering_then r Equal ≡ r
then_equal Less = refl
then_equal Equal = refl
then_equal Greater = refl

equal_is_not_less : Equal ≡ Less → ⊥
equal_is_not_less e = true≢false (ap is_eq e)

greater_is_not_less : Greater ≡ Less → ⊥
greater_is_not_less e = true≢false (sym (ap is_lt e))

less_is_not_equal : Less ≡ Equal → ⊥
less_is_not_equal e = true≢false (ap is_lt e)

greater_is_not_equal : Greater ≡ Equal → ⊥
greater_is_not_equal e = true≢false (sym (ap is_eq e))

-- ---- none before some

option_antisymm : {X : Type 0} (cmp : X → X → Ordering) → IsOrder cmp → (a b : Option X) → option_cmp cmp a b ≡ ordering_reverse (option_cmp cmp b a)
option_antisymm cmp o None None = refl
option_antisymm cmp o None (Some y) = refl
option_antisymm cmp o (Some x) None = refl
option_antisymm cmp o (Some x) (Some y) = o.antisymm x y

option_trans : {X : Type 0} (cmp : X → X → Ordering) → IsOrder cmp → (a b c : Option X) → option_cmp cmp a b ≡ Less → option_cmp cmp b c ≡ Less → option_cmp cmp a c ≡ Less
option_trans cmp o None None c p q = absurd (equal_is_not_less p)
option_trans cmp o None (Some y) None p q = absurd (greater_is_not_less q)
option_trans cmp o None (Some y) (Some z) p q = refl
option_trans cmp o (Some x) None c p q = absurd (greater_is_not_less p)
option_trans cmp o (Some x) (Some y) None p q = absurd (greater_is_not_less q)
option_trans cmp o (Some x) (Some y) (Some z) p q = o.trans x y z p q

option_same : {X : Type 0} (cmp : X → X → Ordering) → IsOrder cmp → (a b : Option X) → option_cmp cmp a b ≡ Equal → a ≡ b
option_same cmp o None None e = refl
option_same cmp o None (Some y) e = absurd (less_is_not_equal e)
option_same cmp o (Some x) None e = absurd (greater_is_not_equal e)
option_same cmp o (Some x) (Some y) e = ap (λ w. Some w) (o.same x y e)

option_itself : {X : Type 0} (cmp : X → X → Ordering) → IsOrder cmp → (a : Option X) → option_cmp cmp a a ≡ Equal
option_itself cmp o None = refl
option_itself cmp o (Some x) = o.itself x

-- nothing comes first, and then what is there in its order
pub option_order : {X : Type 0} (cmp : X → X → Ordering) → IsOrder cmp → IsOrder (option_cmp cmp)
option_order cmp o = record { antisymm = option_antisymm cmp o; trans = option_trans cmp o; same = option_same cmp o; itself = option_itself cmp o }

-- stands for the token of a key that has none
abbrev no_token : IndexToken
no_token = record { tokenizer = tokenizers.Exact; value = values.Int (pos 0) }

-- ---- keys of lists, by predicate, kind, number and token

abbrev number_in : Key → ℕ
number_in (keys.Data p n) = n
number_in (keys.Index p t) = 0
number_in (keys.Reverse p n) = n
number_in (keys.Count p n) = n
number_in (keys.RCount p n) = n

abbrev token_in : Key → IndexToken
token_in (keys.Data p n) = no_token
token_in (keys.Index p t) = t
token_in (keys.Reverse p n) = no_token
token_in (keys.Count p n) = no_token
token_in (keys.RCount p n) = no_token

abbrev KeyParts : Type 0
KeyParts = Both (List ℕ) (Both ℕ (Both ℕ IndexToken))

abbrev key_parts : Key → KeyParts
key_parts k = record { first = pred_of k; rest = record { first = kind_rank k; rest = record { first = number_in k; rest = token_in k } } }

-- the key of a predicate, kind, number and token
key_made : List ℕ → ℕ → ℕ → IndexToken → Key
key_made p zero n t = keys.RCount p n
key_made p (suc zero) n t = keys.Data p n
key_made p (suc (suc zero)) n t = keys.Index p t
key_made p (suc (suc (suc zero))) n t = keys.Reverse p n
key_made p (suc (suc (suc (suc zero)))) n t = keys.Count p n
key_made p (suc (suc (suc (suc (suc r))))) n t = keys.RCount p n

abbrev key_from : KeyParts → Key
key_from x = key_made x.first x.rest.first x.rest.rest.first x.rest.rest.rest

from_key_parts : (k : Key) → key_from (key_parts k) ≡ k
unfolding key_made
from_key_parts (keys.Data p n) = refl
from_key_parts (keys.Index p t) = refl
from_key_parts (keys.Reverse p n) = refl
from_key_parts (keys.Count p n) = refl
from_key_parts (keys.RCount p n) = refl

same_key_parts : (a b : Key) → key_parts a ≡ key_parts b → a ≡ b
same_key_parts a b e = sym (from_key_parts a) ∙ (ap key_from e ∙ from_key_parts b)

abbrev key_parts_cmp : KeyParts → KeyParts → Ordering
key_parts_cmp = both_cmp text_cmp (both_cmp nat_cmp (both_cmp nat_cmp index_token_cmp))

key_parts_order : IsOrder key_parts_cmp
key_parts_order = both_order text_cmp (both_cmp nat_cmp (both_cmp nat_cmp index_token_cmp)) text_order (both_order nat_cmp (both_cmp nat_cmp index_token_cmp) nat_order (both_order nat_cmp index_token_cmp nat_order index_token_order))

-- what decides within a predicate
fields_by_parts : (a b : Key) → ordering_then (nat_cmp (kind_rank a) (kind_rank b)) (ordering_then (nat_cmp (number_in a) (number_in b)) (index_token_cmp (token_in a) (token_in b))) ≡ ordering_then (nat_cmp (kind_rank a) (kind_rank b)) (field_cmp a b)
fields_by_parts (keys.Data p a) (keys.Data q b) = then_equal (nat_cmp a b)
fields_by_parts (keys.Data p a) (keys.Index q b) = refl
fields_by_parts (keys.Data p a) (keys.Reverse q b) = refl
fields_by_parts (keys.Data p a) (keys.Count q b) = refl
fields_by_parts (keys.Data p a) (keys.RCount q b) = refl
fields_by_parts (keys.Index p a) (keys.Data q b) = refl
fields_by_parts (keys.Index p a) (keys.Index q b) = refl
fields_by_parts (keys.Index p a) (keys.Reverse q b) = refl
fields_by_parts (keys.Index p a) (keys.Count q b) = refl
fields_by_parts (keys.Index p a) (keys.RCount q b) = refl
fields_by_parts (keys.Reverse p a) (keys.Data q b) = refl
fields_by_parts (keys.Reverse p a) (keys.Index q b) = refl
fields_by_parts (keys.Reverse p a) (keys.Reverse q b) = then_equal (nat_cmp a b)
fields_by_parts (keys.Reverse p a) (keys.Count q b) = refl
fields_by_parts (keys.Reverse p a) (keys.RCount q b) = refl
fields_by_parts (keys.Count p a) (keys.Data q b) = refl
fields_by_parts (keys.Count p a) (keys.Index q b) = refl
fields_by_parts (keys.Count p a) (keys.Reverse q b) = refl
fields_by_parts (keys.Count p a) (keys.Count q b) = then_equal (nat_cmp a b)
fields_by_parts (keys.Count p a) (keys.RCount q b) = refl
fields_by_parts (keys.RCount p a) (keys.Data q b) = refl
fields_by_parts (keys.RCount p a) (keys.Index q b) = refl
fields_by_parts (keys.RCount p a) (keys.Reverse q b) = refl
fields_by_parts (keys.RCount p a) (keys.Count q b) = refl
fields_by_parts (keys.RCount p a) (keys.RCount q b) = then_equal (nat_cmp a b)

key_by_parts : (a b : Key) → key_parts_cmp (key_parts a) (key_parts b) ≡ key_cmp a b
key_by_parts a b = ap (λ r. ordering_then (text_cmp (pred_of a) (pred_of b)) r) (fields_by_parts a b)

-- the order of keys of lists
pub key_order : IsOrder key_cmp
key_order = subst IsOrder (λ i a b. key_by_parts a b i) (by_order key_parts key_parts_cmp key_parts_order same_key_parts)

-- the same in std's words
pub key_total : IsTotalOrder key_cmp
key_total = total_from key_cmp key_order

-- ---- conflict keys, by kind, predicate, node, token, object and subject

abbrev conflict_pred : ConflictKey → List ℕ
conflict_pred (Data p s o) = p
conflict_pred (Index p t s) = p
conflict_pred (Count p s) = p
conflict_pred (RCount p o) = p

abbrev conflict_node : ConflictKey → ℕ
conflict_node (Data p s o) = s
conflict_node (Index p t s) = 0
conflict_node (Count p s) = s
conflict_node (RCount p o) = o

abbrev conflict_token : ConflictKey → IndexToken
conflict_token (Data p s o) = no_token
conflict_token (Index p t s) = t
conflict_token (Count p s) = no_token
conflict_token (RCount p o) = no_token

abbrev conflict_object : ConflictKey → Option Posting
conflict_object (Data p s o) = o
conflict_object (Index p t s) = None
conflict_object (Count p s) = None
conflict_object (RCount p o) = None

abbrev conflict_subject : ConflictKey → Option ℕ
conflict_subject (Data p s o) = None
conflict_subject (Index p t s) = s
conflict_subject (Count p s) = None
conflict_subject (RCount p o) = None

abbrev LastParts : Type 0
LastParts = Both IndexToken (Both (Option Posting) (Option ℕ))

abbrev ConflictParts : Type 0
ConflictParts = Both ℕ (Both (List ℕ) (Both ℕ LastParts))

abbrev conflict_parts : ConflictKey → ConflictParts
conflict_parts k = record { first = conflict_rank k; rest = record { first = conflict_pred k; rest = record { first = conflict_node k; rest = record { first = conflict_token k; rest = record { first = conflict_object k; rest = conflict_subject k } } } } }

-- the key of a kind, predicate, node, token, object and subject
conflict_made : ℕ → List ℕ → ℕ → IndexToken → Option Posting → Option ℕ → ConflictKey
conflict_made zero p n t o s = Data p n o
conflict_made (suc zero) p n t o s = Index p t s
conflict_made (suc (suc zero)) p n t o s = Count p n
conflict_made (suc (suc (suc r))) p n t o s = RCount p n

abbrev conflict_from : ConflictParts → ConflictKey
conflict_from x = conflict_made x.first x.rest.first x.rest.rest.first x.rest.rest.rest.first x.rest.rest.rest.rest.first x.rest.rest.rest.rest.rest

from_conflict_parts : (k : ConflictKey) → conflict_from (conflict_parts k) ≡ k
unfolding conflict_made
from_conflict_parts (Data p s o) = refl
from_conflict_parts (Index p t s) = refl
from_conflict_parts (Count p s) = refl
from_conflict_parts (RCount p o) = refl

same_conflict_parts : (a b : ConflictKey) → conflict_parts a ≡ conflict_parts b → a ≡ b
same_conflict_parts a b e = sym (from_conflict_parts a) ∙ (ap conflict_from e ∙ from_conflict_parts b)

abbrev last_parts_cmp : LastParts → LastParts → Ordering
last_parts_cmp = both_cmp index_token_cmp (both_cmp (option_cmp posting_cmp) (option_cmp nat_cmp))

last_parts_order : IsOrder last_parts_cmp
last_parts_order = both_order index_token_cmp (both_cmp (option_cmp posting_cmp) (option_cmp nat_cmp)) index_token_order (both_order (option_cmp posting_cmp) (option_cmp nat_cmp) (option_order posting_cmp posting_order) (option_order nat_cmp nat_order))

abbrev conflict_parts_cmp : ConflictParts → ConflictParts → Ordering
conflict_parts_cmp = both_cmp nat_cmp (both_cmp text_cmp (both_cmp nat_cmp last_parts_cmp))

conflict_parts_order : IsOrder conflict_parts_cmp
conflict_parts_order = both_order nat_cmp (both_cmp text_cmp (both_cmp nat_cmp last_parts_cmp)) nat_order (both_order text_cmp (both_cmp nat_cmp last_parts_cmp) text_order (both_order nat_cmp last_parts_cmp nat_order last_parts_order))

conflict_by_parts : (a b : ConflictKey) → conflict_parts_cmp (conflict_parts a) (conflict_parts b) ≡ conflict_cmp a b
conflict_by_parts (Data p s o) (Data q t r) = ap (λ w. ordering_then (text_cmp p q) (ordering_then (nat_cmp s t) w)) (then_equal (option_cmp posting_cmp o r))
conflict_by_parts (Data p s o) (Index q t r) = refl
conflict_by_parts (Data p s o) (Count q t) = refl
conflict_by_parts (Data p s o) (RCount q t) = refl
conflict_by_parts (Index p s o) (Data q t r) = refl
conflict_by_parts (Index p t s) (Index q u r) = refl
conflict_by_parts (Index p s o) (Count q t) = refl
conflict_by_parts (Index p s o) (RCount q t) = refl
conflict_by_parts (Count p s) (Data q t r) = refl
conflict_by_parts (Count p s) (Index q t r) = refl
conflict_by_parts (Count p s) (Count q t) = ap (λ w. ordering_then (text_cmp p q) w) (then_equal (nat_cmp s t))
conflict_by_parts (Count p s) (RCount q t) = refl
conflict_by_parts (RCount p s) (Data q t r) = refl
conflict_by_parts (RCount p s) (Index q t r) = refl
conflict_by_parts (RCount p s) (Count q t) = refl
conflict_by_parts (RCount p s) (RCount q t) = ap (λ w. ordering_then (text_cmp p q) w) (then_equal (nat_cmp s t))

-- the order of conflict keys
pub conflict_order : IsOrder conflict_cmp
conflict_order = subst IsOrder (λ i a b. conflict_by_parts a b i) (by_order conflict_parts conflict_parts_cmp conflict_parts_order same_conflict_parts)

-- the same in std's words
pub conflict_total : IsTotalOrder conflict_cmp
conflict_total = total_from conflict_cmp conflict_order
