-- What an index of whole values lists is what the nodes' own objects say.
use Rattle.std.proofs.Common.{◌≡◌, ℕ, Bool, true, false, List, [], ◌∷◌, map, flat_map, fold, not, refl, ap, sym, ◌∙◌}
use Rattle.std.specs.Prelude.{◌&&◌, ◌||◌, filter, filter_map}
use Rattle.std.specs.List.{list_any, list_all}
use Rattle.std.specs.declared.cmp.Ordering.{Ordering}
use Rattle.std.specs.declared.cmp.Ordering.TheVariants.{Less, Equal, Greater}
use Rattle.std.specs.Ordering.{nat_cmp, is_eq}
use Rattle.dg_values.specs.Order.{value_cmp, posting_cmp}
use Rattle.dg_values.specs.Ascending.{ascending, has, with_one, placed}
use Rattle.dg_values.specs.declared.kind.Tokenizer.{Tokenizer}
use Rattle.dg_values.specs.declared.kind.Tokenizer.TheVariants as tokenizers
use Rattle.dg_values.specs.declared.value.Value.{Value}
use Rattle.dg_values.specs.declared.value.Value.TheVariants.{Int, Text, Bool as Truth, Time}
use Rattle.dg_values.specs.declared.value.Posting.{Posting}
use Rattle.dg_values.specs.declared.value.Posting.TheVariants.{Uid, Val}
use Rattle.dg_values.proofs.OrderLaws.{value_order}
use Rattle.dg_sets.proofs.MadeOrders.{nat_order}
use Rattle.dg_sets.proofs.Sets.{one_list, has_joined, has_passed, ascends_passed}
use Rattle.dg_tokens.specs.Tokens.{tokens_of}
use Rattle.dg_tokens.specs.Orders.{index_token_cmp}
use Rattle.dg_graph.specs.declared.change.Triple.{Triple}
use Rattle.dg_graph.specs.Graphs.{objects}
use Rattle.dg_graph.specs.Lookups.{subjects_where, holders, has_token}
use Rattle.dg_graph.proofs.Passing.{ascending_has, ascending_ascends, any_same}
use Rattle.dg_graph.proofs.LookUpLaws.{where_are, holders_ascend}
use Rattle.dg_parse.specs.declared.query.CmpOp.TheVariants as ops
use Rattle.dg_funcs.specs.Truth.{value_in, values_at, stands_to_any}
use Rattle.dg_funcs.specs.Tests.{in_value}
use Rattle.dg_funcs.specs.Equal.{token, is_filed, equal_nodes, filed_nodes}
use Rattle.dg_funcs.proofs.PassLaws.{or_false}
use Rattle.dg_funcs.proofs.TestLaws.{any_values, any_by, all_by_none}
use Rattle.dg_funcs.proofs.IndexLaws.{any_and}

-- of one value and one that is filed
whole_token : (tokenizer : Tokenizer) (x v : Value) → is_filed tokenizer v ≡ true → has index_token_cmp (tokens_of tokenizer x) (token tokenizer v) ≡ is_eq (value_cmp x v)
whole_token tokenizers.Exact (Text x) (Text v) f = or_false (is_eq (value_cmp (Text x) (Text v)))
whole_token tokenizers.Exact (Int x) (Text v) f = refl
whole_token tokenizers.Exact (Truth x) (Text v) f = refl
whole_token tokenizers.Exact (Time x) (Text v) f = refl
whole_token tokenizers.Exact x (Int v) f = absurd (cc)
whole_token tokenizers.Exact x (Truth v) f = absurd (cc)
whole_token tokenizers.Exact x (Time v) f = absurd (cc)
whole_token tokenizers.Hash (Text x) (Text v) f = or_false (is_eq (value_cmp (Text x) (Text v)))
whole_token tokenizers.Hash (Int x) (Text v) f = refl
whole_token tokenizers.Hash (Truth x) (Text v) f = refl
whole_token tokenizers.Hash (Time x) (Text v) f = refl
whole_token tokenizers.Hash x (Int v) f = absurd (cc)
whole_token tokenizers.Hash x (Truth v) f = absurd (cc)
whole_token tokenizers.Hash x (Time v) f = absurd (cc)
whole_token tokenizers.Int (Int x) (Int v) f = or_false (is_eq (value_cmp (Int x) (Int v)))
whole_token tokenizers.Int (Text x) (Int v) f = refl
whole_token tokenizers.Int (Truth x) (Int v) f = refl
whole_token tokenizers.Int (Time x) (Int v) f = refl
whole_token tokenizers.Int x (Text v) f = absurd (cc)
whole_token tokenizers.Int x (Truth v) f = absurd (cc)
whole_token tokenizers.Int x (Time v) f = absurd (cc)
whole_token tokenizers.Bool (Truth x) (Truth v) f = or_false (is_eq (value_cmp (Truth x) (Truth v)))
whole_token tokenizers.Bool (Text x) (Truth v) f = refl
whole_token tokenizers.Bool (Int x) (Truth v) f = refl
whole_token tokenizers.Bool (Time x) (Truth v) f = refl
whole_token tokenizers.Bool x (Text v) f = absurd (cc)
whole_token tokenizers.Bool x (Int v) f = absurd (cc)
whole_token tokenizers.Bool x (Time v) f = absurd (cc)
whole_token tokenizers.Term x v f = absurd (cc)
whole_token tokenizers.Trigram x v f = absurd (cc)
whole_token tokenizers.Year x v f = absurd (cc)
whole_token tokenizers.Month x v f = absurd (cc)
whole_token tokenizers.Day x v f = absurd (cc)
whole_token tokenizers.Hour x v f = absurd (cc)

-- an object has the token of a value exactly where it is the value
has_value : (tokenizer : Tokenizer) (v : Value) (o : Posting) → is_filed tokenizer v ≡ true → has_token (token tokenizer v) o ≡ in_value (λ x. is_eq (value_cmp x v)) o
has_value tokenizer v (Uid n) f = refl
has_value tokenizer v (Val x) f = whole_token tokenizer x v f

pub any_none : {X : Type 0} (xs : List X) → list_any (λ x. false) xs ≡ false
any_none [] = refl
any_none (x ∷ xs) = any_none xs

pub any_or : {X : Type 0} (f h : X → Bool) (xs : List X) → (list_any f xs || list_any h xs) ≡ list_any (λ x. f x || h x) xs
any_or f h [] = refl
any_or f h (x ∷ xs) =
    shuffled (f x) (list_any f xs) (h x) (list_any h xs) ∙ λ i. (f x || h x) || any_or f h xs i
  where
    shuffled : (a b c d : Bool) → ((a || b) || (c || d)) ≡ ((a || c) || (b || d))
    shuffled true b c d = refl
    shuffled false true true d = refl
    shuffled false true false d = refl
    shuffled false false true d = refl
    shuffled false false false d = refl

and_left : (a b : Bool) → (a && b) ≡ true → a ≡ true
and_left true b e = refl
and_left false b e = e

and_right : (a b : Bool) → (a && b) ≡ true → b ≡ true
and_right true b e = e
and_right false b e = absurd (cc)

module _ (graph : List Triple) (p : List ℕ) (tokenizer : Tokenizer) where
  one : (n : ℕ) (v : Value) → is_filed tokenizer v ≡ true → has nat_cmp (subjects_where (has_token (token tokenizer v)) graph p) n ≡ list_any (λ x. is_eq (value_cmp x v)) (values_at graph p n)
  one n v f =
      where_are (has_token (token tokenizer v)) graph p n
      ∙ (any_by (has_token (token tokenizer v)) (in_value (λ x. is_eq (value_cmp x v))) (λ o. has_value tokenizer v o f) (objects graph p n)
      ∙ any_values (λ x. is_eq (value_cmp x v)) (objects graph p n))

  each : (n : ℕ) (values : List Value) → list_all (is_filed tokenizer) values ≡ true
      → has nat_cmp (flat_map (λ v. subjects_where (has_token (token tokenizer v)) graph p) values) n ≡ list_any (stands_to_any ops.Eq values) (values_at graph p n)
  each n [] a = sym (any_none (values_at graph p n))
  each n (v ∷ values) a =
      has_joined nat_cmp nat_order (subjects_where (has_token (token tokenizer v)) graph p) (flat_map (λ v. subjects_where (has_token (token tokenizer v)) graph p) values) n
      ∙ ((λ i. one n v (and_left (is_filed tokenizer v) (list_all (is_filed tokenizer) values) a) i || each n values (and_right (is_filed tokenizer v) (list_all (is_filed tokenizer) values) a) i)
      ∙ any_or (λ x. is_eq (value_cmp x v)) (stands_to_any ops.Eq values) (values_at graph p n))

  some_value : (test : Value → Bool) (os : List Posting) → (list_any test (filter_map value_in os) && list_any (λ o. true) os) ≡ list_any test (filter_map value_in os)
  some_value test os = (λ i. sym (any_values test os) i && list_any (λ o. true) os) ∙ (any_and (in_value test) os ∙ any_values test os)

  -- the nodes that the index lists under some values have one of them
  pub filed_are_equal : (values : List Value) → list_all (is_filed tokenizer) values ≡ true → filed_nodes graph p tokenizer values ≡ equal_nodes graph p values
  filed_are_equal values a =
      one_list nat_cmp nat_order (filed_nodes graph p tokenizer values) (equal_nodes graph p values)
      (ascending_ascends nat_cmp nat_order (flat_map (λ v. subjects_where (has_token (token tokenizer v)) graph p) values))
      (ascends_passed nat_cmp nat_order test (holders graph p) (holders_ascend graph p))
      (λ n. ascending_has nat_cmp nat_order (flat_map (λ v. subjects_where (has_token (token tokenizer v)) graph p) values) n ∙ (each n values a
      ∙ (sym (some_value (stands_to_any ops.Eq values) (objects graph p n))
      ∙ ((λ i. test n && sym (where_are (λ o. true) graph p n) i)
      ∙ sym (has_passed nat_cmp nat_order test (holders graph p) n)))))
    where
      test : ℕ → Bool
      test n = list_any (stands_to_any ops.Eq values) (values_at graph p n)

-- ---- values in order, each once

with_values : (ys : List Value) (x : Value) → with_one posting_cmp (map (λ v. Val v) ys) (Val x) ≡ map (λ v. Val v) (with_one value_cmp ys x)
with_values [] x = refl
with_values (y ∷ ys) x = by (value_cmp x y) (with_values ys x)
  where
    by : (o : Ordering) → with_one posting_cmp (map (λ v. Val v) ys) (Val x) ≡ map (λ v. Val v) (with_one value_cmp ys x)
        → placed o (Val x) (Val y) (map (λ v. Val v) ys) (with_one posting_cmp (map (λ v. Val v) ys) (Val x)) ≡ map (λ v. Val v) (placed o x y ys (with_one value_cmp ys x))
    by Less e = refl
    by Equal e = refl
    by Greater e = ap (λ zs. Val y ∷ zs) e

ascending_values : (base xs : List Value) → fold (with_one posting_cmp) (map (λ v. Val v) base) (map (λ v. Val v) xs) ≡ map (λ v. Val v) (fold (with_one value_cmp) base xs)
ascending_values base [] = refl
ascending_values base (x ∷ xs) = ap (λ b. fold (with_one posting_cmp) b (map (λ v. Val v) xs)) (with_values base x) ∙ ascending_values (with_one value_cmp base x) xs

only_values : (vs : List Value) → filter_map value_in (map (λ v. Val v) vs) ≡ vs
only_values [] = refl
only_values (v ∷ vs) = ap (λ ws. v ∷ ws) (only_values vs)

-- values in order, by way of objects
pub distinct_are : (values : List Value) → filter_map value_in (ascending posting_cmp (map (λ v. Val v) values)) ≡ ascending value_cmp values
distinct_are values = ap (filter_map value_in) (ascending_values [] values) ∙ only_values (ascending value_cmp values)

-- a value is equal to one of some values exactly where it is to one of these, each once
pub stands_same : (v : Value) (values : List Value) → stands_to_any ops.Eq (ascending value_cmp values) v ≡ stands_to_any ops.Eq values v
stands_same v values = any_same value_cmp value_order (λ given. is_eq (value_cmp v given)) (ascending value_cmp values) values (λ x h. ascending_has value_cmp value_order values x)

-- each of them once asks the same
pub equal_once : (graph : List Triple) (p : List ℕ) (values : List Value) → equal_nodes graph p (ascending value_cmp values) ≡ equal_nodes graph p values
equal_once graph p values = λ i. filter (λ n. list_any (λ v. stands_same v values i) (values_at graph p n)) (holders graph p)

-- what holds of each holds of each of them once
pub all_filed : (tokenizer : Tokenizer) (values : List Value) → list_all (is_filed tokenizer) values ≡ true → list_all (is_filed tokenizer) (ascending value_cmp values) ≡ true
all_filed tokenizer values a =
    all_by_none (is_filed tokenizer) (ascending value_cmp values)
    ∙ (ap not (any_same value_cmp value_order (λ x. not (is_filed tokenizer x)) (ascending value_cmp values) values (λ x h. ascending_has value_cmp value_order values x))
    ∙ (sym (all_by_none (is_filed tokenizer) values) ∙ a))
