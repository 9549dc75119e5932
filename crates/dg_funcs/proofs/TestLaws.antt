-- Tests of values are tests of objects.
use Rattle.std.proofs.Common.{◌≡◌, ℕ, ◌+◌, ◌<◌, length, take, get_or, Bool, true, false, List, [], ◌∷◌, map, not, refl, ap, sym, ◌∙◌}
use Rattle.std.specs.Prelude.{◌&&◌, ◌||◌, filter_map}
use Rattle.std.specs.List.{list_any, list_all}
use Rattle.std.proofs.lemmas.List.{take_more}
use Rattle.std.specs.Ordering.{nat_cmp}
use Rattle.dg_values.specs.Order.{text_cmp, value_cmp, posting_cmp}
use Rattle.dg_values.specs.Ascending.{ascending, has}
use Rattle.dg_values.specs.declared.value.Value.{Value}
use Rattle.dg_values.specs.declared.value.Value.TheVariants.{Int, Text, Bool as Truth, Time}
use Rattle.dg_values.specs.declared.value.Posting.{Posting}
use Rattle.dg_values.specs.declared.value.Posting.TheVariants.{Uid, Val}
use Rattle.dg_values.proofs.OrderLaws.{value_order, posting_order}
use Rattle.dg_values.specs.declared.kind.Tokenizer.TheVariants as tokenizers
use Rattle.dg_sets.proofs.MadeOrders.{text_order}
use Rattle.dg_sets.proofs.Sets.{eq_turn}
use Rattle.dg_tokens.specs.Terms.{terms_of}
use Rattle.dg_tokens.specs.Tokens.{text_tokens, tokens_of}
use Rattle.dg_graph.specs.Lookups.{node_in}
use Rattle.dg_graph.proofs.Passing.{ascending_has, any_same, some_ascending}
use Rattle.dg_parse.specs.declared.query.CmpOp.TheVariants as ops
use Rattle.dg_funcs.proofs.PassLaws.{any_one}
use Rattle.dg_funcs.specs.Truth.{value_in, text_in, stands_to_any, has_terms}
use Rattle.dg_funcs.specs.Tests.{in_value, of_text, in_text, is_node_among, as_objects, token_text, value_terms}

-- a test of the values among objects
pub any_values : (test : Value → Bool) (os : List Posting) → list_any (in_value test) os ≡ list_any test (filter_map value_in os)
any_values test [] = refl
any_values test (Uid n ∷ os) = any_values test os
any_values test (Val v ∷ os) = ap (λ b. test v || b) (any_values test os)

-- a test of the texts among values
pub any_of_texts : (test : List ℕ → Bool) (vs : List Value) → list_any (of_text test) vs ≡ list_any test (filter_map text_in vs)
any_of_texts test [] = refl
any_of_texts test (Text t ∷ vs) = ap (λ b. test t || b) (any_of_texts test vs)
any_of_texts test (Int n ∷ vs) = any_of_texts test vs
any_of_texts test (Truth b ∷ vs) = any_of_texts test vs
any_of_texts test (Time m ∷ vs) = any_of_texts test vs

-- a test of the texts among objects
pub any_texts : (test : List ℕ → Bool) (os : List Posting) → list_any (in_text test) os ≡ list_any test (filter_map text_in (filter_map value_in os))
any_texts test os = any_values (of_text test) os ∙ any_of_texts test (filter_map value_in os)

-- a test of the nodes among objects
pub any_nodes : (nodes : List ℕ) (os : List Posting) → list_any (is_node_among nodes) os ≡ list_any (has nat_cmp nodes) (filter_map node_in os)
any_nodes nodes [] = refl
any_nodes nodes (Uid n ∷ os) = ap (λ b. has nat_cmp nodes n || b) (any_nodes nodes os)
any_nodes nodes (Val v ∷ os) = any_nodes nodes os

pub any_by : {X : Type 0} (f g : X → Bool) → ((x : X) → f x ≡ g x) → (xs : List X) → list_any f xs ≡ list_any g xs
any_by f g e [] = refl
any_by f g e (x ∷ xs) = λ i. e x i || any_by f g e xs i

-- a value among values, as objects
has_values : (values : List Value) (v : Value) → has posting_cmp (map (λ v. Val v) values) (Val v) ≡ stands_to_any ops.Eq values v
has_values [] v = refl
has_values (x ∷ values) v = λ i. eq_turn value_cmp value_order x v i || has_values values v i

-- a node is among no values
has_no_node : (values : List Value) (n : ℕ) → has posting_cmp (map (λ v. Val v) values) (Uid n) ≡ false
has_no_node [] n = refl
has_no_node (x ∷ values) n = has_no_node values n

asked_is : (values : List Value) (o : Posting) → has posting_cmp (as_objects values) o ≡ in_value (stands_to_any ops.Eq values) o
asked_is values (Uid n) = ascending_has posting_cmp posting_order (map (λ v. Val v) values) (Uid n) ∙ has_no_node values n
asked_is values (Val v) = ascending_has posting_cmp posting_order (map (λ v. Val v) values) (Val v) ∙ has_values values v

-- some object is asked for exactly where it is equal to one of the values
pub any_asked_is : (values : List Value) (os : List Posting) → list_any (has posting_cmp (as_objects values)) os ≡ list_any (in_value (stands_to_any ops.Eq values)) os
any_asked_is values os = any_by (has posting_cmp (as_objects values)) (in_value (stands_to_any ops.Eq values)) (asked_is values) os

-- a text token's text
pub token_texts : (texts : List (List ℕ)) → filter_map token_text (text_tokens tokenizers.Term texts) ≡ ascending text_cmp texts
token_texts texts = each (ascending text_cmp texts)
  where
    each : (xs : List (List ℕ)) → filter_map token_text (map (λ text. record { tokenizer = tokenizers.Term; value = Text text }) xs) ≡ xs
    each [] = refl
    each (x ∷ xs) = ap (λ ys. x ∷ ys) (each xs)

-- the tokens of a value by terms, as texts
pub term_texts : (v : Value) → filter_map token_text (tokens_of tokenizers.Term v) ≡ ascending text_cmp (value_terms v)
term_texts (Text t) = token_texts (terms_of t)
term_texts (Int n) = refl
term_texts (Truth b) = refl
term_texts (Time m) = refl

pub all_by_none : {X : Type 0} (f : X → Bool) (xs : List X) → list_all f xs ≡ not (list_any (λ x. not (f x)) xs)
all_by_none f [] = refl
all_by_none f (x ∷ xs) = by (f x) (all_by_none f xs)
  where
    by : (b : Bool) → list_all f xs ≡ not (list_any (λ x. not (f x)) xs) → (b && list_all f xs) ≡ not (not b || list_any (λ x. not (f x)) xs)
    by true e = e
    by false e = refl

-- terms in order and each once, on both sides
pub has_terms_ascending : (all : Bool) (asked terms : List (List ℕ)) → has_terms all (ascending text_cmp asked) (ascending text_cmp terms) ≡ has_terms all asked terms
has_terms_ascending true asked terms =
    λ i. each i && some_ascending text_cmp text_order asked i
  where
    each : list_all (has text_cmp (ascending text_cmp terms)) (ascending text_cmp asked) ≡ list_all (has text_cmp terms) asked
    each =
        (λ i. list_all (λ t. ascending_has text_cmp text_order terms t i) (ascending text_cmp asked))
        ∙ (all_by_none (has text_cmp terms) (ascending text_cmp asked)
        ∙ (ap not (any_same text_cmp text_order (λ t. not (has text_cmp terms t)) (ascending text_cmp asked) asked (λ t h. ascending_has text_cmp text_order asked t))
        ∙ sym (all_by_none (has text_cmp terms) asked)))
has_terms_ascending false asked terms =
    (λ i. list_any (λ t. ascending_has text_cmp text_order terms t i) (ascending text_cmp asked))
    ∙ any_same text_cmp text_order (has text_cmp terms) (ascending text_cmp asked) asked (λ t h. ascending_has text_cmp text_order asked t)

-- where none passed so far, and the next doesn't, none passes so far
pub none_more_so_far : {X : Type 0} (f : X → Bool) (xs : List X) (i : ℕ) (x : X) → i < length xs → x ≡ get_or xs i x → list_any f (take i xs) ≡ false → f x ≡ false → list_any f (take (i + 1) xs) ≡ false
none_more_so_far f xs i x lt is e here =
    ap (list_any f) (take_more xs i x lt) ∙ (any_one f (take i xs) (get_or xs i x) ∙ λ j. e j || (ap f (sym is) ∙ here) j)
