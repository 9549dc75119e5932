-- What an index of terms lists is what the nodes' own texts say.
use Rattle.std.proofs.Common.{◌≡◌, ℕ, Bool, true, false, List, [], ◌∷◌, map, flat_map, refl, ap, sym, ◌∙◌}
use Rattle.std.specs.Prelude.{◌&&◌, ◌||◌, filter}
use Rattle.std.specs.List.{list_any}
use Rattle.std.specs.Ordering.{nat_cmp, is_eq}
use Rattle.dg_values.specs.Order.{text_cmp}
use Rattle.dg_values.specs.Ascending.{ascending, has}
use Rattle.dg_values.specs.declared.kind.Tokenizer.TheVariants as tokenizers
use Rattle.dg_values.specs.declared.value.Value.TheVariants.{Int, Text, Bool as Truth, Time}
use Rattle.dg_values.specs.declared.value.Posting.{Posting}
use Rattle.dg_values.specs.declared.value.Posting.TheVariants.{Uid, Val}
use Rattle.dg_sets.proofs.MadeOrders.{nat_order, text_order}
use Rattle.dg_sets.proofs.Sets.{one_list, has_joined, has_passed, ascends_passed}
use Rattle.dg_tokens.specs.Terms.{terms_of}
use Rattle.dg_tokens.specs.Orders.{index_token_cmp}
use Rattle.dg_graph.specs.declared.change.Triple.{Triple}
use Rattle.dg_graph.specs.Graphs.{objects}
use Rattle.dg_graph.specs.Lookups.{subjects_where, holders, has_token}
use Rattle.dg_graph.proofs.Passing.{ascending_has, ascending_ascends, any_same}
use Rattle.dg_graph.proofs.LookUpLaws.{where_are, holders_ascend}
use Rattle.dg_check.specs.declared.parts.Func.TheVariants as funcs
use Rattle.dg_check.specs.declared.vars.Variable.{Variable}
use Rattle.dg_funcs.specs.Truth.{texts_at}
use Rattle.dg_funcs.specs.Roots.{root_nodes}
use Rattle.dg_funcs.specs.Tests.{in_text}
use Rattle.dg_funcs.specs.Equal.{token, filed_nodes}
use Rattle.dg_funcs.proofs.TestLaws.{any_texts, any_by}
use Rattle.dg_funcs.proofs.IndexLaws.{any_and}
use Rattle.dg_funcs.proofs.EqualLaws.{any_none, any_or}

among_tokens : (a : List ℕ) (xs : List (List ℕ)) → has index_token_cmp (map (λ text. record { tokenizer = tokenizers.Term; value = Text text }) xs) (token tokenizers.Term (Text a)) ≡ has text_cmp xs a
among_tokens a [] = refl
among_tokens a (x ∷ xs) = ap (λ b. is_eq (text_cmp x a) || b) (among_tokens a xs)

-- an object has the token of a term exactly where its text has the term
has_term : (a : List ℕ) (o : Posting) → has_token (token tokenizers.Term (Text a)) o ≡ in_text (λ t. has text_cmp (terms_of t) a) o
has_term a (Uid n) = refl
has_term a (Val (Text t)) = among_tokens a (ascending text_cmp (terms_of t)) ∙ ascending_has text_cmp text_order (terms_of t) a
has_term a (Val (Int n)) = refl
has_term a (Val (Truth b)) = refl
has_term a (Val (Time m)) = refl

module _ (graph : List Triple) (p : List ℕ) where
  pub one : (n : ℕ) (a : List ℕ) → has nat_cmp (subjects_where (has_token (token tokenizers.Term (Text a))) graph p) n ≡ list_any (λ t. has text_cmp (terms_of t) a) (texts_at graph p n)
  one n a =
      where_are (has_token (token tokenizers.Term (Text a))) graph p n
      ∙ (any_by (has_token (token tokenizers.Term (Text a))) (in_text (λ t. has text_cmp (terms_of t) a)) (has_term a) (objects graph p n)
      ∙ any_texts (λ t. has text_cmp (terms_of t) a) (objects graph p n))

  each : (n : ℕ) (asked : List (List ℕ))
      → has nat_cmp (flat_map (λ v. subjects_where (has_token (token tokenizers.Term v)) graph p) (map (λ t. Text t) asked)) n ≡ list_any (λ t. list_any (has text_cmp (terms_of t)) asked) (texts_at graph p n)
  each n [] = sym (any_none (texts_at graph p n))
  each n (a ∷ asked) =
      has_joined nat_cmp nat_order (subjects_where (has_token (token tokenizers.Term (Text a))) graph p) (flat_map (λ v. subjects_where (has_token (token tokenizers.Term v)) graph p) (map (λ t. Text t) asked)) n
      ∙ ((λ i. one n a i || each n asked i)
      ∙ any_or (λ t. has text_cmp (terms_of t) a) (λ t. list_any (has text_cmp (terms_of t)) asked) (texts_at graph p n))

  some_text : (test : List ℕ → Bool) (n : ℕ) → (list_any test (texts_at graph p n) && list_any (λ o. true) (objects graph p n)) ≡ list_any test (texts_at graph p n)
  some_text test n = (λ i. sym (any_texts test (objects graph p n)) i && list_any (λ o. true) (objects graph p n)) ∙ (any_and (in_text test) (objects graph p n) ∙ any_texts test (objects graph p n))

  -- the nodes that the index lists under some terms have a text with one of them
  listed_are_any : (asked : List (List ℕ)) → filed_nodes graph p tokenizers.Term (map (λ t. Text t) asked) ≡ filter (λ n. list_any (λ t. list_any (has text_cmp (terms_of t)) asked) (texts_at graph p n)) (holders graph p)
  listed_are_any asked =
      one_list nat_cmp nat_order (filed_nodes graph p tokenizers.Term (map (λ t. Text t) asked)) (filter test (holders graph p))
      (ascending_ascends nat_cmp nat_order (flat_map (λ v. subjects_where (has_token (token tokenizers.Term v)) graph p) (map (λ t. Text t) asked)))
      (ascends_passed nat_cmp nat_order test (holders graph p) (holders_ascend graph p))
      (λ n. ascending_has nat_cmp nat_order (flat_map (λ v. subjects_where (has_token (token tokenizers.Term v)) graph p) (map (λ t. Text t) asked)) n ∙ (each n asked
      ∙ (sym (some_text (λ t. list_any (has text_cmp (terms_of t)) asked) n)
      ∙ ((λ i. test n && sym (where_are (λ o. true) graph p n) i)
      ∙ sym (has_passed nat_cmp nat_order test (holders graph p) n)))))
    where
      test : ℕ → Bool
      test n = list_any (λ t. list_any (has text_cmp (terms_of t)) asked) (texts_at graph p n)

  asked_once : (asked : List (List ℕ)) (t : List ℕ) → list_any (has text_cmp (terms_of t)) (ascending text_cmp asked) ≡ list_any (has text_cmp (terms_of t)) asked
  asked_once asked t = any_same text_cmp text_order (has text_cmp (terms_of t)) (ascending text_cmp asked) asked (λ x h. ascending_has text_cmp text_order asked x)

  -- the same of the terms of a text, each once
  pub any_term_root : (vars : List Variable) (text : List ℕ) → filed_nodes graph p tokenizers.Term (map (λ t. Text t) (ascending text_cmp (terms_of text))) ≡ root_nodes graph vars (funcs.Terms false p text)
  any_term_root vars text =
      listed_are_any (ascending text_cmp (terms_of text))
      ∙ λ i. filter (λ n. list_any (λ t. asked_once (terms_of text) t i) (texts_at graph p n)) (holders graph p)
