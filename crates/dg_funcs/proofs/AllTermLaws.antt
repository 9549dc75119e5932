-- A node whose text has some terms is listed under each of them.
use Rattle.std.proofs.Common.{◌≡◌, ℕ, nat_le, Bool, true, false, List, [], ◌∷◌, map, length, drop, take, get_or, ◌≤◌, ◌-◌, refl, ap, sym, ◌∙◌, arith}
use Rattle.std.specs.Prelude.{◌&&◌, filter}
use Rattle.std.specs.List.{list_any, list_all}
use Rattle.std.proofs.lemmas.List.{take_all}
use Rattle.std.specs.Ordering.{nat_cmp}
use Rattle.dg_values.specs.Order.{text_cmp}
use Rattle.dg_values.specs.Ascending.{Ascends, ascending, has}
use Rattle.dg_values.specs.declared.kind.Tokenizer.{Tokenizer}
use Rattle.dg_values.specs.declared.kind.Tokenizer.TheVariants as tokenizers
use Rattle.dg_values.specs.declared.value.Value.{Value}
use Rattle.dg_values.specs.declared.value.Value.TheVariants.{Text}
use Rattle.dg_sets.proofs.MadeOrders.{nat_order, text_order}
use Rattle.dg_sets.proofs.Sets.{has_passed, ascends_passed, any_at}
use Rattle.dg_tokens.specs.Terms.{terms_of}
use Rattle.dg_graph.specs.declared.change.Triple.{Triple}
use Rattle.dg_graph.specs.Lookups.{has_token, holders}
use Rattle.dg_graph.proofs.Passing.{passing, ascending_has}
use Rattle.dg_graph.proofs.LookUpLaws.{where_ascend, holders_ascend}
use Rattle.dg_check.specs.declared.parts.Func.TheVariants as funcs
use Rattle.dg_check.specs.declared.vars.Variable.{Variable}
use Rattle.dg_funcs.specs.Truth.{texts_at, values_at, has_terms, holds_at}
use Rattle.dg_funcs.specs.Tests.{of_text}
use Rattle.dg_funcs.specs.Equal.{token}
use Rattle.dg_funcs.specs.Listed.{under, is_under, under_all}
use Rattle.dg_funcs.specs.Roots.{root_nodes}
use Rattle.dg_funcs.proofs.TestLaws.{any_of_texts, has_terms_ascending}
use Rattle.dg_funcs.proofs.TermLaws.{one}
use Rattle.dg_funcs.proofs.NarrowLaws.{narrowed, holds_some}

and_left : (a b : Bool) → (a && b) ≡ true → a ≡ true
and_left true b e = refl
and_left false b e = e

and_right : (a b : Bool) → (a && b) ≡ true → b ≡ true
and_right true b e = e
and_right false b e = absurd (cc)

pub under_all_ascend : (graph : List Triple) (p : List ℕ) (tokenizer : Tokenizer) (vs : List Value) → Ascends nat_cmp (under_all graph p tokenizer vs)
under_all_ascend graph p tokenizer [] = tt
under_all_ascend graph p tokenizer (v ∷ vs) =
    ascends_passed nat_cmp nat_order (λ n. list_all (is_under graph p tokenizer n) vs) (under graph p tokenizer v) (where_ascend (has_token (token tokenizer v)) graph p)

drop_none : {X : Type 0} (xs : List X) → drop 0 xs ≡ xs
drop_none [] = refl
drop_none (x ∷ xs) = refl

-- the first value, and those behind it
pub under_split : (graph : List Triple) (p : List ℕ) (tokenizer : Tokenizer) (vs : List Value) (first : Value) → 1 ≤ length vs → first ≡ get_or vs 0 first
    → filter (λ n. list_all (is_under graph p tokenizer n) (take (length vs - 1) (drop 1 vs))) (under graph p tokenizer first) ≡ under_all graph p tokenizer vs
under_split graph p tokenizer [] first h e = absurd (omega arith)
under_split graph p tokenizer (v ∷ vs) first h e =
    let whole : take (length (v ∷ vs) - 1) (drop 1 (v ∷ vs)) ≡ vs = take_all (length (v ∷ vs) - 1) (drop 1 (v ∷ vs)) (omega (arith, ap length (drop_none vs))) ∙ drop_none vs in
    λ i. filter (λ n. list_all (is_under graph p tokenizer n) (whole i)) (under graph p tokenizer (e i))

-- terms that are asked once each ask the same
pub asked_once : (asked terms : List (List ℕ)) → has_terms true (ascending text_cmp asked) terms ≡ has_terms true asked terms
asked_once asked terms =
    (λ i. list_all (λ t. sym (ascending_has text_cmp text_order terms t) i) (ascending text_cmp asked) && nat_le 1 (length (ascending text_cmp asked)))
    ∙ has_terms_ascending true asked terms

module _ (graph : List Triple) (p : List ℕ) where
  -- under each of the terms that one of its texts has
  each_term : (n : ℕ) (t : List ℕ) → has text_cmp (texts_at graph p n) t ≡ true → (asked : List (List ℕ)) → list_all (has text_cmp (terms_of t)) asked ≡ true
      → list_all (is_under graph p tokenizers.Term n) (map (λ a. Text a) asked) ≡ true
  each_term n t there [] e = refl
  each_term n t there (a ∷ asked) e =
      let here : is_under graph p tokenizers.Term n (Text a) ≡ true =
      one graph p n a ∙ any_at text_cmp text_order (λ s. has text_cmp (terms_of s) a) (texts_at graph p n) t (and_left (has text_cmp (terms_of t) a) (list_all (has text_cmp (terms_of t)) asked) e) there in
      let rest = each_term n t there asked (and_right (has text_cmp (terms_of t) a) (list_all (has text_cmp (terms_of t)) asked) e) in
      λ i. here i && rest i

  -- and so it is among those that all of them list
  pub under_terms_has : (n : ℕ) (t : List ℕ) → has text_cmp (texts_at graph p n) t ≡ true → (asked : List (List ℕ)) → has_terms true asked (terms_of t) ≡ true
      → has nat_cmp (under_all graph p tokenizers.Term (map (λ a. Text a) asked)) n ≡ true
  under_terms_has n t there [] e = absurd (cc)
  under_terms_has n t there (a ∷ asked) e =
      let all = each_term n t there (a ∷ asked) (and_left (list_all (has text_cmp (terms_of t)) (a ∷ asked)) (nat_le 1 (length (a ∷ asked))) e) in
      has_passed nat_cmp nat_order (λ m. list_all (is_under graph p tokenizers.Term m) (map (λ b. Text b) asked)) (under graph p tokenizers.Term (Text a)) n
      ∙ λ i. and_right (is_under graph p tokenizers.Term n (Text a)) (list_all (is_under graph p tokenizers.Term n) (map (λ b. Text b) asked)) all i
      && and_left (is_under graph p tokenizers.Term n (Text a)) (list_all (is_under graph p tokenizers.Term n) (map (λ b. Text b) asked)) all i

  pub all_terms_root : (vars : List Variable) (text : List ℕ)
      → filter (λ n. holds_at graph vars n (funcs.Terms true p text)) (under_all graph p tokenizers.Term (map (λ a. Text a) (ascending text_cmp (terms_of text)))) ≡ root_nodes graph vars (funcs.Terms true p text)
  all_terms_root vars text =
      narrowed test (under_all graph p tokenizers.Term (map (λ a. Text a) (ascending text_cmp (terms_of text)))) (holders graph p)
      (under_all_ascend graph p tokenizers.Term (map (λ a. Text a) (ascending text_cmp (terms_of text))))
      (holders_ascend graph p)
      (λ n e. let s = passing text_cmp text_order (λ t. has_terms true (terms_of text) (terms_of t)) (texts_at graph p n) e in
      under_terms_has n s.it s.there (ascending text_cmp (terms_of text)) (same s.it ∙ s.passes))
      (λ n e. holds_some graph p (of_text (λ t. has_terms true (terms_of text) (terms_of t))) n (any_of_texts (λ t. has_terms true (terms_of text) (terms_of t)) (values_at graph p n) ∙ e))
    where
      test : ℕ → Bool
      test n = list_any (λ t. has_terms true (terms_of text) (terms_of t)) (texts_at graph p n)

      same : (t : List ℕ) → has_terms true (ascending text_cmp (terms_of text)) (terms_of t) ≡ has_terms true (terms_of text) (terms_of t)
      same t = asked_once (terms_of text) (terms_of t)
