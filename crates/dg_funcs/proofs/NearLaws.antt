-- What is equal to a value is filed as it is.
use Rattle.std.proofs.Common.{◌≡◌, ℕ, nat_le, Bool, true, false, List, [], ◌∷◌, map, flat_map, length, refl, ap, sym, subst, ◌∙◌, arith}
use Rattle.std.proofs.lemmas.Bool.{le-leb, eqb-false}
use Rattle.std.specs.Prelude.{◌&&◌, ◌||◌, ◌==◌, filter, filter_map, Option, Some}
use Rattle.std.specs.List.{list_any, list_all}
use Rattle.std.specs.declared.cmp.Ordering.{Ordering}
use Rattle.std.specs.Ordering.{nat_cmp, is_eq}
use Rattle.dg_values.specs.Order.{IsOrder, text_cmp, value_cmp}
use Rattle.dg_values.specs.Ascending.{ascending, has}
use Rattle.dg_values.specs.declared.kind.Kind.{Kind}
use Rattle.dg_values.specs.declared.kind.Tokenizer.{Tokenizer}
use Rattle.dg_values.specs.declared.value.Value.{Value}
use Rattle.dg_values.specs.declared.value.Value.TheVariants.{Int, Text, Bool as Truth, Time}
use Rattle.dg_values.specs.declared.value.Posting.TheVariants.{Val}
use Rattle.dg_values.proofs.OrderLaws.{value_order}
use Rattle.dg_sets.proofs.MadeOrders.{nat_order, text_order}
use Rattle.dg_sets.proofs.Sets.{is_one, is_itself, any_at}
use Rattle.dg_tokens.specs.Terms.{terms_of}
use Rattle.dg_tokens.specs.Orders.{index_token_cmp}
use Rattle.dg_tokens.proofs.TokenOrder.{index_token_order}
use Rattle.dg_graph.specs.declared.change.Triple.{Triple}
use Rattle.dg_graph.specs.Lookups.{has_token}
use Rattle.dg_graph.proofs.Passing.{passing, ascending_has, ascending_ascends, some_ascending}
use Rattle.dg_parse.specs.declared.query.CmpOp.TheVariants as ops
use Rattle.dg_check.specs.declared.parts.Of.TheVariants as part
use Rattle.dg_check.specs.declared.parts.Func.TheVariants as funcs
use Rattle.dg_check.specs.declared.vars.Variable.{Variable}
use Rattle.dg_funcs.specs.Truth.{text_in, values_at, stands_to_any, has_terms, holds_at}
use Rattle.dg_funcs.specs.Tests.{of_text}
use Rattle.dg_funcs.specs.Equal.{token, filed_nodes}
use Rattle.dg_funcs.specs.Filed.{filed_as}
use Rattle.dg_funcs.specs.Listed.{under, lacks_terms, under_terms, under_any_terms}
use Rattle.dg_funcs.specs.Roots.{root_nodes}
use Rattle.dg_funcs.proofs.PassLaws.{or_true}
use Rattle.dg_funcs.proofs.IndexLaws.{flat_has}
use Rattle.dg_funcs.proofs.TestLaws.{any_by, any_of_texts}
use Rattle.dg_funcs.proofs.AllTermLaws.{asked_once, under_terms_has}
use Rattle.dg_funcs.proofs.NarrowLaws.{listed_with, same_of_values}
use Rattle.dg_funcs.proofs.RangeLaws.{one_of}

-- a test that none passes, one of them doesn't
none_of : (values : List Value) (given : Value) → list_any lacks_terms values ≡ false → has value_cmp values given ≡ true → lacks_terms given ≡ false
none_of values given none h = by (lacks_terms given) refl
  where
    by : (b : Bool) → lacks_terms given ≡ b → b ≡ false
    by true e = let some = any_at value_cmp value_order lacks_terms values given e h in absurd (cc)
    by false e = refl

module _ {X : Type 0} (cmp : X → X → Ordering) (order : IsOrder cmp) (f : X → Bool) where
  -- what holds of each holds of all
  all_of : (xs : List X) → ((x : X) → has cmp xs x ≡ true → f x ≡ true) → list_all f xs ≡ true
  all_of [] g = refl
  all_of (y ∷ ys) g =
      let here : f y ≡ true = g y (λ i. is_itself cmp order y i || has cmp ys y) in
      let rest : list_all f ys ≡ true = all_of ys (λ x h. g x (or_true (is_eq (cmp y x)) (has cmp ys x) h)) in
      λ i. here i && rest i

module _ (graph : List Triple) (p : List ℕ) where
  -- one of some values that a node has
  record Shared (values : List Value) (n : ℕ) : Type 0 where
    given : Value
    asked : has value_cmp values given ≡ true
    there : has value_cmp (values_at graph p n) given ≡ true

  shared : (values : List Value) (n : ℕ) → list_any (stands_to_any ops.Eq values) (values_at graph p n) ≡ true → Shared values n
  shared values n e =
      let v = passing value_cmp value_order (stands_to_any ops.Eq values) (values_at graph p n) e in
      let g = passing value_cmp value_order (λ given. is_eq (value_cmp v.it given)) values v.passes in
      record {
        given = g.it;
        asked = g.there;
        there = subst (λ (x : Value). has value_cmp (values_at graph p n) x ≡ true) (is_one value_cmp value_order v.it g.it g.passes) v.there;
      }

  -- ---- by terms

  some_terms : (terms : List (List ℕ)) → (length (ascending text_cmp terms) == 0) ≡ false → nat_le 1 (length terms) ≡ true
  some_terms terms e =
      sym (some_ascending text_cmp text_order terms) ∙ le-leb 1 (length (ascending text_cmp terms)) (omega (arith, eqb-false (length (ascending text_cmp terms)) 0 e))

  text_there : (t : List ℕ) (vs : List Value) → has value_cmp vs (Text t) ≡ has text_cmp (filter_map text_in vs) t
  text_there t vs = any_by (λ v. is_eq (value_cmp v (Text t))) (of_text (λ s. is_eq (text_cmp s t))) same vs ∙ any_of_texts (λ s. is_eq (text_cmp s t)) vs
    where
      same : (v : Value) → is_eq (value_cmp v (Text t)) ≡ of_text (λ s. is_eq (text_cmp s t)) v
      same (Text s) = refl
      same (Int k) = refl
      same (Truth b) = refl
      same (Time m) = refl

  own_terms : (terms : List (List ℕ)) → nat_le 1 (length terms) ≡ true → has_terms true (ascending text_cmp terms) terms ≡ true
  own_terms terms some =
      let all : list_all (has text_cmp terms) terms ≡ true = all_of text_cmp text_order (has text_cmp terms) terms (λ x h. h) in
      asked_once terms terms ∙ λ i. all i && some i

  under_own : (n : ℕ) (given : Value) → lacks_terms given ≡ false → has value_cmp (values_at graph p n) given ≡ true → has nat_cmp (under_terms graph p given) n ≡ true
  under_own n (Text t) some there =
      under_terms_has graph p n t (sym (text_there t (values_at graph p n)) ∙ there) (ascending text_cmp (terms_of t)) (own_terms (terms_of t) (some_terms (terms_of t) some))
  under_own n (Int k) some there = absurd (cc)
  under_own n (Truth b) some there = absurd (cc)
  under_own n (Time m) some there = absurd (cc)

  pub equal_terms_root : (vars : List Variable) (kind : Option Kind) (values : List Value) → list_any lacks_terms values ≡ false
      → filter (λ n. holds_at graph vars n (funcs.Cmp ops.Eq (part.Pred p) kind values)) (under_any_terms graph p values) ≡ root_nodes graph vars (funcs.Cmp ops.Eq (part.Pred p) kind values)
  equal_terms_root vars kind values none =
      same_of_values graph p (stands_to_any ops.Eq values) (under_any_terms graph p values)
      (ascending_ascends nat_cmp nat_order (flat_map (under_terms graph p) values))
      (λ n e. let s = shared values n e in
      ascending_has nat_cmp nat_order (flat_map (under_terms graph p) values) n
      ∙ (flat_has (under_terms graph p) values n
      ∙ any_at value_cmp value_order (λ v. has nat_cmp (under_terms graph p v) n) values s.given (under_own n s.given (none_of values s.given none s.asked) s.there) s.asked))

  -- ---- by one token each

  -- what a value is filed as, among those of all
  record FiledAs (tokenizer : Tokenizer) (given : Value) (ws : List Value) : Type 0 where
    filed : Value
    is : filed_as tokenizer given ≡ Some filed
    among : has value_cmp ws filed ≡ true

  filed_among : (tokenizer : Tokenizer) (values ws : List Value) (given : Value) → map (λ w. Some w) ws ≡ map (filed_as tokenizer) values → has value_cmp values given ≡ true → FiledAs tokenizer given ws
  filed_among tokenizer [] ws given e h = absurd (cc)
  filed_among tokenizer (v ∷ vs) [] given e h = absurd (cc)
  filed_among tokenizer (v ∷ vs) (w ∷ ws) given e h = by (is_eq (value_cmp v given)) refl h (filed_among tokenizer vs ws given later)
    where
      here : Some w ≡ filed_as tokenizer v
      here = cc

      later : map (λ w. Some w) ws ≡ map (filed_as tokenizer) vs
      later = cc

      by : (b : Bool) → is_eq (value_cmp v given) ≡ b → (b || has value_cmp vs given) ≡ true → (has value_cmp vs given ≡ true → FiledAs tokenizer given ws) → FiledAs tokenizer given (w ∷ ws)
      by true q h rest = record {
        filed = w;
        is = subst (λ (x : Value). filed_as tokenizer x ≡ Some w) (is_one value_cmp value_order v given q) (sym here);
        among = λ i. is_itself value_cmp value_order w i || has value_cmp ws w;
      }
      by false q h rest =
          let r = rest h in
          record { filed = r.filed; is = r.is; among = or_true (is_eq (value_cmp w r.filed)) (has value_cmp ws r.filed) r.among }

  under_filed : (tokenizer : Tokenizer) (n : ℕ) (given w : Value) → filed_as tokenizer given ≡ Some w → has value_cmp (values_at graph p n) given ≡ true → has nat_cmp (under graph p tokenizer w) n ≡ true
  under_filed tokenizer n given w e there =
      listed_with graph p (λ v. is_eq (value_cmp v given)) (has_token (token tokenizer w))
      (λ v h. subst (λ (x : Value). has_token (token tokenizer w) (Val x) ≡ true) (sym (is_one value_cmp value_order v given h)) own) n there
    where
      own : has_token (token tokenizer w) (Val given) ≡ true
      own = ap (λ ts. has index_token_cmp ts (token tokenizer w)) (one_of tokenizer given w e) ∙ λ i. is_itself index_token_cmp index_token_order (token tokenizer w) i || false

  pub equal_filed_root : (vars : List Variable) (kind : Option Kind) (tokenizer : Tokenizer) (values ws : List Value) → map (λ w. Some w) ws ≡ map (filed_as tokenizer) values
      → filter (λ n. holds_at graph vars n (funcs.Cmp ops.Eq (part.Pred p) kind values)) (filed_nodes graph p tokenizer (ascending value_cmp ws)) ≡ root_nodes graph vars (funcs.Cmp ops.Eq (part.Pred p) kind values)
  equal_filed_root vars kind tokenizer values ws same =
      same_of_values graph p (stands_to_any ops.Eq values) (filed_nodes graph p tokenizer (ascending value_cmp ws))
      (ascending_ascends nat_cmp nat_order (flat_map (under graph p tokenizer) (ascending value_cmp ws)))
      (λ n e. let s = shared values n e in let f = filed_among tokenizer values ws s.given same s.asked in
      ascending_has nat_cmp nat_order (flat_map (under graph p tokenizer) (ascending value_cmp ws)) n
      ∙ (flat_has (under graph p tokenizer) (ascending value_cmp ws) n
      ∙ any_at value_cmp value_order (λ v. has nat_cmp (under graph p tokenizer v) n) (ascending value_cmp ws) f.filed (under_filed tokenizer n s.given f.filed f.is s.there) (ascending_has value_cmp value_order ws f.filed ∙ f.among)))
