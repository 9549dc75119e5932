-- Sets of nodes of which a function is asked: one that has each node at which it holds serves as well as all.
use Rattle.std.proofs.Common.{◌≡◌, ℕ, Bool, true, false, List, [], ◌∷◌, refl, sym, ◌∙◌}
use Rattle.std.specs.Prelude.{◌&&◌, ◌||◌, filter}
use Rattle.std.specs.List.{list_any}
use Rattle.std.specs.Ordering.{nat_cmp}
use Rattle.dg_values.specs.Ascending.{Ascends, has}
use Rattle.dg_values.specs.declared.value.Value.{Value}
use Rattle.dg_values.specs.declared.value.Posting.{Posting}
use Rattle.dg_values.specs.declared.value.Posting.TheVariants.{Uid, Val}
use Rattle.dg_schema.specs.declared.definition.PredDef.{PredDef}
use Rattle.dg_sets.proofs.MadeOrders.{nat_order}
use Rattle.dg_sets.proofs.Sets.{one_list, has_passed, ascends_passed}
use Rattle.dg_graph.specs.declared.change.Triple.{Triple}
use Rattle.dg_graph.specs.Graphs.{objects, IsLawful}
use Rattle.dg_graph.specs.Lookups.{subjects_where, holders}
use Rattle.dg_graph.proofs.LookUpLaws.{where_are, where_ascend, holders_ascend}
use Rattle.dg_funcs.specs.Truth.{values_at}
use Rattle.dg_funcs.specs.Tests.{in_value}
use Rattle.dg_funcs.specs.Kinds.{is_of_known_kind, declared_kind}
use Rattle.dg_funcs.proofs.TestLaws.{any_values}
use Rattle.dg_funcs.proofs.KindLaws.{any_where, values_fit}

-- of two ascending lists that both have each node that passes, the same nodes pass
pub narrowed : (test : ℕ → Bool) (some all : List ℕ) → Ascends nat_cmp some → Ascends nat_cmp all
    → ((n : ℕ) → test n ≡ true → has nat_cmp some n ≡ true) → ((n : ℕ) → test n ≡ true → has nat_cmp all n ≡ true) → filter test some ≡ filter test all
narrowed test some all a b f g =
    one_list nat_cmp nat_order (filter test some) (filter test all)
    (ascends_passed nat_cmp nat_order test some a)
    (ascends_passed nat_cmp nat_order test all b)
    (λ n. has_passed nat_cmp nat_order test some n ∙ (by n (test n) refl ∙ sym (has_passed nat_cmp nat_order test all n)))
  where
    by : (n : ℕ) (v : Bool) → test n ≡ v → (v && has nat_cmp some n) ≡ (v && has nat_cmp all n)
    by n true e = f n e ∙ sym (g n e)
    by n false e = refl

-- what passes a test passes any that is passed by all that pass it
pub any_more : {X : Type 0} (f g : X → Bool) → ((x : X) → f x ≡ true → g x ≡ true) → (xs : List X) → list_any f xs ≡ true → list_any g xs ≡ true
any_more f g h [] e = absurd (cc)
any_more f g h (x ∷ xs) e = by (f x) refl e (any_more f g h xs)
  where
    left : (b c : Bool) → b ≡ true → (b || c) ≡ true
    left true c p = refl
    left false c p = absurd (cc)

    right : (b c : Bool) → c ≡ true → (b || c) ≡ true
    right true c p = refl
    right false c p = p

    by : (v : Bool) → f x ≡ v → (v || list_any f xs) ≡ true → (list_any f xs ≡ true → list_any g xs ≡ true) → (g x || list_any g xs) ≡ true
    by true p e rest = left (g x) (list_any g xs) (h x p)
    by false p e rest = right (g x) (list_any g xs) (rest e)

and_right : (a b : Bool) → (a && b) ≡ true → b ≡ true
and_right true b e = e
and_right false b e = absurd (cc)

module _ (graph : List Triple) (p : List ℕ) where
  -- a node with a value that passes is listed by each test of objects that such a value passes
  pub listed_with : (test : Value → Bool) (listed : Posting → Bool) → ((v : Value) → test v ≡ true → listed (Val v) ≡ true)
      → (n : ℕ) → list_any test (values_at graph p n) ≡ true → has nat_cmp (subjects_where listed graph p) n ≡ true
  listed_with test listed f n e =
      where_are listed graph p n ∙ any_more (in_value test) listed lift (objects graph p n) (any_values test (objects graph p n) ∙ e)
    where
      lift : (o : Posting) → in_value test o ≡ true → listed o ≡ true
      lift (Uid m) h = absurd (cc)
      lift (Val v) h = f v h

  -- such a node has an object
  pub holds_some : (test : Value → Bool) (n : ℕ) → list_any test (values_at graph p n) ≡ true → has nat_cmp (holders graph p) n ≡ true
  holds_some test n e = listed_with test (λ o. true) (λ v h. refl) n e

  -- so of an ascending list that has all of these, the same pass as of all nodes with an object
  pub same_of_values : (test : Value → Bool) (some : List ℕ) → Ascends nat_cmp some
      → ((n : ℕ) → list_any test (values_at graph p n) ≡ true → has nat_cmp some n ≡ true)
      → filter (λ n. list_any test (values_at graph p n)) some ≡ filter (λ n. list_any test (values_at graph p n)) (holders graph p)
  same_of_values test some a f =
      narrowed (λ n. list_any test (values_at graph p n)) some (holders graph p) a (holders_ascend graph p) f (holds_some test)

  -- and so of the nodes that a test of objects lists
  pub same_of_listed : (test : Value → Bool) (listed : Posting → Bool) → ((v : Value) → test v ≡ true → listed (Val v) ≡ true)
      → filter (λ n. list_any test (values_at graph p n)) (subjects_where listed graph p) ≡ filter (λ n. list_any test (values_at graph p n)) (holders graph p)
  same_of_listed test listed f =
      same_of_values test (subjects_where listed graph p) (where_ascend listed graph p) (listed_with test listed f)

  -- in a lawful graph it has to list those of the predicate's kind alone
  pub same_of_fitting : (schema : List PredDef) → IsLawful schema graph → (test : Value → Bool) (listed : Posting → Bool)
      → ((v : Value) → is_of_known_kind (declared_kind schema p) v ≡ true → test v ≡ true → listed (Val v) ≡ true)
      → filter (λ n. list_any test (values_at graph p n)) (subjects_where listed graph p) ≡ filter (λ n. list_any test (values_at graph p n)) (holders graph p)
  same_of_fitting schema lawful test listed f =
      same_of_values test (subjects_where listed graph p) (where_ascend listed graph p)
      (λ n e. listed_with (λ v. test v && listed (Val v)) listed (λ v h. and_right (test v) (listed (Val v)) h) n
      (sym (any_where (λ v. is_of_known_kind (declared_kind schema p) v ≡ true) test (λ v. test v && listed (Val v)) both (values_at graph p n) (values_fit schema p n graph lawful.fit)) ∙ e))
    where
      both : (v : Value) → is_of_known_kind (declared_kind schema p) v ≡ true → test v ≡ (test v && listed (Val v))
      both v k = by (test v) refl
        where
          by : (b : Bool) → test v ≡ b → b ≡ (b && listed (Val v))
          by true e = sym (f v k e)
          by false e = refl
