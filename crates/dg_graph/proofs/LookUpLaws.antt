-- Which nodes are in the lists that are looked up in a graph.
use Rattle.std.proofs.Common.{◌≡◌, ℕ, nat_le, Bool, true, false, cond, List, [], ◌∷◌, map, length, refl, ap, subst, sym, ◌∙◌, inl, inr}
use Rattle.std.specs.Prelude.{◌==◌, ◌&&◌, ◌||◌, filter, filter_map, Option, None}
use Rattle.std.specs.List.{AllByRecursion, list_any, cons_option}
use Rattle.std.proofs.lemmas.Bool.{eqb-true, eq-eqb}
use Rattle.std.specs.Ordering.{nat_cmp, is_eq}
use Rattle.dg_values.specs.Order.{posting_cmp}
use Rattle.dg_values.specs.Ascending.{Ascends, has}
use Rattle.dg_values.specs.declared.kind.Tokenizer.{Tokenizer}
use Rattle.dg_values.specs.declared.value.Value.{Value}
use Rattle.dg_values.specs.declared.value.Posting.{Posting}
use Rattle.dg_values.specs.declared.value.Posting.TheVariants.{Uid, Val}
use Rattle.dg_values.proofs.OrderLaws.{posting_order}
use Rattle.dg_sets.proofs.MadeOrders.{nat_order}
use Rattle.dg_sets.proofs.Sets.{is_one, is_itself, at, has_passed, ascends_passed, any_at}
use Rattle.dg_tokens.specs.declared.tokens.IndexToken.{IndexToken}
use Rattle.dg_tokens.specs.Orders.{index_token_cmp}
use Rattle.dg_tokens.specs.Tokens.{tokens_of}
use Rattle.dg_tokens.proofs.Among.{IsAmong, among_contains}
use Rattle.dg_tokens.proofs.Exact.{all_exact}
use Rattle.dg_tokens.proofs.TokenOrder.{index_token_order}
use Rattle.dg_graph.specs.Graphs.{is_of, is_of_subject, objects}
use Rattle.dg_graph.specs.Lookups.{subjects_where, subjects_of, holders, all_objects, tokens_of_object, has_token, is_from, is_up_to, has_token_between, by_token_range, with_objects, is_node, with_subjects, node_in, pointed_by, pointed_to, number_of, has_number, counted}
use Rattle.dg_graph.specs.Laws.{ListedByTests, IsListedBetween, RangesByTokens, HoldersByNumbers, PointedByNumbers, ListedByObjects, ListedBySubjects, FoundByNumbers, FoundAscend}
use Rattle.dg_graph.specs.declared.change.Triple.{Triple}
use Rattle.dg_graph.proofs.Passing.{passing, ascending_has, ascending_ascends, some_is, some_ascending}

-- two tests of numbers are one
pub nat_is_eq : (a b : ℕ) → is_eq (nat_cmp a b) ≡ (a == b)
nat_is_eq a b = at (a == b) refl (is_eq (nat_cmp a b)) refl
  where
    at : (v : Bool) → (a == b) ≡ v → (w : Bool) → is_eq (nat_cmp a b) ≡ w → w ≡ v
    at true e true f = refl
    at false e false f = refl
    at true e false f =
        let same = eqb-true a b e in
        let it : is_eq (nat_cmp a b) ≡ true = subst (λ (n : ℕ). is_eq (nat_cmp a n) ≡ true) same (is_itself nat_cmp nat_order a) in
        absurd (cc)
    at false e true f =
        let same = is_one nat_cmp nat_order a b f in
        let it = eq-eqb a b same in
        absurd (cc)

-- ---- by a test of objects

listed : (test : Posting → Bool) (p : List ℕ) (s : ℕ) (g : List Triple) → has nat_cmp (map (λ t. t.s) (filter (λ t. is_of p t && test t.o) g)) s ≡ list_any test (objects g p s)
listed test p s [] = refl
listed test p s (t ∷ g) = by (is_of p t) (test t.o) (t.s == s) refl (nat_is_eq t.s s) (listed test p s g)
  where
    by : (v w x : Bool) → test t.o ≡ w → is_eq (nat_cmp t.s s) ≡ x → has nat_cmp (map (λ t. t.s) (filter (λ t. is_of p t && test t.o) g)) s ≡ list_any test (objects g p s)
        → has nat_cmp (map (λ t. t.s) (cond (v && w) (t ∷ filter (λ t. is_of p t && test t.o) g) (filter (λ t. is_of p t && test t.o) g))) s ≡ list_any test (map (λ t. t.o) (cond (v && x) (t ∷ filter (is_of_subject p s) g) (filter (is_of_subject p s) g)))
    by true true true e f rest = λ i. (f ∙ sym e) i || rest i
    by true true false e f rest = (λ i. f i || has nat_cmp (map (λ t. t.s) (filter (λ t. is_of p t && test t.o) g)) s) ∙ rest
    by true false true e f rest = rest ∙ λ i. sym e i || list_any test (objects g p s)
    by true false false e f rest = rest
    by false w x e f rest = rest

-- a node is among the subjects where a test holds exactly where the test holds of one of its objects
pub where_are : ListedByTests
where_are test graph p s = ascending_has nat_cmp nat_order (map (λ t. t.s) (filter (λ t. is_of p t && test t.o) graph)) s ∙ listed test p s graph

pub where_ascend : (test : Posting → Bool) (graph : List Triple) (p : List ℕ) → Ascends nat_cmp (subjects_where test graph p)
where_ascend test graph p = ascending_ascends nat_cmp nat_order (map (λ t. t.s) (filter (λ t. is_of p t && test t.o) graph))

-- a node holds an object exactly where the number of its objects is at least 1
pub holders_are : HoldersByNumbers
holders_are graph p s = where_are (λ o. true) graph p s ∙ sym (some_is (objects graph p s))

pub holders_ascend : (graph : List Triple) (p : List ℕ) → Ascends nat_cmp (holders graph p)
holders_ascend graph p = where_ascend (λ o. true) graph p

-- ---- by tokens

all_among : {X : Type 0} (P : X → Type 0) (xs : List X) → ((x : X) → IsAmong xs x → P x) → AllByRecursion P xs
all_among P [] f = tt
all_among P (x ∷ xs) f = (f x (inl refl), all_among P xs (λ y h. f y (inr h)))

-- the tokens by a tokenizer are of that tokenizer
pub tokens_made : (tokenizer : Tokenizer) (object : Posting) → AllByRecursion (λ (t : IndexToken). t.tokenizer ≡ tokenizer) (tokens_of_object tokenizer object)
tokens_made tokenizer (Uid n) = tt
tokens_made tokenizer (Val value) =
    all_among (λ (t : IndexToken). t.tokenizer ≡ tokenizer) (tokens_of tokenizer value)
    (λ t h. ((all_exact tokenizer value t).0 (among_contains (tokens_of tokenizer value) t h)).0)

-- a node is in the list of a range exactly where one of its objects has a token between the ends
pub range_are : (graph : List Triple) (p : List ℕ) (tokenizer : Tokenizer) (low high : Option Value) (s : ℕ) → has nat_cmp (by_token_range graph p tokenizer low high) s ≡ list_any (has_token_between tokenizer low high) (objects graph p s)
range_are graph p tokenizer low high s = where_are (has_token_between tokenizer low high) graph p s

pub range_ascend : (graph : List Triple) (p : List ℕ) (tokenizer : Tokenizer) (low high : Option Value) → Ascends nat_cmp (by_token_range graph p tokenizer low high)
range_ascend graph p tokenizer low high = where_ascend (has_token_between tokenizer low high) graph p

-- a node that a range lists is listed by one of its tokens
pub range_token : (graph : List Triple) (p : List ℕ) (tokenizer : Tokenizer) (low high : Option Value) (s : ℕ) → has nat_cmp (by_token_range graph p tokenizer low high) s ≡ true → IsListedBetween graph p tokenizer low high s
range_token graph p tokenizer low high s h =
    let o = passing posting_cmp posting_order (has_token_between tokenizer low high) (objects graph p s) (sym (range_are graph p tokenizer low high s) ∙ h) in
    let t = passing index_token_cmp index_token_order (λ (t : IndexToken). is_from low t.value && is_up_to high t.value) (tokens_of_object tokenizer o.it) o.passes in
    let made : t.it.tokenizer ≡ tokenizer = at index_token_cmp index_token_order (λ (t : IndexToken). t.tokenizer ≡ tokenizer) (tokens_of_object tokenizer o.it) t.it (tokens_made tokenizer o.it) t.there in
    let own : has_token t.it o.it ≡ true = subst (λ (k : Tokenizer). has index_token_cmp (tokens_of_object k o.it) t.it ≡ true) (sym made) t.there in
    record {
      token = t.it;
      made = made;
      within = t.passes;
      there = where_are (has_token t.it) graph p s ∙ any_at posting_cmp posting_order (has_token t.it) (objects graph p s) o.it own o.there;
    }

-- and a range lists each node that is listed by a token between its ends
pub token_range : (graph : List Triple) (p : List ℕ) (tokenizer : Tokenizer) (low high : Option Value) (s : ℕ) → IsListedBetween graph p tokenizer low high s → has nat_cmp (by_token_range graph p tokenizer low high) s ≡ true
token_range graph p tokenizer low high s r =
    let o = passing posting_cmp posting_order (has_token r.token) (objects graph p s) (sym (where_are (has_token r.token) graph p s) ∙ r.there) in
    let own : has index_token_cmp (tokens_of_object tokenizer o.it) r.token ≡ true = subst (λ (k : Tokenizer). has index_token_cmp (tokens_of_object k o.it) r.token ≡ true) r.made o.passes in
    let between : has_token_between tokenizer low high o.it ≡ true = any_at index_token_cmp index_token_order (λ (t : IndexToken). is_from low t.value && is_up_to high t.value) (tokens_of_object tokenizer o.it) r.token r.within own in
    range_are graph p tokenizer low high s ∙ any_at posting_cmp posting_order (has_token_between tokenizer low high) (objects graph p s) o.it between o.there

-- a range lists exactly the nodes that its tokens list
pub ranges_by_tokens : RangesByTokens
ranges_by_tokens graph p tokenizer low high s = (range_token graph p tokenizer low high s, token_range graph p tokenizer low high s)

-- ---- by numbers of objects

-- a number that is n is at least 1 exactly where n is
at_least_one : (a n : ℕ) → ((a == n) && nat_le 1 a) ≡ ((a == n) && nat_le 1 n)
at_least_one a n = by (a == n) refl
  where
    by : (v : Bool) → (a == n) ≡ v → (v && nat_le 1 a) ≡ (v && nat_le 1 n)
    by true e = ap (nat_le 1) (eqb-true a n e)
    by false e = refl

-- a node is among those with n objects exactly where it has n of them, and n is at least 1
pub with_objects_are : ListedByObjects
with_objects_are graph p n s =
    has_passed nat_cmp nat_order (λ (m : ℕ). length (objects graph p m) == n) (holders graph p) s
    ∙ ((λ i. (length (objects graph p s) == n) && holders_are graph p s i) ∙ at_least_one (length (objects graph p s)) n)

pub with_objects_ascend : (graph : List Triple) (p : List ℕ) (n : ℕ) → Ascends nat_cmp (with_objects graph p n)
with_objects_ascend graph p n = ascends_passed nat_cmp nat_order (λ (m : ℕ). length (objects graph p m) == n) (holders graph p) (holders_ascend graph p)

-- ---- by numbers of subjects

-- the number of subjects is at least 1 exactly where a triple points to the object
some_subject : (graph : List Triple) (p : List ℕ) (o : Posting) → nat_le 1 (length (subjects_of graph p o)) ≡ list_any (λ t. is_of p t && is_eq (posting_cmp t.o o)) graph
some_subject graph p o =
    some_ascending nat_cmp nat_order (map (λ t. t.s) (filter (λ t. is_of p t && is_eq (posting_cmp t.o o)) graph)) ∙ kept graph
  where
    kept : (g : List Triple) → nat_le 1 (length (map (λ t. t.s) (filter (λ t. is_of p t && is_eq (posting_cmp t.o o)) g))) ≡ list_any (λ t. is_of p t && is_eq (posting_cmp t.o o)) g
    kept [] = refl
    kept (t ∷ g) = by (is_of p t && is_eq (posting_cmp t.o o)) (kept g)
      where
        by : (v : Bool) → nat_le 1 (length (map (λ t. t.s) (filter (λ t. is_of p t && is_eq (posting_cmp t.o o)) g))) ≡ list_any (λ t. is_of p t && is_eq (posting_cmp t.o o)) g → nat_le 1 (length (map (λ t. t.s) (cond v (t ∷ filter (λ t. is_of p t && is_eq (posting_cmp t.o o)) g) (filter (λ t. is_of p t && is_eq (posting_cmp t.o o)) g)))) ≡ (v || list_any (λ t. is_of p t && is_eq (posting_cmp t.o o)) g)
        by true rest = some_is (t.s ∷ map (λ t. t.s) (filter (λ t. is_of p t && is_eq (posting_cmp t.o o)) g))
        by false rest = rest

-- an object is one of the predicate's exactly where the number of its subjects is at least 1
pub all_objects_are : (graph : List Triple) (p : List ℕ) (o : Posting) → has posting_cmp (all_objects graph p) o ≡ nat_le 1 (length (subjects_of graph p o))
all_objects_are graph p o =
    ascending_has posting_cmp posting_order (map (λ t. t.o) (filter (is_of p) graph)) o ∙ (kept graph ∙ sym (some_subject graph p o))
  where
    kept : (g : List Triple) → has posting_cmp (map (λ t. t.o) (filter (is_of p) g)) o ≡ list_any (λ t. is_of p t && is_eq (posting_cmp t.o o)) g
    kept [] = refl
    kept (t ∷ g) = by (is_of p t) (kept g)
      where
        by : (v : Bool) → has posting_cmp (map (λ t. t.o) (filter (is_of p) g)) o ≡ list_any (λ t. is_of p t && is_eq (posting_cmp t.o o)) g → has posting_cmp (map (λ t. t.o) (cond v (t ∷ filter (is_of p) g) (filter (is_of p) g))) o ≡ ((v && is_eq (posting_cmp t.o o)) || list_any (λ t. is_of p t && is_eq (posting_cmp t.o o)) g)
        by true rest = λ i. is_eq (posting_cmp t.o o) || rest i
        by false rest = rest

pub all_objects_ascend : (graph : List Triple) (p : List ℕ) → Ascends posting_cmp (all_objects graph p)
all_objects_ascend graph p = ascending_ascends posting_cmp posting_order (map (λ t. t.o) (filter (is_of p) graph))

-- an object is among those that n subjects point to exactly where it is a node, n of them do, and n is at least 1
pub with_subjects_are : ListedBySubjects
with_subjects_are graph p n o =
    has_passed posting_cmp posting_order (λ (object : Posting). is_node object && (length (subjects_of graph p object) == n)) (all_objects graph p) o
    ∙ ((λ i. (is_node o && (length (subjects_of graph p o) == n)) && all_objects_are graph p o i) ∙ by (is_node o))
  where
    by : (v : Bool) → ((v && (length (subjects_of graph p o) == n)) && nat_le 1 (length (subjects_of graph p o))) ≡ (v && ((length (subjects_of graph p o) == n) && nat_le 1 n))
    by true = at_least_one (length (subjects_of graph p o)) n
    by false = refl

pub with_subjects_ascend : (graph : List Triple) (p : List ℕ) (n : ℕ) → Ascends posting_cmp (with_subjects graph p n)
with_subjects_ascend graph p n = ascends_passed posting_cmp posting_order (λ (object : Posting). is_node object && (length (subjects_of graph p object) == n)) (all_objects graph p) (all_objects_ascend graph p)

-- a node is pointed to exactly where the number of its subjects is at least 1
pub pointed_are : PointedByNumbers
pointed_are graph p n =
    ascending_has nat_cmp nat_order (filter_map (pointed_by p) graph) n ∙ (kept graph ∙ sym (some_subject graph p (Uid n)))
  where
    kept : (g : List Triple) → has nat_cmp (filter_map (pointed_by p) g) n ≡ list_any (λ t. is_of p t && is_eq (posting_cmp t.o (Uid n))) g
    kept [] = refl
    kept (t ∷ g) = by (is_of p t) t.o (kept g)
      where
        by : (v : Bool) (o : Posting) → has nat_cmp (filter_map (pointed_by p) g) n ≡ list_any (λ t. is_of p t && is_eq (posting_cmp t.o (Uid n))) g → has nat_cmp (cons_option (cond v (node_in o) None) (filter_map (pointed_by p) g)) n ≡ ((v && is_eq (posting_cmp o (Uid n))) || list_any (λ t. is_of p t && is_eq (posting_cmp t.o (Uid n))) g)
        by true (Uid m) rest = λ i. is_eq (nat_cmp m n) || rest i
        by true (Val value) rest = rest
        by false o rest = rest

pub pointed_ascend : (graph : List Triple) (p : List ℕ) → Ascends nat_cmp (pointed_to graph p)
pointed_ascend graph p = ascending_ascends nat_cmp nat_order (filter_map (pointed_by p) graph)

-- ---- by either number

-- a node is counted exactly where its number is at least 1
pub counted_are : (graph : List Triple) (p : List ℕ) (reverse : Bool) (n : ℕ) → has nat_cmp (counted graph p reverse) n ≡ nat_le 1 (number_of graph p reverse n)
counted_are graph p true n = pointed_are graph p n
counted_are graph p false n = holders_are graph p n

pub counted_ascend : (graph : List Triple) (p : List ℕ) (reverse : Bool) → Ascends nat_cmp (counted graph p reverse)
counted_ascend graph p true = pointed_ascend graph p
counted_ascend graph p false = holders_ascend graph p

-- a node is found by its number exactly where that lies between the ends and is at least 1
pub by_count_are : FoundByNumbers
by_count_are graph p reverse low high n =
    has_passed nat_cmp nat_order (has_number graph p reverse low high) (counted graph p reverse) n
    ∙ λ i. has_number graph p reverse low high n && counted_are graph p reverse n i

pub by_count_ascend : FoundAscend
by_count_ascend graph p reverse low high = ascends_passed nat_cmp nat_order (has_number graph p reverse low high) (counted graph p reverse) (counted_ascend graph p reverse)
