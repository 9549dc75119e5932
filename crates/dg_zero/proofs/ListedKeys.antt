-- A key that no triple of a graph leads to lists nothing; so what lists gain and lose is known once it is known at a few keys.
use Rattle.std.proofs.Common.{◌≡◌, ℕ, zero, suc, ◌+◌, ◌<◌, ◌≤◌, Bool, true, false, cond, List, [], ◌∷◌, ◌++◌, Some, refl, sym, subst, ◌∙◌, arith, map, filter, flat_map, fold, length, if◌then◌else◌, nat_le, true≢false}
use Rattle.std.specs.Prelude.{◌==◌, ◌&&◌, ◌||◌}
use Rattle.std.specs.List.{AllByRecursion}
use Rattle.std.specs.Ordering.{is_eq, nat_cmp}
use Rattle.std.specs.declared.cmp.Ordering.{Ordering}
use Rattle.std.specs.declared.cmp.Ordering.TheVariants.{Less, Equal, Greater}
use Rattle.std.proofs.lemmas.Bool.{eqb-true}
use Rattle.std.proofs.lemmas.List.{length-map}
use Rattle.std.proofs.lemmas.Grind.{common_steps}
use Rattle.dg_values.specs.Ascending.{has, placed, with_one}
use Rattle.dg_values.specs.Order.{text_cmp, same_text, posting_cmp, tokenizer_cmp}
use Rattle.dg_values.specs.declared.kind.Tokenizer.{Tokenizer}
use Rattle.dg_values.specs.declared.value.Posting.{Posting}
use Rattle.dg_values.specs.declared.value.Posting.TheVariants.{Uid, Val}
use Rattle.dg_sets.proofs.MadeOrders.{text_order}
use Rattle.dg_sets.proofs.Sets.{at, is_one, is_itself, has_joined}
use Rattle.dg_delta.specs.declared.op.Op.{Op}
use Rattle.dg_delta.specs.Ops.{changes_between}
use Rattle.dg_schema.specs.declared.definition.PredDef.{PredDef}
use Rattle.dg_schema.specs.Definitions.{definition_of}
use Rattle.dg_tokens.specs.declared.tokens.IndexToken.{IndexToken}
use Rattle.dg_tokens.specs.Orders.{index_token_cmp}
use Rattle.dg_tokens.proofs.TokenOrder.{tokenizer_order}
use Rattle.dg_graph.specs.declared.change.Triple.{Triple}
use Rattle.dg_graph.specs.Graphs.{is_of, is_of_subject, objects}
use Rattle.dg_graph.specs.Lookups.{tokens_of_object, has_token, has_tokenizer, with_objects, with_subjects, subjects_where, subjects_of, all_objects, is_node}
use Rattle.dg_graph.proofs.GraphLaws.{same_subject}
use Rattle.dg_keys.specs.declared.key.Key.{Key}
use Rattle.dg_keys.specs.declared.key.Key.TheVariants.{Data, Index, Reverse, Count, RCount}
use Rattle.dg_keys.specs.declared.record.Part.{Part}
use Rattle.dg_keys.specs.Keys.{pred_of, key_cmp, ops_at, AreParts}
use Rattle.dg_keys.specs.KeyOrder.{key_order}
use Rattle.dg_zero.specs.Listings.{nodes, listing, listing_by, AreGainsAndLosses}

-- ---- the keys that triples lead to

-- the keys of an object's tokens
abbrev pub token_keys : List ℕ → Posting → Tokenizer → List Key
token_keys p o tokenizer = map (λ t. Index p t) (tokens_of_object tokenizer o)

-- the key of a node that is pointed to
abbrev pub pointed_keys : List ℕ → Posting → List Key
pointed_keys p (Uid n) = Reverse p n ∷ []
pointed_keys p (Val value) = []

-- the keys of a triple's object: of the node that is pointed to, and of its tokens
abbrev pub object_keys : PredDef → Triple → List Key
object_keys def t = pointed_keys def.name t.o ++ flat_map (token_keys def.name t.o) def.tokens

-- the keys of a triple of this predicate
abbrev pub own_keys : PredDef → Triple → List Key
own_keys def t = Data def.name t.s ∷ object_keys def t

-- and none of one of another
abbrev pub keys_of_triple : PredDef → Triple → List Key
keys_of_triple def t = if is_of def.name t then own_keys def t else []

-- the keys of numbers up to this one
abbrev pub number_keys : List ℕ → ℕ → List Key
number_keys p zero = []
number_keys p (suc n) = Count p (suc n) ∷ RCount p (suc n) ∷ number_keys p n

-- the keys of a predicate: no subject has more objects, and no object more subjects, than there are triples
abbrev pub keys_of_def : List Triple → PredDef → List Key
keys_of_def graph def = flat_map (keys_of_triple def) graph ++ (if def.count then number_keys def.name (length graph) else [])

-- the keys of all predicates
abbrev pub keys_of_graph : List PredDef → List Triple → List Key
keys_of_graph schema graph = flat_map (keys_of_def graph) schema

-- ---- a key that isn't among joined lists

or_none : (a b : Bool) → (a || b) ≡ false → (a ≡ false) × (b ≡ false)
or_none true b e = absurd (true≢false e)
or_none false b e = (refl, e)

and_first : (a b : Bool) → (a && b) ≡ true → a ≡ true
and_first true b e = refl
and_first false b e = absurd (true≢false (sym e))

and_second : (a b : Bool) → (a && b) ≡ true → b ≡ true
and_second true b e = e
and_second false b e = absurd (true≢false (sym e))

not_second : (a b : Bool) → b ≡ false → (a && b) ≡ false
not_second true b e = e
not_second false b e = refl

if_so : (a b : Bool) → (a ≡ true → b ≡ true → true ≡ false) → (a && b) ≡ false
if_so true true f = f refl refl
if_so true false f = refl
if_so false b f = refl

apart : (xs ys : List Key) (k : Key) → has key_cmp (xs ++ ys) k ≡ false → (has key_cmp xs k ≡ false) × (has key_cmp ys k ≡ false)
apart xs ys k e = or_none (has key_cmp xs k) (has key_cmp ys k) (sym (has_joined key_cmp key_order xs ys k) ∙ e)

in_each : {X : Type 0} (f : X → List Key) (xs : List X) (k : Key) → has key_cmp (flat_map f xs) k ≡ false → AllByRecursion (λ x. has key_cmp (f x) k ≡ false) xs
in_each f [] k e = tt
in_each f (x ∷ xs) k e =
    let both : (has key_cmp (f x) k ≡ false) × (has key_cmp (flat_map f xs) k ≡ false) = apart (f x) (flat_map f xs) k e in
    (both.0, in_each f xs k both.1)

none_pass : {X : Type 0} (f : X → Bool) (xs : List X) → AllByRecursion (λ x. f x ≡ false) xs → filter f xs ≡ []
none_pass f [] a = refl
none_pass f (x ∷ xs) a = rw a.0 (none_pass f xs a.1)

each : {X : Type 0} {P : X → Type 0} (xs : List X) → ((x : X) → P x) → AllByRecursion P xs
each [] f = tt
each (x ∷ xs) f = (f x, each xs f)

each_with : {X : Type 0} {P Q : X → Type 0} (xs : List X) → ((x : X) → P x → Q x) → AllByRecursion P xs → AllByRecursion Q xs
each_with [] f a = tt
each_with (x ∷ xs) f a = (f x a.0, each_with xs f a.1)

-- ---- what a triple of the predicate says of a key that isn't among its own

of_own : (def : PredDef) (t : Triple) (k : Key) → is_of def.name t ≡ true → has key_cmp (keys_of_triple def t) k ≡ false → has key_cmp (own_keys def t) k ≡ false
of_own def t k e h = subst (λ b. has key_cmp (if b then own_keys def t else []) k ≡ false) e h

-- its subject is another
other_subject : (def : PredDef) (s : ℕ) (t : Triple) → has key_cmp (keys_of_triple def t) (Data def.name s) ≡ false → is_of_subject def.name s t ≡ false
other_subject def s t h = if_so (is_of def.name t) (t.s == s) by
  where
    by : is_of def.name t ≡ true → (t.s == s) ≡ true → true ≡ false
    by e same =
        let is : is_of_subject def.name s t ≡ true = rw (e, same) refl in
        let not_first : is_eq (key_cmp (Data def.name t.s) (Data def.name s)) ≡ false = (or_none (is_eq (key_cmp (Data def.name t.s) (Data def.name s))) (has key_cmp (object_keys def t) (Data def.name s)) (of_own def t (Data def.name s) e h)).0 in
        let itself : is_eq (key_cmp (Data def.name s) (Data def.name s)) ≡ false = subst (λ n. is_eq (key_cmp (Data def.name n) (Data def.name s)) ≡ false) (same_subject def.name s t is).1 not_first in
        sym (is_itself key_cmp key_order (Data def.name s)) ∙ itself

-- its object hasn't the token
index_has : (p : List ℕ) (tokens : List IndexToken) (token : IndexToken) → has key_cmp (map (λ t. Index p t) tokens) (Index p token) ≡ has index_token_cmp tokens token
index_has p [] token = refl
index_has p (t ∷ tokens) token = rw (text_order.itself p, index_has p tokens token) refl

no_token : (def : PredDef) (token : IndexToken) (t : Triple) → has_tokenizer def token.tokenizer ≡ true → has key_cmp (keys_of_triple def t) (Index def.name token) ≡ false → (is_of def.name t && has_token token t.o) ≡ false
no_token def token t indexed h = if_so (is_of def.name t) (has_token token t.o) by
  where
    by : is_of def.name t ≡ true → has_token token t.o ≡ true → true ≡ false
    by e found =
        let k : Key = Index def.name token in
        let own : has key_cmp (object_keys def t) k ≡ false = (or_none (is_eq (key_cmp (Data def.name t.s) k)) (has key_cmp (object_keys def t) k) (of_own def t k e h)).1 in
        let tokens : has key_cmp (flat_map (token_keys def.name t.o) def.tokens) k ≡ false = (apart (pointed_keys def.name t.o) (flat_map (token_keys def.name t.o) def.tokens) k own).1 in
        let at_it : has key_cmp (token_keys def.name t.o token.tokenizer) k ≡ false = at tokenizer_cmp tokenizer_order (λ tokenizer. has key_cmp (token_keys def.name t.o tokenizer) k ≡ false) def.tokens token.tokenizer (in_each (token_keys def.name t.o) def.tokens k tokens) indexed in
        sym found ∙ (sym (index_has def.name (tokens_of_object token.tokenizer t.o) token) ∙ at_it)

-- its object is another
other_node : (p : List ℕ) (o : ℕ) (object : Posting) → has key_cmp (pointed_keys p object) (Reverse p o) ≡ false → is_eq (posting_cmp object (Uid o)) ≡ false
other_node p o (Uid n) h =
    let same : is_eq (key_cmp (Reverse p n) (Reverse p o)) ≡ is_eq (nat_cmp n o) = rw (text_order.itself p) refl in
    sym same ∙ (or_none (is_eq (key_cmp (Reverse p n) (Reverse p o))) false h).0
other_node p o (Val value) h = refl

other_object : (def : PredDef) (o : ℕ) (t : Triple) → has key_cmp (keys_of_triple def t) (Reverse def.name o) ≡ false → (is_of def.name t && is_eq (posting_cmp t.o (Uid o))) ≡ false
other_object def o t h = if_so (is_of def.name t) (is_eq (posting_cmp t.o (Uid o))) by
  where
    by : is_of def.name t ≡ true → is_eq (posting_cmp t.o (Uid o)) ≡ true → true ≡ false
    by e found =
        let k : Key = Reverse def.name o in
        let own : has key_cmp (object_keys def t) k ≡ false = (or_none (is_eq (key_cmp (Data def.name t.s) k)) (has key_cmp (object_keys def t) k) (of_own def t k e h)).1 in
        let pointed : has key_cmp (pointed_keys def.name t.o) k ≡ false = (apart (pointed_keys def.name t.o) (flat_map (token_keys def.name t.o) def.tokens) k own).0 in
        sym found ∙ other_node def.name o t.o pointed

-- ---- numbers

above : (m n : ℕ) → m < n → (suc m ≡ n → true ≡ false) → suc m < n
above m n below other = by (suc m == n) refl
  where
    by : (v : Bool) → (suc m == n) ≡ v → suc m < n
    by true e = absurd (true≢false (other (eqb-true (suc m) n e)))
    by false e = grind (arith, common_steps)

-- a number that isn't among the keys is greater than that of the last
count_above : (p : List ℕ) (m n : ℕ) → has key_cmp (number_keys p m) (Count p n) ≡ false → nat_le 1 n ≡ true → m < n
count_above p zero n h some = grind (arith, common_steps)
count_above p (suc m) n h some =
    let heads = or_none (is_eq (key_cmp (Count p (suc m)) (Count p n))) (has key_cmp (RCount p (suc m) ∷ number_keys p m) (Count p n)) h in
    let later = or_none (is_eq (key_cmp (RCount p (suc m)) (Count p n))) (has key_cmp (number_keys p m) (Count p n)) heads.1 in
    let below : m < n = count_above p m n later.1 some in
    let apart_from : suc m ≡ n → true ≡ false = λ e. sym (is_itself key_cmp key_order (Count p n)) ∙ subst (λ k. is_eq (key_cmp (Count p k) (Count p n)) ≡ false) e heads.0 in
    above m n below apart_from

rcount_above : (p : List ℕ) (m n : ℕ) → has key_cmp (number_keys p m) (RCount p n) ≡ false → nat_le 1 n ≡ true → m < n
rcount_above p zero n h some = grind (arith, common_steps)
rcount_above p (suc m) n h some =
    let heads = or_none (is_eq (key_cmp (Count p (suc m)) (RCount p n))) (has key_cmp (RCount p (suc m) ∷ number_keys p m) (RCount p n)) h in
    let later = or_none (is_eq (key_cmp (RCount p (suc m)) (RCount p n))) (has key_cmp (number_keys p m) (RCount p n)) heads.1 in
    let below : m < n = rcount_above p m n later.1 some in
    let apart_from : suc m ≡ n → true ≡ false = λ e. sym (is_itself key_cmp key_order (RCount p n)) ∙ subst (λ k. is_eq (key_cmp (RCount p k) (RCount p n)) ≡ false) e later.0 in
    above m n below apart_from

other_number : (l n : ℕ) → l < n → (l == n) ≡ false
other_number l n below = grind (arith, common_steps)

at_most : {X : Type 0} (f : X → Bool) (xs : List X) → length (filter f xs) ≤ length xs
at_most f [] = omega arith
at_most f (x ∷ xs) = by (f x) (at_most f xs)
  where
    by : (v : Bool) → length (filter f xs) ≤ length xs → length (cond v (x ∷ filter f xs) (filter f xs)) ≤ length (x ∷ xs)
    by true e = omega arith
    by false e = omega arith

one_more : (xs : List ℕ) (x : ℕ) → length (with_one nat_cmp xs x) ≤ suc (length xs)
one_more [] x = omega arith
one_more (y ∷ ys) x = by (nat_cmp x y) (one_more ys x)
  where
    by : (v : Ordering) → length (with_one nat_cmp ys x) ≤ suc (length ys) → length (placed v x y ys (with_one nat_cmp ys x)) ≤ suc (length (y ∷ ys))
    by Less e = omega arith
    by Equal e = omega arith
    by Greater e = omega arith

all_more : (base xs : List ℕ) → length (fold (with_one nat_cmp) base xs) ≤ length base + length xs
all_more base [] = omega arith
all_more base (x ∷ xs) =
    let first = one_more base x in
    let rest = all_more (with_one nat_cmp base x) xs in
    omega arith

few_objects : (graph : List Triple) (p : List ℕ) (s : ℕ) → length (objects graph p s) ≤ length graph
few_objects graph p s =
    let same : length (objects graph p s) ≡ length (filter (is_of_subject p s) graph) = length-map (filter (is_of_subject p s) graph) (λ (t : Triple). t.o) in
    let few = at_most (is_of_subject p s) graph in
    omega arith

-- the triple is of the predicate and has the object
abbrev points_to : List ℕ → Posting → Triple → Bool
points_to p o t = is_of p t && is_eq (posting_cmp t.o o)

few_subjects : (graph : List Triple) (p : List ℕ) (o : Posting) → length (subjects_of graph p o) ≤ length graph
few_subjects graph p o =
    let all : length (subjects_of graph p o) ≤ 0 + length (map (λ (t : Triple). t.s) (filter (points_to p o) graph)) = all_more [] (map (λ (t : Triple). t.s) (filter (points_to p o) graph)) in
    let same = length-map (filter (points_to p o) graph) (λ (t : Triple). t.s) in
    let few = at_most (points_to p o) graph in
    omega arith

-- ---- a key that isn't among those of its predicate lists nothing

no_objects : (def : PredDef) (s : ℕ) (graph : List Triple) → AllByRecursion (λ t. is_of_subject def.name s t ≡ false) graph → objects graph def.name s ≡ []
no_objects def s graph a = let none = none_pass (is_of_subject def.name s) graph a in rw none refl

no_subjects : (test : Posting → Bool) (graph : List Triple) (p : List ℕ) → AllByRecursion (λ t. (is_of p t && test t.o) ≡ false) graph → nodes (subjects_where test graph p) ≡ []
no_subjects test graph p a = let none = none_pass (λ (t : Triple). is_of p t && test t.o) graph a in rw none refl

-- the numbers, where there are any
numbered : (def : PredDef) (graph : List Triple) (k : Key) → def.count ≡ true → has key_cmp (if def.count then number_keys def.name (length graph) else []) k ≡ false → has key_cmp (number_keys def.name (length graph)) k ≡ false
numbered def graph k e h = subst (λ b. has key_cmp (if b then number_keys def.name (length graph) else []) k ≡ false) e h

none_counted : (def : PredDef) (graph : List Triple) (n : ℕ) → has key_cmp (if def.count then number_keys def.name (length graph) else []) (Count def.name n) ≡ false → listing_by (Some def) graph (Count def.name n) ≡ []
none_counted def graph n h = by def.count (nat_le 1 n) refl refl
  where
    by : (a b : Bool) → def.count ≡ a → nat_le 1 n ≡ b → (if a && b then nodes (with_objects graph def.name n) else []) ≡ []
    by false b e f = refl
    by true false e f = refl
    by true true e f =
        let most : length graph < n = count_above def.name (length graph) n (numbered def graph (Count def.name n) e h) f in
        let none = none_pass (λ s. length (objects graph def.name s) == n) (subjects_where (λ o. true) graph def.name) (each (subjects_where (λ o. true) graph def.name) (λ s. other_number (length (objects graph def.name s)) n (let few = few_objects graph def.name s in omega arith))) in
        rw none refl

none_pointed : (def : PredDef) (graph : List Triple) (n : ℕ) → has key_cmp (if def.count then number_keys def.name (length graph) else []) (RCount def.name n) ≡ false → listing_by (Some def) graph (RCount def.name n) ≡ []
none_pointed def graph n h = by def.reverse def.count (nat_le 1 n) refl refl
  where
    by : (r a b : Bool) → def.count ≡ a → nat_le 1 n ≡ b → (if r && (a && b) then with_subjects graph def.name n else []) ≡ []
    by false a b e f = refl
    by true false b e f = refl
    by true true false e f = refl
    by true true true e f =
        let most : length graph < n = rcount_above def.name (length graph) n (numbered def graph (RCount def.name n) e h) f in
        none_pass (λ o. is_node o && (length (subjects_of graph def.name o) == n)) (all_objects graph def.name) (each (all_objects graph def.name) (λ o. not_second (is_node o) (length (subjects_of graph def.name o) == n) (other_number (length (subjects_of graph def.name o)) n (let few = few_subjects graph def.name o in omega arith))))

none_listed : (def : PredDef) (graph : List Triple) (key : Key) → def.name ≡ pred_of key → has key_cmp (keys_of_def graph def) key ≡ false → listing_by (Some def) graph key ≡ []
none_listed def graph (Data p s) is h =
    subst (λ q. has key_cmp (keys_of_def graph def) (Data q s) ≡ false → objects graph q s ≡ []) is
    (λ f. no_objects def s graph (each_with graph (other_subject def s) (in_each (keys_of_triple def) graph (Data def.name s) (apart (flat_map (keys_of_triple def) graph) (if def.count then number_keys def.name (length graph) else []) (Data def.name s) f).0))) h
none_listed def graph (Index p t) is h =
    subst (λ q. has key_cmp (keys_of_def graph def) (Index q t) ≡ false → listing_by (Some def) graph (Index q t) ≡ []) is
    (λ f. by (has_tokenizer def t.tokenizer) refl (in_each (keys_of_triple def) graph (Index def.name t) (apart (flat_map (keys_of_triple def) graph) (if def.count then number_keys def.name (length graph) else []) (Index def.name t) f).0)) h
  where
    by : (v : Bool) → has_tokenizer def t.tokenizer ≡ v → AllByRecursion (λ u. has key_cmp (keys_of_triple def u) (Index def.name t) ≡ false) graph → (if v then nodes (subjects_where (has_token t) graph def.name) else []) ≡ []
    by false e a = refl
    by true e a = no_subjects (has_token t) graph def.name (each_with graph (λ u. no_token def t u e) a)
none_listed def graph (Reverse p o) is h =
    subst (λ q. has key_cmp (keys_of_def graph def) (Reverse q o) ≡ false → listing_by (Some def) graph (Reverse q o) ≡ []) is
    (λ f. by def.reverse (in_each (keys_of_triple def) graph (Reverse def.name o) (apart (flat_map (keys_of_triple def) graph) (if def.count then number_keys def.name (length graph) else []) (Reverse def.name o) f).0)) h
  where
    by : (v : Bool) → AllByRecursion (λ u. has key_cmp (keys_of_triple def u) (Reverse def.name o) ≡ false) graph → (if v then nodes (subjects_of graph def.name (Uid o)) else []) ≡ []
    by false a = refl
    by true a = no_subjects (λ object. is_eq (posting_cmp object (Uid o))) graph def.name (each_with graph (other_object def o) a)
none_listed def graph (Count p n) is h =
    subst (λ q. has key_cmp (keys_of_def graph def) (Count q n) ≡ false → listing_by (Some def) graph (Count q n) ≡ []) is
    (λ f. none_counted def graph n (apart (flat_map (keys_of_triple def) graph) (if def.count then number_keys def.name (length graph) else []) (Count def.name n) f).1) h
none_listed def graph (RCount p n) is h =
    subst (λ q. has key_cmp (keys_of_def graph def) (RCount q n) ≡ false → listing_by (Some def) graph (RCount q n) ≡ []) is
    (λ f. none_pointed def graph n (apart (flat_map (keys_of_triple def) graph) (if def.count then number_keys def.name (length graph) else []) (RCount def.name n) f).1) h

listed_in : (schema : List PredDef) (graph : List Triple) (key : Key) → AllByRecursion (λ def. has key_cmp (keys_of_def graph def) key ≡ false) schema → listing schema graph key ≡ []
listed_in [] graph key a = refl
listed_in (def ∷ schema) graph key a = by (same_text def.name (pred_of key)) refl (listed_in schema graph key a.1)
  where
    by : (v : Bool) → same_text def.name (pred_of key) ≡ v → listing schema graph key ≡ [] → listing_by (cond v (Some def) (definition_of schema (pred_of key))) graph key ≡ []
    by true e more = none_listed def graph key (is_one text_cmp text_order def.name (pred_of key) e) a.0
    by false e more = more

-- a key that isn't among those of a graph lists nothing
pub unlisted : (schema : List PredDef) (graph : List Triple) (key : Key) → has key_cmp (keys_of_graph schema graph) key ≡ false → listing schema graph key ≡ []
unlisted schema graph key h = listed_in schema graph key (in_each (keys_of_def graph) schema key h)

-- ---- gains and losses, known at a few keys

-- the keys of two graphs and of parts
abbrev pub keys_between : List PredDef → List Triple → List PredDef → List Triple → List Part → List Key
keys_between schema graph new_schema new_graph parts = keys_of_graph schema graph ++ (keys_of_graph new_schema new_graph ++ map (λ part. part.key) parts)

-- what a key's list gains and loses
abbrev pub gains_of : List PredDef → List Triple → List PredDef → List Triple → Key → List Op
gains_of schema graph new_schema new_graph key = changes_between (listing schema graph key) (listing new_schema new_graph key)

-- no part has the key
no_part : (parts : List Part) (key : Key) → has key_cmp (map (λ part. part.key) parts) key ≡ false → ops_at parts key ≡ []
no_part [] key h = refl
no_part (part ∷ parts) key h =
    let both = or_none (is_eq (key_cmp part.key key)) (has key_cmp (map (λ (p : Part). p.key) parts) key) h in
    rw both.0 (no_part parts key both.1)

heads : {X : Type 0} {x y : X} {xs ys : List X} → x ∷ xs ≡ y ∷ ys → x ≡ y
heads e = cc

tails : {X : Type 0} {x y : X} {xs ys : List X} → x ∷ xs ≡ y ∷ ys → xs ≡ ys
tails e = cc

-- two functions that give one list agree at each of its places
pub one_map : {X Y : Type 0} (f g : X → Y) (xs : List X) → map f xs ≡ map g xs → AllByRecursion (λ x. f x ≡ g x) xs
one_map f g [] e = tt
one_map f g (x ∷ xs) e = (heads e, one_map f g xs (tails e))

-- parts that are right at the keys of both graphs, and at their own, are right
pub known_at_keys : (schema : List PredDef) (graph : List Triple) (new_schema : List PredDef) (new_graph : List Triple) (parts : List Part) → AreParts parts → map (ops_at parts) (keys_between schema graph new_schema new_graph parts) ≡ map (gains_of schema graph new_schema new_graph) (keys_between schema graph new_schema new_graph parts) → AreGainsAndLosses schema graph new_schema new_graph parts
known_at_keys schema graph new_schema new_graph parts are e = record { parts_are = are; exact = λ key. by key (has key_cmp (keys_between schema graph new_schema new_graph parts) key) refl }
  where
    by : (key : Key) (v : Bool) → has key_cmp (keys_between schema graph new_schema new_graph parts) key ≡ v → ops_at parts key ≡ gains_of schema graph new_schema new_graph key
    by key true h = at key_cmp key_order (λ k. ops_at parts k ≡ gains_of schema graph new_schema new_graph k) (keys_between schema graph new_schema new_graph parts) key (one_map (ops_at parts) (gains_of schema graph new_schema new_graph) (keys_between schema graph new_schema new_graph parts) e) h
    by key false h =
        let first = apart (keys_of_graph schema graph) (keys_of_graph new_schema new_graph ++ map (λ (part : Part). part.key) parts) key h in
        let second = apart (keys_of_graph new_schema new_graph) (map (λ (part : Part). part.key) parts) key first.1 in
        let before : listing schema graph key ≡ [] = unlisted schema graph key first.0 in
        let after : listing new_schema new_graph key ≡ [] = unlisted new_schema new_graph key second.0 in
        let none : ops_at parts key ≡ [] = no_part parts key second.1 in
        rw (before, after, none) refl
