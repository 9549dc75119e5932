-- Which filings a subject has by its objects, and which nodes filings list at a key.
use Rattle.std.proofs.Common.{◌≡◌, ℕ, ◌+◌, ◌<◌, nat_le, Bool, true, false, cond, List, [], ◌∷◌, ◌++◌, Option, Some, None, length, get_or, take, fold, map, flat_map, refl, subst, sym, ◌∙◌, append_assoc, inl, inr}
use Rattle.std.specs.Prelude.{◌==◌, ◌&&◌, ◌||◌}
use Rattle.std.specs.List.{AllByRecursion, list_any}
use Rattle.std.proofs.lemmas.Bool.{both_ways, eqb-true, eq-eqb}
use Rattle.std.proofs.lemmas.List.{append-nil, take_more}
use Rattle.std.proofs.lemmas.List.Concat.{flat_map-append}
use Rattle.std.proofs.lemmas.List.Folds.{list_any-append}
use Rattle.std.proofs.lemmas.List.Sums.{fold-append}
use Rattle.std.specs.declared.cmp.Ordering.{Ordering}
use Rattle.std.specs.declared.cmp.Ordering.TheVariants.{Less, Equal, Greater}
use Rattle.std.specs.Ordering.{is_eq, nat_cmp, ordering_then}
use Rattle.dg_values.specs.Ascending.{Ascends, has, with_one}
use Rattle.dg_values.specs.Order.{text_cmp, posting_cmp, tokenizer_cmp}
use Rattle.dg_values.specs.declared.kind.Tokenizer.{Tokenizer}
use Rattle.dg_values.specs.declared.value.Value.{Value}
use Rattle.dg_values.specs.declared.value.Posting.{Posting}
use Rattle.dg_values.specs.declared.value.Posting.TheVariants.{Uid, Val}
use Rattle.dg_values.proofs.OrderLaws.{posting_order}
use Rattle.dg_sets.proofs.MadeOrders.{nat_order, text_order}
use Rattle.dg_sets.proofs.Sets.{is_one, is_itself, eq_turn, all_with, has_with, ascends_with}
use Rattle.dg_tokens.specs.declared.tokens.IndexToken.{IndexToken}
use Rattle.dg_tokens.specs.Orders.{index_token_cmp}
use Rattle.dg_tokens.specs.Tokens.{tokens_of}
use Rattle.dg_tokens.proofs.Among.{IsAmong, among_contains}
use Rattle.dg_tokens.proofs.Exact.{all_exact}
use Rattle.dg_tokens.proofs.TokenOrder.{tokenizer_order, index_token_order}
use Rattle.dg_schema.specs.declared.definition.PredDef.{PredDef}
use Rattle.dg_schema.specs.Definitions.{definition_of}
use Rattle.dg_graph.specs.Lookups.{tokens_of_object, has_token, has_tokenizer}
use Rattle.dg_keys.specs.declared.key.Key.{Key}
use Rattle.dg_keys.specs.declared.key.Key.TheVariants as keys
use Rattle.dg_keys.specs.Keys.{key_cmp, pred_of, kind_rank, field_cmp}
use Rattle.dg_keys.specs.KeyOrder.{key_order}
use Rattle.dg_edges.specs.Filing.{filed_token, filed_by, filed_node, filed_back, filed_object, filed_number, filed_count, filed_under, filed_if, filed_at, with_filed, nodes_under}
use Rattle.dg_edges.specs.declared.filing.Filed.{Filed}

-- ---- lists made item by item

-- one item more
pub items_more : {X Y : Type 0} (f : X → List Y) (xs : List X) (i : ℕ) (x : X) (old before after : List Y) → i < length xs → before ≡ old ++ flat_map f (take i xs) → after ≡ before ++ f (get_or xs i x) → after ≡ old ++ flat_map f (take (i + 1) xs)
items_more f xs i x old before after lt was is =
    let one : flat_map f (get_or xs i x ∷ []) ≡ f (get_or xs i x) = append-nil (f (get_or xs i x)) in
    is
    ∙ ((λ j. was j ++ sym one j)
    ∙ (append_assoc old (flat_map f (take i xs)) (flat_map f (get_or xs i x ∷ []))
    ∙ ((λ j. old ++ sym (flat_map-append f (take i xs) (get_or xs i x ∷ [])) j)
    ∙ λ j. old ++ flat_map f (sym (take_more xs i x lt) j))))

pub all_appended : {Y : Type 0} (P : Y → Type 0) (xs ys : List Y) → AllByRecursion P xs → AllByRecursion P ys → AllByRecursion P (xs ++ ys)
all_appended P [] ys a b = b
all_appended P (x ∷ xs) ys a b = (a.0, all_appended P xs ys a.1 b)

pub all_flat : {X Y : Type 0} (P : Y → Type 0) (f : X → List Y) (xs : List X) → ((x : X) → AllByRecursion P (f x)) → AllByRecursion P (flat_map f xs)
all_flat P f [] a = tt
all_flat P f (x ∷ xs) a = all_appended P (f x) (flat_map f xs) (a x) (all_flat P f xs a)

pub all_mapped : {X Y : Type 0} (P : Y → Type 0) (f : X → Y) (xs : List X) → ((x : X) → P (f x)) → AllByRecursion P (map f xs)
all_mapped P f [] a = tt
all_mapped P f (x ∷ xs) a = (a x, all_mapped P f xs a)

all_if : {Y : Type 0} (P : Y → Type 0) (b : Bool) (ys : List Y) → AllByRecursion P ys → AllByRecursion P (cond b ys [])
all_if P true ys a = a
all_if P false ys a = tt

pub none_any : {Y : Type 0} (test : Y → Bool) (ys : List Y) → AllByRecursion (λ y. test y ≡ false) ys → list_any test ys ≡ false
none_any test [] a = refl
none_any test (y ∷ ys) a = (λ i. a.0 i || list_any test ys) ∙ none_any test ys a.1

any_flat : {X Y : Type 0} (test : Y → Bool) (f : X → List Y) (xs : List X) → list_any test (flat_map f xs) ≡ list_any (λ x. list_any test (f x)) xs
any_flat test f [] = refl
any_flat test f (x ∷ xs) = list_any-append test (f x) (flat_map f xs) ∙ λ i. list_any test (f x) || any_flat test f xs i

any_alike : {X : Type 0} (test other : X → Bool) (xs : List X) → ((x : X) → test x ≡ other x) → list_any test xs ≡ list_any other xs
any_alike test other [] e = refl
any_alike test other (x ∷ xs) e = λ i. e x i || any_alike test other xs e i

any_both : {X : Type 0} (b : Bool) (test : X → Bool) (xs : List X) → list_any (λ x. b && test x) xs ≡ (b && list_any test xs)
any_both true test xs = refl
any_both false test [] = refl
any_both false test (x ∷ xs) = any_both false test xs

-- ---- equal keys

both_equal : (a b : Ordering) → is_eq (ordering_then a b) ≡ (is_eq a && is_eq b)
both_equal Less b = refl
both_equal Equal b = refl
both_equal Greater b = refl

-- keys are equal where predicate, kind and field are
pub parts_equal : (k l : Key) → is_eq (key_cmp k l) ≡ (is_eq (text_cmp (pred_of k) (pred_of l)) && (is_eq (nat_cmp (kind_rank k) (kind_rank l)) && is_eq (field_cmp k l)))
parts_equal k l =
    both_equal (text_cmp (pred_of k) (pred_of l)) (ordering_then (nat_cmp (kind_rank k) (kind_rank l)) (field_cmp k l))
    ∙ λ i. is_eq (text_cmp (pred_of k) (pred_of l)) && both_equal (nat_cmp (kind_rank k) (kind_rank l)) (field_cmp k l) i

-- ---- what a key lists, filing by filing

-- the filing is of this node at this key
abbrev pub is_at : Key → Posting → Filed → Bool
is_at key o f = is_eq (key_cmp key f.key) && is_eq (posting_cmp (Uid f.node) o)

pub has_under : (key : Key) (base : List Posting) (filed : List Filed) (o : Posting) → has posting_cmp (fold (λ nodes f. with_filed f key nodes) base filed) o ≡ (has posting_cmp base o || list_any (is_at key o) filed)
has_under key base [] o = none (has posting_cmp base o)
  where
    none : (b : Bool) → b ≡ (b || false)
    none true = refl
    none false = refl
has_under key base (f ∷ filed) o = has_under key (with_filed f key base) filed o ∙ by (is_eq (key_cmp key f.key))
  where
    moved : (a b c : Bool) → ((a || b) || c) ≡ (b || (a || c))
    moved true true c = refl
    moved true false c = refl
    moved false true c = refl
    moved false false c = refl

    by : (v : Bool) → (has posting_cmp (cond v (with_one posting_cmp base (Uid f.node)) base) o || list_any (is_at key o) filed) ≡ (has posting_cmp base o || ((v && is_eq (posting_cmp (Uid f.node) o)) || list_any (is_at key o) filed))
    by true = (λ i. has_with posting_cmp posting_order base (Uid f.node) o i || list_any (is_at key o) filed) ∙ moved (is_eq (posting_cmp (Uid f.node) o)) (has posting_cmp base o) (list_any (is_at key o) filed)
    by false = refl

pub has_nodes : (key : Key) (filed : List Filed) (o : Posting) → has posting_cmp (nodes_under filed key) o ≡ list_any (is_at key o) filed
has_nodes key filed o = has_under key [] filed o

ascend_under : (key : Key) (base : List Posting) (filed : List Filed) → Ascends posting_cmp base → Ascends posting_cmp (fold (λ nodes f. with_filed f key nodes) base filed)
ascend_under key base [] a = a
ascend_under key base (f ∷ filed) a = ascend_under key (with_filed f key base) filed (by (is_eq (key_cmp key f.key)))
  where
    by : (v : Bool) → Ascends posting_cmp (cond v (with_one posting_cmp base (Uid f.node)) base)
    by true = ascends_with posting_cmp posting_order base (Uid f.node) a
    by false = a

pub nodes_ascend : (key : Key) (filed : List Filed) → Ascends posting_cmp (nodes_under filed key)
nodes_ascend key filed = ascend_under key [] filed tt

-- ---- the filings of one subject

-- the filing is of this predicate and node
pub record IsOwn (p : List ℕ) (s : ℕ) (f : Filed) : Type 0 where
  pub pred : pred_of f.key ≡ p
  pub node : f.node ≡ s

own_object : (def : PredDef) (p : List ℕ) (s : ℕ) (o : Posting) → AllByRecursion (IsOwn p s) (filed_object def p s o)
own_object def p s o =
    all_appended (IsOwn p s) (flat_map (filed_by p s o) def.tokens) (filed_back def p s o)
    (all_flat (IsOwn p s) (filed_by p s o) def.tokens (λ tokenizer. all_mapped (IsOwn p s) (filed_token p s) (tokens_of_object tokenizer o) (λ t. record { pred = refl; node = refl })))
    (all_if (IsOwn p s) def.reverse (filed_node p s o) (back o))
  where
    back : (w : Posting) → AllByRecursion (IsOwn p s) (filed_node p s w)
    back (Uid n) = (record { pred = refl; node = refl }, tt)
    back (Val v) = tt

own_under : (def : PredDef) (p : List ℕ) (s : ℕ) (os : List Posting) → AllByRecursion (IsOwn p s) (filed_under def p s os)
own_under def p s os =
    all_appended (IsOwn p s) (flat_map (filed_object def p s) os) (filed_count def p s (length os))
    (all_flat (IsOwn p s) (filed_object def p s) os (own_object def p s))
    (all_if (IsOwn p s) def.count (filed_number p s (length os)) (all_if (IsOwn p s) (nat_le 1 (length os)) ((record { key = keys.Count p (length os); node = s }) ∷ []) (record { pred = refl; node = refl }, tt)))

-- filings of another predicate or node are at other places
pub apart_by : (key : Key) (u : ℕ) (p : List ℕ) (s : ℕ) (f : Filed) → (is_eq (text_cmp (pred_of key) p) && is_eq (nat_cmp s u)) ≡ false → IsOwn p s f → is_at key (Uid u) f ≡ false
apart_by key u p s f e own =
    (λ i. parts_equal key f.key i && is_eq (nat_cmp f.node u))
    ∙ ((λ i. (is_eq (text_cmp (pred_of key) (own.pred i)) && (is_eq (nat_cmp (kind_rank key) (kind_rank f.key)) && is_eq (field_cmp key f.key))) && is_eq (nat_cmp (own.node i) u))
    ∙ by (is_eq (text_cmp (pred_of key) p)) (is_eq (nat_cmp s u)) (is_eq (nat_cmp (kind_rank key) (kind_rank f.key)) && is_eq (field_cmp key f.key)) e)
  where
    by : (a b c : Bool) → (a && b) ≡ false → ((a && c) && b) ≡ false
    by true true c e = absurd (cc)
    by true false true e = refl
    by true false false e = refl
    by false b c e = refl

-- a filing of the same predicate and node is where kind and field are
pub at_own : (key : Key) (u : ℕ) (l : Key) (s : ℕ) → is_eq (text_cmp (pred_of key) (pred_of l)) ≡ true → is_eq (nat_cmp s u) ≡ true → is_at key (Uid u) (record { key = l; node = s }) ≡ (is_eq (nat_cmp (kind_rank key) (kind_rank l)) && is_eq (field_cmp key l))
at_own key u l s e f =
    (λ i. parts_equal key l i && is_eq (nat_cmp s u))
    ∙ ((λ i. (e i && (is_eq (nat_cmp (kind_rank key) (kind_rank l)) && is_eq (field_cmp key l))) && f i)
    ∙ by (is_eq (nat_cmp (kind_rank key) (kind_rank l)) && is_eq (field_cmp key l)))
  where
    by : (a : Bool) → (a && true) ≡ a
    by true = refl
    by false = refl

-- a subject with these objects is listed at a key of its predicate, where that has this definition
abbrev pub listed_under : Option PredDef → Key → List Posting → Bool
listed_under None key os = false
listed_under (Some def) (keys.Data p s) os = false
listed_under (Some def) (keys.Index p t) os = has_tokenizer def t.tokenizer && list_any (has_token t) os
listed_under (Some def) (keys.Reverse p o) os = def.reverse && has posting_cmp os (Uid o)
listed_under (Some def) (keys.Count p n) os = def.count && (nat_le 1 n && (length os == n))
listed_under (Some def) (keys.RCount p n) os = false

-- ---- tokens

among : (ts : List IndexToken) (t : IndexToken) → has index_token_cmp ts t ≡ true → IsAmong ts t
among [] t h = absurd (both_ways false refl h)
among (u ∷ ts) t h = by (is_eq (index_token_cmp u t)) refl h (λ k. among ts t k)
  where
    by : (v : Bool) → is_eq (index_token_cmp u t) ≡ v → (v || has index_token_cmp ts t) ≡ true → (has index_token_cmp ts t ≡ true → IsAmong ts t) → IsAmong (u ∷ ts) t
    by true e k rest = inl (is_one index_token_cmp index_token_order u t e)
    by false e k rest = inr (rest k)

-- a token of an object is of the tokenizer that made it
maker : (tokenizer : Tokenizer) (o : Posting) (t : IndexToken) → has index_token_cmp (tokens_of_object tokenizer o) t ≡ true → t.tokenizer ≡ tokenizer
maker tokenizer (Uid n) t h = absurd (both_ways false refl h)
maker tokenizer (Val v) t h = ((all_exact tokenizer v t).0 (among_contains (tokens_of tokenizer v) t (among (tokens_of tokenizer v) t h))).0

-- so only its tokenizer gives a token
by_maker : (tokenizers : List Tokenizer) (o : Posting) (t : IndexToken) → list_any (λ tokenizer. has index_token_cmp (tokens_of_object tokenizer o) t) tokenizers ≡ (has tokenizer_cmp tokenizers t.tokenizer && has_token t o)
by_maker [] o t = refl
by_maker (w ∷ tokenizers) o t = by (is_eq (tokenizer_cmp w t.tokenizer)) refl (by_maker tokenizers o t)
  where
    either : (a b : Bool) → (a || (b && a)) ≡ a
    either true b = refl
    either false true = refl
    either false false = refl

    other : is_eq (tokenizer_cmp w t.tokenizer) ≡ false → (v : Bool) → has index_token_cmp (tokens_of_object w o) t ≡ v → v ≡ false
    other e true h =
        let same = maker w o t h in
        absurd (both_ways (is_eq (tokenizer_cmp w t.tokenizer)) e (subst (λ (x : Tokenizer). is_eq (tokenizer_cmp x t.tokenizer) ≡ true) same (is_itself tokenizer_cmp tokenizer_order t.tokenizer)))
    other e false h = refl

    by : (v : Bool) → is_eq (tokenizer_cmp w t.tokenizer) ≡ v → list_any (λ tokenizer. has index_token_cmp (tokens_of_object tokenizer o) t) tokenizers ≡ (has tokenizer_cmp tokenizers t.tokenizer && has_token t o) → (has index_token_cmp (tokens_of_object w o) t || list_any (λ tokenizer. has index_token_cmp (tokens_of_object tokenizer o) t) tokenizers) ≡ ((v || has tokenizer_cmp tokenizers t.tokenizer) && has_token t o)
    by true e rest =
        let same : w ≡ t.tokenizer = is_one tokenizer_cmp tokenizer_order w t.tokenizer e in
        (λ i. has index_token_cmp (tokens_of_object (same i) o) t || rest i) ∙ either (has_token t o) (has tokenizer_cmp tokenizers t.tokenizer)
    by false e rest = (λ i. other e (has index_token_cmp (tokens_of_object w o) t) refl i || list_any (λ tokenizer. has index_token_cmp (tokens_of_object tokenizer o) t) tokenizers) ∙ rest

pub equal_numbers : (m n : ℕ) → is_eq (nat_cmp n m) ≡ (m == n)
equal_numbers m n = by (is_eq (nat_cmp n m)) (m == n) refl refl
  where
    by : (v w : Bool) → is_eq (nat_cmp n m) ≡ v → (m == n) ≡ w → v ≡ w
    by true true e g = refl
    by true false e g = absurd (both_ways (m == n) g (eq-eqb m n (sym (is_one nat_cmp nat_order n m e))))
    by false true e g = absurd (both_ways (is_eq (nat_cmp n m)) e (subst (λ (k : ℕ). is_eq (nat_cmp n k) ≡ true) (sym (eqb-true m n g)) (is_itself nat_cmp nat_order n)))
    by false false e g = refl

-- ---- where a subject is filed, at a key of its predicate

module _ (p : List ℕ) (s u : ℕ) (f : is_eq (nat_cmp s u) ≡ true) where
  -- filings of other kinds
  pub record IsOther (key : Key) (filed : Filed) : Type 0 where
    pub its : is_eq (text_cmp (pred_of key) (pred_of filed.key)) ≡ true
    pub node : filed.node ≡ s
    pub kind : is_eq (nat_cmp (kind_rank key) (kind_rank filed.key)) ≡ false

  other_at : (key : Key) (filed : Filed) → IsOther key filed → is_at key (Uid u) filed ≡ false
  other_at key filed o =
      (λ i. is_at key (Uid u) (record { key = filed.key; node = o.node i }))
      ∙ (at_own key u filed.key s o.its f
      ∙ λ i. o.kind i && is_eq (field_cmp key filed.key))

  none_of : (key : Key) (filed : List Filed) → AllByRecursion (IsOther key) filed → list_any (is_at key (Uid u)) filed ≡ false
  none_of key [] a = refl
  none_of key (x ∷ filed) a = (λ i. other_at key x a.0 i || list_any (is_at key (Uid u)) filed) ∙ none_of key filed a.1

  by_tokens : (key : Key) (o : Posting) (tokenizers : List Tokenizer) → is_eq (text_cmp (pred_of key) p) ≡ true → is_eq (nat_cmp (kind_rank key) 2) ≡ false → AllByRecursion (IsOther key) (flat_map (filed_by p s o) tokenizers)
  by_tokens key o tokenizers e k = all_flat (IsOther key) (filed_by p s o) tokenizers (λ tokenizer. all_mapped (IsOther key) (filed_token p s) (tokens_of_object tokenizer o) (λ t. record { its = e; node = refl; kind = k }))

  by_node : (key : Key) (b : Bool) (o : Posting) → is_eq (text_cmp (pred_of key) p) ≡ true → is_eq (nat_cmp (kind_rank key) 3) ≡ false → AllByRecursion (IsOther key) (cond b (filed_node p s o) [])
  by_node key b (Uid n) e k = all_if (IsOther key) b (filed_node p s (Uid n)) (record { its = e; node = refl; kind = k }, tt)
  by_node key b (Val v) e k = all_if (IsOther key) b [] tt

  by_objects : (key : Key) (def : PredDef) (os : List Posting) → is_eq (text_cmp (pred_of key) p) ≡ true → is_eq (nat_cmp (kind_rank key) 2) ≡ false → is_eq (nat_cmp (kind_rank key) 3) ≡ false → AllByRecursion (IsOther key) (flat_map (filed_object def p s) os)
  by_objects key def os e k l =
      all_flat (IsOther key) (filed_object def p s) os
      (λ o. all_appended (IsOther key) (flat_map (filed_by p s o) def.tokens) (filed_back def p s o) (by_tokens key o def.tokens e k) (by_node key def.reverse o e l))

  by_number : (key : Key) (b : Bool) (n : ℕ) → is_eq (text_cmp (pred_of key) p) ≡ true → is_eq (nat_cmp (kind_rank key) 4) ≡ false → AllByRecursion (IsOther key) (cond b (filed_number p s n) [])
  by_number key b n e k = all_if (IsOther key) b (filed_number p s n) (all_if (IsOther key) (nat_le 1 n) ((record { key = keys.Count p n; node = s }) ∷ []) (record { its = e; node = refl; kind = k }, tt))

  -- at no key of a kind that is filed under nothing
  filed_none : (key : Key) (def : PredDef) (os : List Posting) → is_eq (text_cmp (pred_of key) p) ≡ true → is_eq (nat_cmp (kind_rank key) 2) ≡ false → is_eq (nat_cmp (kind_rank key) 3) ≡ false → is_eq (nat_cmp (kind_rank key) 4) ≡ false → list_any (is_at key (Uid u)) (filed_under def p s os) ≡ false
  filed_none key def os e k l m = none_of key (filed_under def p s os) (all_appended (IsOther key) (flat_map (filed_object def p s) os) (filed_count def p s (length os)) (by_objects key def os e k l) (by_number key def.count (length os) e m))

  -- under tokens
  at_tokens : (q : List ℕ) (t : IndexToken) (ts : List IndexToken) → is_eq (text_cmp q p) ≡ true → list_any (is_at (keys.Index q t) (Uid u)) (map (filed_token p s) ts) ≡ has index_token_cmp ts t
  at_tokens q t [] e = refl
  at_tokens q t (w ∷ ts) e = λ i. (at_own (keys.Index q t) u (keys.Index p w) s e f ∙ eq_turn index_token_cmp index_token_order t w) i || at_tokens q t ts e i

  at_object : (q : List ℕ) (t : IndexToken) (def : PredDef) (o : Posting) → is_eq (text_cmp q p) ≡ true → list_any (is_at (keys.Index q t) (Uid u)) (filed_object def p s o) ≡ (has_tokenizer def t.tokenizer && has_token t o)
  at_object q t def o e =
      list_any-append (is_at (keys.Index q t) (Uid u)) (flat_map (filed_by p s o) def.tokens) (filed_back def p s o)
      ∙ ((λ i. any_flat (is_at (keys.Index q t) (Uid u)) (filed_by p s o) def.tokens i || none_of (keys.Index q t) (filed_back def p s o) (by_node (keys.Index q t) def.reverse o e refl) i)
      ∙ ((λ i. any_alike (λ tokenizer. list_any (is_at (keys.Index q t) (Uid u)) (filed_by p s o tokenizer)) (λ tokenizer. has index_token_cmp (tokens_of_object tokenizer o) t) def.tokens (λ tokenizer. at_tokens q t (tokens_of_object tokenizer o) e) i || false)
      ∙ ((λ i. by_maker def.tokens o t i || false) ∙ or_none (has_tokenizer def t.tokenizer && has_token t o))))
    where
      or_none : (b : Bool) → (b || false) ≡ b
      or_none true = refl
      or_none false = refl

  or_nothing : (b : Bool) → (b || false) ≡ b
  or_nothing true = refl
  or_nothing false = refl

  filed_index : (q : List ℕ) (t : IndexToken) (def : PredDef) (os : List Posting) → is_eq (text_cmp q p) ≡ true → list_any (is_at (keys.Index q t) (Uid u)) (filed_under def p s os) ≡ (has_tokenizer def t.tokenizer && list_any (has_token t) os)
  filed_index q t def os e =
      list_any-append (is_at (keys.Index q t) (Uid u)) (flat_map (filed_object def p s) os) (filed_count def p s (length os))
      ∙ ((λ i. any_flat (is_at (keys.Index q t) (Uid u)) (filed_object def p s) os i || none_of (keys.Index q t) (filed_count def p s (length os)) (by_number (keys.Index q t) def.count (length os) e refl) i)
      ∙ (or_nothing (list_any (λ o. list_any (is_at (keys.Index q t) (Uid u)) (filed_object def p s o)) os)
      ∙ (any_alike (λ o. list_any (is_at (keys.Index q t) (Uid u)) (filed_object def p s o)) (λ o. has_tokenizer def t.tokenizer && has_token t o) os (λ o. at_object q t def o e)
      ∙ any_both (has_tokenizer def t.tokenizer) (has_token t) os)))

  -- under nodes
  at_node : (q : List ℕ) (n : ℕ) (b : Bool) (o : Posting) → is_eq (text_cmp q p) ≡ true → list_any (is_at (keys.Reverse q n) (Uid u)) (cond b (filed_node p s o) []) ≡ (b && is_eq (posting_cmp o (Uid n)))
  at_node q n true (Uid m) e = or_nothing (is_at (keys.Reverse q n) (Uid u) (record { key = keys.Reverse p m; node = s })) ∙ (at_own (keys.Reverse q n) u (keys.Reverse p m) s e f ∙ eq_turn nat_cmp nat_order n m)
  at_node q n true (Val v) e = refl
  at_node q n false o e = refl

  back_object : (q : List ℕ) (n : ℕ) (def : PredDef) (o : Posting) → is_eq (text_cmp q p) ≡ true → list_any (is_at (keys.Reverse q n) (Uid u)) (filed_object def p s o) ≡ (def.reverse && is_eq (posting_cmp o (Uid n)))
  back_object q n def o e =
      list_any-append (is_at (keys.Reverse q n) (Uid u)) (flat_map (filed_by p s o) def.tokens) (filed_back def p s o)
      ∙ λ i. none_of (keys.Reverse q n) (flat_map (filed_by p s o) def.tokens) (by_tokens (keys.Reverse q n) o def.tokens e refl) i || at_node q n def.reverse o e i

  filed_reverse : (q : List ℕ) (n : ℕ) (def : PredDef) (os : List Posting) → is_eq (text_cmp q p) ≡ true → list_any (is_at (keys.Reverse q n) (Uid u)) (filed_under def p s os) ≡ (def.reverse && has posting_cmp os (Uid n))
  filed_reverse q n def os e =
      list_any-append (is_at (keys.Reverse q n) (Uid u)) (flat_map (filed_object def p s) os) (filed_count def p s (length os))
      ∙ ((λ i. any_flat (is_at (keys.Reverse q n) (Uid u)) (filed_object def p s) os i || none_of (keys.Reverse q n) (filed_count def p s (length os)) (by_number (keys.Reverse q n) def.count (length os) e refl) i)
      ∙ (or_nothing (list_any (λ o. list_any (is_at (keys.Reverse q n) (Uid u)) (filed_object def p s o)) os)
      ∙ (any_alike (λ o. list_any (is_at (keys.Reverse q n) (Uid u)) (filed_object def p s o)) (λ o. def.reverse && is_eq (posting_cmp o (Uid n))) os (λ o. back_object q n def o e)
      ∙ any_both def.reverse (λ o. is_eq (posting_cmp o (Uid n))) os)))

  -- under numbers
  at_number : (q : List ℕ) (n m : ℕ) → is_eq (text_cmp q p) ≡ true → list_any (is_at (keys.Count q n) (Uid u)) (filed_number p s m) ≡ (nat_le 1 n && (m == n))
  at_number q n m e = by (m == n) refl
    where
      own : (v : Bool) → list_any (is_at (keys.Count q n) (Uid u)) (cond v ((record { key = keys.Count p m; node = s }) ∷ []) []) ≡ (v && (m == n))
      own true = or_nothing (is_at (keys.Count q n) (Uid u) (record { key = keys.Count p m; node = s })) ∙ (at_own (keys.Count q n) u (keys.Count p m) s e f ∙ equal_numbers m n)
      own false = refl

      off : (a b : Bool) → b ≡ false → (a && b) ≡ false
      off true b g = g
      off false b g = refl

      by : (w : Bool) → (m == n) ≡ w → list_any (is_at (keys.Count q n) (Uid u)) (filed_number p s m) ≡ (nat_le 1 n && (m == n))
      by true g = own (nat_le 1 m) ∙ λ i. nat_le 1 (eqb-true m n g i) && (m == n)
      by false g = own (nat_le 1 m) ∙ (off (nat_le 1 m) (m == n) g ∙ sym (off (nat_le 1 n) (m == n) g))

  filed_counted : (q : List ℕ) (n : ℕ) (def : PredDef) (os : List Posting) → is_eq (text_cmp q p) ≡ true → list_any (is_at (keys.Count q n) (Uid u)) (filed_under def p s os) ≡ (def.count && (nat_le 1 n && (length os == n)))
  filed_counted q n def os e =
      list_any-append (is_at (keys.Count q n) (Uid u)) (flat_map (filed_object def p s) os) (filed_count def p s (length os))
      ∙ ((λ i. none_of (keys.Count q n) (flat_map (filed_object def p s) os) (by_objects (keys.Count q n) def os e refl refl) i || list_any (is_at (keys.Count q n) (Uid u)) (filed_count def p s (length os)))
      ∙ by def.count)
    where
      by : (b : Bool) → list_any (is_at (keys.Count q n) (Uid u)) (cond b (filed_number p s (length os)) []) ≡ (b && (nat_le 1 n && (length os == n)))
      by true = at_number q n (length os) e
      by false = refl

  -- at any key of its predicate
  filed_own : (def : PredDef) (key : Key) (os : List Posting) → is_eq (text_cmp (pred_of key) p) ≡ true → list_any (is_at key (Uid u)) (filed_under def p s os) ≡ listed_under (Some def) key os
  filed_own def (keys.Data q n) os e = filed_none (keys.Data q n) def os e refl refl refl
  filed_own def (keys.Index q t) os e = filed_index q t def os e
  filed_own def (keys.Reverse q n) os e = filed_reverse q n def os e
  filed_own def (keys.Count q n) os e = filed_counted q n def os e
  filed_own def (keys.RCount q n) os e = filed_none (keys.RCount q n) def os e refl refl refl

-- ---- where it is filed, at any key

filed_subject : (d : Option PredDef) (key : Key) (p : List ℕ) (s u : ℕ) (os : List Posting) → list_any (is_at key (Uid u)) (filed_if d p s os) ≡ ((is_eq (text_cmp (pred_of key) p) && is_eq (nat_cmp s u)) && listed_under d key os)
filed_subject None key p s u os = none (is_eq (text_cmp (pred_of key) p) && is_eq (nat_cmp s u))
  where
    none : (b : Bool) → false ≡ (b && false)
    none true = refl
    none false = refl
filed_subject (Some def) key p s u os = by (is_eq (text_cmp (pred_of key) p)) (is_eq (nat_cmp s u)) refl refl
  where
    apart : (is_eq (text_cmp (pred_of key) p) && is_eq (nat_cmp s u)) ≡ false → list_any (is_at key (Uid u)) (filed_under def p s os) ≡ false
    apart e = none_any (is_at key (Uid u)) (filed_under def p s os) (all_with (IsOwn p s) (λ f. is_at key (Uid u) f ≡ false) (filed_under def p s os) (λ f own. apart_by key u p s f e own) (own_under def p s os))

    by : (v w : Bool) → is_eq (text_cmp (pred_of key) p) ≡ v → is_eq (nat_cmp s u) ≡ w → list_any (is_at key (Uid u)) (filed_under def p s os) ≡ ((v && w) && listed_under (Some def) key os)
    by true true e f = filed_own p s u f def key os e
    by true false e f = apart (λ i. e i && f i)
    by false w e f = apart (λ i. e i && is_eq (nat_cmp s u))

-- ---- where the subjects of keys are filed

-- all of them
abbrev pub filed_all : List PredDef → (Key → List Posting) → List Key → List Filed
filed_all schema g ks = flat_map (λ k. filed_at schema k (g k)) ks

-- the key is of a subject
abbrev pub IsOfSubject : Key → Type 0
IsOfSubject (keys.Data p s) = Unit {0}
IsOfSubject key = ⊥

pub filed_list : (schema : List PredDef) (g : Key → List Posting) (ks : List Key) (key : Key) (u : ℕ) → AllByRecursion IsOfSubject ks → list_any (is_at key (Uid u)) (filed_all schema g ks) ≡ (has key_cmp ks (keys.Data (pred_of key) u) && listed_under (definition_of schema (pred_of key)) key (g (keys.Data (pred_of key) u)))
filed_list schema g [] key u a = refl
filed_list schema g (k ∷ ks) key u a =
    list_any-append (is_at key (Uid u)) (filed_at schema k (g k)) (filed_all schema g ks)
    ∙ ((λ i. first k a.0 i || filed_list schema g ks key u a.1 i)
    ∙ gathered (is_eq (key_cmp k (keys.Data (pred_of key) u))) (has key_cmp ks (keys.Data (pred_of key) u)) (listed_under (definition_of schema (pred_of key)) key (g (keys.Data (pred_of key) u))))
  where
    gathered : (a b h : Bool) → ((a && h) || (b && h)) ≡ ((a || b) && h)
    gathered true true true = refl
    gathered true true false = refl
    gathered true false true = refl
    gathered true false false = refl
    gathered false b h = refl

    its : (p : List ℕ) (s : ℕ) → is_eq (key_cmp (keys.Data p s) (keys.Data (pred_of key) u)) ≡ (is_eq (text_cmp p (pred_of key)) && is_eq (nat_cmp s u))
    its p s = parts_equal (keys.Data p s) (keys.Data (pred_of key) u)

    here : (p : List ℕ) (s : ℕ) (v : Bool) → (is_eq (text_cmp p (pred_of key)) && is_eq (nat_cmp s u)) ≡ v → (v && listed_under (definition_of schema p) key (g (keys.Data p s))) ≡ (v && listed_under (definition_of schema (pred_of key)) key (g (keys.Data (pred_of key) u)))
    here p s true e =
        let same : keys.Data p s ≡ keys.Data (pred_of key) u = is_one key_cmp key_order (keys.Data p s) (keys.Data (pred_of key) u) (its p s ∙ e) in
        λ i. listed_under (definition_of schema (pred_of (same i))) key (g (same i))
    here p s false e = refl

    first : (l : Key) → IsOfSubject l → list_any (is_at key (Uid u)) (filed_at schema l (g l)) ≡ (is_eq (key_cmp l (keys.Data (pred_of key) u)) && listed_under (definition_of schema (pred_of key)) key (g (keys.Data (pred_of key) u)))
    first (keys.Data p s) it =
        filed_subject (definition_of schema p) key p s u (g (keys.Data p s))
        ∙ ((λ i. (eq_turn text_cmp text_order (pred_of key) p i && is_eq (nat_cmp s u)) && listed_under (definition_of schema p) key (g (keys.Data p s)))
        ∙ (here p s (is_eq (text_cmp p (pred_of key)) && is_eq (nat_cmp s u)) refl
        ∙ λ i. sym (its p s) i && listed_under (definition_of schema (pred_of key)) key (g (keys.Data (pred_of key) u))))
    first (keys.Index p t) it = absurd it
    first (keys.Reverse p t) it = absurd it
    first (keys.Count p t) it = absurd it
    first (keys.RCount p t) it = absurd it

-- filings list no value
pub no_value_filed : (key : Key) (filed : List Filed) (v : Value) → list_any (is_at key (Val v)) filed ≡ false
no_value_filed key [] v = refl
no_value_filed key (f ∷ filed) v = (λ i. off (is_eq (key_cmp key f.key)) i || list_any (is_at key (Val v)) filed) ∙ no_value_filed key filed v
  where
    off : (b : Bool) → (b && false) ≡ false
    off true = refl
    off false = refl

-- ---- one filing more

pub filed_other : (f : Filed) (k : Key) (nodes : List Posting) → is_eq (key_cmp k f.key) ≡ false → with_filed f k nodes ≡ nodes
filed_other f k nodes e = λ i. cond (e i) (with_one posting_cmp nodes (Uid f.node)) nodes

pub filed_here : (f : Filed) (nodes : List Posting) → with_one posting_cmp nodes (Uid f.node) ≡ with_filed f f.key nodes
filed_here f nodes = λ i. cond (sym (is_itself key_cmp key_order f.key) i) (with_one posting_cmp nodes (Uid f.node)) nodes

pub one_filed_more : (filed : List Filed) (i : ℕ) (f : Filed) (ks : List Key) → i < length filed → get_or filed i f ≡ f → map (λ k. with_filed f k (nodes_under (take i filed) k)) ks ≡ map (nodes_under (take (i + 1) filed)) ks
one_filed_more filed i f ks lt is =
    let more : take (i + 1) filed ≡ take i filed ++ f ∷ [] = take_more filed i f lt ∙ λ j. take i filed ++ is j ∷ [] in
    (λ j. map (λ k. sym (fold-append (λ nodes g. with_filed g k nodes) [] (take i filed) (f ∷ [])) j) ks)
    ∙ λ j. map (nodes_under (sym more j)) ks
